-- Demand 3 from the three parts: the plain rule within the window, the reader on plain packets, and the codec on the groups sent.
-- Assumes nothing.
use mathlib.Core.Path.{◌≡◌, refl, sym, ap, ap₂, subst, ◌∙◌}
use mathlib.Core.Bool.{Bool, cond}
use mathlib.Core.List.{List, [], ◌∷◌, ◌++◌, map, append-nil}
use Prim.Native.Nat.{ℕ, zero, suc, ◌≤◌, ◌<◌}
use native.Mathlib.Omega.{arith}
use lib.Dec.{ltb, leb-suc-zero}
use lib.ListN.{length, get_or}
use borrow.Author.Tests.{ltb-false, eq-eqb, ne_eqb}
use Rattle.error.specs.Refusal.{Refusal}
use Rattle.error.specs.Said.{Said, says, refused}
use Rattle.wire.specs.Each.{Each}
use Rattle.wire.proofs.Each.{each_by}
use Rattle.packet.specs.Read.{PacketReading, read_packet}
use Rattle.packet.proofs.Plain.{packet_back, payload_back}
use Rattle.nal.specs.Fed.{prefixed}
use Rattle.sequence.specs.Number.{number_of}
use Rattle.sequence.specs.Arrival.{Arrival, ours, other, accepted_calls, accepted, raised, Window}
use Rattle.sequence.specs.Event.{seen}
use Rattle.sequence.specs.Rule.{plain, Follows}
use Rattle.sequence.specs.Group.{Group, packets_of, map_groups, EachHanded}
use Rattle.sequence.specs.Codec.{OwesAll}
use Rattle.sequence.specs.Joiner.{Parts, turned_away, numbered, shut, close, answers}
use Rattle.sequence.specs.Joiner as any
use Rattle.sequence.proofs.Ruling.{plain_follows}
use Rattle.sequence.proofs.Knowing.{from_at, packets_known, count_known, handed_known, whole_known, each_known}
use Rattle.sequence.specs.Demand.{Told}
use Rattle.sequence.specs.Demand as any-demand
use Rattle.sequence.proofs.Joining.{Passes, owed_pass, delivered}
use Rattle.joiner_step.specs.Run.{Units, Run, none}
use Rattle.joiner_step.specs.Step.{Accepted, opening, wrong}
use Rattle.joiner_step.specs.General.{Room, Enough, refusing, codec, heard_from, reader, parts}
use Rattle.joiner_step.specs.Play.{joiner_after}
use Rattle.wire.proofs.Bools.{or_false_left}
use Rattle.joiner_step.proofs.Rooms.{Small, small_enough}
use Rattle.joiner_step.proofs.Playing.{accepted_as, refused_as, handed_as, rooms, Plays, plays}
use Rattle.joiner_feed.specs.Content.{Timed, Note}
use Rattle.joiner.specs.Join.{Stepped, Known, known, arrived_in, choice, kept_of, avc_of, join_step, opened}
use Rattle.joiner.specs.Sent.{Sent, groups_of}
use Rattle.joiner.proofs.General.{standing, closing_seen, Good, one_call, one_close, closed_after, shut_is}
use Rattle.delivery.specs.Show.{Show, payloads, count, payload, packet, longest, largest}
use Rattle.delivery.specs.Play.{our_joiner, arriving, played, closing}
use Rattle.delivery.specs.Demand.{Foreign, OthersForeign, OneTimeEach, Received, Delivered, was_accepted, missed}
use Rattle.delivery.proofs.Owing.{Taken, known_by, owes_all}

-- ---- what arrives

module _ (avc : Bool) (source : ℕ) where
  not_ours : (bytes : List ℕ) → Foreign source bytes → (e : Refusal) × (reader (choice avc) source bytes ≡ turned_away e)
  not_ours bytes foreign = go (read_packet bytes) refl
    where
      heard : Said PacketReading → any.Heard Refusal Known
      heard x = heard_from (choice avc) source (arrived_in bytes x)

      go : (x : Said PacketReading) → read_packet bytes ≡ x → (e : Refusal) × (reader (choice avc) source bytes ≡ turned_away e)
      go (refused r) e = (r, ap heard e)
      go (says r) e = (
        refusing 20,
        ap heard e ∙ rw (ne_eqb r.fields.source source (foreign r e)),
      )

  told_of : (n m : ℕ) (later : List (Arrival (List ℕ))) → Window n m later → OthersForeign source later → Told (parts (choice avc) (plain Known) source) n later
  told_of n m [] w f = tt
  told_of n m (ours i ∷ later) w f = (w.0, told_of n (raised m i) later w.2 f)
  told_of n m (other b ∷ later) w f = (not_ours b f.0, told_of n m later w f.1)

-- ---- room

-- "mtu 3 to 65,523", and "Every packet fits the mtu"
abbrev pub AllShort : List (List ℕ) → Type 0
AllShort = Each (λ (s : List ℕ). length s ≤ 65523)

pub short_at : (ss : List (List ℕ)) (i : ℕ) → AllShort ss → length (get_or ss i []) ≤ 65523
short_at [] i h = omega arith
short_at (s ∷ ss) zero h = h.0
short_at (s ∷ ss) (suc i) h = short_at ss i h.1

handed_all : (avc : Bool) (gs : List (Group (List ℕ) Units)) (big : ℕ) → largest avc gs ≤ big → EachHanded (Small avc big) gs
handed_all avc [] big h = tt
handed_all avc (g ∷ gs) big h = (omega arith, handed_all avc gs big (omega arith))

-- what is known of the groups sent: they are groups of H.264 payloads that the joiner takes, within the limits
pub record Sendable (w : Show) : Type 0 where
  pub sents : List Sent
  pub are : w.groups ≡ groups_of sents
  pub taken : Each Taken sents
  pub short : AllShort (payloads w)
  pub domain : longest w.groups ≤ 16777215

-- what stands for a packet that was not sent
abbrev nowhere : Known
nowhere = known 0 []

-- a joiner that was just opened with this prefix is good
pub opened_good : (avc : Bool) (w : Show) → avc_of (opened w.source w.first) ≡ avc → Good avc w.source (opened w.source w.first) w.gather
unfolding opened opening
opened_good avc w prefix =
    record {
      prefix = prefix;
      ready = record { same_source = refl; not_closed = refl; inside = rw (leb-suc-zero (length w.gather)) };
    }

-- of `w` over a joiner that is opened with this prefix
module _ (avc : Bool) (w : Show) (prefix : avc_of (opened w.source w.first) ≡ avc) (p : Received avc w) (z : Sendable w) where
  abbrev number : ℕ → ℕ
  number i = number_of w.first i

  -- the groups, with what the joiner knows of their packets
  abbrev groups : List (Group Known Units)
  groups = map_groups (known_by w.stamps) 0 w.groups

  abbrev known_at : ℕ → Known
  known_at i = get_or (packets_of groups) i nowhere

  known_is : (i : ℕ) → i < count w → known_by w.stamps i (payload w i) ≡ known_at i
  known_is i h =
      sym
      (ap (λ (ps : List Known). get_or ps i nowhere) (packets_known (known_by w.stamps) 0 w.groups)
      ∙ from_at (known_by w.stamps) 0 i (payloads w) [] nowhere h
      ∙ ap (λ (k : ℕ). known_by w.stamps k (payload w i)) (omega arith))

  -- a packet of ours reads back as its number, timestamp and payload
  reads : (i : ℕ) → i < count w → reader (choice avc) w.source (packet w i) ≡ numbered (number i) (known_at i)
  reads i h =
      ap (λ (x : Said PacketReading). heard_from (choice avc) w.source (arrived_in (packet w i) x))
      (packet_back (w.stamps i) (number i) w.source (payload w i) (p.stamps i) (omega arith) p.source (short_at (payloads w) i z.short))
      ∙ ap₂ (λ (b : Bool) (s : List ℕ). cond b (numbered (number i) (known_by w.stamps i s)) (turned_away (refusing 20))) (eq-eqb w.source w.source refl)
      (payload_back (w.stamps i) (number i) w.source (payload w i) (p.stamps i) (omega arith) p.source (short_at (payloads w) i z.short))
      ∙ ap (numbered (number i)) (known_is i h)

  abbrev most : ℕ
  most = longest w.groups

  abbrev big : ℕ
  big = largest avc w.groups

  -- the joiner for any rule, reader and codec, at this rule, reader and codec
  abbrev general : Parts (List ℕ) Room Refusal Known Timed (Run Note) Units
  general = parts (choice avc) (plain Known) w.source

  abbrev start : any.State ℕ (Run Note)
  start = standing (opened w.source w.first) w.gather

  abbrev rooms_of : ℕ → Room
  rooms_of = rooms (length w.gather) w.outs

  enough : (i : ℕ) → Enough most big (rooms_of i)
  enough i = record { gather = p.gather_room; out = p.out_room i }

  owed : OwesAll (codec (choice avc)) (Enough most big) groups
  owed =
      subst
      (λ (gs : List (Group (List ℕ) Units)). OneTimeEach w.stamps 0 gs → OwesAll (codec (choice avc)) (Enough most big) (map_groups (known_by w.stamps) 0 gs))
      (sym z.are)
      (λ times. owes_all avc most big z.domain w.stamps 0 z.sents z.taken times (omega (arith, ap longest z.are)))
      p.one_time

  counted : length (packets_of groups) ≡ count w
  counted = count_known (known_by w.stamps) 0 w.groups

  passes : (i : ℕ) → i < count w → Passes (codec (choice avc)) (known_at i)
  passes i h = owed_pass (codec (choice avc)) (Enough most big) (rooms_of 0) (enough 0) none groups owed nowhere i (omega (arith, counted))

  follows : Follows (plain Known) number known_at (count w) 1 w.first w.arrivals (seen (accepted w.arrivals) 0 (packets_of groups))
      (accepted_calls [] w.arrivals)
  follows =
      subst
      (λ (n : ℕ). Window n 0 w.arrivals → Follows (plain Known) number known_at n 1 w.first w.arrivals (seen (accepted w.arrivals) 0 (packets_of groups)) (accepted_calls [] w.arrivals))
      counted (plain_follows w.first (packets_of groups) nowhere (List ℕ) w.arrivals p.first) p.window

  abbrev any_outcome : Type 0
  any_outcome =
      any-demand.Delivered general (Enough most big) number (packet w) (count w) rooms_of start w.arrivals (was_accepted w)
      (accepted_calls [] w.arrivals) groups

  any_delivered : any_outcome
  unfolding opened opening
  any_delivered =
      delivered general (Enough most big) number (packet w) known_at (count w) 1 (Small avc big) reads passes
      (small_enough (choice avc) most big) groups counted p.few owed
      (each_known (known_by w.stamps) (Small avc big) 0 w.groups (handed_all avc w.groups big (omega arith)))
      rooms_of enough start refl w.arrivals (was_accepted w) (accepted_calls [] w.arrivals) follows
      (told_of avc w.source (count w) 0 w.arrivals p.window p.foreign)

  -- ---- our joiner's calls are that joiner's

  as_played : Plays general avc standing (Good avc w.source) join_step (one_call avc w.source) (length w.gather) (opened w.source w.first)
      w.gather w.outs (arriving w)
  as_played =
      plays general avc standing (Good avc w.source) join_step (one_call avc w.source) (arriving w) (opened w.source w.first) w.gather
      w.outs (opened_good avc w prefix)

  abbrev said : List (any.Answer Refusal Units)
  said = answers general rooms_of start (arriving w)

  -- closing, seen as the other joiner's
  closing_seen_lem : closing_seen (closing our_joiner w) ≡ shut any_delivered.last_missed (missed w) any_delivered.at_end
  closing_seen_lem =
      one_close avc w.source (joiner_after join_step (opened w.source w.first) w.gather w.outs (arriving w)) as_played.last (w.outs 0)
      as_played.good (number (count w))
      ∙ ap (λ (s : any.State ℕ (Run Note)). close general k s (number (count w))) as_played.state
      ∙ any_delivered.closes k (record { gather = omega (arith, p.gather_room, as_played.same_length); out = p.out_room 0 })
    where
      k : Room
      k = record { gather = length as_played.last; out = length (w.outs 0) }

  shuts : (a : Accepted) × ((closing our_joiner w).answer ≡ says a) × ((closing our_joiner w).joiner.missed ≡ missed w) × (any_delivered.at_end ≡ [])
  shuts = shut_is (closing our_joiner w) any_delivered.last_missed (missed w) any_delivered.at_end closing_seen_lem

  -- closing hands nothing out
  handed_before : any.handed_out said ≡ any.handed_out said ++ any_delivered.at_end
  handed_before = sym (ap (λ (l : List Units). any.handed_out said ++ l) shuts.3 ∙ append-nil (any.handed_out said))

  within : (st : Stepped) → Good avc w.source st.joiner st.gather × (length st.gather ≡ length w.gather) →
      (st.joiner.gathered ≤ length w.gather) × (length st.gather ≡ length w.gather)
  within st g =
      let fits : st.joiner.gathered ≤ length st.gather =
      ltb-false (length st.gather) st.joiner.gathered
      (or_false_left (ltb (length st.gather) st.joiner.gathered) (wrong (choice avc) (kept_of st.joiner).run) g.0.ready.inside) in
      (omega (arith, g.1), g.1)

  pub all_delivered : Delivered avc our_joiner w
  all_delivered =
      record {
        accepts = accepted_as avc (played our_joiner w) said as_played.tells ∙ any_delivered.accepts;
        hands_out =
            handed_as avc (played our_joiner w) said as_played.tells
            ∙ ap (map (prefixed avc)) (handed_before ∙ any_delivered.hands_out ∙ whole_known (known_by w.stamps) (was_accepted w) 0 0 w.groups);
        answer = shuts.0;
        closes = shuts.1;
        closed =
            closed_after (joiner_after join_step (opened w.source w.first) w.gather w.outs (arriving w)) (number (count w)) shuts.0
            shuts.1;
        counts = shuts.2;
        complete =
            λ none. handed_as avc (played our_joiner w) said as_played.tells
            ∙ ap (map (prefixed avc)) (handed_before ∙ any_delivered.complete (sym shuts.2 ∙ none) ∙ handed_known (known_by w.stamps) 0 w.groups);
        within =
            each_by (λ (st : Stepped). (st.joiner.gathered ≤ length w.gather) × (length st.gather ≡ length w.gather))
            (λ (st : Stepped). Good avc w.source st.joiner st.gather × (length st.gather ≡ length w.gather))
            within (played our_joiner w) as_played.each;
        refuses = refused_as avc (played our_joiner w) said as_played.tells ∙ any_delivered.refuses_others;
      }
