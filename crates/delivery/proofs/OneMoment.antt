-- Each call keeps it that the open run was gathered of fragments of one time, one after the other; so what an end fragment hands out is of such
-- fragments, and all else is of its own packet. It is so of the joiner for any rule, reader and codec at ours, and ours plays as that one does.
-- Assumes nothing.
use mathlib.Core.Path.{◌≡◌, refl, sym, ap, ap₂, subst}
use mathlib.Core.Bool.{Bool, true, false, cond, ◌||◌}
use mathlib.Core.List.{List, [], ◌∷◌, ◌++◌}
use mathlib.Core.Logic.{inl, inr}
use Prim.Native.Nat.{ℕ, suc, ◌+◌}
use lib.Dec.{eqb}
use lib.ListN.{length}
use borrow.Author.Tests.{eqb-true}
use Rattle.error.specs.Refusal.{Refusal}
use Rattle.error.specs.Said.{Said, says, refused, refuse}
use Rattle.wire.specs.Each.{Each}
use Rattle.wire.specs.Part.{part}
use Rattle.wire.proofs.Each.{each_append, each_by}
use Rattle.packet.specs.Read.{PacketReading, read_packet}
use Rattle.nal.specs.Fed.{is_over}
use Rattle.sequence.specs.Number.{distance_of, next_of, is_late}
use Rattle.sequence.specs.Rule.{plain}
use Rattle.sequence.specs.Refines.{ruled_by}
use Rattle.sequence.specs.Codec.{refusal}
use Rattle.sequence.specs.Codec as codec
use Rattle.sequence.specs.Joiner.{turned_away, numbered, Parts, State, refuses, too_late, takes, Made, is_full, call, answers, handed_by}
use Rattle.sequence.specs.Joiner as any
use Rattle.sequence.specs.Plain.{plain_stays, plain_fed, run_at, plain_check, plain_distance, plain_heard}
use Rattle.sequence.proofs.Calling.{plain_call}
use Rattle.joiner_step.specs.Run.{Units, Run, none, gathering, Does, gathers, ends, fed_by}
use Rattle.joiner_step.specs.Step.{opening}
use Rattle.joiner_step.specs.General.{Room, refusing, group_in, checked_as, within, heard_from, parts}
use Rattle.joiner_step.proofs.Playing.{handed_as, rooms, Plays, plays}
use Rattle.joiner_feed.specs.Content.{Fragment, Content, whole, start, middle, end, Timed, timed, Note, onward, topped, fed}
use Rattle.joiner_feed.specs.H264.{check}
use Rattle.joiner.specs.Join.{Known, known, arrived_in, choice, avc_of, join_step, opened}
use Rattle.joiner.proofs.General.{standing, Good, one_call}
use Rattle.delivery.specs.Show.{Show}
use Rattle.delivery.specs.Play.{our_joiner, played_on}
use Rattle.delivery.specs.OneMoment.{Among, parts_in, any_in, Bears, Begun, packets_of, OfMany, Origin, TimesApart, OneSender, Untorn}
use Rattle.delivery.proofs.Delivering.{opened_good}

module _ (avc : Bool) (came : List (List ℕ)) (source : ℕ) where
  abbrev general : Parts (List ℕ) Room Refusal Known Timed (Run Note) Units
  general = parts (choice avc) (plain Known) source

  -- ---- what is kept

  -- the run was gathered of fragments that came, all of its time; `next` is the number behind them
  abbrev RunFrom : ℕ → Run Note → Type 0
  RunFrom next none = Unit {0}
  RunFrom next (gathering note bytes) =
      (fs : List Fragment) × Begun came source note.time next fs × (bytes ≡ parts_in fs) × (note.marked ≡ any_in fs)

  abbrev Fine : State ℕ (Run Note) → Type 0
  Fine s = RunFrom s.seq s.run

  -- so it is after a call, and what it hands out has an origin
  record Makes (m : Made general) : Type 0 where
    fine : Fine m.state
    origins : Each (Origin came source) (handed_by m.answer)

  -- ---- what a packet does that came

  module _ (number time : ℕ) where
    -- of the run that it meets: it follows without a gap
    abbrev Met : Run Note → Type 0
    Met none = Unit {0}
    Met (gathering note bytes) = (before : ℕ) × (distance_of number before ≡ 0) × RunFrom before (gathering note bytes)

    abbrev DoesFine : Said (Does Note) → Type 0
    DoesFine (refused r) = Unit {0}
    DoesFine (says y) = RunFrom (next_of number) (fed_by y).run × Each (Origin came source) (group_in (fed_by y).handed)

    goes_on : (t before : ℕ) (f : Fragment) (fs : List Fragment) → Bears came source number t (middle f) → distance_of number before ≡ 0 →
        Begun came source t before fs → Begun came source t (next_of number) (f ∷ fs)
    goes_on t before f [] b e w = absurd w
    goes_on t before f (g ∷ fs) b e w = (number, before, b, refl, e, w)

    fed_fine : (run : Run Note) → Met run → (x : Content) → Bears came source number time x → DoesFine (fed run time x)
    fed_fine run met (whole []) b = (tt, tt)
    fed_fine run met (whole (u ∷ us)) b = (tt, (inl (record { number = number; time = time; bears = b }), tt))
    fed_fine run met (start f) b = ((f ∷ [], (number, b, refl), refl, refl), tt)
    fed_fine none met (middle f) b = (tt, tt)
    fed_fine (gathering note bytes) met (middle f) b = go (eqb time note.time) refl
      where
        go : (same : Bool) → eqb time note.time ≡ same → DoesFine (cond same (says (gathers (onward note f) (bytes ++ f.part))) (refuse 25))
        go false e = tt
        go true e =
            let fs = met.2.0 in (
              (
                f ∷ fs,
                goes_on note.time met.0 f fs (subst (λ (t : ℕ). Bears came source number t (middle f)) (eqb-true _ _ e) b) met.1 met.2.1,
                ap (λ (l : List ℕ). l ++ f.part) met.2.2,
                ap (λ (m : Bool). m || f.marked) met.2.3,
              ),
              tt,
            )
    fed_fine none met (end head f) b = (tt, tt)
    fed_fine (gathering note bytes) met (end head f) b = go (eqb time note.time) refl
      where
        go : (same : Bool) → eqb time note.time ≡ same →
            DoesFine (cond same (says (ends (bytes ++ f.part) (topped (note.marked || f.marked) head ++ (bytes ++ f.part)))) (refuse 25))
        go false e = tt
        go true e = (
          tt,
          (
            inr
                (record {
                  time = note.time;
                  number = number;
                  before = met.0;
                  head = head;
                  last = f;
                  others = met.2.0;
                  ends = subst (λ (t : ℕ). Bears came source number t (end head f)) (eqb-true _ _ e) b;
                  follows = met.1;
                  begun = met.2.1;
                  is =
                      ap₂ (λ (m : Bool) (l : List ℕ). (topped (m || f.marked) head ++ (l ++ f.part)) ∷ []) met.2.3 met.2.2;
                }),
            tt,
          ),
        )

  -- ---- a call

  module _ (k : Room) (s : State ℕ (Run Note)) (fine : Fine s) where
    refuses_fine : (r : Refusal) → Makes (plain_stays general k s (refuses r))
    refuses_fine r = record { fine = fine; origins = tt }

    within_fine : (d number time : ℕ) (y : Said (Does Note)) → DoesFine number time y → Makes (plain_fed general k s d number (within (choice avc) k y))
    within_fine d number time (refused r) w = refuses_fine r
    within_fine d number time (says y) w = long (is_over k.gather (length (fed_by y).kept))
      where
        much : (b : Bool) →
            Makes
            (cond b (plain_stays general k s (refuses general.over_room))
            (record {
              state = record { seq = next_of number; run = (fed_by y).run; missed = s.missed + d };
              answer = takes d (group_in (fed_by y).handed);
            }))
        much true = refuses_fine general.over_room
        much false = record { fine = w.0; origins = w.1 }

        long : (b : Bool) → Makes (plain_fed general k s d number (cond b (refusal (refusing 6)) (codec.fed (fed_by y).run (group_in (fed_by y).handed))))
        long true = refuses_fine (refusing 6)
        long false = much (general.too_much k (group_in (fed_by y).handed))

    -- the run that a packet meets
    met : (number : ℕ) (run : Run Note) → RunFrom s.seq run → distance_of number s.seq ≡ 0 → Met number 0 run
    met number none w e = tt
    met number (gathering note bytes) w e = (s.seq, e, w)

    met_at : (number : ℕ) → Met number 0 (run_at general k s (distance_of number s.seq))
    met_at number = go (eqb (distance_of number s.seq) 0) refl
      where
        go : (here : Bool) → eqb (distance_of number s.seq) 0 ≡ here → Met number 0 (cond here s.run none)
        go true e = met number s.run fine (eqb-true _ _ e)
        go false e = tt

    check_fine : (number time : ℕ) (x : Said Content) → ((y : Content) → x ≡ says y → Bears came source number time y) →
        Makes (plain_check general k s (distance_of number s.seq) number (checked_as (timed time x)))
    check_fine number time (refused r) b = refuses_fine r
    check_fine number time (says y) b =
        within_fine (distance_of number s.seq) number time (fed (run_at general k s (distance_of number s.seq)) time y)
        (fed_fine number time (run_at general k s (distance_of number s.seq)) (met_at number) y (b y refl))

    distance_fine : (number time : ℕ) (payload : List ℕ) → ((y : Content) → check payload ≡ says y → Bears came source number time y) →
        Makes (plain_distance general k s (distance_of number s.seq) number (known time payload))
    distance_fine number time payload b = go (is_late (distance_of number s.seq)) (is_full (ruled_by (plain Known) general) s (distance_of number s.seq))
      where
        go : (late full : Bool) →
            Makes
            (cond late (plain_stays general k s too_late)
            (cond full (plain_stays general k s (refuses general.over_limit))
            (plain_check general k s (distance_of number s.seq) number (checked_as (timed time (check payload))))))
        go true full = record { fine = fine; origins = tt }
        go false true = refuses_fine (refusing 24)
        go false false = check_fine number time (check payload) b

    heard_fine : (packet : List ℕ) → Among came packet → Makes (plain_heard general k s (general.reader packet))
    heard_fine packet there = go (read_packet packet) refl
      where
        bears : (r : PacketReading) → read_packet packet ≡ says r → r.fields.source ≡ source →
            (y : Content) → check (part packet r.payload.place r.payload.len) ≡ says y → Bears came source r.fields.number r.fields.time y
        bears r is own y holds =
            record { packet = packet; there = there; reading = r; read = is; of_source = own; of_number = refl; of_time = refl; holds = holds }

        go : (x : Said PacketReading) → read_packet packet ≡ x → Makes (plain_heard general k s (heard_from (choice avc) source (arrived_in packet x)))
        go (refused r) is = refuses_fine r
        go (says r) is = on (eqb r.fields.source source) refl
          where
            on : (own : Bool) → eqb r.fields.source source ≡ own →
                Makes
                (plain_heard general k s
                (cond own (numbered r.fields.number (known r.fields.time (part packet r.payload.place r.payload.len))) (turned_away (refusing 20))))
            on true e = distance_fine r.fields.number r.fields.time (part packet r.payload.place r.payload.len) (bears r is (eqb-true _ _ e))
            on false e = refuses_fine (refusing 20)

    call_fine : (packet : List ℕ) → Among came packet → Makes (call general k s packet)
    call_fine packet there = subst Makes (sym (plain_call general k s (λ run. refl) packet)) (heard_fine packet there)

  -- ---- call after call

  all_fine : (rooms : ℕ → Room) (s : State ℕ (Run Note)) → Fine s → (bytes : List (List ℕ)) → Each (Among came) bytes →
      Each (Origin came source) (any.handed_out (answers general rooms s bytes))
  all_fine rooms s fine [] there = tt
  all_fine rooms s fine (b ∷ bytes) there =
      let m = call_fine (rooms 0) s fine b there.0 in
      each_append (Origin came source) (handed_by (call general (rooms 0) s b).answer)
      (any.handed_out (answers general (λ i. rooms (suc i)) (call general (rooms 0) s b).state bytes)) m.origins
      (all_fine (λ i. rooms (suc i)) (call general (rooms 0) s b).state m.fine bytes there.1)

-- all that came is among it
all_among : (came : List (List ℕ)) → Each (Among came) came
all_among [] = tt
all_among (p ∷ ps) = (inl refl, each_by (Among (p ∷ ps)) (Among ps) (λ q there. inr there) ps (all_among ps))

-- ---- our joiner's calls are that joiner's

module _ (avc : Bool) (w : Show) (prefix : avc_of (opened w.source w.first) ≡ avc) (came : List (List ℕ)) where
  as_played : Plays (general avc came w.source) avc standing (Good avc w.source) join_step (one_call avc w.source) (length w.gather)
      (opened w.source w.first) w.gather w.outs came
  as_played =
      plays (general avc came w.source) avc standing (Good avc w.source) join_step (one_call avc w.source) came (opened w.source w.first)
      w.gather w.outs (opened_good avc w prefix)

  abbrev begins : State ℕ (Run Note)
  begins = standing (opened w.source w.first) w.gather

  abbrev said : List (any.Answer Refusal Units)
  said = answers (general avc came w.source) (rooms (length w.gather) w.outs) begins came

  no_run : Fine avc came w.source begins
  unfolding opened opening
  no_run = tt

  pub untorn : Untorn avc our_joiner w came
  untorn =
      record {
        groups = any.handed_out said;
        hands_out = handed_as avc (played_on our_joiner w came) said as_played.tells;
        origins = all_fine avc came w.source (rooms (length w.gather) w.outs) begins no_run came (all_among came);
      }

-- ---- whose it is

-- a packet with a start fragment of that time is among those that began
pub started : (came : List (List ℕ)) (source time next : ℕ) (fs : List Fragment) → Begun came source time next fs → (number : ℕ) × (f : Fragment) × Bears came source number time (start f)
started came source time next [] w = absurd w
started came source time next (f ∷ []) w = (w.0, f, w.1)
started came source time next (f ∷ g ∷ fs) w = started came source time w.1 (g ∷ fs) w.5

module _ (came : List (List ℕ)) (source : ℕ) {A : Type 0} (sender : List ℕ → A) (apart : TimesApart came source sender) where
  all_of_one : (number time : ℕ) (x : Content) (last : Bears came source number time x) (next : ℕ) (fs : List Fragment) (w : Begun came source time next fs) →
      Each (λ (p : List ℕ). sender p ≡ sender last.packet) (packets_of came source time next fs w)
  all_of_one number time x last next [] w = absurd w
  all_of_one number time x last next (f ∷ []) w = (apart _ number time _ x w.1 last, tt)
  all_of_one number time x last next (f ∷ g ∷ fs) w = (apart _ number time _ x w.2 last, all_of_one number time x last w.1 (g ∷ fs) w.5)

  pub one_sender : (units : Units) (u : OfMany came source units) → OneSender came source sender units u
  one_sender units u = all_of_one u.number u.time _ u.ends u.before u.others u.begun
