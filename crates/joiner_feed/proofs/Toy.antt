-- A second codec, to show what one costs: its checks, and three facts about them, what they say of a unit's first, middle and last fragment (each
-- `marked_is` here). All else is cited, since it is proved for any choice. It is a toy: a payload has a header of four bytes where H.264's
-- fragments have two, a kind, a mark, and then the two bytes of the unit's own header, as H.265's units have it. Assumes nothing.
use mathlib.Core.Path.{◌≡◌, refl, ap, ◌∙◌}
use mathlib.Core.Bool.{Bool, true, false, cond}
use mathlib.Core.List.{List, [], ◌∷◌, ◌++◌, map}
use Prim.Native.Nat.{ℕ, ◌≤◌, ◌<◌}
use lib.Dec.{eqb}
use lib.ListN.{length, get_or}
use borrow.Author.Tests.{eq-eqb}
use Rattle.error.specs.Said.{Said, says, refused, refuse}
use Rattle.wire.specs.Packets.{joined}
use Rattle.wire.proofs.Each.{each_any, each_map}
use Rattle.sequence.specs.Number.{number_of}
use Rattle.sequence.specs.Arrival.{Arrival, accepted, accepted_calls, Window}
use Rattle.sequence.specs.Rule.{plain}
use Rattle.sequence.specs.Group.{Group, packets_of, EachHanded}
use Rattle.sequence.specs.Codec.{Owes}
use Rattle.sequence.specs.Joiner.{call}
use Rattle.sequence.specs.Demand.{Told, Delivered}
use Rattle.sequence.proofs.Ruling.{plain_follows}
use Rattle.sequence.proofs.Joining.{owed_pass, delivered}
use Rattle.joiner_step.specs.Run.{Units, none}
use Rattle.joiner_step.specs.Choice.{Arrived, Choice}
use Rattle.joiner_step.specs.Step.{Kept, step, opening}
use Rattle.joiner_step.specs.Paragraph.{Paragraph}
use Rattle.joiner_step.specs.General.{Room, Enough, codec, heard_from, parts, standing}
use Rattle.joiner_step.proofs.Playing.{Stands}
use Rattle.joiner_step.proofs.Rooms.{Small, small_enough}
use Rattle.joiner_step.proofs.Main.{Ready, paper_step, one_call}
use Rattle.joiner_feed.specs.Content.{Fragment, part_in, marked_in, Content, whole, start, middle, end, Timed, timed, Note, top_bit, choosing}
use Rattle.joiner_feed.proofs.Owing.{owes_whole, owes_cut}

abbrev pub fragment_of : ℕ → List ℕ → Fragment
fragment_of mark part = record { marked = eqb mark 1; part = part }

-- by the kind: a unit by itself, a fragment of one with the header a b, or 19; 4 where the header is cut
abbrev pub check : List ℕ → Said Content
check (kind ∷ mark ∷ a ∷ b ∷ part) =
    cond (eqb kind 0) (says (whole (part ∷ [])))
    (cond (eqb kind 1) (says (start (fragment_of mark part)))
    (cond (eqb kind 2) (says (middle (fragment_of mark part)))
    (cond (eqb kind 3) (says (end (a ∷ b ∷ []) (fragment_of mark part))) (refused (record { number = 19; carried = kind ∷ [] })))))
check (kind ∷ mark ∷ a ∷ []) = refuse 4
check (kind ∷ mark ∷ []) = refuse 4
check (kind ∷ []) = refuse 4
check [] = refuse 4

-- what is known of a packet
pub record Known : Type 0 where
  pub time : ℕ
  pub payload : List ℕ

-- a unit sent by itself, or cut into fragments, which may be empty, at a time t; `most` bytes may be gathered
pub data Sent (most : ℕ) : Type 0 where
  alone : (t a b : ℕ) (unit : List ℕ) → Sent most
  cut : (t a b : ℕ) (first : Fragment) (between : List Fragment) (last : Fragment) →
      length (first.part ++ (joined (map part_in between) ++ last.part)) ≤ most → Sent most

-- a fragment's packet
abbrev pub sent : ℕ → ℕ → ℕ → ℕ → Fragment → Known
sent kind t a b f = record { time = t; payload = kind ∷ cond f.marked 1 0 ∷ a ∷ b ∷ f.part }

marked_is : (f : Fragment) → fragment_of (cond f.marked 1 0) f.part ≡ f
marked_is f = go f.marked
  where
    go : (m : Bool) → fragment_of (cond m 1 0) f.part ≡ record { marked = m; part = f.part }
    go true = refl
    go false = refl

abbrev pub group_of : {most : ℕ} → Sent most → Group Known Units
group_of (alone t a b unit) = record { first = record { time = t; payload = 0 ∷ 0 ∷ a ∷ b ∷ unit }; others = []; handed = unit ∷ [] }
group_of (cut t a b first between last fits) =
    record {
      first = sent 1 t a b first;
      others = map (sent 2 t a b) between ++ (sent 3 t a b last ∷ []);
      handed = (top_bit (marked_in (first ∷ between ++ (last ∷ []))) a ∷ b ∷ first.part ++ (joined (map part_in between) ++ last.part)) ∷ [];
    }

module _ (reads : List ℕ → Said (Arrived Known)) (avc : Bool) where
  abbrev pub toy : Choice Known Timed Note
  toy = choosing reads (λ p. p.time) (λ p. check p.payload) avc

  pub toy_step : (j : Kept Note) (packet gather out : List ℕ) → Paragraph toy j packet gather out (step toy j packet gather out)
  toy_step = paper_step toy

  pub toy_call : (source : ℕ) (j : Kept Note) (gather out : List ℕ) → Ready toy source j gather → (packet : List ℕ) →
      Stands (parts toy (plain Known) source) avc standing (Ready toy source) (length gather) (step toy j packet gather out)
      (call (parts toy (plain Known) source) (record { gather = length gather; out = length out }) (standing j gather) packet)
  toy_call = one_call toy

  module _ (most largest : ℕ) (bounded : most ≤ 16777215) where
    pub toy_owes : (s : Sent most) → Owes (codec toy) (Enough most largest) (group_of s)
    toy_owes (alone t a b unit) = owes_whole reads (λ p. p.time) (λ p. check p.payload) avc most largest bounded _ unit [] refl
    toy_owes (cut t a b first between last fits) =
        owes_cut reads (λ p. p.time) (λ p. check p.payload) avc most largest bounded t (sent 1 t a b) (sent 2 t a b) (sent 3 t a b)
        (a ∷ b ∷ []) (λ f. Unit)
        (λ f any. ap (λ (g : Fragment). timed t (says (start g))) (marked_is f))
        (λ f any. ap (λ (g : Fragment). timed t (says (middle g))) (marked_is f))
        (λ f any. ap (λ (g : Fragment). timed t (says (end (a ∷ b ∷ []) g))) (marked_is f))
        first between last tt (each_any (λ f. Unit) (λ f. tt) between) tt fits

    -- what stands for a packet that was not sent
    abbrev nowhere : Known
    nowhere = record { time = 0; payload = [] }

    -- demand 3, over packets that the reader reads back, among others that it turns away
    pub toy_demand_3 : (sents : List (Sent most)) → let gs = map group_of sents in let ps = packets_of gs in let n = length ps in
        EachHanded (Small avc largest) gs → n ≤ 4294967295 → (source first : ℕ) → first < 65536 →
        (packet : ℕ → List ℕ) → ((i : ℕ) → i < n → reads (packet i) ≡ says (record { source = source; number = number_of first i; known = get_or ps i nowhere })) →
        (rooms : ℕ → Room) → ((i : ℕ) → Enough most largest (rooms i)) →
        (arrivals : List (Arrival (List ℕ))) → Window n 0 arrivals → Told (parts toy (plain Known) source) n arrivals → (gather : List ℕ) →
        Delivered (parts toy (plain Known) source) (Enough most largest) (number_of first) packet n rooms
        (standing (opening toy source first) gather) arrivals (accepted arrivals) (accepted_calls [] arrivals) gs
    unfolding opening
    toy_demand_3 sents ok few source first h packet back rooms enough arrivals window told gather =
        let gs = map group_of sents in let ps = packets_of gs in
        let owed = each_map (Owes (codec toy) (Enough most largest)) group_of sents (each_any _ toy_owes sents) in
        delivered _ (Enough most largest) (number_of first) packet (λ i. get_or ps i nowhere) (length ps) 1 (Small avc largest)
        (λ i h. ap (heard_from toy source) (back i h) ∙ rw (eq-eqb source source refl))
        (owed_pass (codec toy) (Enough most largest) (rooms 0) (enough 0) none gs owed nowhere) (small_enough toy most largest)
        gs refl few owed ok rooms enough _ refl arrivals _ _ (plain_follows first ps nowhere (List ℕ) arrivals h window) told
