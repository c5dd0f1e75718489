-- Every group that the joiner takes is one that its codec owes, where its packets carry one time: those of the joiner's own law, and an access unit
-- delimiter of two bytes by itself. Assumes nothing.
use mathlib.Core.Path.{◌≡◌, refl, sym, ap, ap₂, subst}
use mathlib.Core.Bool.{Bool}
use mathlib.Core.List.{List, [], ◌∷◌, map, append-nil}
use mathlib.Core.Logic.{◌⊎◌, inl, inr}
use Prim.Native.Nat.{ℕ, suc, ◌+◌, ◌-◌, ◌%◌, ◌≤◌}
use native.Mathlib.Omega.{arith}
use lib.ListN.{length, get_or}
use Rattle.error.specs.Said.{says}
use Rattle.wire.specs.Each.{Each}
use Rattle.wire.specs.Packets.{joined}
use Rattle.nal_read.proofs.Shapes.{shape_delimiter}
use Rattle.packet.specs.Plain.{Stamp}
use Rattle.sequence.specs.Group.{Group, packets_in, map_from, map_group, map_groups}
use Rattle.sequence.specs.Codec.{Owes, OwesAll}
use Rattle.joiner_step.specs.Run.{Units}
use Rattle.joiner_step.specs.General.{Enough, codec}
use Rattle.joiner_feed.specs.Content.{whole, top_bit}
use Rattle.joiner_feed.specs.H264.{check}
use Rattle.joiner.specs.Join.{Known, known, choice}
use Rattle.joiner.specs.Sent.{Sent, aggregated, alone, fragmented, body, any_marked, group_of, known_group, groups_of, gathered_of, PlainUnit, Lawful}
use Rattle.joiner.proofs.SentGroups.{check_shape, owes_one, owes}
use Rattle.delivery.specs.Show.{gathered_by, longest}
use Rattle.delivery.specs.Demand.{AllAt, OneTimeEach}

-- "2 bytes unless type 9"
pub record Delimiter (u : List ℕ) : Type 0 where
  pub long : length u ≡ 2
  pub type : get_or u 0 0 % 32 ≡ 9

abbrev pub Taken : Sent → Type 0
Taken (aggregated head unit others) = Lawful (aggregated head unit others)
Taken (alone unit) = PlainUnit unit ⊎ Delimiter unit
Taken (fragmented head first between last) = Lawful (fragmented head first between last)

pub lawful_taken : (s : Sent) → Lawful s → Taken s
lawful_taken (aggregated head unit others) w = w
lawful_taken (alone unit) w = inl w
lawful_taken (fragmented head first between last) w = w

check_delimiter : (u : List ℕ) → Delimiter u → check u ≡ says (whole (u ∷ []))
check_delimiter u d = check_shape u _ (shape_delimiter u d.long d.type)

-- ---- what is gathered

less_one : (head : ℕ) (s : List ℕ) → length (joined ((head ∷ s) ∷ [])) - 1 ≡ length s
less_one head s = omega (arith, ap length (append-nil s))

-- of a fragmented unit all but its first byte
gathered_same : (s : Sent) → gathered_by (group_of s).others (group_of s).handed ≡ gathered_of s
gathered_same (aggregated head unit others) = refl
gathered_same (alone unit) = refl
gathered_same (fragmented head first [] last) = less_one (top_bit (any_marked first [] last) (head % 128)) (body first [] last)
gathered_same (fragmented head first (p ∷ between) last) = less_one (top_bit (any_marked first (p ∷ between) last) (head % 128)) (body first (p ∷ between) last)

pub longest_within : (n : ℕ) (ss : List Sent) → Each (λ (s : Sent). gathered_of s ≤ n) ss → longest (groups_of ss) ≤ n
longest_within n [] w = omega arith
longest_within n (s ∷ ss) w = omega (arith, w.0, gathered_same s, longest_within n ss w.1)

-- ---- what is known of the packets

-- of packet i its payload and its timestamp
abbrev pub known_by : (ℕ → Stamp) → ℕ → List ℕ → Known
known_by stamps i payload = known (stamps i).time payload

-- those of a group: one time
module _ (stamps : ℕ → Stamp) where
  packets_at : (t i : ℕ) (ps : List (List ℕ)) → AllAt stamps t i ps → map_from (known_by stamps) i ps ≡ map (known t) ps
  packets_at t i [] w = refl
  packets_at t i (p ∷ ps) w = ap₂ (λ (u : ℕ) (l : List Known). known u p ∷ l) w.0 (packets_at t (suc i) ps w.1)

  group_at : (i : ℕ) (g : Group (List ℕ) Units) → AllAt stamps (stamps i).time i (packets_in g) → map_group (known_by stamps) i g ≡ known_group (stamps i).time g
  group_at i g w =
      ap (λ (l : List Known). record { first = known (stamps i).time g.first; others = l; handed = g.handed }) (packets_at (stamps i).time (suc i) g.others w.1)

-- ---- owed

module _ (avc : Bool) (most big : ℕ) (bounded : most ≤ 16777215) where
  owes_taken : (t : ℕ) (s : Sent) → Taken s → gathered_of s ≤ most → Owes (codec (choice avc)) (Enough most big) (known_group t (group_of s))
  owes_taken t (aggregated head unit others) w h = owes avc most big bounded t (aggregated head unit others) w h
  owes_taken t (alone unit) (inl w) h = owes avc most big bounded t (alone unit) w h
  owes_taken t (alone unit) (inr d) h = owes_one avc most big bounded t unit unit [] (check_delimiter unit d)
  owes_taken t (fragmented head first between last) w h = owes avc most big bounded t (fragmented head first between last) w h

  pub owes_all : (stamps : ℕ → Stamp) (i : ℕ) (ss : List Sent) → Each Taken ss → OneTimeEach stamps i (groups_of ss) → longest (groups_of ss) ≤ most →
      OwesAll (codec (choice avc)) (Enough most big) (map_groups (known_by stamps) i (groups_of ss))
  owes_all stamps i [] w o h = tt
  owes_all stamps i (s ∷ ss) w o h = (
    subst (Owes (codec (choice avc)) (Enough most big)) (sym (group_at stamps i (group_of s) o.0))
        (owes_taken (stamps i).time s w.0 (omega (arith, gathered_same s))),
    owes_all stamps (i + length (packets_in (group_of s))) ss w.1 o.1 (omega arith),
  )
