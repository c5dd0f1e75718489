-- The parts of a unit: none is empty, all but the last are full, and together they are its body. Assumes nothing.
use mathlib.Core.Path.{◌≡◌, refl, sym, ap, subst, ◌∙◌}
use mathlib.Core.List.{List, ◌∷◌, ◌++◌, append_assoc}
use Prim.Native.Nat.{ℕ, zero, suc, ◌-◌, ◌≤◌, ◌<◌}
use native.Mathlib.Decide.{dec_le}
use native.Mathlib.Omega.{arith}
use lib.ListN.{length, take, drop, length-drop, take-append-drop}
use lib.Seq.{length-take-le}
use Rattle.wire.specs.Packets.{joined}
use Rattle.rfc6184.specs.Sending.{Each}
use Rattle.h264_put.specs.Groups.{Parts, parts}
use Rattle.h264.specs.Conformance.{Divided, rebuilt}
use Rattle.h264_put.proofs.Fragments.{parts_last, parts_more}

record Filled (size : ℕ) (s : List ℕ) (p : Parts) : Type 0 where
  full : Each (λ (x : List ℕ). length x ≡ size) p.middle
  some : 0 < length p.last
  within : length p.last ≤ size
  whole : joined p.middle ++ p.last ≡ s

filled : (fuel size : ℕ) (s : List ℕ) → 0 < size → 0 < length s → length s ≤ fuel → Filled size s (parts fuel size s)
filled zero size s pos some h = absurd (omega arith)
filled (suc fuel) size s pos some h =
    let left : length (drop size s) ≡ length s - size = length-drop size s in
    go (dec_le (length s) size) (λ g. filled fuel size (drop size s) pos (omega arith) (omega arith))
  where
    go : Dec (length s ≤ size) → ((length s ≤ size → ⊥) → Filled size (drop size s) (parts fuel size (drop size s))) →
        Filled size s (parts (suc fuel) size s)
    go (yes g) again =
        subst (Filled size s) (sym (parts_last (suc fuel) size s g)) (record { full = tt; some = some; within = g; whole = refl })
    go (no g) again =
        let k : suc fuel - 1 ≡ fuel = omega arith in
        let rest : Parts = parts fuel size (drop size s) in
        let w = again g in
        subst (Filled size s)
        (sym (parts_more (suc fuel) size s (omega arith) (omega arith)
        ∙ ap (λ (f : ℕ). record { middle = take size s ∷ (parts f size (drop size s)).middle; last = (parts f size (drop size s)).last }) k))
        (record {
          full = (length-take-le size s (omega arith), w.full);
          some = w.some;
          within = w.within;
          whole = append_assoc (take size s) (joined rest.middle) rest.last ∙ ap (λ (l : List ℕ). take size s ++ l) w.whole ∙ take-append-drop size s;
        })

-- a unit of a first byte b and a body s, as the sender divides it
module _ (size b : ℕ) (s : List ℕ) (pos : 0 < size) (h : size < length s) where
  others : Filled size (drop size s) (parts (length s) size (drop size s))
  others =
      let left : length (drop size s) ≡ length s - size = length-drop size s in
      filled (length s) size (drop size s) pos (omega arith) (omega arith)

  pub unit_rebuilt : rebuilt b (take size s) (parts (length s) size (drop size s)).middle (parts (length s) size (drop size s)).last ≡ b ∷ s
  unit_rebuilt = ap (λ (l : List ℕ). b ∷ (take size s ++ l)) others.whole ∙ ap (λ (l : List ℕ). b ∷ l) (take-append-drop size s)

  pub unit_divided_well : Divided size (take size s) (parts (length s) size (drop size s)).middle (parts (length s) size (drop size s)).last
  unit_divided_well =
      record {
        first_full = length-take-le size s (omega arith);
        middle_full = others.full;
        last_some = others.some;
        last_within = others.within;
      }
