-- No unit of a frame is longer than the frame, and each has bytes of the frame, or zeros, alone: `cut` moves bytes and adds none.
-- Assumes nothing.
use mathlib.Core.Bool.{Bool, true, false}
use mathlib.Core.List.{List, [], ◌∷◌, ◌++◌}
use mathlib.Core.Path.{◌≡◌}
use Prim.Native.Nat.{ℕ, zero, suc, ◌+◌, ◌≤◌, ◌<◌}
use native.Mathlib.Omega.{arith}
use lib.Dec.{eqb}
use lib.ListN.{length, replicate, length-append, length-replicate}
use Rattle.wire.specs.Each.{Each}
use Rattle.wire.specs.Packets.{joined}
use Rattle.wire.proofs.Each.{each_append}
use Rattle.annexb.specs.Search.{zeros_by, ends_code}
use Rattle.annexb.specs.Units.{Cut, cut, cut_by, units, units_of_cut}

-- ---- no unit is longer than its frame

total : Cut → ℕ
total c = length c.before + length (joined c.behind)

cut_total : (s : List ℕ) (z : ℕ) → total (cut s z) ≤ length s + z
unfolding total
cut_total [] z = omega (arith, length-replicate {A = ℕ} z 0)
cut_total (b ∷ s) z = go (eqb b 0) (ends_code b z) (λ k. cut_total s k)
  where
    go : (is_zero is_code : Bool) → ((k : ℕ) → total (cut s k) ≤ length s + k) →
        total (cut_by is_zero is_code b z (cut s (zeros_by is_zero z))) ≤ suc (length s) + z
    go true is_code rec = omega (arith, rec (z + 1))
    go false true rec =
        omega (arith, rec 0, length-append (cut s 0).before (joined (cut s 0).behind))
    go false false rec =
        omega (arith, rec 0, length-append (replicate z 0) (b ∷ (cut s 0).before), length-replicate {A = ℕ} z 0)

each_short : (n : ℕ) (us : List (List ℕ)) → length (joined us) ≤ n → Each (λ (u : List ℕ). length u ≤ n) us
each_short n [] h = tt
each_short n (u ∷ us) h =
    let l : length (u ++ joined us) ≡ length u + length (joined us) = length-append u (joined us) in
    (omega arith, each_short n us (omega arith))

pub units_short : (frame : List ℕ) → Each (λ (u : List ℕ). length u ≤ length frame) (units frame)
unfolding units total
units_short frame = go (cut frame 0).before (cut frame 0).behind (omega (arith, cut_total frame 0))
  where
    go : (before : List ℕ) (behind : List (List ℕ)) → length before + length (joined behind) ≤ length frame →
        Each (λ (u : List ℕ). length u ≤ length frame) (units_of_cut before behind)
    go before [] h = (omega arith, tt)
    go before (u ∷ us) h = each_short (length frame) (u ∷ us) (omega arith)

-- ---- the units of a frame of octets are octets

abbrev Octets : List ℕ → Type 0
Octets s = Each (λ (b : ℕ). b < 256) s

zeros : (n : ℕ) → Octets (replicate n 0)
zeros zero = tt
zeros (suc n) = (omega arith, zeros n)

cut_octets : (s : List ℕ) (z : ℕ) → Octets s → Octets (cut s z).before × Each Octets (cut s z).behind
cut_octets [] z o = (zeros z, tt)
cut_octets (b ∷ s) z o = go (eqb b 0) (ends_code b z) (cut s (zeros_by (eqb b 0) z)) (cut_octets s (zeros_by (eqb b 0) z) o.1)
  where
    go : (is_zero is_code : Bool) (c : Cut) → Octets c.before × Each Octets c.behind →
        Octets (cut_by is_zero is_code b z c).before × Each Octets (cut_by is_zero is_code b z c).behind
    go true is_code c w = w
    go false true c w = (tt, (w.0, w.1))
    go false false c w = (each_append (λ (x : ℕ). x < 256) (replicate z 0) (b ∷ c.before) (zeros z) (o.0, w.0), w.1)

pub units_octets : (frame : List ℕ) → Octets frame → Each Octets (units frame)
unfolding units
units_octets frame o = go (cut frame 0).before (cut frame 0).behind (cut_octets frame 0 o)
  where
    go : (before : List ℕ) (behind : List (List ℕ)) → Octets before × Each Octets behind → Each Octets (units_of_cut before behind)
    go before [] w = (w.0, tt)
    go before (u ∷ us) w = w.1
