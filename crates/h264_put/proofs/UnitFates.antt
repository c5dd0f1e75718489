-- A unit's fate, by the tests that the code makes. Assumes nothing.
use mathlib.Core.Path.{◌≡◌, refl, ap₂, ◌∙◌}
use mathlib.Core.List.{List, [], ◌∷◌}
use mathlib.Core.Bool.{Bool, true, false, cond, ◌||◌, true≢false}
use Prim.Native.Nat.{ℕ, suc, ◌%◌, ◌<◌}
use native.Mathlib.Omega.{arith}
use lib.Dec.{eqb}
use lib.ListN.{length, get_or}
use borrow.Author.Tests.{ne_eqb, eqb-true}
use Rattle.h264_put.specs.declared.fate.Fate.TheVariants.{Empty, Dropped, Sps, Pps, Coded}
use Rattle.h264_put.specs.Groups.{fate_of, fate_of_type}

pub fate_empty : (u : List ℕ) → eqb (length u) 0 ≡ true → fate_of u ≡ Empty
fate_empty [] e = refl
fate_empty (b ∷ s) e = let z : suc (length s) ≡ 0 = eqb-true (suc (length s)) 0 e in absurd (omega arith)

pub fate_first : (u : List ℕ) → eqb (length u) 0 ≡ false → fate_of u ≡ fate_of_type (get_or u 0 0 % 32)
fate_first [] n = absurd (true≢false n)
fate_first (b ∷ s) n = refl

-- any other type than 9, 12, 7 and 8
pub fate_coded : (t : ℕ) → (t ≡ 9 → ⊥) → (t ≡ 12 → ⊥) → (t ≡ 7 → ⊥) → (t ≡ 8 → ⊥) → fate_of_type t ≡ Coded
fate_coded t a b p q =
    ap₂ (λ (x y : Bool). cond (x || y) Dropped (cond (eqb t 7) Sps (cond (eqb t 8) Pps Coded))) (ne_eqb t 9 a) (ne_eqb t 12 b)
    ∙ ap₂ (λ (x y : Bool). cond x Sps (cond y Pps Coded)) (ne_eqb t 7 p) (ne_eqb t 8 q)

-- a unit that is sent has a first byte
pub coded_some : (u : List ℕ) → fate_of u ≡ Coded → 0 < length u
coded_some [] e = let z : ◌≡◌ {A = ℕ} 0 1 = cc in absurd (omega arith)
coded_some (b ∷ s) e = omega arith
