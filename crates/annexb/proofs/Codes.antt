-- A turn of the search, by the byte at hand. Assumes nothing.
use mathlib.Core.Path.{◌≡◌, refl, ap, ap₂, ◌∙◌}
use mathlib.Core.List.{List}
use mathlib.Core.Bool.{Bool, true, false, cond, ◌&&◌, and-false}
use Prim.Native.Nat.{ℕ, ◌+◌, ◌-◌, ◌≤◌, ◌<◌}
use native.Mathlib.Numerals.{add-one}
use native.Mathlib.Omega.{arith}
use lib.Dec.{eqb, leb}
use lib.ListN.{length, drop, get_or, drop_of_length-le}
use lib.Seq.{drop-cons}
use borrow.Author.Tests.{eq-eqb, ne_eqb}
use Rattle.std.specs.Prelude.{Option, Some, None}
use Rattle.annexb.specs.declared.Code.{Code}
use Rattle.annexb.specs.Search.{zeros_by, ends_code, scan}

-- a byte ends no start code where it is no 1, or too few zeros stand before it
pub no_one : (b z : ℕ) → (b ≡ 1 → ⊥) → ends_code b z ≡ false
no_one b z n = ap (λ (t : Bool). t && leb 2 z) (ne_eqb b 1 n)

pub few_zeros : (b z : ℕ) → leb 2 z ≡ false → ends_code b z ≡ false
few_zeros b z e = ap (λ (t : Bool). eqb b 1 && t) e ∙ and-false (eqb b 1)

pub one_after_zeros : (b z : ℕ) → b ≡ 1 → leb 2 z ≡ true → ends_code b z ≡ true
one_after_zeros b z e h = ap₂ ◌&&◌ (eq-eqb b 1 e) h

-- at the frame's end and beyond it there is none
pub scan_end : (frame : List ℕ) (i z : ℕ) → length frame ≤ i → scan (drop i frame) i z ≡ None
scan_end frame i z h = ap (λ (s : List ℕ). scan s i z) (drop_of_length-le frame h)

module _ (frame : List ℕ) (i z : ℕ) (h : i < length frame) where
  rest : ℕ → Option Code
  rest zeros = scan (drop (i + 1) frame) (i + 1) zeros

  turn : scan (drop i frame) i z ≡
      cond (ends_code (get_or frame i 0) z) (Some (record { at = i - z; len = z + 1 })) (rest (zeros_by (eqb (get_or frame i 0) 0) z))
  unfolding rest
  turn = rw (drop-cons frame i 0 h, add-one i)

  -- a byte that ends no start code, be it a zero or not
  pub on_by : (code : Bool) → ends_code (get_or frame i 0) z ≡ code → code ≡ false → (is_zero : Bool) → eqb (get_or frame i 0) 0 ≡ is_zero →
      scan (drop i frame) i z ≡ scan (drop (i + 1) frame) (i + 1) (zeros_by is_zero z)
  unfolding rest
  on_by code e n is_zero q =
      turn ∙ ap₂ (λ (a b : Bool). cond a (Some (record { at = i - z; len = z + 1 })) (rest (zeros_by b z))) (e ∙ n) q

  -- one zero more
  pub scan_zero : get_or frame i 0 ≡ 0 → scan (drop i frame) i z ≡ scan (drop (i + 1) frame) (i + 1) (z + 1)
  scan_zero e =
      let n : get_or frame i 0 ≡ 1 → ⊥ = λ q. omega arith in
      on_by (ends_code (get_or frame i 0) z) refl (no_one (get_or frame i 0) z n) true
      (eq-eqb (get_or frame i 0) 0 e)

  -- a byte that ends no start code
  pub scan_other : (get_or frame i 0 ≡ 0 → ⊥) → ends_code (get_or frame i 0) z ≡ false →
      scan (drop i frame) i z ≡ scan (drop (i + 1) frame) (i + 1) 0
  scan_other n e = on_by (ends_code (get_or frame i 0) z) refl e false (ne_eqb (get_or frame i 0) 0 n)

  -- the end of a start code
  pub scan_code : ends_code (get_or frame i 0) z ≡ true → scan (drop i frame) i z ≡ Some (record { at = i - z; len = z + 1 })
  unfolding rest
  scan_code e = turn ∙ ap (λ (a : Bool). cond a (Some (record { at = i - z; len = z + 1 })) (rest (zeros_by (eqb (get_or frame i 0) 0) z))) e
