-- The forms of a profile, by the tests of the code. Assumes nothing.
use mathlib.Core.Path.{◌≡◌, ap}
use Prim.Native.Nat.{ℕ, ◌*◌, ◌≤◌}
use native.Mathlib.Nat.{mul-le-mul}
use native.Mathlib.Omega.{arith}
use borrow.Author.Tests.{ne_eqb}
use Rattle.block.specs.declared.Form.{Form}
use Rattle.block.specs.declared.Form.TheVariants.{OneByte as one_byte, TwoByte as two_byte, Other as other}
use Rattle.block.specs.Form.{form_of, per_element}

-- ---- the forms of a profile

pub form_one : {p : ℕ} → p ≡ 0xBEDE → form_of p ≡ one_byte
form_one e = ap form_of e

pub form_two : {p : ℕ} → p ≡ 0x1000 → form_of p ≡ two_byte
form_two e = ap form_of e

pub form_other : {p : ℕ} → (p ≡ 0xBEDE → ⊥) → (p ≡ 0x1000 → ⊥) → form_of p ≡ other
form_other {p} n m = rw (ne_eqb p 0xBEDE n, ne_eqb p 0x1000 m)

-- ---- sizes counted from the record

pub heads_few : (form : Form) (count : ℕ) → count ≤ 32 → count * per_element form ≤ 64
heads_few form count h = mul-le-mul h (few form)
  where
    few : (form : Form) → per_element form ≤ 2
    few one_byte = omega arith
    few two_byte = omega arith
    few other = omega arith
