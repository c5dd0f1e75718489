-- Of another profile's block the Rust tests the one element's length after the total. It never fires: the total, which was found to be
-- whole words, is that one length. Assumes nothing.
--
-- header.rs, `marshal_to`:
--
--     if .. && !extension_payload_len.is_multiple_of(4) { return Err(Error::HeaderExtensionPayloadNot32BitWords.into()); }
--     ..
--     if self.extensions.len() != 1 { return Err(Error::ErrRfc3550headerIdrange.into()); }
--     if let Some(extension) = self.extensions.first() {
--         let ext_len = extension.payload.len();
--         if ext_len % 4 != 0 { return Err(Error::HeaderExtensionPayloadNot32BitWords.into()); }
use mathlib.Core.Path.{◌≡◌, refl}
use mathlib.Core.Bool.{Bool, true, false, cond}
use mathlib.Core.List.{List, [], ◌∷◌}
use Prim.Native.Nat.{ℕ, ◌+◌, ◌*◌, ◌%◌}
use native.Mathlib.Omega.{arith}
use lib.Dec.{eqb}
use lib.ListN.{length, get_or}
use borrow.Author.Tests.{eq-eqb, eqb-true}
use Rattle.error.specs.Said.{Said, refuse}
use Rattle.elements.specs.Elements.{sum}
use Rattle.block.specs.declared.Form.{Form}
use Rattle.block.specs.declared.Form.TheVariants.{OneByte as one_byte, TwoByte as two_byte, Other as other}
use Rattle.block.specs.Form.{per_element}
use Rattle.header_write.specs.Judge.{judged}

-- how many bytes elements of these lengths take with their heads
abbrev pub total_of : Form → List ℕ → ℕ
total_of form lens = sum lens + length lens * per_element form

-- the Rust's tests, in their order
abbrev pub rust_judged : {A : Type 0} → Form → List ℕ → Said A → Said A
rust_judged one_byte lens next = next
rust_judged two_byte lens next = next
rust_judged other lens next =
    cond (eqb (total_of other lens % 4) 0)
    (cond (eqb (length lens) 1) (cond (eqb (get_or lens 0 0 % 4) 0) next (refuse 9)) (refuse 10))
    (refuse 9)

-- where the third test is reached, the one element is whole words
pub never_9 : (lens : List ℕ) → total_of other lens % 4 ≡ 0 → length lens ≡ 1 → get_or lens 0 0 % 4 ≡ 0
never_9 [] whole one = absurd (omega arith)
never_9 (n ∷ []) whole one = omega arith
never_9 (n ∷ m ∷ lens) whole one = absurd (omega arith)

-- so that with it and without it, whatever the elements are, the same is refused
pub judges_alike : {A : Type 0} (form : Form) (lens : List ℕ) (next : Said A) →
    rust_judged form lens next ≡ judged form (total_of form lens) (length lens) next
judges_alike one_byte lens next = refl
judges_alike two_byte lens next = refl
judges_alike {A} other lens next = go (eqb (total_of other lens % 4) 0) (eqb (length lens) 1) refl refl
  where
    go : (whole one : Bool) → eqb (total_of other lens % 4) 0 ≡ whole → eqb (length lens) 1 ≡ one →
        cond whole (cond one (cond (eqb (get_or lens 0 0 % 4) 0) next (refuse 9)) (refuse 10)) (refuse 9)
        ≡ cond whole (cond one next (refuse 10)) (refuse 9)
    go true true w o =
        rw (eq-eqb (get_or lens 0 0 % 4) 0 (never_9 lens (eqb-true (total_of other lens % 4) 0 w) (eqb-true (length lens) 1 o)))
    go true false w o = refl
    go false one w o = refl
