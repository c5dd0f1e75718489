-- How many octets a block has, and that the tests on a record's arrays are those on its elements. Assumes nothing.
use mathlib.Core.Path.{◌≡◌, refl, ap₂, ◌∙◌}
use mathlib.Core.Bool.{Bool, true, false, ◌&&◌}
use mathlib.Core.List.{List, [], ◌∷◌, ◌++◌}
use Prim.Native.Nat.{ℕ, suc, ◌+◌, ◌-◌, ◌*◌, ◌≤◌}
use native.Mathlib.Nat.{zero-mul, suc-mul}
use native.Mathlib.Omega.{arith}
use lib.ListN.{length, take, replicate, length-append, length-replicate, drop, length-drop}
use lib.Seq.{length-take-le}
use Rattle.std.specs.Prelude.{Some, None}
use Rattle.wire.specs.Net.{be16}
use Rattle.wire.proofs.Net.{length_be16}
use Rattle.elements.specs.Elements.{Element, data_of, sum, Packed, elements_in, unpack}
use Rattle.elements.proofs.Packed.{length_elements_in, length_data_in, as_many}
use Rattle.block.specs.declared.Form.{Form}
use Rattle.block.specs.declared.Form.TheVariants.{OneByte as one_byte, TwoByte as two_byte, Other as other}
use Rattle.block.specs.Form.{form_of, per_element, length_for, words_for}
use Rattle.block_write.specs.Write.{element_octets, block_octets, extension_for, fits, all_fit, all_writable, weight}

pub length_element_octets : (form : Form) (e : Element) → length (element_octets form e) ≡ length e.bytes + per_element form
length_element_octets one_byte e = omega arith
length_element_octets two_byte e = omega arith
length_element_octets other e = omega arith

pub length_block_octets : (form : Form) (es : List Element) → length (block_octets form es) ≡ length (data_of es) + length es * per_element form
length_block_octets form [] = let z : 0 * per_element form ≡ 0 = zero-mul (per_element form) in omega arith
length_block_octets form (e ∷ es) =
    let one : length (element_octets form e) ≡ length e.bytes + per_element form = length_element_octets form e in
    let rest : length (block_octets form es) ≡ length (data_of es) + length es * per_element form = length_block_octets form es in
    let bytes : length (e.bytes ++ data_of es) ≡ length e.bytes + length (data_of es) = length-append e.bytes (data_of es) in
    let heads : suc (length es) * per_element form ≡ length es * per_element form + per_element form = suc-mul (length es) (per_element form) in
    length-append (element_octets form e) (block_octets form es) ∙ omega arith

-- `len` is the length of the elements with their heads
pub length_extension_for : (profile len : ℕ) (es : List Element) → length (block_octets (form_of profile) es) ≡ len →
    length (extension_for profile len es) ≡ 4 + 4 * words_for len
unfolding extension_for
length_extension_for profile len es e =
    let p : length (be16 profile) ≡ 2 = length_be16 profile in
    let w : length (be16 (words_for len)) ≡ 2 = length_be16 (words_for len) in
    let z : length {A = ℕ} (replicate (4 * words_for len - len) 0) ≡ 4 * words_for len - len =
    length-replicate (4 * words_for len - len) 0 in
    simp length-append (omega arith)

-- the block of the first `count` elements of these arrays
pub length_block_in : (profile count : ℕ) (ids lens bytes : List ℕ) → Packed count ids lens bytes →
    length (block_octets (form_of profile) (elements_in count ids lens bytes)) ≡ length_for profile count (sum (take count lens))
length_block_in profile count ids lens bytes p =
    length_block_octets (form_of profile) (elements_in count ids lens bytes)
    ∙ ap₂ (length_for profile) (length_elements_in count ids lens bytes p) (length_data_in count ids lens bytes p)

-- ---- the domain

fit_unpack : (form : Form) (ids lens bytes : List ℕ) → length ids ≡ length lens → sum lens ≤ length bytes →
    all_writable form (unpack ids lens bytes) ≡ all_fit form ids lens
fit_unpack form [] lens bytes e h = refl
fit_unpack form (i ∷ ids) [] bytes e h = refl
fit_unpack form (i ∷ ids) (l ∷ lens) bytes e h =
    ap₂ (λ (n : ℕ) (b : Bool). fits form i n && b) (length-take-le l bytes (omega arith))
    (fit_unpack form ids lens (drop l bytes) (omega arith) (rw length-drop (omega arith)))

pub all_writable_fit : (form : Form) (count : ℕ) (ids lens bytes : List ℕ) → Packed count ids lens bytes →
    all_writable form (elements_in count ids lens bytes) ≡ all_fit form (take count ids) (take count lens)
all_writable_fit form count ids lens bytes p =
    fit_unpack form (take count ids) (take count lens) bytes (as_many count ids lens bytes p) p.packed

-- ---- the weight of the elements

pub weighed : (form : Form) (ids lens : List ℕ) (n : ℕ) → Some n ≡ weight form ids lens → (all_fit form ids lens ≡ true) × (n ≡ sum lens)
unfolding weight
weighed form ids lens n e = go (all_fit form ids lens) refl
  where
    go : (b : Bool) → all_fit form ids lens ≡ b → (all_fit form ids lens ≡ true) × (n ≡ sum lens)
    go true q = let all : Some n ≡ Some (sum lens) = rw q at e in (q, cc)
    go false q = let none : Some n ≡ None = rw q at e in absurd (cc)

-- where there is none, not all can be written
pub unweighed : (form : Form) (ids lens : List ℕ) → None ≡ weight form ids lens → all_fit form ids lens ≡ true → ⊥
unfolding weight
unweighed form ids lens e q = let some : None ≡ Some (sum lens) = rw q at e in absurd (cc)
