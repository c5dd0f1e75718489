-- What the arrays of a record in the domain say of its elements: how many there are, how long their data are, and so what a
-- header's size is, counted from the record. Assumes nothing.
use Rattle.std.specs.Prelude.{Result, Ok, Err}
use mathlib.Core.Path.{◌≡◌, refl, sym, ap, ap₂, ◌∙◌}
use mathlib.Core.Bool.{Bool, true, false, not, cond}
use Prim.Native.Nat.{ℕ, ◌≤◌}
use native.Mathlib.Nat.{min-le_left}
use native.Mathlib.Omega.{arith}
use lib.ListN.{length, take, length-take}
use lib.Seq.{length-take-le}
use borrow.Author.Tests.{not-true, not-false}
use Rattle.error.specs.declared.Error.{Error}
use Rattle.error.specs.Said.{says, refuse, said}
use Rattle.elements.specs.Elements.{unpack, sum, elements_of}
use Rattle.elements.proofs.Packed.{PackedIn, length_elements_of, length_data_of, length_unpack_few, length_data_few}
use Rattle.block.specs.Form.{form_of, length_for}
use Rattle.block.proofs.Forms.{heads_few}
use Rattle.header.specs.declared.Header.{Header}
use Rattle.header.specs.Fields.{fields_of, in_domain, Tested}
use Rattle.header_write.specs.Size.{size_for}
use Rattle.header.specs.Size.{payload_length, header_size, length_asked, size_asked}
use Rattle.header_write.proofs.Domain.{Limits, limits, taken_few}
pub use Rattle.header_write.proofs.Domain.{never}
pub use Rattle.header.specs.Fields.{Arrays}

abbrev pub length_in : Header → ℕ
length_in h =
    length_for h.extension_profile h.extensions.count (sum (take h.extensions.count h.extensions.lens))

pub payload_length_lem : (h : Header) → PackedIn h.extensions → payload_length (fields_of h) ≡ length_in h
unfolding payload_length fields_of
payload_length_lem h p =
    ap₂ (length_for h.extension_profile) (length_elements_of h.extensions p) (length_data_of h.extensions p)

pub header_size_lem : (h : Header) → PackedIn h.extensions → h.csrc_count ≤ length h.csrc →
    header_size (fields_of h) ≡ size_for h.csrc_count h.extension (length_in h) h.extensions_padding
unfolding header_size fields_of
header_size_lem h p cs =
    ap₂ (λ (n l : ℕ). size_for n h.extension l h.extensions_padding) (length-take-le h.csrc_count h.csrc cs)
    (payload_length_lem h p)

-- ---- a record in the domain

abbrev pub LimitsOf : Header → Type 0
LimitsOf h = Limits h.csrc_count h.extensions.count h.extensions.lens h.extensions_padding

pub packed : (h : Header) → Arrays h → LimitsOf h → PackedIn h.extensions
packed h a l = record { places = omega arith; lengths = omega arith; packed = omega arith }

module _ {h : Header} {r : Bool} (t : Tested h r) where
  pub passes : not r ≡ false → in_domain h ≡ true
  passes e = sym t.answer ∙ not-false r e

  pub fails : not r ≡ true → in_domain h ≡ false
  fails e = sym t.answer ∙ not-true r e

pub limits_of : (h : Header) → in_domain h ≡ true → LimitsOf h
unfolding in_domain
limits_of h e = limits h.csrc_count h.extensions.count h.extensions.lens h.extensions_padding e

pub length_few : (h : Header) → LimitsOf h → length_in h ≤ 1088
length_few h l =
    taken_few h.csrc_count h.extension_profile h.extensions.count h.extensions.lens h.extensions_padding l

pub length_asked_lem : (h : Header) {b : Bool} → in_domain h ≡ b → length_asked h ≡ cond b (says (payload_length (fields_of h))) (refuse 8)
unfolding length_asked
length_asked_lem h e = ap (λ (b : Bool). cond b (says (payload_length (fields_of h))) (refuse 8)) e

pub size_asked_lem : (h : Header) {b : Bool} → in_domain h ≡ b → size_asked h ≡ cond b (says (header_size (fields_of h))) (refuse 8)
unfolding size_asked
size_asked_lem h e = ap (λ (b : Bool). cond b (says (header_size (fields_of h))) (refuse 8)) e

-- ---- for callers

-- what a size's answer says of the record
module _ (h : Header) (r : Result ℕ Error) (e : said r ≡ size_asked h) where
  pub size_said : (n : ℕ) → r ≡ Ok n → (in_domain h ≡ true) × (header_size (fields_of h) ≡ n)
  size_said n p = go (in_domain h) refl
    where
      go : (b : Bool) → in_domain h ≡ b → (in_domain h ≡ true) × (header_size (fields_of h) ≡ n)
      go true is =
          let a : says (header_size (fields_of h)) ≡ says n = sym (size_asked_lem h is) ∙ sym e ∙ ap said p in
          (is, cc)
      go false is = absurd (never (sym (sym (size_asked_lem h is) ∙ sym e ∙ ap said p)))

  pub size_refused : (k : Error) → r ≡ Err k → in_domain h ≡ false
  size_refused k p = go (in_domain h) refl
    where
      go : (b : Bool) → in_domain h ≡ b → in_domain h ≡ false
      go true is = absurd (never (sym (size_asked_lem h is) ∙ sym e ∙ ap said p))
      go false is = is

pub size_most : (on : Bool) (n len pads : ℕ) → n ≤ 15 → len ≤ 1088 → pads ≤ 262140 → size_for n on len pads ≤ 263308
size_most true n len pads p q r = omega arith
size_most false n len pads p q r = omega arith

pub size_small : (h : Header) → in_domain h ≡ true → header_size (fields_of h) ≤ 263308
unfolding header_size payload_length fields_of elements_of
size_small h e =
    let l = limits_of h e in
    let x = h.extensions in
    let names = take x.count x.ids in
    let sizes = take x.count x.lens in
    let n : ℕ = length (unpack names sizes x.bytes) in
    let few : n ≤ 32 = omega (
      arith,
      l.elements,
      length_unpack_few names sizes x.bytes,
      length-take x.count x.ids,
      min-le_left x.count (length x.ids),
    ) in
    size_most h.extension _ _ h.extensions_padding
    (omega (arith, l.sources, length-take h.csrc_count h.csrc, min-le_left h.csrc_count (length h.csrc)))
    (omega (arith, l.bytes, length_data_few names sizes x.bytes, heads_few (form_of h.extension_profile) n few))
    l.zeros
