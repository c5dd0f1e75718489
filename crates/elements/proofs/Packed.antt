-- What the arrays of a record say of its elements: how many there are, and how long their data are. Assumes nothing.
use mathlib.Core.Path.{◌≡◌, sym, ap, ap₂, ◌∙◌, refl}
use mathlib.Core.List.{List, [], ◌∷◌}
use Prim.Native.Nat.{ℕ, ◌+◌, ◌≤◌, suc}
use native.Mathlib.Nat.{min-le_left}
use native.Mathlib.Omega.{arith}
use lib.ListN.{length, take, drop, length-append, length-take, length-drop}
use lib.Seq.{length-take-le}
use Rattle.elements.specs.declared.Extensions.{Extensions}
use Rattle.elements.specs.Elements.{unpack, sum, data_of, elements_of, Packed, elements_in}

-- ---- elements read off the arrays

pub length_unpack : (ids lens bytes : List ℕ) → length ids ≡ length lens → length (unpack ids lens bytes) ≡ length ids
length_unpack [] lens bytes e = refl
length_unpack (i ∷ ids) [] bytes e = omega arith
length_unpack (i ∷ ids) (l ∷ lens) bytes e = ap suc (length_unpack ids lens (drop l bytes) (omega arith))

pub length_data : (ids lens bytes : List ℕ) → length ids ≡ length lens → sum lens ≤ length bytes →
    length (data_of (unpack ids lens bytes)) ≡ sum lens
length_data [] [] bytes e h = refl
length_data [] (l ∷ lens) bytes e h = omega arith
length_data (i ∷ ids) [] bytes e h = omega arith
length_data (i ∷ ids) (l ∷ lens) bytes e h =
    length-append (take l bytes) (data_of (unpack ids lens (drop l bytes)))
    ∙ ap₂ (λ (m n : ℕ). m + n) (length-take-le l bytes (omega arith))
    (length_data ids lens (drop l bytes) (omega arith) (rw length-drop (omega arith)))

-- .. and where an array is too short, no more than these
pub length_unpack_few : (ids lens bytes : List ℕ) → length (unpack ids lens bytes) ≤ length ids
length_unpack_few [] lens bytes = omega arith
length_unpack_few (i ∷ ids) [] bytes = omega arith
length_unpack_few (i ∷ ids) (l ∷ lens) bytes = omega (arith, length_unpack_few ids lens (drop l bytes))

pub length_data_few : (ids lens bytes : List ℕ) → length (data_of (unpack ids lens bytes)) ≤ sum lens
length_data_few [] lens bytes = omega arith
length_data_few (i ∷ ids) [] bytes = omega arith
length_data_few (i ∷ ids) (l ∷ lens) bytes =
    let rest = unpack ids lens (drop l bytes) in
    omega (
      arith,
      length-append (take l bytes) (data_of rest),
      length-take l bytes,
      min-le_left l (length bytes),
      length_data_few ids lens (drop l bytes),
    )

module _ (count : ℕ) (ids lens bytes : List ℕ) (p : Packed count ids lens bytes) where
  many : length (take count ids) ≡ count
  many = length-take-le count ids p.places

  pub as_many : length (take count ids) ≡ length (take count lens)
  as_many = many ∙ sym (length-take-le count lens p.lengths)

  pub length_elements_in : length (elements_in count ids lens bytes) ≡ count
  length_elements_in = length_unpack (take count ids) (take count lens) bytes as_many ∙ many

  pub length_data_in : length (data_of (elements_in count ids lens bytes)) ≡ sum (take count lens)
  length_data_in = length_data (take count ids) (take count lens) bytes as_many p.packed

abbrev pub PackedIn : Extensions → Type 0
PackedIn x = Packed x.count x.ids x.lens x.bytes

pub length_elements_of : (x : Extensions) → PackedIn x → length (elements_of x) ≡ x.count
unfolding elements_of
length_elements_of x p = length_elements_in x.count x.ids x.lens x.bytes p

pub length_data_of : (x : Extensions) → PackedIn x → length (data_of (elements_of x)) ≡ sum (take x.count x.lens)
unfolding elements_of
length_data_of x p = length_data_in x.count x.ids x.lens x.bytes p
