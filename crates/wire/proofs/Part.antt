-- The laws of `splice` and `pad_to`, and of a part of a list. Assumes nothing.
use mathlib.Core.Path.{◌≡◌, refl, sym, ap, ap₂, ◌∙◌}
use mathlib.Core.List.{List, [], ◌∷◌, ◌++◌, append_assoc}
use Prim.Native.Nat.{ℕ, suc, ◌+◌, ◌-◌, ◌<◌, ◌≤◌}
use native.Mathlib.Nat.{sub-zero, add_assoc}
use native.Mathlib.Numerals.{add-one}
use native.Mathlib.Omega.{arith}
use lib.ListN.{length, take, drop, get_or, set, replicate, length-append, length-drop, length-replicate, take-append-drop, replicate-append-replicate}
use lib.Seq.{length-take-le, take_at, take-add, take-suc, take-take, take-append-le, drop_at, drop-cons, drop-drop, drop-append-le, drop-append-add, set_split, get_or-take, get_or-drop}
use borrow.Rule.Slice.PartMut.{put_mid}
use Rattle.wire.specs.Part.{splice, part, pad_to}

module _ {ℓ} {A : Type ℓ} where
  pub splice_nothing : (xs : List A) (at : ℕ) → splice xs at [] ≡ xs
  unfolding splice
  splice_nothing xs at =
      let e : at + 0 ≡ at = omega arith in
      ap (λ (k : ℕ). take at xs ++ drop k xs) e ∙ take-append-drop at xs

  pub length_splice : (xs : List A) (at : ℕ) (ys : List A) → at + length ys ≤ length xs → length (splice xs at ys) ≡ length xs
  unfolding splice
  length_splice xs at ys h =
      let l : length (take at xs) ≡ at = length-take-le at xs (omega arith) in
      simp (length-append, length-drop) (omega arith)

  head_length : (xs : List A) (at : ℕ) (ys : List A) → at ≤ length xs → length (take at xs ++ ys) ≡ at + length ys
  head_length xs at ys h = length-append (take at xs) ys ∙ ap (λ (k : ℕ). k + length ys) (length-take-le at xs h)

  seam : (xs : List A) (at : ℕ) (ys : List A) → splice xs at ys ≡ (take at xs ++ ys) ++ drop (at + length ys) xs
  unfolding splice
  seam xs at ys = sym (append_assoc (take at xs) ys (drop (at + length ys) xs))

  pub take_through : (xs : List A) (at : ℕ) (ys : List A) → at ≤ length xs → take (at + length ys) (splice xs at ys) ≡ take at xs ++ ys
  take_through xs at ys h =
      ap (take (at + length ys)) (seam xs at ys)
      ∙ take_at (take at xs ++ ys) (drop (at + length ys) xs) (at + length ys) (head_length xs at ys h)

  pub drop_splice : (xs : List A) (at : ℕ) (ys : List A) → at ≤ length xs → drop (at + length ys) (splice xs at ys) ≡ drop (at + length ys) xs
  drop_splice xs at ys h =
      ap (drop (at + length ys)) (seam xs at ys)
      ∙ drop_at (take at xs ++ ys) (drop (at + length ys) xs) (at + length ys) (head_length xs at ys h)

  -- two parts in a row are one
  pub splice_on : (xs : List A) (at : ℕ) (ys zs : List A) → at ≤ length xs → splice (splice xs at ys) (at + length ys) zs ≡ splice xs at (ys ++ zs)
  unfolding splice
  splice_on xs at ys zs h =
      let e : at + length ys + length zs ≡ at + length (ys ++ zs) = omega (arith, length-append ys zs) in
      let d : drop (at + length ys + length zs) (splice xs at ys) ≡ drop (at + length (ys ++ zs)) xs =
      sym (drop-drop (length zs) (at + length ys) (splice xs at ys))
      ∙ ap (drop (length zs)) (drop_splice xs at ys h)
      ∙ drop-drop (length zs) (at + length ys) xs
      ∙ ap (λ (k : ℕ). drop k xs) e in
      ap₂ (λ (l r : List A). l ++ (zs ++ r)) (take_through xs at ys h) d
      ∙ append_assoc (take at xs) ys (zs ++ drop (at + length (ys ++ zs)) xs)
      ∙ ap (λ (r : List A). take at xs ++ r) (sym (append_assoc ys zs (drop (at + length (ys ++ zs)) xs)))

  -- the same, where the second part's place is known by a number
  pub splice_behind : (xs : List A) (at : ℕ) (ys : List A) (k : ℕ) (zs : List A) → at ≤ length xs → k ≡ at + length ys →
      splice (splice xs at ys) k zs ≡ splice xs at (ys ++ zs)
  splice_behind xs at ys k zs h e = ap (λ (n : ℕ). splice (splice xs at ys) n zs) e ∙ splice_on xs at ys zs h

  -- a store is a part of one place
  pub splice_one : (xs : List A) (i : ℕ) (v : A) → i < length xs → set xs i v ≡ splice xs i (v ∷ [])
  unfolding splice
  splice_one xs i v h =
      let e : suc i ≡ i + 1 = omega arith in
      set_split xs i v h ∙ ap (λ (k : ℕ). take i xs ++ (v ∷ drop k xs)) e

  -- a store right behind a part makes the part one place longer
  pub splice_push : (xs : List A) (at : ℕ) (ys : List A) (v : A) → at + length ys < length xs →
      set (splice xs at ys) (at + length ys) v ≡ splice xs at (ys ++ (v ∷ []))
  splice_push xs at ys v h =
      let within : at + length ys < length (splice xs at ys) = rw (length_splice xs at ys (omega arith)) h in
      splice_one (splice xs at ys) (at + length ys) v within ∙ splice_on xs at ys (v ∷ []) (omega arith)

  -- a turn of a loop that copies ys
  pub splice_more : (xs : List A) (at : ℕ) (ys : List A) (j : ℕ) (d : A) → at + length ys ≤ length xs → j < length ys →
      set (splice xs at (take j ys)) (at + j) (get_or ys j d) ≡ splice xs at (take (j + 1) ys)
  splice_more xs at ys j d h hj =
      let l : length (take j ys) ≡ j = length-take-le j ys (omega arith) in
      ap (λ (k : ℕ). set (splice xs at (take j ys)) (at + k) (get_or ys j d)) (sym l)
      ∙ splice_push xs at (take j ys) (get_or ys j d) (omega arith)
      ∙ ap (splice xs at) (sym (take-suc ys j d hj) ∙ ap (λ (k : ℕ). take k ys) (sym (add-one j)))

  -- what stands before a part may be counted to it
  pub splice_from : (xs : List A) (at : ℕ) (ys : List A) → at ≤ length xs → splice xs 0 (take at xs ++ ys) ≡ splice xs at ys
  unfolding splice
  splice_from xs at ys h =
      let l : 0 + length (take at xs ++ ys) ≡ at + length ys = omega (arith, head_length xs at ys h) in
      append_assoc (take at xs) ys (drop (0 + length (take at xs ++ ys)) xs)
      ∙ ap (λ (k : ℕ). take at xs ++ (ys ++ drop k xs)) l

  -- the part itself, read back
  pub part_of_splice : (xs : List A) (at : ℕ) (ys : List A) → at ≤ length xs → take (length ys) (drop at (splice xs at ys)) ≡ ys
  unfolding splice
  part_of_splice xs at ys h =
      ap (take (length ys)) (drop_at (take at xs) (ys ++ drop (at + length ys) xs) at (length-take-le at xs h))
      ∙ take_at ys (drop (at + length ys) xs) (length ys) refl

  -- a part that lies within a list is as long as it is to be
  pub length_part : (xs : List A) (at len : ℕ) → at + len ≤ length xs → length (part xs at len) ≡ len
  length_part xs at len h = length-take-le len (drop at xs) (rw length-drop (omega arith))

  -- a turn of a loop that copies a part of ys
  pub splice_part : (xs : List A) (at : ℕ) (ys : List A) (from n j : ℕ) (d : A) → at + n ≤ length xs → from + n ≤ length ys → j < n →
      set (splice xs at (take j (part ys from n))) (at + j) (get_or ys (from + j) d) ≡ splice xs at (take (j + 1) (part ys from n))
  splice_part xs at ys from n j d fits within h =
      let l : length (part ys from n) ≡ n = length_part ys from n within in
      ap (set (splice xs at (take j (part ys from n))) (at + j)) (sym (get_or-take n (drop from ys) j d h ∙ get_or-drop from ys j d))
      ∙ splice_more xs at (part ys from n) j d (omega arith) (omega arith)

-- a part put into a part that was lent, `&mut xs[a..a + k]`, is one put into the whole
pub splice_lent : {A : Type 0} (a k : ℕ) (xs : List A) (at : ℕ) (ys : List A) → at + length ys ≤ k → a + k ≤ length xs →
    put_mid a k xs (splice (take k (drop a xs)) at ys) ≡ splice xs (a + at) ys
unfolding splice
splice_lent {A} a k xs at ys h g =
    let rest : List A = drop a xs in
    let n : ℕ = at + length ys in
    let whole : length (take k rest) ≡ k = length-take-le k rest (rw length-drop (omega arith)) in
    let behind : drop n (take k rest) ++ drop k rest ≡ drop (a + at + length ys) xs =
    sym (drop-append-le n (take k rest) (drop k rest) (omega arith))
    ∙ ap (drop n) (take-append-drop k rest)
    ∙ drop-drop n a xs
    ∙ ap (λ (m : ℕ). drop m xs) (sym (add_assoc a at (length ys))) in
    ap (λ (l : List A). take a xs ++ l)
    (append_assoc (take at (take k rest)) (ys ++ drop n (take k rest)) (drop k rest)
    ∙ ap₂ (λ (l r : List A). l ++ r) (take-take at k rest (omega arith))
    (append_assoc ys (drop n (take k rest)) (drop k rest) ∙ ap (λ (l : List A). ys ++ l) behind))
    ∙ sym (append_assoc (take a xs) (take at rest) (ys ++ drop (a + at + length ys) xs))
    ∙ ap (λ (l : List A). l ++ (ys ++ drop (a + at + length ys) xs)) (sym (take-add a at xs))

-- a part that is lent and written whole
pub put_whole : {A : Type 0} (at k : ℕ) (xs ys zs : List A) → ys ≡ zs → k ≡ at + length zs → put_mid at (k - at) xs ys ≡ splice xs at zs
unfolding splice
put_whole at k xs ys zs e h =
    let n : k - at ≡ length zs = omega arith in
    ap₂ (λ (l : List _) (m : ℕ). take at xs ++ (l ++ drop m (drop at xs))) e n
    ∙ ap (λ (l : List _). take at xs ++ (zs ++ l)) (drop-drop (length zs) at xs)

-- ---- what stands at a place

-- the byte at a place stands in front of the rest
pub drop_front : (s : List ℕ) (at : ℕ) → at < length s → drop at s ≡ get_or s at 0 ∷ drop (at + 1) s
drop_front s at h = drop-cons s at 0 h ∙ ap (λ (k : ℕ). get_or s at 0 ∷ drop k s) (sym (add-one at))

-- and so do two
pub drop_two : (s : List ℕ) (at : ℕ) → at + 1 < length s → drop at s ≡ get_or s at 0 ∷ get_or s (at + 1) 0 ∷ drop (at + 2) s
drop_two s at h =
    let two : at + 1 + 1 ≡ at + 2 = omega arith in
    drop_front s at (omega arith)
    ∙ ap (λ (l : List ℕ). get_or s at 0 ∷ l) (drop_front s (at + 1) h ∙ ap (λ (k : ℕ). get_or s (at + 1) 0 ∷ drop k s) two)

-- ---- pad_to

pub length_pad_to : (n : ℕ) (xs : List ℕ) → length xs ≤ n → length (pad_to n xs) ≡ n
unfolding pad_to
length_pad_to n xs h = simp (length-append, length-replicate) (omega arith)

pub pad_to_nothing : (n : ℕ) → pad_to n [] ≡ replicate n 0
unfolding pad_to
pad_to_nothing n = ap (λ (k : ℕ). replicate k 0) (sub-zero n)

pub take_pad_to : (n : ℕ) (xs : List ℕ) → take (length xs) (pad_to n xs) ≡ xs
unfolding pad_to
take_pad_to n xs = take_at xs (replicate (n - length xs) 0) (length xs) refl

-- a part of two lists that lies within the first
pub part_append {ℓ} : {A : Type ℓ} (xs ys : List A) (at len : ℕ) → at + len ≤ length xs → part (xs ++ ys) at len ≡ part xs at len
part_append xs ys at len h =
    ap (take len) (drop-append-le at xs ys (omega arith)) ∙ take-append-le len (drop at xs) ys (rw length-drop (omega arith))

-- a part of a list's first places
pub part_take {ℓ} : {A : Type ℓ} (n : ℕ) (xs : List A) (at len : ℕ) → n ≤ length xs → at + len ≤ n → part (take n xs) at len ≡ part xs at len
part_take n xs at len h g =
    let l : length (take n xs) ≡ n = length-take-le n xs h in
    sym (part_append (take n xs) (drop n xs) at len (omega arith)) ∙ ap (λ l. part l at len) (take-append-drop n xs)

drop_zeros : (m k : ℕ) → drop m (replicate {A = ℕ} (m + k) 0) ≡ replicate k 0
drop_zeros m k =
    ap (drop {A = ℕ} m) (sym (replicate-append-replicate m k 0))
    ∙ drop_at {A = ℕ} (replicate m 0) (replicate k 0) m (length-replicate m 0)

-- several places more
pub pad_to_on : (n : ℕ) (xs ys : List ℕ) → length xs + length ys ≤ n → splice (pad_to n xs) (length xs) ys ≡ pad_to n (xs ++ ys)
unfolding splice pad_to
pad_to_on n xs ys h =
    let left : n - length xs ≡ length ys + (n - length (xs ++ ys)) = rw length-append (omega arith) in
    ap₂ (λ (l r : List ℕ). l ++ (ys ++ r)) (take_at xs (replicate (n - length xs) 0) (length xs) refl)
    (drop-append-add xs (replicate (n - length xs) 0) (length ys)
    ∙ ap (λ (k : ℕ). drop (length ys) (replicate k 0)) left
    ∙ drop_zeros (length ys) (n - length (xs ++ ys)))
    ∙ sym (append_assoc xs ys (replicate (n - length (xs ++ ys)) 0))

-- one place more
pub pad_to_push : (n : ℕ) (xs : List ℕ) (v : ℕ) → length xs < n → set (pad_to n xs) (length xs) v ≡ pad_to n (xs ++ (v ∷ []))
pad_to_push n xs v h =
    splice_one (pad_to n xs) (length xs) v (rw (length_pad_to n xs (omega arith)) h) ∙ pad_to_on n xs (v ∷ []) (omega arith)
