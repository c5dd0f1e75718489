-- A list of elements and the record that it is laid out in say each other: what is laid out reads back, and one element more in the
-- record is one more at the list's end. Assumes nothing.
use mathlib.Core.Path.{◌≡◌, refl, sym, ap, ap₂, ◌∙◌}
use mathlib.Core.Bool.{true, false, and-false}
use mathlib.Core.List.{List, [], ◌∷◌, ◌++◌, map, map-append, append-nil, append_assoc}
use mathlib.Core.Logic.{◌⊎◌, inl, inr}
use Prim.Native.Nat.{ℕ, zero, suc, ◌+◌, ◌-◌, ◌<◌, ◌≤◌}
use native.Mathlib.Nat.{add_assoc}
use native.Mathlib.Numerals.{add-one}
use native.Mathlib.Omega.{arith}
use lib.ListN.{length, take, drop, get_or, set, replicate, length-append, length-map}
use lib.Seq.{take_at, drop_at}
use lib.Dec.{leb}
use borrow.Author.Tests.{le-leb, lt-leb}
use Rattle.wire.specs.Part.{splice, pad_to}
use Rattle.wire.proofs.Part.{take_pad_to, pad_to_push, pad_to_on}
use Rattle.elements.specs.Elements.{Element, data_of, size_of, unpack, elements_of, lay_elements, pushed, room_for, sum}

-- ---- sums

-- one length more; past the list's end there is nothing more to add
sum_suc : (l : List ℕ) (i : ℕ) → sum (take (suc i) l) ≡ sum (take i l) + get_or l i 0
sum_suc [] zero = refl
sum_suc [] (suc i) = refl
sum_suc (m ∷ l) zero = omega arith
sum_suc (m ∷ l) (suc i) = ap (λ (k : ℕ). m + k) (sum_suc l i) ∙ sym (add_assoc m (sum (take i l)) (get_or l i 0))

pub sum_more : (l : List ℕ) (i : ℕ) → sum (take (i + 1) l) ≡ sum (take i l) + get_or l i 0
sum_more l i = ap (λ (k : ℕ). sum (take k l)) (add-one i) ∙ sum_suc l i

-- the lengths of the elements make up that of their data
pub sum_sizes : (es : List Element) → sum (map size_of es) ≡ length (data_of es)
sum_sizes [] = refl
sum_sizes (e ∷ es) = ap (λ (n : ℕ). size_of e + n) (sum_sizes es) ∙ sym (length-append e.bytes (data_of es))

-- ---- what is laid out reads back

unpack_packed : (es : List Element) (rest : List ℕ) → unpack (map (λ (e : Element). e.id) es) (map size_of es) (data_of es ++ rest) ≡ es
unpack_packed [] rest = refl
unpack_packed (e ∷ es) rest =
    let whole : e.bytes ++ data_of es ++ rest ≡ e.bytes ++ (data_of es ++ rest) = append_assoc e.bytes (data_of es) rest in
    ap₂ (λ (b : List ℕ) (l : List Element). record { id = e.id; bytes = b } ∷ l)
    (ap (take (size_of e)) whole ∙ take_at e.bytes (data_of es ++ rest) (size_of e) refl)
    (ap (λ (b : List ℕ). unpack (map (λ (d : Element). d.id) es) (map size_of es) b)
    (ap (drop (size_of e)) whole ∙ drop_at e.bytes (data_of es ++ rest) (size_of e) refl)
    ∙ unpack_packed es rest)

-- as many places as there are elements, of an array that holds something of each
pub take_laid : (n : ℕ) (f : Element → ℕ) (es : List Element) → take (length es) (pad_to n (map f es)) ≡ map f es
take_laid n f es = ap (λ (k : ℕ). take k (pad_to n (map f es))) (sym (length-map es f)) ∙ take_pad_to n (map f es)

pub elements_of_lay_elements : (es : List Element) → elements_of (lay_elements es) ≡ es
unfolding elements_of lay_elements pad_to
elements_of_lay_elements es =
    ap₂ (λ (is ls : List ℕ). unpack is ls (pad_to 1024 (data_of es))) (take_laid 32 (λ (e : Element). e.id) es) (take_laid 32 size_of es)
    ∙ unpack_packed es (replicate (1024 - length (data_of es)) 0)

-- ---- one element more

pub data_of_append : (es fs : List Element) → data_of (es ++ fs) ≡ data_of es ++ data_of fs
data_of_append [] fs = refl
data_of_append (e ∷ es) fs = ap (λ (b : List ℕ). e.bytes ++ b) (data_of_append es fs) ∙ sym (append_assoc e.bytes (data_of es) (data_of fs))

-- an array that holds something of each element, with that of one element more
push_laid : (n : ℕ) (f : Element → ℕ) (es : List Element) (e : Element) → length es < n →
    set (pad_to n (map f es)) (length es) (f e) ≡ pad_to n (map f (es ++ (e ∷ [])))
push_laid n f es e h =
    let l : length (map f es) ≡ length es = length-map es f in
    ap (λ (k : ℕ). set (pad_to n (map f es)) k (f e)) (sym l)
    ∙ pad_to_push n (map f es) (f e) (omega arith)
    ∙ ap (pad_to n) (sym (map-append f es (e ∷ [])))

pub pushed_lay_elements : (es : List Element) (e : Element) → length es < 32 → length (data_of es) + length e.bytes ≤ 1024 →
    pushed (lay_elements es) (length (data_of es)) e.id e.bytes ≡ lay_elements (es ++ (e ∷ []))
unfolding pushed lay_elements
pushed_lay_elements es e few fits i =
    record {
      count = snoc_length i;
      ids = push_laid 32 (λ (d : Element). d.id) es e few i;
      lens = push_laid 32 size_of es e few i;
      bytes = data_more i;
    }
  where
    snoc_length : length es + 1 ≡ length (es ++ (e ∷ []))
    snoc_length = sym (length-append es (e ∷ []))

    data_more : splice (pad_to 1024 (data_of es)) (length (data_of es)) e.bytes ≡ pad_to 1024 (data_of (es ++ (e ∷ [])))
    data_more =
        pad_to_on 1024 (data_of es) e.bytes fits
        ∙ ap (λ (b : List ℕ). pad_to 1024 (data_of es ++ b)) (sym (append-nil e.bytes))
        ∙ ap (pad_to 1024) (sym (data_of_append es (e ∷ [])))

-- ---- room for one element more

pub room : (es : List Element) (len : ℕ) → length es + 1 ≤ 32 → length (data_of es) + len ≤ 1024 → room_for es len ≡ true
room es len few fits = rw (le-leb (length es + 1) 32 few, le-leb (length (data_of es) + len) 1024 fits)

pub no_room : (es : List Element) (len : ℕ) → (32 < length es + 1) ⊎ (1024 < length (data_of es) + len) → room_for es len ≡ false
no_room es len (inl many) = rw (lt-leb (length es + 1) 32 many)
no_room es len (inr much) = rw (lt-leb (length (data_of es) + len) 1024 much) (and-false (leb (length es + 1) 32))
