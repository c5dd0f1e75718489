-- Runs of elements: how the first element of an id is found turn by turn, and how a run of a record's elements is laid out behind
-- others. Assumes nothing.
use mathlib.Core.Path.{◌≡◌, refl, sym, ap, ap₂, ◌∙◌}
use mathlib.Core.List.{List, [], ◌∷◌, ◌++◌, map, map-append, append-nil, append_assoc}
use Prim.Native.Nat.{ℕ, zero, suc, ◌+◌, ◌-◌, ◌<◌, ◌≤◌}
use native.Mathlib.Nat.{zero-add}
use native.Mathlib.Omega.{arith}
use lib.ListN.{length, take, drop, get_or, length-append, length-map, length-drop, take-append-drop}
use lib.Seq.{length-take-le, get_or-take, take-add, take_at, drop_at, take-length, take_all, take-nil, drop-nil, take-take}
use Rattle.std.specs.Prelude.{Bool, true, false, Some, None, eqb}
use Rattle.std.specs.List.{position_from}
use Rattle.wire.specs.Part.{splice, part, pad_to}
use Rattle.wire.proofs.Part.{part_take, length_part, pad_to_on}
use Rattle.elements.specs.declared.Extensions.{Extensions}
use Rattle.elements.specs.declared.Run.{Run}
use Rattle.elements.specs.Elements.{Element, data_of, size_of, sum, unpack, elements_of, lay_elements, pushed}
use Rattle.elements.specs.Runs.{Shown, Stands, Holds, before, behind, run_of, element, replaced_at, kept}
use Rattle.elements.proofs.Elements.{data_of_append, pushed_lay_elements}
use Rattle.elements.proofs.Packed.{PackedIn, as_many, length_elements_of, length_data_of}

-- ---- the first element of an id

-- the place k of the id, counted from i on, is that of a run: it stands behind `turns` elements
pub record FoundAt (id i at : ℕ) (es : List Element) (k : ℕ) : Type 0 where
  pub turns : ℕ
  pub within : turns < length es
  pub place : k ≡ i + turns
  pub is : run_of id i at es
      ≡ Some (record { first = i + turns; count = 1; at = at + sum (take turns (map size_of es)); len = get_or (map size_of es) turns 0 })

pub found_at : (id i at : ℕ) (es : List Element) (k : ℕ) → position_from (λ (n : ℕ). eqb n id) i (map (λ (e : Element). e.id) es) ≡ Some k →
    FoundAt id i at es k
found_at id i at [] k p = absurd (cc)
found_at id i at (e ∷ es) k p = go (eqb e.id id) refl (found_at id (i + 1) (at + size_of e) es k)
  where
    go : (b : Bool) → eqb e.id id ≡ b →
        (position_from (λ (n : ℕ). eqb n id) (i + 1) (map (λ (d : Element). d.id) es) ≡ Some k → FoundAt id (i + 1) (at + size_of e) es k) →
        FoundAt id i at (e ∷ es) k
    go true q rest =
        let here : Some i ≡ Some k = rw q at p in
        let same : i ≡ k = cc in
        record {
          turns = 0;
          within = omega arith;
          place = omega arith;
          is = rw q (ap₂ (λ (f a : ℕ). Some (record { first = f; count = 1; at = a; len = size_of e })) (omega arith) (omega arith));
        }
    go false q rest =
        let f : FoundAt id (i + 1) (at + size_of e) es k = rest (rw q at p) in
        record {
          turns = suc f.turns;
          within = omega (arith, f.within);
          place = omega (arith, f.place);
          is =
              rw q
              (f.is
              ∙ ap₂ (λ (n a : ℕ). Some (record { first = n; count = 1; at = a; len = get_or (map size_of es) f.turns 0 })) (omega arith) (omega arith));
        }

pub found_none : (id i at : ℕ) (es : List Element) → position_from (λ (n : ℕ). eqb n id) i (map (λ (e : Element). e.id) es) ≡ None →
    run_of id i at es ≡ None
found_none id i at [] p = refl
found_none id i at (e ∷ es) p = go (eqb e.id id) refl (found_none id (i + 1) (at + size_of e) es)
  where
    go : (b : Bool) → eqb e.id id ≡ b →
        (position_from (λ (n : ℕ). eqb n id) (i + 1) (map (λ (d : Element). d.id) es) ≡ None → run_of id (i + 1) (at + size_of e) es ≡ None) →
        run_of id i at (e ∷ es) ≡ None
    go true q rest = let some : Some i ≡ None = rw q at p in absurd (cc)
    go false q rest = rw q (rest (rw q at p))

-- .. in arrays that hold the elements' ids and lengths
module _ (id count : ℕ) (ids lens : List ℕ) (es : List Element) (s : Shown es count ids lens) where
  pub run_found : (k : ℕ) → position_from (λ (n : ℕ). eqb n id) 0 (take count ids) ≡ Some k →
      run_of id 0 0 es ≡ Some (record { first = k; count = 1; at = sum (take k lens); len = get_or lens k 0 })
  run_found k p =
      let f : FoundAt id 0 0 es k = found_at id 0 0 es k (rw s.names p) in
      let within : f.turns < count = omega (arith, s.many, f.within) in
      let same : f.turns ≡ k = omega (arith, f.place) in
      f.is
      ∙ ap₂ (λ (m n : ℕ). Some (record { first = m; count = 1; at = n; len = get_or (map size_of es) f.turns 0 })) (zero-add f.turns)
      (zero-add (sum (take f.turns (map size_of es))))
      ∙ ap (λ (l : List ℕ). Some (record { first = f.turns; count = 1; at = sum (take f.turns l); len = get_or l f.turns 0 })) s.sizes
      ∙ ap₂ (λ (l : List ℕ) (n : ℕ). Some (record { first = f.turns; count = 1; at = sum l; len = n }))
      (take-take f.turns count lens (omega arith)) (get_or-take count lens f.turns 0 within)
      ∙ ap (λ (n : ℕ). Some (record { first = n; count = 1; at = sum (take n lens); len = get_or lens n 0 })) same

  pub run_none : position_from (λ (n : ℕ). eqb n id) 0 (take count ids) ≡ None → run_of id 0 0 es ≡ None
  run_none p = found_none id 0 0 es (rw s.names p)

-- ---- a run behind others

-- the elements of a record, as its arrays hold them

unpack_names : (ids lens bytes : List ℕ) → length ids ≡ length lens → map (λ (e : Element). e.id) (unpack ids lens bytes) ≡ ids
unpack_names [] lens bytes e = refl
unpack_names (i ∷ ids) [] bytes e = absurd (omega arith)
unpack_names (i ∷ ids) (l ∷ lens) bytes e = ap (λ (s : List ℕ). i ∷ s) (unpack_names ids lens (drop l bytes) (omega arith))

unpack_sizes : (ids lens bytes : List ℕ) → length ids ≡ length lens → sum lens ≤ length bytes →
    map size_of (unpack ids lens bytes) ≡ lens
unpack_sizes [] [] bytes e h = refl
unpack_sizes [] (l ∷ lens) bytes e h = absurd (omega arith)
unpack_sizes (i ∷ ids) [] bytes e h = absurd (omega arith)
unpack_sizes (i ∷ ids) (l ∷ lens) bytes e h =
    ap₂ (λ (n : ℕ) (s : List ℕ). n ∷ s) (length-take-le l bytes (omega arith))
    (unpack_sizes ids lens (drop l bytes) (omega arith) (rw length-drop (omega arith)))

unpack_data : (ids lens bytes : List ℕ) → length ids ≡ length lens → data_of (unpack ids lens bytes) ≡ take (sum lens) bytes
unpack_data [] [] bytes e = refl
unpack_data [] (l ∷ lens) bytes e = absurd (omega arith)
unpack_data (i ∷ ids) [] bytes e = absurd (omega arith)
unpack_data (i ∷ ids) (l ∷ lens) bytes e =
    ap (λ (s : List ℕ). take l bytes ++ s) (unpack_data ids lens (drop l bytes) (omega arith)) ∙ sym (take-add l (sum lens) bytes)

module _ (x : Extensions) (p : PackedIn x) where
  even : length (take x.count x.ids) ≡ length (take x.count x.lens)
  even = as_many x.count x.ids x.lens x.bytes p

  pub shown : Shown (elements_of x) x.count x.ids x.lens
  unfolding elements_of
  shown =
      record {
        many = length_elements_of x p;
        names = unpack_names (take x.count x.ids) (take x.count x.lens) x.bytes even;
        sizes = unpack_sizes (take x.count x.ids) (take x.count x.lens) x.bytes even p.packed;
      }

  data_shown : data_of (elements_of x) ≡ take (sum (take x.count x.lens)) x.bytes
  unfolding elements_of
  data_shown = unpack_data (take x.count x.ids) (take x.count x.lens) x.bytes even

-- ---- a run behind other elements

map_part : (f : Element → ℕ) (es : List Element) (i n : ℕ) → map f (part es i n) ≡ part (map f es) i n
map_part f [] i n =
    ap (λ (l : List Element). map f (take n l)) (drop-nil i)
    ∙ ap (map f) (take-nil n)
    ∙ sym (ap (take n) (drop-nil i) ∙ take-nil n)
map_part f (e ∷ es) (suc i) n = map_part f es i n
map_part f (e ∷ es) zero zero = refl
map_part f (e ∷ es) zero (suc n) = ap (λ (l : List ℕ). f e ∷ l) (map_part f es zero n)

-- the data of the elements up to an index come first, then those of the elements from it on
pub data_split : (i : ℕ) (es : List Element) → data_of es ≡ data_of (take i es) ++ data_of (drop i es)
data_split i es = ap data_of (sym (take-append-drop i es)) ∙ data_of_append (take i es) (drop i es)

data_part : (es : List Element) (i n : ℕ) →
    data_of (part es i n) ≡ part (data_of es) (length (data_of (take i es))) (length (data_of (part es i n)))
data_part es i n =
    let all : data_of es ≡ data_of (take i es) ++ (data_of (part es i n) ++ data_of (drop n (drop i es))) =
    data_split i es ∙ ap (λ (l : List ℕ). data_of (take i es) ++ l) (data_split n (drop i es)) in
    sym
    (ap (λ (l : List ℕ). part l (length (data_of (take i es))) (length (data_of (part es i n)))) all
    ∙ ap (take (length (data_of (part es i n))))
    (drop_at (data_of (take i es)) (data_of (part es i n) ++ data_of (drop n (drop i es))) (length (data_of (take i es))) refl)
    ∙ take_at (data_of (part es i n)) (data_of (drop n (drop i es))) (length (data_of (part es i n))) refl)

-- an array that holds something of each element, with that of several elements more
laid_on : (n : ℕ) (f : Element → ℕ) (es fs : List Element) → length es + length fs ≤ n →
    splice (pad_to n (map f es)) (length es) (map f fs) ≡ pad_to n (map f (es ++ fs))
laid_on n f es fs h =
    let l : length (map f es) ≡ length es = length-map es f in
    let m : length (map f fs) ≡ length fs = length-map fs f in
    ap (λ (k : ℕ). splice (pad_to n (map f es)) k (map f fs)) (sym l)
    ∙ pad_to_on n (map f es) (map f fs) (omega arith)
    ∙ ap (pad_to n) (sym (map-append f es fs))

module _ (x : Extensions) (p : PackedIn x) (r : Run) (s : Stands r (elements_of x)) where
  abbrev named : List Element
  named = part (elements_of x) r.first r.count

  many_named : length named ≡ r.count
  many_named = length_part (elements_of x) r.first r.count s.within

  run_shown : (f : Element → ℕ) (xs : List ℕ) → x.count ≤ length xs → map f (elements_of x) ≡ take x.count xs →
      part xs r.first r.count ≡ map f named
  run_shown f xs h e =
      let within : r.first + r.count ≤ x.count = omega (arith, s.within, length_elements_of x p) in
      sym
      (map_part f (elements_of x) r.first r.count
      ∙ ap (λ (l : List ℕ). part l r.first r.count) e
      ∙ part_take x.count xs r.first r.count h within)

  size_named : r.len ≡ length (data_of named)
  size_named =
      let both : length (data_of (take (r.first + r.count) (elements_of x)))
      ≡ length (data_of (take r.first (elements_of x))) + length (data_of named) =
      ap (λ (l : List Element). length (data_of l)) (take-add r.first r.count (elements_of x))
      ∙ ap length (data_of_append (take r.first (elements_of x)) named)
      ∙ length-append (data_of (take r.first (elements_of x))) (data_of named) in
      omega (arith, s.from, s.to)

  ends : r.at + r.len ≤ sum (take x.count x.lens)
  ends =
      let i : ℕ = r.first + r.count in
      let all : length (data_of (elements_of x)) ≡ length (data_of (take i (elements_of x))) + length (data_of (drop i (elements_of x))) =
      ap length (data_split i (elements_of x)) ∙ length-append (data_of (take i (elements_of x))) (data_of (drop i (elements_of x))) in
      omega (arith, s.to, length_data_of x p)

  pub run_data : part x.bytes r.at r.len ≡ data_of named
  run_data =
      sym
      (data_part (elements_of x) r.first r.count
      ∙ ap₂ (part (data_of (elements_of x))) (sym s.from) (sym size_named)
      ∙ ap (λ (l : List ℕ). part l r.at r.len) (data_shown x p)
      ∙ part_take (sum (take x.count x.lens)) x.bytes r.at r.len p.packed ends)

  pub kept_laid : (es : List Element) → length es + r.count ≤ 32 → length (data_of es) + r.len ≤ 1024 →
      kept (lay_elements es) (length (data_of es)) x r ≡ lay_elements (es ++ part (elements_of x) r.first r.count)
  unfolding kept lay_elements
  kept_laid es few fits i =
      record {
        count = count_more i;
        ids = (ap (splice (pad_to 32 (map (λ (e : Element). e.id) es)) (length es))
            (run_shown (λ (e : Element). e.id) x.ids p.places (shown x p).names)
            ∙ laid_on 32 (λ (e : Element). e.id) es named few_named) i;
        lens = (ap (splice (pad_to 32 (map size_of es)) (length es)) (run_shown size_of x.lens p.lengths (shown x p).sizes)
            ∙ laid_on 32 size_of es named few_named) i;
        bytes = (ap (splice (pad_to 1024 (data_of es)) (length (data_of es))) run_data
            ∙ pad_to_on 1024 (data_of es) (data_of named) (omega (arith, size_named))
            ∙ ap (pad_to 1024) (sym (data_of_append es named))) i;
      }
    where
      few_named : length es + length named ≤ 32
      few_named = omega (arith, many_named)

      count_more : length es + r.count ≡ length (es ++ named)
      count_more = ap (λ (n : ℕ). length es + n) (sym many_named) ∙ sym (length-append es named)

-- ---- a run replaced

pub packed_by : (x : Extensions) (r : Run) → length x.ids ≡ 32 → length x.lens ≡ 32 → length x.bytes ≡ 1024 →
    Holds x r → PackedIn x
packed_by x r ids lens bytes h =
    record { places = omega (arith, h.few); lengths = omega (arith, h.few); packed = omega (arith, h.fits) }

-- where a run lies
pub record Bounded (x : Extensions) (r : Run) : Type 0 where
  pub within : r.first + r.count ≤ x.count
  pub few : x.count ≤ 32
  pub ends : r.at + r.len ≤ sum (take x.count x.lens)
  pub fits : sum (take x.count x.lens) ≤ 1024

module _ (x : Extensions) (p : PackedIn x) (r : Run) (h : Holds x r) where
  pub bounded : Bounded x r
  bounded =
      record {
        within = omega (arith, h.stands.within, length_elements_of x p);
        few = h.few;
        ends = ends x p r h.stands;
        fits = h.fits;
      }

  -- the elements in front of the run, and the run of those behind it
  abbrev front : List Element
  front = take r.first (elements_of x)

  abbrev rest : Run
  rest = behind r x.count (sum (take x.count x.lens))

  stands_before : Stands (before r) (elements_of x)
  stands_before =
      let e : 0 + r.first ≡ r.first = omega arith in
      record {
        within = omega (arith, h.stands.within);
        from = refl;
        to = omega (arith, h.stands.from, ap (λ (k : ℕ). length (data_of (take k (elements_of x)))) e);
      }

  stands_behind : Stands rest (elements_of x)
  stands_behind =
      let k : ℕ = r.first + r.count in
      let many : length (elements_of x) ≡ x.count = length_elements_of x p in
      let e : k + (x.count - k) ≡ length (elements_of x) = omega (arith, bounded) in
      let all : length (data_of (take (k + (x.count - k)) (elements_of x))) ≡ length (data_of (elements_of x)) =
      ap (λ (n : ℕ). length (data_of (take n (elements_of x)))) e
      ∙ ap (λ (l : List Element). length (data_of l)) (take-length (elements_of x)) in
      record {
        within = omega arith;
        from = h.stands.to;
        to = omega (arith, all, length_data_of x p, bounded);
      }

  pub front_many : length front ≡ r.first
  front_many = length-take-le r.first (elements_of x) (omega (arith, h.stands.within))

  front_data : length (data_of front) ≡ r.at
  front_data = sym h.stands.from

  pub front_laid : kept (lay_elements []) 0 x (before r) ≡ lay_elements front
  front_laid =
      kept_laid x p (before r) stands_before [] (omega (arith, bounded)) (omega (arith, bounded))

  -- the elements behind the run, behind others
  back_laid : (es : List Element) → length es + (x.count - (r.first + r.count)) ≤ 32 →
      length (data_of es) + (sum (take x.count x.lens) - (r.at + r.len)) ≤ 1024 →
      kept (lay_elements es) (length (data_of es)) x rest
      ≡ lay_elements (es ++ drop (r.first + r.count) (elements_of x))
  back_laid es few' fits' =
      let k : ℕ = r.first + r.count in
      let l : length (drop k (elements_of x)) ≤ x.count - k = rw (length-drop k (elements_of x), length_elements_of x p) (omega arith) in
      kept_laid x p rest stands_behind es few' fits'
      ∙ ap (λ (b : List Element). lay_elements (es ++ b)) (take_all (x.count - k) (drop k (elements_of x)) l)

  pub without_laid : kept (lay_elements front) r.at x rest
      ≡ lay_elements (replaced_at r [] (elements_of x))
  without_laid =
      ap (λ (n : ℕ). kept (lay_elements front) n x rest) (sym front_data)
      ∙ back_laid front (omega (arith, front_many, bounded)) (omega (arith, front_data, bounded))

  module _ (id : ℕ) (bytes : List ℕ) (one : x.count - r.count < 32)
      (room : sum (take x.count x.lens) - r.len + length bytes ≤ 1024) where
    abbrev put : List Element
    put = element id bytes ∷ []

    put_data : length (data_of (front ++ put)) ≡ r.at + length bytes
    put_data =
        ap length (data_of_append front put ∙ ap (λ (b : List ℕ). data_of front ++ b) (append-nil bytes))
        ∙ length-append (data_of front) bytes
        ∙ ap (λ (n : ℕ). n + length bytes) front_data

    pub put_laid : pushed (lay_elements front) r.at id bytes
        ≡ lay_elements (front ++ put)
    put_laid =
        ap (λ (n : ℕ). pushed (lay_elements front) n id bytes) (sym front_data)
        ∙ pushed_lay_elements front (element id bytes) (omega (arith, front_many, bounded)) (omega (arith, front_data, bounded))

    pub with_laid : kept (lay_elements (front ++ put)) (r.at + length bytes) x rest
        ≡ lay_elements (replaced_at r put (elements_of x))
    with_laid =
        ap (λ (n : ℕ). kept (lay_elements (front ++ put)) n x rest) (sym put_data)
        ∙ back_laid (front ++ put) (omega (arith, length-append front put, front_many, bounded)) (omega (arith, put_data, bounded))
        ∙ ap lay_elements (append_assoc front put (drop (r.first + r.count) (elements_of x)))
