-- The first element of an id stands behind elements of other ids, so that each change is one run of the list replaced. Assumes
-- nothing.
use mathlib.Core.Path.{◌≡◌, refl, sym, ap, ap₂, subst, ◌∙◌}
use mathlib.Core.Bool.{Bool, true, false}
use mathlib.Core.List.{List, [], ◌∷◌, ◌++◌, append-nil, append_assoc}
use mathlib.Core.Logic.{◌⊎◌, inl, inr, ⊎_elim}
use Prim.Native.Nat.{ℕ, ◌+◌, ◌-◌, ◌≤◌}
use native.Mathlib.Nat.{zero-add, add-zero}
use native.Mathlib.Omega.{arith}
use lib.Dec.{eqb}
use lib.ListN.{length, take, drop, length-append, length-drop, drop_of_length-le}
use lib.Seq.{length-take-le, take_at, drop_at, take-length}
use borrow.Author.Tests.{eqb-true, eqb-false, eq-eqb, ne_eqb}
use Rattle.std.specs.Prelude.{Option, Some, None}
use Rattle.elements.specs.declared.Extensions.{Extensions}
use Rattle.elements.specs.declared.Run.{Run}
use Rattle.elements.specs.Elements.{Element, data_of, size_of, sum, elements_of}
use Rattle.elements.specs.Named.{absent, at, find, replace, remove, append, Absent, First}
use Rattle.elements.specs.Runs.{Stands, Holds, run_of, element, replaced_at}
use Rattle.elements.proofs.Elements.{data_of_append}
use Rattle.elements.proofs.Packed.{PackedIn, length_elements_of, length_data_of}
use Rattle.elements.proofs.Runs.{data_split}

-- ---- absent-or-first no element has the id, or one is the first that has it

pub absent_or_first : (id : ℕ) (es : List Element) → Absent id es ⊎ First id es
absent_or_first id [] = inl tt
absent_or_first id (e ∷ es) = go (eqb e.id id) refl (absent_or_first id es)
  where
    go : (b : Bool) → eqb e.id id ≡ b → Absent id es ⊎ First id es → Absent id (e ∷ es) ⊎ First id (e ∷ es)
    go true q s = inr (record { front = []; held = e; back = es; whole = refl; others = tt; named = eqb-true e.id id q })
    go false q (inl none) = inl (eqb-false e.id id q, none)
    go false q (inr f) =
        inr
        (record {
          front = e ∷ f.front;
          held = f.held;
          back = f.back;
          whole = ap (λ (l : List Element). e ∷ l) f.whole;
          others = (eqb-false e.id id q, f.others);
          named = f.named;
        })

-- ---- elements of other ids are passed

module _ (id : ℕ) (rest : List Element) where
  find_past : (place : ℕ) (front : List Element) → Absent id front →
      find id place (front ++ rest) ≡ find id (place + length (data_of front)) rest
  find_past place [] n = ap (λ (k : ℕ). find id k rest) (sym (add-zero place))
  find_past place (e ∷ front) n =
      let more : place + size_of e + length (data_of front) ≡ place + length (data_of (e ∷ front)) =
      omega (arith, length-append e.bytes (data_of front)) in
      rw (ne_eqb e.id id n.0) (find_past (place + size_of e) front n.1 ∙ ap (λ (k : ℕ). find id k rest) more)

  run_past : (i place : ℕ) (front : List Element) → Absent id front →
      run_of id i place (front ++ rest) ≡ run_of id (i + length front) (place + length (data_of front)) rest
  run_past i place [] n = ap₂ (λ (j k : ℕ). run_of id j k rest) (sym (add-zero i)) (sym (add-zero place))
  run_past i place (e ∷ front) n =
      let more : place + size_of e + length (data_of front) ≡ place + length (data_of (e ∷ front)) =
      omega (arith, length-append e.bytes (data_of front)) in
      let one : i + 1 + length front ≡ i + length (e ∷ front) = omega arith in
      rw (ne_eqb e.id id n.0) (run_past (i + 1) (place + size_of e) front n.1 ∙ ap₂ (λ (j k : ℕ). run_of id j k rest) one more)

  replace_past : (bytes : List ℕ) (front : List Element) → Absent id front →
      replace id bytes (front ++ rest) ≡ front ++ replace id bytes rest
  replace_past bytes [] n = refl
  replace_past bytes (e ∷ front) n =
      rw (ne_eqb e.id id n.0) (ap (λ (l : List Element). e ∷ l) (replace_past bytes front n.1))

  remove_past : (front : List Element) → Absent id front → remove id (front ++ rest) ≡ front ++ remove id rest
  remove_past [] n = refl
  remove_past (e ∷ front) n =
      rw (ne_eqb e.id id n.0) (ap (λ (l : List Element). e ∷ l) (remove_past front n.1))

-- ---- the changes, where an element has the id

module _ (id : ℕ) (es : List Element) (f : First id es) where
  is : eqb f.held.id id ≡ true
  is = eq-eqb f.held.id id f.named

  -- the first is found: its data lie behind those of the elements in front of it
  pub find_first : find id 0 es ≡ at (length (data_of f.front)) (length f.held.bytes)
  find_first =
      ap (find id 0) f.whole
      ∙ find_past id (f.held ∷ f.back) 0 f.front f.others
      ∙ rw (is, zero-add (length (data_of f.front)))

  -- the first is replaced, and all others stay where they stand
  pub replace_first : (bytes : List ℕ) → replace id bytes es ≡ f.front ++ (element id bytes ∷ f.back)
  replace_first bytes =
      ap (replace id bytes) f.whole
      ∙ replace_past id (f.held ∷ f.back) bytes f.front f.others
      ∙ rw is

  -- the first is left out, and all others stay in their order
  pub remove_first : remove id es ≡ f.front ++ f.back
  remove_first = ap (remove id) f.whole ∙ remove_past id (f.held ∷ f.back) f.front f.others ∙ rw is

-- ---- the changes, where no element has the id

pub find_absent : (id place : ℕ) (es : List Element) → Absent id es → find id place es ≡ absent
find_absent id place es n = ap (find id place) (sym (append-nil es)) ∙ find_past id [] place es n

-- ---- the run that `find` finds

-- the end of a list: a run of no element there
abbrev pub end_of : List Element → Run
end_of es = record { first = length es; count = 0; at = length (data_of es); len = 0 }

-- no element of the list has the id: one is put at the list's end
pub record Missing (id : ℕ) (es : List Element) : Type 0 where
  pub none : find id 0 es ≡ absent
  pub appended : (bytes : List ℕ) → replaced_at (end_of es) (element id bytes ∷ []) es ≡ append id bytes es

-- the run is the first element of the id in the list
pub record Located (id : ℕ) (es : List Element) (r : Run) : Type 0 where
  pub stands : Stands r es
  pub some : find id 0 es ≡ at r.at r.len
  pub replaced : (bytes : List ℕ) → replaced_at r (element id bytes ∷ []) es ≡ replace id bytes es
  pub removed : replaced_at r [] es ≡ remove id es

-- what the run of an id's first element is to its list, where there is one and where there is none
abbrev pub Placed : ℕ → List Element → Option Run → Type 0
Placed id es None = Missing id es
Placed id es (Some r) = Located id es r

pub at_end_lem : (es new : List Element) → replaced_at (end_of es) new es ≡ es ++ new
at_end_lem es new =
    let past : length es ≤ length es + 0 = omega arith in
    ap₂ (λ (l r : List Element). l ++ (new ++ r)) (take-length es) (drop_of_length-le es past)
    ∙ ap (λ (r : List Element). es ++ r) (append-nil new)

pub stands_end : (es : List Element) → Stands (end_of es) es
stands_end es =
    let e : length es + 0 ≡ length es = omega arith in
    record {
      within = omega arith;
      from = ap (λ (l : List Element). length (data_of l)) (sym (take-length es));
      to =
          add-zero (length (data_of es))
          ∙ ap (λ (l : List Element). length (data_of l)) (sym (ap (λ (k : ℕ). take k es) e ∙ take-length es));
    }

module _ (id : ℕ) (front : List Element) (e : Element) (back : List Element) where
  abbrev pub one : Run
  one = record { first = length front; count = 1; at = length (data_of front); len = size_of e }

  cut : front ++ (e ∷ back) ≡ (front ++ (e ∷ [])) ++ back
  cut = sym (append_assoc front (e ∷ []) back)

  through : length (front ++ (e ∷ [])) ≡ length front + 1
  through = length-append front (e ∷ [])

  at_one : (new : List Element) → replaced_at one new (front ++ (e ∷ back)) ≡ front ++ (new ++ back)
  at_one new =
      ap₂ (λ (l r : List Element). l ++ (new ++ r)) (take_at front (e ∷ back) (length front) refl)
      (ap (drop (length front + 1)) cut ∙ drop_at (front ++ (e ∷ [])) back (length front + 1) through)

  pub stands_one : Stands one (front ++ (e ∷ back))
  stands_one =
      let taken : take (length front + 1) (front ++ (e ∷ back)) ≡ front ++ (e ∷ []) =
      ap (take (length front + 1)) cut ∙ take_at (front ++ (e ∷ [])) back (length front + 1) through in
      let bytes : length (data_of front ++ (e.bytes ++ [])) ≡ length (data_of front) + size_of e =
      ap (λ (b : List ℕ). length (data_of front ++ b)) (append-nil e.bytes) ∙ length-append (data_of front) e.bytes in
      record {
        within = omega (arith, length-append front (e ∷ back));
        from = ap (λ (l : List Element). length (data_of l)) (sym (take_at front (e ∷ back) (length front) refl));
        to = sym (ap (λ (l : List Element). length (data_of l)) taken ∙ ap length (data_of_append front (e ∷ [])) ∙ bytes);
      }

placed_absent : (id : ℕ) (es : List Element) → Absent id es → Placed id es (run_of id 0 0 es)
placed_absent id es n =
    let e : run_of id 0 0 es ≡ None = ap (run_of id 0 0) (sym (append-nil es)) ∙ run_past id [] 0 0 es n in
    subst (Placed id es) (sym e) (record { none = find_absent id 0 es n; appended = λ bytes. at_end_lem es (element id bytes ∷ []) })

placed_first : (id : ℕ) (es : List Element) → First id es → Placed id es (run_of id 0 0 es)
placed_first id es f =
    let r : Run = one id f.front f.held f.back in
    let e : run_of id 0 0 es ≡ Some r =
    ap (run_of id 0 0) f.whole
    ∙ run_past id (f.held ∷ f.back) 0 0 f.front f.others
    ∙ rw (is id es f, zero-add (length f.front), zero-add (length (data_of f.front))) in
    let put : (new : List Element) → replaced_at r new es ≡ f.front ++ (new ++ f.back) =
    λ new. ap (replaced_at r new) f.whole ∙ at_one id f.front f.held f.back new in
    subst (Placed id es) (sym e)
    (record {
      stands = subst (Stands r) (sym f.whole) (stands_one id f.front f.held f.back);
      some = find_first id es f;
      replaced = λ bytes. put (element id bytes ∷ []) ∙ sym (replace_first id es f bytes);
      removed = put [] ∙ sym (remove_first id es f);
    })

pub placed : (id : ℕ) (es : List Element) → Placed id es (run_of id 0 0 es)
placed id es = ⊎_elim (placed_absent id es) (placed_first id es) (absent_or_first id es)

-- ---- how long a list is with a run replaced, and what its limits say

module _ (r : Run) (es : List Element) (s : Stands r es) (new : List Element) where
  pub replaced_many : length (replaced_at r new es) ≡ length es - r.count + length new
  replaced_many =
      let front : length (take r.first es) ≡ r.first = length-take-le r.first es (omega (arith, s.within)) in
      let back : length (drop (r.first + r.count) es) ≡ length es - (r.first + r.count) = length-drop (r.first + r.count) es in
      omega (
        arith,
        s.within,
        length-append (take r.first es) (new ++ drop (r.first + r.count) es),
        length-append new (drop (r.first + r.count) es),
      )

  pub replaced_data : length (data_of (replaced_at r new es)) ≡ length (data_of es) - r.len + length (data_of new)
  replaced_data =
      let front : List ℕ = data_of (take r.first es) in
      let back : List ℕ = data_of (drop (r.first + r.count) es) in
      let e : data_of (replaced_at r new es) ≡ front ++ (data_of new ++ back) =
      data_of_append (take r.first es) (new ++ drop (r.first + r.count) es)
      ∙ ap (λ (l : List ℕ). front ++ l) (data_of_append new (drop (r.first + r.count) es)) in
      let all : length (data_of es) ≡ length (data_of (take (r.first + r.count) es)) + length back =
      ap length (data_split (r.first + r.count) es) ∙ length-append (data_of (take (r.first + r.count) es)) back in
      omega (arith, ap length e, length-append front (data_of new ++ back), length-append (data_of new) back, s.from, s.to)

-- one element in the place of a run of a record's elements
module _ (x : Extensions) (p : PackedIn x) (r : Run) (h : Holds x r) (id : ℕ) (bytes : List ℕ) where
  pub put_many : length (replaced_at r (element id bytes ∷ []) (elements_of x)) ≡ x.count - r.count + 1
  put_many =
      replaced_many r (elements_of x) h.stands (element id bytes ∷ [])
      ∙ ap (λ (n : ℕ). n - r.count + 1) (length_elements_of x p)

  pub put_bytes : length (data_of (replaced_at r (element id bytes ∷ []) (elements_of x)))
      ≡ sum (take x.count x.lens) - r.len + length bytes
  put_bytes =
      replaced_data r (elements_of x) h.stands (element id bytes ∷ [])
      ∙ ap₂ (λ (n : ℕ) (b : List ℕ). n - r.len + length b) (length_data_of x p) (append-nil bytes)
