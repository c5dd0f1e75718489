-- "Later sets replace the first element of that id or append. Delete keeps the others' order." What the changes do to a list of
-- elements, whatever stands in it, and what is seen of it. Assumes nothing.
use Rattle.std.specs.Prelude.{Option, Some, None}
use mathlib.Core.Path.{◌≡◌, sym, ap, ap₂, subst, ◌∙◌}
use mathlib.Core.Bool.{Bool, true, false, not, cond}
use mathlib.Core.List.{List, [], ◌∷◌, ◌++◌, map, append-nil}
use Prim.Native.Nat.{ℕ, ◌+◌, ◌-◌, ◌<◌, ◌≤◌}
use native.Mathlib.Nat.{add-zero, sub-zero}
use native.Mathlib.Omega.{arith}
use lib.ListN.{length, take, length-append, length-map}
use lib.Seq.{length-take-le}
use borrow.Author.Tests.{not-false, le-leb, lt-leb}
use Rattle.error.specs.Said.{says, refuse}
use Rattle.wire.specs.Part.{pad_to, splice}
use Rattle.wire.proofs.Part.{pad_to_on}
use Rattle.elements.specs.declared.Run.{Run}
use Rattle.elements.specs.Elements.{Element, data_of, elements_of}
use Rattle.elements.specs.Named.{absent, at, find, append, Absent}
use Rattle.elements.specs.Runs.{Shown, Stands, Holds, run_of, element, replaced_at, end}
use Rattle.elements.proofs.Elements.{data_of_append}
use Rattle.elements.proofs.Packed.{length_elements_of, length_data_of}
use Rattle.elements.proofs.Runs.{shown, bounded}
use Rattle.elements.proofs.Changes.{find_absent, Placed, Missing, Located, end_of, placed, at_end_lem, stands_end}
use Rattle.block.specs.declared.Form.{Form}
use Rattle.block.specs.Form.{form_of, per_element}
use Rattle.block.specs.Padding.{grown}
use Rattle.block.proofs.Forms.{form_one}
use Rattle.header.specs.declared.Header.{Header}
use Rattle.header.specs.Fields.{fields_of, in_domain, Tested}
use Rattle.header.specs.Extension.{changed, change, set_later, set_first, set_extension, del_found, del_extension, get_extension, get_extension_ids, id_refusal, set_found}
use Rattle.header.specs.Said.{ids_heard}
use Rattle.header.proofs.Sizes.{LimitsOf, limits_of, Arrays, packed, passes}

module _ (h : Header) (profile : ℕ) (es : List Element) (pads : ℕ) where
  pub too_many : 32 < length es → change h profile es pads ≡ refuse 7
  too_many m = rw (lt-leb (length es) 32 m)

  pub too_long_lem : length es ≤ 32 → 1024 < length (data_of es) → change h profile es pads ≡ refuse 7
  too_long_lem m d = rw (le-leb (length es) 32 m, lt-leb (length (data_of es)) 1024 d)

  pub room_left : length es ≤ 32 → length (data_of es) ≤ 1024 → change h profile es pads ≡ says (changed h profile es pads)
  room_left m d = rw (le-leb (length es) 32 m, le-leb (length (data_of es)) 1024 d)

-- ---- a record in the domain

module _ (h : Header) (a : Arrays h) (d : in_domain h ≡ true) where
  bounds : LimitsOf h
  bounds = limits_of h d

  pub holds_in : (r : Run) → Stands r (elements_of h.extensions) → Holds h.extensions r
  holds_in r s = record { few = bounds.elements; fits = bounds.bytes; stands = s }

  -- what `find` answers is placed in the record's list
  pub placed_in : (id : ℕ) (r : Option Run) →
      ((es : List Element) → Shown es h.extensions.count h.extensions.ids h.extensions.lens → r ≡ run_of id 0 0 es) →
      Placed id (elements_of h.extensions) r
  placed_in id r f =
      subst (Placed id (elements_of h.extensions)) (sym (f (elements_of h.extensions) (shown h.extensions (packed h a bounds))))
      (placed id (elements_of h.extensions))

  -- the list's end, as the record counts it
  pub end_in : end h.extensions ≡ end_of (elements_of h.extensions)
  end_in =
      ap₂ (λ (n k : ℕ). record { first = n; count = 0; at = k; len = 0 })
      (sym (length_elements_of h.extensions (packed h a bounds)))
      (sym (length_data_of h.extensions (packed h a bounds)))

  pub end_holds : Holds h.extensions (end h.extensions)
  end_holds =
      let es = elements_of h.extensions in
      subst (Holds h.extensions) (sym end_in) (holds_in (end_of es) (stands_end es))

  -- an element put at the record's end is one appended
  pub end_appended : (id : ℕ) (bytes : List ℕ) →
      replaced_at (end h.extensions) (element id bytes ∷ []) (elements_of h.extensions) ≡ append id bytes (elements_of h.extensions)
  end_appended id bytes =
      let es = elements_of h.extensions in
      let new = element id bytes ∷ [] in
      ap (λ (r : Run). replaced_at r new es) end_in ∙ at_end_lem es new

  -- what is found is an element of the record, and no longer than all data
  pub found_holds : (r : Run) → Stands r (elements_of h.extensions) → Holds h.extensions r × (r.len ≤ 1024)
  found_holds r s =
      let holds = holds_in r s in
      (holds, omega (arith, bounded h.extensions (packed h a bounds) r holds))

-- ---- "The first set picks 0xBEDE for 0 to 16 bytes, 0x1000 for 17 to 255, else keeps the profile"

module _ (h : Header) (es : List Element) (id : ℕ) (bytes : List ℕ) where
  pub first_one : length bytes ≤ 16 →
      set_first h es id bytes ≡ change h 0xBEDE (append id bytes es) (grown h.extensions_padding (length bytes + 1))
  unfolding set_first
  first_one l = rw (le-leb (length bytes) 16 l)

  pub first_two : 16 < length bytes → length bytes ≤ 255 →
      set_first h es id bytes ≡ change h 0x1000 (append id bytes es) (grown h.extensions_padding (length bytes + 2))
  unfolding set_first
  first_two m l = rw (lt-leb (length bytes) 16 m, le-leb (length bytes) 255 l)

  pub first_other : 255 < length bytes →
      set_first h es id bytes ≡ change h h.extension_profile (append id bytes es) (grown h.extensions_padding (length bytes))
  unfolding set_first
  first_other m =
      let more : 16 < length bytes = omega arith in
      rw (lt-leb (length bytes) 16 more, lt-leb (length bytes) 255 m, add-zero (length bytes))

-- ---- each call, by its tests

module _ (h : Header) where
  abbrev all : List Element
  all = elements_of h.extensions

  pub get_outside : (id : ℕ) → in_domain h ≡ false → get_extension h id ≡ refuse 8
  unfolding get_extension
  get_outside id d = rw d

  pub get_off : (id : ℕ) → in_domain h ≡ true → h.extension ≡ false → get_extension h id ≡ says absent
  unfolding get_extension
  get_off id d e =
      ap₂ (λ (b c : Bool). cond b (says (cond c (find id 0 (fields_of h).elements) absent)) (refuse 8)) d e

  pub get_on : (id : ℕ) → in_domain h ≡ true → h.extension ≡ true → get_extension h id ≡ says (find id 0 all)
  unfolding get_extension fields_of
  get_on id d e = ap₂ (λ (b c : Bool). cond b (says (cond c (find id 0 all) absent)) (refuse 8)) d e

  pub ids_outside : in_domain h ≡ false → get_extension_ids h ≡ refuse 8
  unfolding get_extension_ids
  ids_outside d = rw d

  pub ids_off : in_domain h ≡ true → h.extension ≡ false → get_extension_ids h ≡ says []
  unfolding get_extension_ids
  ids_off d e =
      ap₂ (λ (b c : Bool). cond b (says (cond c (map (λ (e : Element). e.id) (fields_of h).elements) [])) (refuse 8)) d e

  pub ids_on : in_domain h ≡ true → h.extension ≡ true → get_extension_ids h ≡ says (map (λ (e : Element). e.id) all)
  unfolding get_extension_ids fields_of
  ids_on d e = ap₂ (λ (b c : Bool). cond b (says (cond c (map (λ (e : Element). e.id) all) [])) (refuse 8)) d e

  pub del_outside : (id : ℕ) → in_domain h ≡ false → del_extension h id ≡ refuse 8
  unfolding del_extension
  del_outside id d = rw d

  pub del_off : (id : ℕ) → in_domain h ≡ true → h.extension ≡ false → del_extension h id ≡ refuse 16
  unfolding del_extension
  del_off id d e =
      let es = (fields_of h).elements in
      ap₂ (λ (b c : Bool). cond b (cond c (del_found h es id (find id 0 es)) (refuse 16)) (refuse 8)) d e

  pub del_on : (id : ℕ) → in_domain h ≡ true → h.extension ≡ true → del_extension h id ≡ del_found h all id (find id 0 all)
  unfolding del_extension fields_of
  del_on id d e = ap₂ (λ (b c : Bool). cond b (cond c (del_found h all id (find id 0 all)) (refuse 16)) (refuse 8)) d e

  pub set_outside : (id : ℕ) (bytes : List ℕ) → in_domain h ≡ false → set_extension h id bytes ≡ refuse 8
  unfolding set_extension
  set_outside id bytes d = rw d

  pub set_on : (id : ℕ) (bytes : List ℕ) → in_domain h ≡ true → h.extension ≡ true → set_extension h id bytes ≡ set_later h all id bytes
  unfolding set_extension fields_of
  set_on id bytes d e = ap₂ (λ (b c : Bool). cond b (cond c (set_later h all id bytes) (set_first h all id bytes)) (refuse 8)) d e

  pub set_off : (id : ℕ) (bytes : List ℕ) → in_domain h ≡ true → h.extension ≡ false → set_extension h id bytes ≡ set_first h all id bytes
  unfolding set_extension fields_of
  set_off id bytes d e = ap₂ (λ (b c : Bool). cond b (cond c (set_later h all id bytes) (set_first h all id bytes)) (refuse 8)) d e

-- ---- what is looked at: a record in the domain whose extensions are on

module _ {h : Header} {r : Bool} (t : Tested h r) (inside : not r ≡ false) (on : not h.extension ≡ false) where
  -- .. by the run that `find` answers
  module _ (id : ℕ) (found : Option Run)
      (f : (es : List Element) → Shown es h.extensions.count h.extensions.ids h.extensions.lens → found ≡ run_of id 0 0 es) where
    place : Placed id (elements_of h.extensions) found
    place = placed_in h t.arrays (passes t inside) id found f

    got : get_extension h id ≡ says (find id 0 (elements_of h.extensions))
    got = get_on h id (passes t inside) (not-false h.extension on)

    pub got_absent : found ≡ None → get_extension h id ≡ says absent
    got_absent z =
        let here : Missing id (elements_of h.extensions) = subst (Placed id (elements_of h.extensions)) z place in
        got ∙ ap says here.none

    pub got_at : (run : Run) → found ≡ Some run → get_extension h id ≡ says (at run.at run.len)
    got_at run z =
        let here : Located id (elements_of h.extensions) run = subst (Placed id (elements_of h.extensions)) z place in
        got ∙ ap says here.some

  -- there are as many ids as the record counts
  pub ids_few : length (take (h.extensions.count - 0) h.extensions.ids) ≤ 32
  ids_few =
      let l = limits_of h (passes t inside) in
      let part = length-take-le (h.extensions.count - 0) h.extensions.ids (omega (arith, l.elements, t.arrays.ids)) in
      omega (arith, l.elements)

  -- the ids of the elements are the first places of the array
  pub ids_copied : (out : List ℕ) → out ≡ splice (pad_to 32 []) 0 (take (h.extensions.count - 0) h.extensions.ids) →
      record { answer = says h.extensions.count; ids = out } ≡ ids_heard (get_extension_ids h)
  ids_copied out e =
      let x = h.extensions in
      let d = passes t inside in
      let p = packed h t.arrays (limits_of h d) in
      let names : List ℕ = map (λ (e : Element). e.id) (elements_of x) in
      let count : x.count ≡ length names = sym (length-map (elements_of x) (λ (e : Element). e.id) ∙ length_elements_of x p) in
      let ids : out ≡ pad_to 32 names =
      e
      ∙ pad_to_on 32 [] (take (x.count - 0) x.ids) (omega (arith, ids_few))
      ∙ ap (λ (n : ℕ). pad_to 32 (take n x.ids)) (sub-zero x.count)
      ∙ ap (pad_to 32) (sym (shown x p).names) in
      ap₂ (λ (n : ℕ) (l : List ℕ). record { answer = says n; ids = l }) count ids
      ∙ sym (ap ids_heard (ids_on h d (not-false h.extension on)))

-- ---- where the crate leaves RFC 8285

module _ (h : Header) (d : in_domain h ≡ true) (id : ℕ) (bytes : List ℕ) (few : length (elements_of h.extensions) < 32)
    (fits : length (data_of (elements_of h.extensions)) + length bytes ≤ 1024) where
  abbrev more : List Element
  more = append id bytes (elements_of h.extensions)

  more_fits : (profile pads : ℕ) → change h profile more pads ≡ says (changed h profile more pads)
  more_fits profile pads =
      let es = elements_of h.extensions in
      let octets : data_of more ≡ data_of es ++ bytes =
      data_of_append es (element id bytes ∷ []) ∙ ap (λ (b : List ℕ). data_of es ++ b) (append-nil bytes) in
      room_left h profile more pads (omega (arith, length-append es (element id bytes ∷ [])))
      (omega (arith, ap length octets, length-append (data_of es) bytes))

  -- the first set takes any id, as 0, 15 and 200, and one that an element has already
  pub first_any_id : h.extension ≡ false → length bytes ≤ 16 →
      set_extension h id bytes ≡ says (changed h 0xBEDE more (grown h.extensions_padding (length bytes + 1)))
  first_any_id off l =
      set_off h id bytes d off
      ∙ first_one h (elements_of h.extensions) id bytes l
      ∙ more_fits 0xBEDE (grown h.extensions_padding (length bytes + 1))

  -- a first set of more than 255 bytes keeps a profile whose elements are at most 16 or 255 bytes long
  pub first_too_long : h.extension ≡ false → 255 < length bytes →
      set_extension h id bytes ≡ says (changed h h.extension_profile more (grown h.extensions_padding (length bytes)))
  first_too_long off l =
      set_off h id bytes d off
      ∙ first_other h (elements_of h.extensions) id bytes l
      ∙ more_fits h.extension_profile (grown h.extensions_padding (length bytes))

  -- a later set in the one-byte profile takes up to 16 bytes, and none too, which no octet of RFC 8285 can say
  pub one_byte_taken : h.extension ≡ true → h.extension_profile ≡ 0xBEDE → 1 ≤ id → id ≤ 14 →
      Absent id (elements_of h.extensions) → length bytes ≤ 16 →
      set_extension h id bytes ≡ says (changed h 0xBEDE more (grown h.extensions_padding (length bytes + 1)))
  unfolding set_later
  one_byte_taken on one low high none short =
      let es = elements_of h.extensions in
      let pads : ℕ → ℕ = λ p. grown h.extensions_padding (length bytes + per_element (form_of p)) in
      set_on h id bytes d on
      ∙ ap (λ (f : Form). id_refusal f id (length bytes) (set_found h es id bytes (find id 0 es))) (form_one one)
      ∙ rw (le-leb 1 id low, le-leb id 14 high, le-leb (length bytes) 16 short)
      (ap (set_found h es id bytes) (find_absent id 0 es none)
      ∙ ap (λ (p : ℕ). change h p more (pads p)) one
      ∙ more_fits 0xBEDE (grown h.extensions_padding (length bytes + 1)))
