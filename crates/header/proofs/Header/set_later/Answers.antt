-- The id is checked, then the element is put where `find` finds one of its id, or at the list's end.
use Rattle.std.specs.Prelude.{Result}
use mathlib.Core.Path.{◌≡◌, sym, ap, ap₂, subst, ◌∙◌}
use mathlib.Core.List.{List, [], ◌∷◌}
use Prim.Native.Nat.{ℕ, ◌+◌}
use lib.ListN.{length}
use borrow.Author.Rules.{rules}
use Rattle.error.specs.declared.Error.{Error}
use Rattle.error.specs.Said.{Said, said}
use Rattle.elements.specs.declared.Run.{Run}
use Rattle.elements.specs.Elements.{elements_of}
use Rattle.elements.specs.Named.{find}
use Rattle.elements.specs.Runs.{Holds, element, replaced_at}
use Rattle.elements.proofs.Changes.{Placed, Located, Missing}
use Rattle.block.specs.declared.Form.{Form}
use Rattle.block.specs.Form.{form_of, per_element}
use Rattle.block.specs.Padding.{grown}
use Rattle.header.specs.declared.Header.{Header}
use Rattle.header.specs.Extension.{change, set_found, set_later, id_refusal}
use Rattle.header.specs.Said.{unless, change_heard}
use Rattle.header.proofs.Sizes.{Arrays, limits_of}
use Rattle.header.proofs.Changes.{placed_in, found_holds, end_holds, end_appended}
use Rattle.header.proofs.Header.set_later.Goals as goal

-- what is to be set, once the id and the length are taken
abbrev next : Header → ℕ → List ℕ → Said Header
next h id bytes = set_found h (elements_of h.extensions) id bytes (find id 0 (elements_of h.extensions))

later : (h : Header) (id : ℕ) (bytes : List ℕ) (form : Form) (r s : Result Unit Error) → form ≡ form_of h.extension_profile →
    ((next : Said Header) → id_refusal form id (length bytes) next ≡ unless (said r) next) → r ≡ s →
    set_later h (elements_of h.extensions) id bytes ≡ unless (said s) (next h id bytes)
unfolding set_later
later h id bytes form r s g f e =
    sym (ap (λ (k : Form). id_refusal k id (length bytes) (next h id bytes)) g)
    ∙ f (next h id bytes)
    ∙ ap (λ (r : Result Unit Error). unless (said r) (next h id bytes)) e

pub returns-in-Err : goal.returns-in-Err
returns-in-Err c =
    let a = c.args in
    c.refused.ensures
    ∙ sym (ap (change_heard a.self) (later a.self a.id a.payload.now _ _ _ c.from-form.ensures c.allowed.ensures c.in-Err.is))

pub find-found-requires : goal.find-found-requires
find-found-requires c = (limits_of c.args.self c.requires).elements

-- ---- an element of the id is there
pub resize-padding-requires : goal.resize-padding-requires
resize-padding-requires c =
    let h = c.args.self in
    let arrays : Arrays h = record { csrc = search rules; ids = search rules; lens = search rules; bytes = search rules } in
    let here : Located c.args.id (elements_of h.extensions) c.in-Some.run' = subst (Placed c.args.id (elements_of h.extensions)) c.in-Some.is
    (placed_in h arrays c.requires c.args.id _ c.find-found.ensures) in
    record { padding_bound = (limits_of h c.requires).zeros; bound = (found_holds h arrays c.requires _ here.stands).1 }

pub put-requires : goal.put-requires
put-requires c =
    let h = c.args.self in
    let arrays : Arrays h = record { csrc = search rules; ids = search rules; lens = search rules; bytes = search rules } in
    let here : Located c.args.id (elements_of h.extensions) c.in-Some.run' = subst (Placed c.args.id (elements_of h.extensions)) c.in-Some.is
    (placed_in h arrays c.requires c.args.id _ c.find-found.ensures) in
    (found_holds h arrays c.requires _ here.stands).0

pub returns-in-Some : goal.returns-in-Some
returns-in-Some c =
    let a = c.args in
    let h = a.self in
    let arrays : Arrays h = record { csrc = search rules; ids = search rules; lens = search rules; bytes = search rules } in
    let es = elements_of h.extensions in
    let here : Located a.id es c.in-Some.run' = subst (Placed a.id es) c.in-Some.is (placed_in h arrays c.requires a.id _ c.find-found.ensures) in
    c.put.ensures
    ∙ ap (change_heard h)
    (ap₂ (change h h.extension_profile) (here.replaced a.payload.now) c.resize-padding.ensures
    ∙ sym (later h a.id a.payload.now _ _ _ c.from-form.ensures c.allowed.ensures c.in_default.is ∙ ap (set_found h es a.id a.payload.now) here.some))

-- ---- none is
pub grow-padding-requires : goal.grow-padding-requires
grow-padding-requires c = (limits_of c.args.self c.requires).zeros

pub end-requires : goal.end-requires
end-requires c = record { count_bound = (limits_of c.args.self c.requires).elements }

pub put-requires-in-None : goal.put-requires-in-None
put-requires-in-None c =
    let h = c.args.self in
    let arrays : Arrays h = record { csrc = search rules; ids = search rules; lens = search rules; bytes = search rules } in
    subst (Holds h.extensions) (sym c.end.ensures) (end_holds h arrays c.requires)

pub returns-in-None : goal.returns-in-None
returns-in-None c =
    let a = c.args in
    let h = a.self in
    let arrays : Arrays h = record { csrc = search rules; ids = search rules; lens = search rules; bytes = search rules } in
    let es = elements_of h.extensions in
    let here : Missing a.id es = subst (Placed a.id es) c.in-None.is (placed_in h arrays c.requires a.id _ c.find-found.ensures) in
    let pads : c.grow-padding.result
    ≡ grown h.extensions_padding (length a.payload.now + per_element (form_of h.extension_profile)) =
    c.grow-padding.ensures
    ∙ ap (λ (n : ℕ). grown h.extensions_padding (length a.payload.now + n)) (c.per_element.ensures.0 ∙ ap per_element c.from-form.ensures) in
    c.put-in-None.ensures
    ∙ ap (change_heard h)
    (ap₂ (change h h.extension_profile)
    (ap (λ (r : Run). replaced_at r (element a.id a.payload.now ∷ []) es) c.end.ensures ∙ end_appended h arrays c.requires a.id a.payload.now) pads
    ∙ sym (later h a.id a.payload.now _ _ _ c.from-form.ensures c.allowed.ensures c.in_default.is ∙ ap (set_found h es a.id a.payload.now) here.none))
