-- The element is put at the list's end, with the profile and the padding that its length picks.
use mathlib.Core.Path.{sym, ap, ap₂, subst, ◌∙◌}
use mathlib.Core.List.{[], ◌∷◌}
use Prim.Native.Nat.{ℕ, ◌+◌}
use lib.ListN.{length}
use borrow.Author.Rules.{rules}
use Rattle.elements.specs.declared.Run.{Run}
use Rattle.elements.specs.Elements.{elements_of}
use Rattle.elements.specs.Named.{append}
use Rattle.elements.specs.Runs.{Holds, replaced_at, element}
use Rattle.block.specs.Form.{first_head}
use Rattle.block.specs.Padding.{grown}
use Rattle.header.specs.Extension.{change, set_first}
use Rattle.header.specs.Said.{change_heard}
use Rattle.header.proofs.Sizes.{Arrays, limits_of}
use Rattle.header.proofs.Changes.{end_holds, end_appended}
use Rattle.header.proofs.Header.set_first.Goals as goal

pub grow-padding-requires : goal.grow-padding-requires
grow-padding-requires c = (limits_of c.args.self c.requires).zeros

pub end-requires : goal.end-requires
end-requires c = record { count_bound = (limits_of c.args.self c.requires).elements }

pub put-requires : goal.put-requires
put-requires c =
    let h = c.args.self in
    let arrays : Arrays h = record { csrc = search rules; ids = search rules; lens = search rules; bytes = search rules } in
    subst (Holds h.extensions) (sym c.end.ensures) (end_holds h arrays c.requires)

pub returns : goal.returns
unfolding set_first
returns c =
    let a = c.args in
    let h = a.self in
    let arrays : Arrays h = record { csrc = search rules; ids = search rules; lens = search rules; bytes = search rules } in
    let es = append a.id a.payload.now (elements_of h.extensions) in
    let head : ℕ → ℕ = λ n. grown h.extensions_padding (length a.payload.now + n) in
    c.put.ensures
    ∙ ap (change_heard h)
    (ap₂ (change h c.first_profile-profile.result)
    (ap (λ (r : Run). replaced_at r (element a.id a.payload.now ∷ []) (elements_of h.extensions)) c.end.ensures
    ∙ end_appended h arrays c.requires a.id a.payload.now)
    (c.grow-padding.ensures ∙ ap head c.first_head.ensures.0)
    ∙ ap (λ (profile : ℕ). change h profile es (head (first_head (length a.payload.now)))) c.first_profile-profile.ensures)
