-- The tests are those of `del_extension`, and the run that `find` answers is left out of the list.
use mathlib.Core.Path.{◌≡◌, sym, ap, ap₂, subst, ◌∙◌}
use mathlib.Core.Bool.{Bool}
use Prim.Native.Nat.{ℕ, ◌+◌, ◌%◌}
use native.Mathlib.Omega.{arith}
use borrow.Author.Rules.{rules}
use Rattle.error.specs.Said.{says}
use Rattle.elements.specs.declared.Extensions.{Extensions}
use Rattle.elements.specs.Elements.{elements_of, lay_elements}
use Rattle.elements.specs.Named.{remove}
use Rattle.elements.proofs.Changes.{Placed, Located, Missing}
use Rattle.block.specs.Form.{per_element}
use Rattle.header_write.specs.Limits.{in_limits}
use Rattle.header.specs.declared.Header.{Header}
use Rattle.header.specs.Fields.{in_domain}
use Rattle.header.specs.Extension.{extended, del_found}
use Rattle.header.specs.Said.{change_heard}
use Rattle.header.proofs.Sizes.{Arrays}
use Rattle.header.proofs.Changes.{placed_in, found_holds, del_outside, del_off, del_on}
use Rattle.header.proofs.Header.del_extension.Goals as goal

tested : (h : Header) (r b : Bool) → r ≡ in_limits h.csrc_count h.extensions.count h.extensions.lens h.extensions_padding → r ≡ b →
    in_domain h ≡ b
unfolding in_domain
tested h r b e t = sym e ∙ t

pub returns-then-not-in_limits : goal.returns-then-not-in_limits
returns-then-not-in_limits c =
    let a = c.args in
    c.refused.ensures
    ∙ sym (ap (change_heard a.self) (del_outside a.self a.id (tested a.self _ _ c.in_limits.ensures c.if-not-in_limits.true)))

pub returns-then-not-self : goal.returns-then-not-self
returns-then-not-self c =
    let a = c.args in
    c.refused-then-not-self.ensures
    ∙ sym (ap (change_heard a.self)
    (del_off a.self a.id (tested a.self _ _ c.in_limits.ensures c.if-not-in_limits.false) c.if-not-self.true))

pub returns-in_default : goal.returns-in_default
returns-in_default c =
    let h = c.args.self in
    let id = c.args.id in
    let es = elements_of h.extensions in
    let arrays : Arrays h = record { csrc = search rules; ids = search rules; lens = search rules; bytes = search rules } in
    let d = tested h _ _ c.in_limits.ensures c.if-not-in_limits.false in
    let here : Missing id es = subst (Placed id es) c.in_default.is (placed_in h arrays d id _ c.find-found.ensures) in
    c.refused-in_default.ensures
    ∙ sym (ap (change_heard h) (del_on h id d c.if-not-self.false ∙ ap (del_found h es id) here.none))

pub overflow_add-gone : goal.overflow_add-gone
overflow_add-gone c =
    let h = c.args.self in
    let id = c.args.id in
    let arrays : Arrays h = record { csrc = search rules; ids = search rules; lens = search rules; bytes = search rules } in
    let d = tested h _ _ c.in_limits.ensures c.if-not-in_limits.false in
    let here : Located id (elements_of h.extensions) c.in-Some.run' = subst (Placed id (elements_of h.extensions)) c.in-Some.is
    (placed_in h arrays d id _ c.find-found.ensures) in
    omega (arith, (found_holds h arrays d _ here.stands).1, c.per_element.ensures.1)

pub without-requires : goal.without-requires
without-requires c =
    let h = c.args.self in
    let id = c.args.id in
    let arrays : Arrays h = record { csrc = search rules; ids = search rules; lens = search rules; bytes = search rules } in
    let d = tested h _ _ c.in_limits.ensures c.if-not-in_limits.false in
    let here : Located id (elements_of h.extensions) c.in-Some.run' = subst (Placed id (elements_of h.extensions)) c.in-Some.is
    (placed_in h arrays d id _ c.find-found.ensures) in
    (found_holds h arrays d _ here.stands).0

pub returns : goal.returns
returns c =
    let h = c.args.self in
    let id = c.args.id in
    let run = c.in-Some.run' in
    let es = elements_of h.extensions in
    let arrays : Arrays h = record { csrc = search rules; ids = search rules; lens = search rules; bytes = search rules } in
    let d = tested h _ _ c.in_limits.ensures c.if-not-in_limits.false in
    let here : Located id es run = subst (Placed id es) c.in-Some.is (placed_in h arrays d id _ c.find-found.ensures) in
    let list : c.without.result ≡ lay_elements (remove id es) = c.without.ensures ∙ ap lay_elements here.removed in
    let less : ℕ → ℕ = λ n. (h.extensions_padding + (run.len + n) % 4) % 4 in
    ap (λ (g : Header). record { answer = says tt; header = g })
    (c.extended.ensures
    ∙ ap₂ (λ (x : Extensions) (n : ℕ). extended h h.extension_profile x (less n)) list (c.per_element.ensures.0 ∙ ap per_element c.from.ensures))
    ∙ sym (ap (change_heard h) (del_on h id d c.if-not-self.false ∙ ap (del_found h es id) here.some))
