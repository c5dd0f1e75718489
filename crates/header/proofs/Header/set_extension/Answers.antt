-- The tests are those of `set_extension`.
use mathlib.Core.Path.{◌≡◌, sym, ap, ◌∙◌}
use mathlib.Core.Bool.{Bool}
use Rattle.header_write.specs.Limits.{in_limits}
use Rattle.header.specs.declared.Header.{Header}
use Rattle.header.specs.Fields.{in_domain}
use Rattle.header.specs.Said.{change_heard}
use Rattle.header.proofs.Changes.{set_outside, set_on, set_off}
use Rattle.header.proofs.Header.set_extension.Goals as goal

tested : (h : Header) (r b : Bool) → r ≡ in_limits h.csrc_count h.extensions.count h.extensions.lens h.extensions_padding → r ≡ b →
    in_domain h ≡ b
unfolding in_domain
tested h r b e t = sym e ∙ t

pub returns-then-not-in_limits : goal.returns-then-not-in_limits
returns-then-not-in_limits c =
    let a = c.args in
    c.refused.ensures
    ∙ sym (ap (change_heard a.self) (set_outside a.self a.id a.payload.now (tested a.self _ _ c.in_limits.ensures c.if-not-in_limits.true)))

pub returns-then-self : goal.returns-then-self
returns-then-self c =
    let a = c.args in
    c.set_later.ensures
    ∙ sym (ap (change_heard a.self)
    (set_on a.self a.id a.payload.now (tested a.self _ _ c.in_limits.ensures c.if-not-in_limits.false) c.if-self.true))

pub returns : goal.returns
returns c =
    let a = c.args in
    c.set_first.ensures
    ∙ sym (ap (change_heard a.self)
    (set_off a.self a.id a.payload.now (tested a.self _ _ c.in_limits.ensures c.if-not-in_limits.false) c.if-self.false))

pub set_later-requires : goal.set_later-requires
set_later-requires c = tested c.args.self _ _ c.in_limits.ensures c.if-not-in_limits.false

pub set_first-requires : goal.set_first-requires
set_first-requires c = tested c.args.self _ _ c.in_limits.ensures c.if-not-in_limits.false
