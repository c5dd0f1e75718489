-- The tests are those of `get_extension_ids`; the ids of the record's elements are the first places of its array.
use mathlib.Core.Path.{sym, ap, ◌∙◌}
use mathlib.Core.Bool.{not}
use native.Mathlib.Omega.{arith}
use Rattle.wire.specs.Part.{pad_to}
use Rattle.header.specs.Said.{heard_ids, ids_heard}
use Rattle.header.specs.Parts.{together}
use Rattle.header.proofs.Sizes.{passes, fails, limits_of}
use Rattle.header.proofs.Changes.{ids_outside, ids_off, ids_copied}
use Rattle.header.proofs.look.get_extension_ids_parts.Goals as goal

pub returns-then-not-in_domain : goal.returns-then-not-in_domain
returns-then-not-in_domain c =
    ap heard_ids c.no_ids.ensures
    ∙ sym (ap ids_heard (ids_outside _ (fails c.in_domain.ensures (ap not c.if-not-in_domain.true))))

pub returns-then-not-parts : goal.returns-then-not-parts
unfolding together
returns-then-not-parts c =
    ap heard_ids c.no_ids-then-not-parts.ensures
    ∙ sym (ap ids_heard (ids_off _ (passes c.in_domain.ensures (ap not c.if-not-in_domain.false)) c.if-not-parts.true))

pub slice_bounds-copy_at-end : goal.slice_bounds-copy_at-end
unfolding together
slice_bounds-copy_at-end c =
    let tested = c.in_domain.ensures in
    omega (arith, tested.arrays.ids, (limits_of _ (passes tested (ap not c.if-not-in_domain.false))).elements)

pub returns : goal.returns
unfolding pad_to together
returns c =
    ids_copied c.in_domain.ensures (ap not c.if-not-in_domain.false) (ap not c.if-not-parts.false) _ c.copy_at.ensures
