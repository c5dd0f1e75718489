-- The tests are those of `get_extension`, and the run that `find` answers says what `Found` says.
use mathlib.Core.Path.{sym, ap}
use mathlib.Core.Bool.{not}
use Rattle.header.specs.Parts.{together}
use Rattle.header.proofs.Sizes.{passes, fails, limits_of}
use Rattle.header.proofs.Changes.{get_outside, get_off, got_absent, got_at}
use Rattle.header.proofs.look.get_extension_parts.Goals as goal

pub returns-then-not-in_domain : goal.returns-then-not-in_domain
returns-then-not-in_domain c = sym (get_outside _ _ (fails c.in_domain.ensures (ap not c.if-not-in_domain.true)))

pub returns-then-not-parts : goal.returns-then-not-parts
unfolding together
returns-then-not-parts c =
    sym (get_off _ _ (passes c.in_domain.ensures (ap not c.if-not-in_domain.false)) c.if-not-parts.true)

pub find-requires : goal.find-requires
unfolding together
find-requires c =
    (limits_of _ (passes c.in_domain.ensures (ap not c.if-not-in_domain.false))).elements

pub returns-in_default : goal.returns-in_default
unfolding together
returns-in_default c =
    sym
    (got_absent c.in_domain.ensures (ap not c.if-not-in_domain.false) (ap not c.if-not-parts.false) _ _ c.find.ensures c.in_default.is)

pub returns : goal.returns
unfolding together
returns c =
    sym
    (got_at c.in_domain.ensures (ap not c.if-not-in_domain.false) (ap not c.if-not-parts.false) _ _ c.find.ensures _ c.in-Some.is)
