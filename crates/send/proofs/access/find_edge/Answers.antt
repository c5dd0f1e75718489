use Rattle.std.proofs.Common.{◌≡◌, ◌+◌, ◌<◌, ◌≤◌, length, sym, ◌∙◌, arith}
use Rattle.std.specs.Prelude.{Some}
use Rattle.annexb.specs.Search.{next_code}
use Rattle.send.proofs.Edges.{going_first, onward, ends_none, ends_short, ends_edge, goes_on_behind, goes_on_before}
use Rattle.send.proofs.access.find_edge.Goals as goal
use Rattle.send.proofs.access.find_edge.Goals.{In-Some}

pub loop-code-init : goal.loop-code-init
loop-code-init c = going_first _

-- the start code that was found
code : (c : In-Some) →
    next_code c.args.s.now c.loop-code.start ≡ Some c.in-Some.code
code c = sym c.next_code.ensures ∙ c.in-Some.is

-- the unit behind it
beyond : (c : In-Some) →
    (c.loop-code.start < c.in-Some.code.at + c.in-Some.code.len)
    × (c.in-Some.code.at + c.in-Some.code.len ≤ length c.args.s.now)
beyond c = onward _ _ _ c.loop-code.invariant _ _ (code c)

pub overflow_add-unit : goal.overflow_add-unit
overflow_add-unit c = omega (arith, (beyond (goal.at.overflow_add-unit c).In-Some).1)

pub overflow_add-unit-in-loop-code : goal.overflow_add-unit-in-loop-code
overflow_add-unit-in-loop-code c = omega (arith, (beyond (goal.at.overflow_add-unit-in-loop-code c).In-Some).1, c.well_formed.0.1)

pub loop-code-smaller-else-begins : goal.loop-code-smaller-else-begins
loop-code-smaller-else-begins c = omega (arith, (beyond (goal.at.loop-code-smaller-else-begins c).In-Some).0, (beyond (goal.at.loop-code-smaller-else-begins c).In-Some).1)

pub loop-code-preserved-else-begins : goal.loop-code-preserved-else-begins
loop-code-preserved-else-begins c =
    goes_on_behind _ _ _ c.loop-code.invariant _ _ (code (goal.at.loop-code-preserved-else-begins c).In-Some) c.if-s-unit.false c.if-coded.true
    (sym c.begins.ensures ∙ c.if-begins.false)

pub loop-code-smaller : goal.loop-code-smaller
loop-code-smaller c = omega (arith, (beyond (goal.at.loop-code-smaller c).In-Some).0, (beyond (goal.at.loop-code-smaller c).In-Some).1)

pub loop-code-preserved : goal.loop-code-preserved
loop-code-preserved c =
    goes_on_before _ _ _ c.loop-code.invariant _ _ (code (goal.at.loop-code-preserved c).In-Some) c.if-s-unit.false c.if-coded.false _
    c.is_slice-coded.ensures

pub returns-in_default : goal.returns-in_default
returns-in_default c = (ends_none _ _ _ c.loop-code.invariant (sym c.next_code.ensures ∙ c.in_default.is), tt)

pub returns-then-s-unit : goal.returns-then-s-unit
returns-then-s-unit c = (ends_short _ _ _ c.loop-code.invariant _ _ (code (goal.at.returns-then-s-unit c).In-Some) c.if-s-unit.true, tt)

pub returns-then-begins : goal.returns-then-begins
returns-then-begins c = (
  ends_edge _ _ _ c.loop-code.invariant _ _ (code (goal.at.returns-then-begins c).In-Some) c.if-s-unit.false c.if-coded.true
      (sym c.begins.ensures ∙ c.if-begins.true),
  omega (arith, c.if-s-unit.false),
)
