-- Alone, dropped or cut, by the definition's tests; a cut unit has as many fragments as parts.
use native.Mathlib.Omega.{arith}
use Rattle.h264_measure.proofs.Counts.{alone, dropped, divided}
use borrow.Author.Rules.{rules}
use Rattle.h264_measure.proofs.unit_size.Goals as goal

pub returns-then-len-mtu : goal.returns-then-len-mtu
returns-then-len-mtu c = (search rules, search rules, λ u e. alone c.args.mtu u c.args.len e c.if-len-mtu.true)

pub returns-then-mtu-lt3 : goal.returns-then-mtu-lt3
returns-then-mtu-lt3 c =
    (search rules, search rules, λ u e. dropped c.args.mtu u c.args.len e c.if-len-mtu.false c.if-mtu-lt3.true)

pub returns : goal.returns
returns c =
    let a = c.args in (
      search rules,
      omega (arith, c.count-fragments.ensures.1),
      λ u e. divided a.mtu u a.len e c.count-fragments.result c.count-fragments.ensures.0 c.if-len-mtu.false c.if-mtu-lt3.false,
    )
