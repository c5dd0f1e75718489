-- Two bytes, the part behind them, and the end in the table.
use mathlib.Core.Path.{◌∙◌}
use native.Mathlib.Omega.{arith}
use lib.ListN.{length-set}
use Rattle.h264_put.specs.Groups.{fragment}
use Rattle.h264_put.proofs.Sinks.{put_is, splice_two}
use borrow.Author.Rules.{rules}
use Rattle.h264_put.proofs.put.put_fragment.Goals as goal

pub returns : goal.returns
unfolding fragment
returns c =
    let start = c.args in
    put_is start.out.now start.ends.now c.copy_at.new.dst start.to
    (fragment start.head start.bits start.part.now) _
    (c.copy_at.ensures ∙ splice_two start.out.now start.to.at _ _ start.part.now (search rules)) (omega arith)
