-- The invariant: the bytes so far are from LOW to HIGH. Sixteen that are so go on with them.
use Prim.Native.Nat.{◌-◌}
use lib.ListN.{length}
use Rattle.annexb.specs.Runs.{Run, FromTo}
use Rattle.annexb.proofs.past.Given as goal

abbrev pub invariant-loop-i : goal.invariant-loop-i
invariant-loop-i g l = Run (FromTo g.row.LOW g.row.HIGH) l.frame l.start l.i

abbrev pub decreases-loop-i : goal.decreases-loop-i
decreases-loop-i g l = length l.frame - l.i
