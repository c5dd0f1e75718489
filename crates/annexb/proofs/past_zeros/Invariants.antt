-- The invariant: the bytes so far are zeros. A zero goes on with them, and so do the sixteens behind it; at the end stands no zero.
use Prim.Native.Nat.{◌-◌}
use lib.ListN.{length}
use Rattle.annexb.specs.Runs.{Run, Zero}
use Rattle.annexb.proofs.past_zeros.Given as goal

abbrev pub invariant-loop-i : goal.invariant-loop-i
invariant-loop-i l = Run Zero l.frame l.start l.i

abbrev pub decreases-loop-i : goal.decreases-loop-i
decreases-loop-i l = length l.frame - l.i
