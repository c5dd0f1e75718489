-- What is still to be read leads to what `unpack` says of the whole; the counts are those of the units before.
use Prim.Native.Nat.{◌-◌}
use lib.ListN.{length}
use Rattle.nal.proofs.Unpacking.{Measuring}
use Rattle.nal.proofs.aggregate.measure.Given as goal

abbrev pub invariant-loop-at : goal.invariant-loop-at
invariant-loop-at l = Measuring l.sized l.at l.count l.bytes

abbrev pub decreases-loop-at : goal.decreases-loop-at
decreases-loop-at l = length l.sized - l.at
