-- A turn measures the piece at hand and goes on behind the start code that follows it.
use Prim.Native.Nat.{◌-◌}
use lib.ListN.{length}
use Rattle.h264_measure.proofs.Measures.{Measuring}
use Rattle.h264_measure.proofs.measure_frame.Given as goal

abbrev pub invariant-loop-next : goal.invariant-loop-next
invariant-loop-next l = Measuring l.frame l.mtu l.sps l.pps l.start l.m

abbrev pub decreases-loop-next : goal.decreases-loop-next
decreases-loop-next l = length l.frame - l.start
