-- Before each turn some fuel leads from here to the answer; each way through a turn is one law.
use Rattle.std.proofs.Common.{◌-◌, length}
use Rattle.send.proofs.Edges.{Going}
use Rattle.send.proofs.access.find_edge.Given as goal

abbrev pub invariant-loop-code : goal.invariant-loop-code
invariant-loop-code l = Going l.s l.start l.coded

abbrev pub decreases-loop-code : goal.decreases-loop-code
decreases-loop-code l = length l.s - l.start
