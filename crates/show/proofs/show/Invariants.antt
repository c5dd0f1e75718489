-- The window stays within the buffer, by the contract of the step.
use Rattle.stream.specs.Window.{Within}
use Rattle.show.proofs.show.Given as goal

abbrev pub invariant-loop-turn : goal.invariant-loop-turn
invariant-loop-turn l = Within l.w 131072
