-- The window stays within the buffer, by the contract of the step.
use Rattle.stream.specs.Window.{Within}
use Rattle.send.proofs.play.Given as goal

abbrev pub invariant-loop : goal.invariant-loop
invariant-loop l = Within l.w 3145728
