-- The invariant: the digits that are left, behind the number so far, say what the text says. Each way through a turn is one law.
use Rattle.std.proofs.Common.{◌≡◌, ◌≤◌, drop}
use Rattle.stream.specs.Argument.{number_from, number_of}
use Rattle.stream.proofs.arguments.decimal.Given as goal

abbrev pub invariant-loop-b : goal.invariant-loop-b
invariant-loop-b l = (l.value ≤ 9999999999) × (number_from (drop l.b-index l.text) l.value ≡ number_of l.text)
