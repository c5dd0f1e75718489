-- The invariant: where all are so as yet, the bytes so far are from LOW to HIGH. A turn adds one to them, or all are so no more.
use mathlib.Core.Path.{◌≡◌}
use mathlib.Core.Bool.{true}
use Prim.Native.Nat.{◌+◌}
use Rattle.annexb.specs.Runs.{Run, FromTo}
use Rattle.annexb.proofs.sixteen_from_to.Given as goal

abbrev pub invariant-loop-b : goal.invariant-loop-b
invariant-loop-b g l = l.all ≡ true → Run (FromTo g.row.LOW g.row.HIGH) l.frame l.i (l.i + l.b-index)
