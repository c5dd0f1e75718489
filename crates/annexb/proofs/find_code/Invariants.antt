-- The invariant: what is still to be searched, with no zero counted, yields what the whole search yields. Each way through a turn is one law.
use mathlib.Core.Path.{◌≡◌}
use Prim.Native.Nat.{◌-◌}
use lib.ListN.{length}
use Rattle.annexb.specs.Search.{next_code}
use Rattle.annexb.proofs.Skips.{ahead}
use Rattle.annexb.proofs.find_code.Given as goal

abbrev pub invariant-loop-i : goal.invariant-loop-i
invariant-loop-i l = ahead l.frame l.i 0 ≡ next_code l.frame l.start

abbrev pub decreases-loop-i : goal.decreases-loop-i
decreases-loop-i l = length l.frame - l.i
