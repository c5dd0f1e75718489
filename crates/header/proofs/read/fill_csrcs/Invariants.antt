-- After i turns the first i CSRCs stand in the array, and zeros behind them.
use mathlib.Core.Path.{◌≡◌}
use Prim.Native.Nat.{◌-◌, ◌≤◌}
use Rattle.wire.specs.Part.{pad_to}
use Rattle.header.specs.Read.{csrcs_at}
use Rattle.header.proofs.read.fill_csrcs.Given as goal

abbrev pub invariant-loop-i : goal.invariant-loop-i
invariant-loop-i l = (l.i ≤ l.cc) × (l.csrc ≡ pad_to 15 (csrcs_at l.packet 12 l.i))

abbrev pub decreases-loop-i : goal.decreases-loop-i
decreases-loop-i l = l.cc - l.i
