-- What is counted as read stands within the buffer, and each turn counts a byte at least.
use Rattle.std.proofs.Common.{◌≤◌, ◌-◌, length}
use Rattle.stream.proofs.window.read_full.Given as goal

abbrev pub invariant-loop-count : goal.invariant-loop-count
invariant-loop-count l = l.count ≤ length l.buf

abbrev pub decreases-loop-count : goal.decreases-loop-count
decreases-loop-count l = length l.buf - l.count
