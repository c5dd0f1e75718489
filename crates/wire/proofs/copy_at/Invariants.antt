-- After i turns the first i bytes of the source stand at the place: `splice_more` is one turn.
use Rattle.std.proofs.Common.{◌≡◌, ◌≤◌, length, take}
use Rattle.wire.specs.Part.{splice}
use Rattle.wire.proofs.copy_at.Given as goal

abbrev pub invariant-loop-i : goal.invariant-loop-i
invariant-loop-i l = (l.i ≤ length l.src) × (l.dst ≡ splice l.initial.dst l.at (take l.i l.src)) × (length l.dst ≡ length l.initial.dst)
