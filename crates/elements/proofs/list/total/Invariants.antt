-- Each turn adds one length more, and 32 of them are far below what a usize holds.
use Rattle.std.proofs.Common.{◌≡◌, ◌≤◌, ◌*◌, take}
use Rattle.elements.specs.Elements.{sum}
use Rattle.elements.proofs.list.total.Given as goal

abbrev pub invariant-loop-len : goal.invariant-loop-len
invariant-loop-len l = record { so_far : l.n ≡ sum (take l.len-index (take l.count l.lens)); small : l.n ≤ 65536 * l.len-index }
