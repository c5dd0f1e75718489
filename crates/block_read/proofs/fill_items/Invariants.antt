-- The arrays hold the elements that were read so far (`Filling`): each way through a turn is one law.
use Prim.Native.Nat.{◌-◌}
use Rattle.block_read.specs.Read.{is_two, items_by, items, block_at}
use Rattle.block_read.proofs.Filling.{Filling}
use Rattle.block_read.proofs.fill_items.Given as goal

abbrev pub invariant-loop-at : goal.invariant-loop-at
invariant-loop-at l = let two = is_two l.form in Filling l.packet two l.end (items (items_by two) (block_at l.packet l.start l.len)) l.at l.count l.used l.ids l.lens l.bytes

abbrev pub decreases-loop-at : goal.decreases-loop-at
decreases-loop-at l = l.end - l.at
