-- The loop's invariant is `Going`: a turn is `turn`, and where nothing is left the sink is the goal, with all packets and their bytes counted.
use mathlib.Core.Path.{◌≡◌}
use mathlib.Core.Bool.{true}
use Rattle.std.specs.Slice.Iter.{chunks_rest, chunks_size}
use lib.ListN.{length}
use Rattle.wire.specs.Packets.{put_all}
use Rattle.vp8_send.specs.Send.{headed, parts_of, from0}
use Rattle.vp8_send.proofs.Going.{Going}
use Rattle.vp8_send.proofs.Vp8Payloader.write.Given as goal

abbrev pub invariant-loop-part : goal.invariant-loop-part
invariant-loop-part l = goal.iterator-loop-part.can_next l.part-iterator
    × goal.iterator-loop-part.is_finite l.part-iterator
    × (chunks_size l.part-iterator ≡ l.fn.size)
    × Going l.fn.self l.fn.size (put_all (from0 l.initial.out l.initial.ends) (headed l.fn.self true (parts_of l.fn.size l.fn.frame)))
    (record { out = l.out; at = l.at; ends = l.ends; n = l.n }) l.start (chunks_rest l.part-iterator)
    × (length l.out ≡ length l.initial.out)
    × (length l.ends ≡ length l.initial.ends)
