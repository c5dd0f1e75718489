-- A turn sends the piece at hand and goes on behind the start code that follows it; a turn is a byte at least, so no count passes the frame.
use mathlib.Core.Path.{◌≡◌}
use Prim.Native.Nat.{◌-◌, ◌≤◌}
use lib.ListN.{length, drop}
use Rattle.wire.specs.Packets.{put_all}
use Rattle.annexb.specs.Units.{pieces, units}
use Rattle.h264_put.specs.Groups.{keep_all, groups_of, packets_of}
use Rattle.h264_put.specs.Outcomes.{outcomes_of, drops_in}
use Rattle.h264_put.specs.Step.{sink_at}
use Rattle.h264_walk.specs.Waiting.{saved_at, Waits}
use Rattle.h264_walk.proofs.Walks.{Leads}
use Rattle.h264_walk.proofs.units.walk.Given as goal

abbrev pub invariant-loop-next : goal.invariant-loop-next
invariant-loop-next l = (l.start ≤ length l.frame)
    × Waits l.sps l.pps l.frame l.waits
    × Leads l.mtu (keep_all (saved_at l.sps l.pps l.frame l.initial.waits) (units l.frame))
    (put_all (sink_at l.initial.out l.initial.ends l.initial.place) (packets_of (groups_of l.mtu (saved_at l.sps l.pps l.frame l.initial.waits) (units l.frame))))
    (drops_in (outcomes_of l.mtu (saved_at l.sps l.pps l.frame l.initial.waits) (units l.frame))) (pieces (drop l.start l.frame)) (saved_at l.sps l.pps l.frame l.waits) (sink_at l.out l.ends l.place) l.drops
    × (length l.out ≡ length l.initial.out)
    × (length l.ends ≡ length l.initial.ends)
    × (l.drops.units ≤ l.start)
    × (l.drops.pairs ≤ l.start)

abbrev pub decreases-loop-next : goal.decreases-loop-next
decreases-loop-next l = length l.frame - l.start
