-- The first fragment, a turn for each of those between, and the last.
use mathlib.Core.Path.{◌≡◌}
use lib.ListN.{length}
use Rattle.wire.specs.Packets.{put_all}
use Rattle.h264_put.specs.Groups.{fragments_of, packets_of}
use Rattle.h264_put.specs.Step.{sink_at}
use Rattle.h264_put.proofs.Fragments.{Going}
use Rattle.h264_put.proofs.put.put_fragments.Given as goal

abbrev pub invariant-loop-rest : goal.invariant-loop-rest
invariant-loop-rest l = Going l.size l.head (put_all (sink_at l.fn.out l.fn.ends l.fn.to) (packets_of (fragments_of l.size l.unit))) (sink_at l.out l.ends l.p) l.rest
    × (length l.out ≡ length l.initial.out)
    × (length l.ends ≡ length l.initial.ends)

abbrev pub decreases-loop-rest : goal.decreases-loop-rest
decreases-loop-rest l = length l.rest
