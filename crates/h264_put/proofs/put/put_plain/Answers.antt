-- The copy, and the end in the table.
use mathlib.Core.Path.{refl}
use Rattle.h264_put.proofs.Sinks.{put_is}
use Rattle.h264_put.proofs.put.put_plain.Goals as goal

pub returns : goal.returns
returns c =
    let start = c.args in
    put_is start.out.now start.ends.now c.copy_at.new.dst start.to start.packet.now _
    c.copy_at.ensures refl
