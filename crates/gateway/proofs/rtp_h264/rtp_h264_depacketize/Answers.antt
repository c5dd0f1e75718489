-- The call's answer, laid out, and its buffers at exit; the body lies where the call shows it.
use mathlib.Core.Path.{ap, ◌∙◌}
use lib.ListN.{length}
use Rattle.h264_packet.specs.Depacketize.{Lies}
use Rattle.h264_packet.specs.Said.{Heard, said_shown}
use Rattle.h264_packet.proofs.Never.{shown_lies}
use Rattle.gateway.specs.H264Answers.{h264_read_as}
use Rattle.gateway.proofs.rtp_h264.rtp_h264_depacketize.Goals as goal
use Rattle.gateway.proofs.rtp_h264.rtp_h264_depacketize.Goals.{After-depacketize}

lies : (c : After-depacketize) →
    let a = c.args in
    Lies (said_shown c.depacketize.result.shown) (length a.payload.now) (length a.gather.now)
lies c =
    let a = c.args in
    rw (ap (λ (h : Heard). h.showing) c.depacketize.ensures) (shown_lies a.packet a.payload.now a.gather.now a.out.now)

pub h264_read-requires : goal.h264_read-requires
h264_read-requires c = λ e. rw e at (lies (goal.at.h264_read-requires c).After-depacketize)

pub returns-clause-value : goal.returns-clause-value
returns-clause-value c =
    let a = c.args in
    c.h264_read.ensures _ (lies (goal.at.returns-clause-value c).After-depacketize)
    ∙ ap (λ (h : Heard). h264_read_as h (length a.payload.now) (length a.gather.now)) c.depacketize.ensures
