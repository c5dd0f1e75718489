-- How the answers about H.264 stand in their records. Assumes nothing.
use Rattle.std.specs.Prelude.{cond, List, [], ℕ, ◌-◌, eqb, ltb}
use Rattle.wire.specs.Part.{part}
use Rattle.error.specs.Said.{Said}
use Rattle.h264.specs.declared.send.H264Payloader.{H264Payloader}
use Rattle.h264.specs.declared.lent.LentPayloader.{LentPayloader}
use Rattle.h264.specs.declared.send.Written.{Written}
use Rattle.h264.specs.Payload.{Lent, LeftIn, Left}
use Rattle.h264_packet.specs.Depacketize.{Showing, nowhere, in_packet, in_gather}
use Rattle.h264_packet.specs.Said.{Heard}
use Rattle.gateway.specs.declared.rtp_h264.Counted.{Counted}
use Rattle.gateway.specs.declared.rtp_h264.RtpH264Sent.{RtpH264Sent}
use Rattle.gateway.specs.declared.rtp_h264.RtpH264LentSent.{RtpH264LentSent}
use Rattle.gateway.specs.declared.rtp_h264.RtpBody.{RtpBody}
use Rattle.gateway.specs.declared.rtp_h264.RtpH264Read.{RtpH264Read}
use Rattle.gateway.specs.Refused.{refused_in, number_in}

-- a refusal, or the counts: what the records of both senders begin with
abbrev pub counted_as : Said Written → Counted
counted_as x =
    record {
      refused = refused_in x;
      packets = number_in (λ (c : Written). c.packets) x;
      bytes = number_in (λ (c : Written). c.bytes) x;
      units_dropped = number_in (λ (c : Written). c.units_dropped) x;
      pairs_dropped = number_in (λ (c : Written). c.pairs_dropped) x;
    }

-- the counts, beside the sender
abbrev pub sent_with : Counted → H264Payloader → RtpH264Sent
sent_with c sender =
    record {
      refused = c.refused;
      packets = c.packets;
      bytes = c.bytes;
      units_dropped = c.units_dropped;
      pairs_dropped = c.pairs_dropped;
      sender = sender;
    }

abbrev pub h264_sent_as : Left → RtpH264Sent
h264_sent_as l = sent_with (counted_as l.answer) l.sender

-- what a host has of a sender whose sets lie in lent buffers
abbrev pub lent : LentPayloader → (sps pps : List ℕ) → Lent
lent sender sps pps = record { sender = sender; sps = sps; pps = pps }

-- the counts, beside the lengths of the sets
abbrev pub lent_sent_with : Counted → LentPayloader → RtpH264LentSent
lent_sent_with c sender =
    record {
      refused = c.refused;
      packets = c.packets;
      bytes = c.bytes;
      units_dropped = c.units_dropped;
      pairs_dropped = c.pairs_dropped;
      sender = sender;
    }

abbrev pub h264_lent_sent_as : LeftIn Lent → RtpH264LentSent
h264_lent_sent_as l = lent_sent_with (counted_as l.answer) l.sender.sender

-- "a packet that completes neither shows an empty part"
abbrev pub body_nowhere : RtpBody
body_nowhere = record { lies_in = 0; at = 0; len = 0 }

-- "A plain unit's body can be shown as a part of the packet, a joined one as a part of the gather buffer. The body is all after the
-- unit's first byte": its place, where the payload has p bytes and the gather buffer g
abbrev pub body_as : Showing → ℕ → ℕ → RtpBody
body_as nowhere p g = body_nowhere
body_as in_packet p g = cond (eqb p 0) body_nowhere (record { lies_in = 1; at = 1; len = p - 1 })
body_as (in_gather len) p g = cond (ltb g len) body_nowhere (record { lies_in = 2; at = 0; len = len })

-- the bytes handed out and the body's place, beside the reader
abbrev pub h264_read_as : Heard → ℕ → ℕ → RtpH264Read
h264_read_as h p g =
    record {
      refused = refused_in h.answer;
      bytes = number_in (λ n. n) h.answer;
      body = body_as h.showing p g;
      packet = h.packet;
    }

-- how a caller reads the counts, in the order of either record
abbrev pub counts_by : (packets bytes units pairs : ℕ) → Written
counts_by packets bytes units pairs = record { packets = packets; bytes = bytes; units_dropped = units; pairs_dropped = pairs }

-- how a caller finds the body: a part of the payload, or of the gather buffer, or nothing
abbrev pub body_by : RtpBody → List ℕ → List ℕ → List ℕ
body_by b payload gather =
    cond (eqb b.lies_in 1) (part payload b.at b.len)
    (cond (eqb b.lies_in 2) (part gather b.at b.len) [])
