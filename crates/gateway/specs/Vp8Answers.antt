-- How the answers about VP8 stand in their records. Assumes nothing.
use Rattle.vp8_send.specs.declared.Vp8Sent.{Vp8Sent}
use Rattle.vp8_send.specs.Send.{Sending}
use Rattle.vp8_read.specs.Read.{Reading}
use Rattle.gateway.specs.declared.rtp_vp8.RtpVp8Sent.{RtpVp8Sent}
use Rattle.gateway.specs.declared.rtp_vp8.RtpVp8Read.{RtpVp8Read}
use Rattle.gateway.specs.Refused.{refused_in, number_in}

-- the counts, beside the payloader
abbrev pub vp8_sent_as : Sending → RtpVp8Sent
vp8_sent_as s =
    record {
      refused = refused_in s.said;
      packets = number_in (λ (c : Vp8Sent). c.packets) s.said;
      bytes = number_in (λ (c : Vp8Sent). c.bytes) s.said;
      payloader = s.payloader;
    }

-- the payload's place, beside the fields
abbrev pub vp8_read_as : Reading → RtpVp8Read
vp8_read_as r = record { refused = refused_in r.said; at = number_in (λ n. n) r.said; packet = r.packet }
