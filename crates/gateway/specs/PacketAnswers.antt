-- How the answers about packets stand in their records. Assumes nothing.
use Rattle.packet.specs.Read.{Payload}
use Rattle.packet.specs.Said.{Heard}
use Rattle.gateway.specs.declared.rtp_packet.RtpPacketRead.{RtpPacketRead}
use Rattle.gateway.specs.Refused.{refused_in, number_in}

-- the payload's place and length, beside the header
abbrev pub packet_read_as : Heard → RtpPacketRead
packet_read_as h =
    record {
      refused = refused_in h.answer;
      at = number_in (λ (p : Payload). p.place) h.answer;
      len = number_in (λ (p : Payload). p.len) h.answer;
      header = h.header;
    }
