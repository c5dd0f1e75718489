-- How the answers about headers and packets in parts stand in their records. Assumes nothing.
use Rattle.std.specs.Prelude.{cond, [], ℕ, eqb}
use Rattle.error.specs.Said.{Said, says, refused}
use Rattle.header.specs.Parts.{FrontHeard}
use Rattle.packet.specs.Read.{Payload}
use Rattle.packet.specs.Fronts as packet
use Rattle.gateway.specs.declared.rtp_parts.RtpBytes.{RtpBytes}
use Rattle.gateway.specs.declared.rtp_parts.RtpHeaderFront.{RtpHeaderFront}
use Rattle.gateway.specs.declared.rtp_parts.RtpPacketFront.{RtpPacketFront}
use Rattle.gateway.specs.Refused.{number_in}

-- "A refusal returns its number"; 0 where the call answers
abbrev pub refusal_in : {A : Type 0} → Said A → ℕ
refusal_in (says x) = 0
refusal_in (refused r) = r.number

-- a number of bytes
abbrev pub bytes_as : Said ℕ → RtpBytes
bytes_as x = record { number = refusal_in x; bytes = number_in (λ n. n) x }

-- the payload's place, beside the front
abbrev pub header_front_as : FrontHeard → RtpHeaderFront
header_front_as h = record { number = refusal_in h.answer; at = number_in (λ n. n) h.answer; front = h.front }

-- the payload's place and length, beside the front
abbrev pub packet_front_as : packet.FrontHeard → RtpPacketFront
packet_front_as h =
    record {
      number = refusal_in h.answer;
      at = number_in (λ (p : Payload). p.place) h.answer;
      len = number_in (λ (p : Payload). p.len) h.answer;
      front = h.front;
    }

-- how a caller reads it: number 0: the values beside it; else the refusal, which carries nothing
abbrev pub said_with : {A : Type 0} → ℕ → A → Said A
said_with n x = cond (eqb n 0) (says x) (refused (record { number = n; carried = [] }))
