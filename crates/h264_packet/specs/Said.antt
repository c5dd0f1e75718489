-- What each answer says, in the paper's numbers and values. Assumes nothing.
use Rattle.std.specs.Prelude.{◌≡◌, List, ℕ, length, Result, Ok, Err}
use Rattle.error.specs.declared.Error.{Error}
use Rattle.error.specs.Refusal.{refusal_of}
use Rattle.error.specs.Said.{Said, says, refused, said}
use Rattle.nal_read.specs.Kind.{shape}
use Rattle.nal.specs.Fed.{Laid}
use Rattle.nal.specs.Ran.{RanOn}
use Rattle.h264_packet.specs.declared.Ran.{Ran}
use Rattle.h264_packet.specs.declared.H264Packet.{H264Packet}
use Rattle.h264_packet.specs.declared.Shown.{Shown}
use Rattle.h264_packet.specs.declared.Shown.TheVariants as shown
use Rattle.h264_packet.specs.declared.Depacketized.{Depacketized}
use Rattle.h264_packet.specs.Depacketize.{Showing, nowhere, in_packet, in_gather, shown_of}

-- what became of a payload, inside
abbrev pub ran_said : Result Ran Error → Said (RanOn ℕ)
ran_said (Ok ran) = says (record { run = ran.gathered; bytes = ran.bytes })
ran_said (Err e) = refused (refusal_of e)

abbrev pub ran_heard : Result Ran Error → List ℕ → List ℕ → Laid (RanOn ℕ)
ran_heard r gather out = record { answer = ran_said r; gather = gather; out = out }

abbrev pub said_shown : Shown → Showing
said_shown shown.Nowhere = nowhere
said_shown shown.Packet = in_packet
said_shown (shown.Gather n) = in_gather n

-- an answer shows the body so
abbrev pub Shows : Result Ran Error → Showing → Type 0
Shows (Ok ran) x = said_shown ran.shown ≡ x
Shows (Err e) x = Unit {0}

-- the record, the answer, what shows the body, and both buffers after a call
pub record Heard : Type 0 where
  pub packet : H264Packet
  pub answer : Said ℕ
  pub showing : Showing
  pub gather : List ℕ
  pub out : List ℕ

abbrev pub heard : Depacketized → List ℕ → List ℕ → Heard
heard d gather out =
    record { packet = d.packet; answer = said d.answer; showing = said_shown d.shown; gather = gather; out = out }

-- "a refusal .. changes no buffer and no state"; its body is an empty part
abbrev pub reading_heard : H264Packet → List ℕ → List ℕ → List ℕ → Said (RanOn ℕ) → Heard
reading_heard p payload gather out (says r) =
    record {
      packet = record { is_avc = p.is_avc; gathered = r.run };
      answer = says r.bytes;
      showing = shown_of (shape payload) p.gathered (length payload);
      gather = gather;
      out = out;
    }
reading_heard p payload gather out (refused r) =
    record { packet = p; answer = refused r; showing = nowhere; gather = gather; out = out }

abbrev pub depacketized_heard : H264Packet → List ℕ → Laid (RanOn ℕ) → Heard
depacketized_heard p payload l = reading_heard p payload l.gather l.out l.answer
