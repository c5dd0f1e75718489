-- What reading a packet answers, in the record's parts: its front, and its arrays. Assumes nothing.
use Rattle.error.specs.Said.{Said, says, refused}
use Rattle.header.specs.declared.Front.{Front}
use Rattle.header.specs.Fields.{lay_out}
use Rattle.header.specs.Parts.{front_of, Lent, lent_of}
use Rattle.packet.specs.declared.FrontRead.{FrontRead}
use Rattle.packet.specs.Read.{Payload, PacketReading}
use Rattle.packet.specs.Said.{Heard, said_read}

-- the answer, and the front of the record beside it
pub record FrontHeard : Type 0 where
  pub answer : Said Payload
  pub front : Front

abbrev pub heard_front : FrontRead → FrontHeard
heard_front r = record { answer = said_read r.read; front = r.front }

-- what reading answers, without the arrays
abbrev pub front_heard : Heard → FrontHeard
front_heard h = record { answer = h.answer; front = front_of h.header }

-- "A refusal .. changes no buffer"; else the arrays that are lent become those of the record
abbrev pub lent_read : Lent → Said PacketReading → Lent
lent_read old (says r) = lent_of (lay_out r.fields)
lent_read old (refused r) = old
