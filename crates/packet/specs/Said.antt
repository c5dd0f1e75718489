-- What each answer says, in the paper's numbers and values. Assumes nothing.
use Rattle.std.specs.Prelude.{ℕ, ◌-◌, ◌≤◌, Result, Ok, Err}
use Rattle.error.specs.declared.Error.{Error}
use Rattle.error.specs.Refusal.{refusal_of}
use Rattle.error.specs.Said.{Said, says, refused}
use Rattle.header.specs.declared.Header.{Header}
use Rattle.header.specs.Fields.{lay_out, blank}
use Rattle.packet.specs.declared.Payload as code
use Rattle.packet.specs.declared.Unmarshalled.{Unmarshalled}
use Rattle.packet.specs.Read.{Payload, PacketReading}

abbrev pub said_read : Result code.Payload Error → Said Payload
said_read (Ok p) = says (record { place = p.at; len = p.len })
said_read (Err e) = refused (refusal_of e)

-- the payload's place, where the header says one, lies within n bytes
abbrev pub Begins : ℕ → Result ℕ Error → Type 0
Begins n (Ok place) = place ≤ n
Begins n (Err e) = Unit

-- the header's answer as that of a packet of n bytes without padding
abbrev pub unpadded : ℕ → Result ℕ Error → Said Payload
unpadded n (Ok place) = says (record { place = place; len = n - place })
unpadded n (Err e) = refused (refusal_of e)

-- the answer and the record beside it
pub record Heard : Type 0 where
  pub answer : Said Payload
  pub header : Header

abbrev pub heard : Unmarshalled → Heard
heard u = record { answer = said_read u.read; header = u.header }

-- "A refusal returns its number, no record"
abbrev pub reading_heard : Said PacketReading → Heard
reading_heard (says r) = record { answer = says r.payload; header = lay_out r.fields }
reading_heard (refused r) = record { answer = refused r; header = blank }
