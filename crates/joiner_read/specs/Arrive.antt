-- What the joiner needs of a packet, by the packet's reader. Assumes nothing.
use Rattle.std.specs.Prelude.{ℕ, Result, Ok, Err}
use Rattle.error.specs.declared.Error.{Error}
use Rattle.error.specs.Refusal.{refusal_of}
use Rattle.error.specs.Said.{Said, says, refused}
use Rattle.packet.specs.Read.{PacketReading}
use Rattle.joiner_read.specs.declared.Arrival.{Arrival}

pub record Arrived : Type 0 where
  pub source : ℕ
  pub number : ℕ
  pub time : ℕ
  pub place : ℕ
  pub len : ℕ

abbrev pub arrival_said : Result Arrival Error → Said Arrived
arrival_said (Ok a) =
    says (record { source = a.source; number = a.number; time = a.time; place = a.at; len = a.len })
arrival_said (Err e) = refused (refusal_of e)

abbrev pub arrived_by : PacketReading → Arrived
arrived_by r =
    record {
      source = r.fields.source;
      number = r.fields.number;
      time = r.fields.time;
      place = r.payload.place;
      len = r.payload.len;
    }

abbrev pub arrival_of : Said PacketReading → Said Arrived
arrival_of (says r) = says (arrived_by r)
arrival_of (refused r) = refused r
