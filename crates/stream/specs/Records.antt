-- Steps through the packets of a file. Assumes nothing.
use Rattle.std.specs.Prelude.{◌≡◌, ℕ, ◌+◌, List, take, Option, None, Some, Result, Ok, Err}
use Rattle.stream.specs.declared.framing.Record.{Record}
use Rattle.stream.specs.declared.framing.Record.TheVariants.{Packet, Cut, End}
use Rattle.stream.specs.declared.records.Next.{Next}
use Rattle.stream.specs.declared.status.Status.{Status}
use Rattle.stream.specs.declared.status.Status.TheVariants as status
use Rattle.stream.specs.declared.window.Window.{Window}
use Rattle.stream.specs.Framing.{record_at}
use Rattle.stream.specs.Window.{from, Refilled}

-- the window when a record is taken: behind its packet
abbrev pub past_record : Window → Record → Window
past_record w (Packet at len) = from (at + len) w
past_record w Cut = w
past_record w End = w

-- the record where a window of these bytes stands, and what is then left
unfoldable pub found_in : List ℕ → Window → Next Record
found_in buf w =
    record {
      window = past_record w (record_at (take w.end buf) w.at);
      found = record_at (take w.end buf) w.at;
    }

-- the step was made in the bytes that were there, or in those that stand there after one more read
pub data Stepped (w : Window) (before after : List ℕ) (r : Next Record) : Type 0 where
  here : after ≡ before → r ≡ found_in before w → Stepped w before after r
  behind : (fresh : Window) → Refilled w before fresh after → r ≡ found_in after fresh → Stepped w before after r

-- a file ends within a record, or it does not
abbrev pub ending_by : Record → Result Unit Status
ending_by (Packet at len) = Ok tt
ending_by Cut = Err status.Cut
ending_by End = Ok tt

-- the file could not be read to its end, or ends as its last record says
abbrev pub ending_in : {E : Type 0} → Option (Result Unit E) → Record → Result Unit Status
ending_in (Some (Err e)) found = Err status.Failed
ending_in (Some (Ok _)) found = ending_by found
ending_in None found = ending_by found

-- what is told of how a file ended
abbrev pub ending_of : Next Record → Result Unit Status
ending_of n = ending_in n.window.ended n.found
