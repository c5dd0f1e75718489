-- The joiner that is opened here: what a record keeps, what it was opened with, and the joiner of that choice. Assumes nothing.
use Rattle.std.specs.Prelude.{Bool, false, List, ℕ}
use Rattle.error.specs.Said.{Said, says, refused}
use Rattle.wire.specs.Part.{part}
use Rattle.packet.specs.Read.{PacketReading, read_packet}
use Rattle.joiner_step.specs.Choice.{Arrived, Choice}
use Rattle.joiner_step.specs.Step.{Kept, step, closing, opening}
use Rattle.joiner_step.specs.Step as any
use Rattle.joiner_feed.specs.Content.{Timed, Note, choosing}
use Rattle.joiner_feed.specs.H264.{check}
use Rattle.joiner.specs.declared.Joiner.{Joiner}

-- ---- the record

abbrev pub kept_of : Joiner → Kept Note
kept_of j =
    record {
      source = j.source;
      awaited = j.awaited;
      missed = j.missed;
      run = record { running = j.running; gathered = j.gathered; note = record { marked = j.marked; time = j.time } };
      closed = j.closed;
    }

abbrev pub joiner_of : Kept Note → Joiner
joiner_of k =
    record {
      source = k.source;
      awaited = k.awaited;
      missed = k.missed;
      running = k.run.running;
      gathered = k.run.gathered;
      marked = k.run.note.marked;
      time = k.run.note.time;
      closed = k.closed;
    }

abbrev pub Stepped : Type 0
Stepped = any.Stepped Joiner

abbrev pub ClosingStepped : Type 0
ClosingStepped = any.ClosingStepped Joiner

abbrev pub as_step : any.Stepped (Kept Note) → Stepped
as_step st = record { joiner = joiner_of st.joiner; answer = st.answer; gather = st.gather; out = st.out }

abbrev pub as_closing : any.ClosingStepped (Kept Note) → ClosingStepped
as_closing st = record { joiner = joiner_of st.joiner; answer = st.answer }

-- ---- what it was opened with

-- what is known of a packet
pub record Known : Type 0 where
  -- its timestamp
  pub time : ℕ
  pub payload : List ℕ

abbrev pub known : ℕ → List ℕ → Known
known time payload = record { time = time; payload = payload }

abbrev pub arrived_in : List ℕ → Said PacketReading → Said (Arrived Known)
arrived_in packet (refused r) = refused r
arrived_in packet (says r) =
    says
    (record {
      source = r.fields.source;
      number = r.fields.number;
      known = known r.fields.time (part packet r.payload.place r.payload.len);
    })

-- by the packet's reader and H.264's checks, with this prefix
abbrev pub choice : Bool → Choice Known Timed Note
choice avc = choosing (λ packet. arrived_in packet (read_packet packet)) (λ p. p.time) (λ p. check p.payload) avc

-- "handed out as Annex B": the one prefix that a record can ask for
abbrev pub avc_of : Joiner → Bool
avc_of j = false

abbrev pub choice_of : Joiner → Choice Known Timed Note
choice_of j = choice (avc_of j)

-- ---- its calls

unfoldable pub join_step : Joiner → List ℕ → List ℕ → List ℕ → Stepped
join_step j packet gather out = as_step (step (choice_of j) (kept_of j) packet gather out)

unfoldable pub close_step : Joiner → ℕ → ClosingStepped
close_step j number = as_closing (closing (choice_of j) (kept_of j) number)

unfoldable pub opened : ℕ → ℕ → Joiner
opened source first = joiner_of (opening (choice false) source first)
