-- What each answer says, in the paper's numbers and values, and the answer that each definition asks for. Assumes nothing.
use Rattle.std.specs.Prelude.{List, [], ℕ, length, Option, Some, None, Result, Ok, Err}
use Rattle.error.specs.declared.Error.{Error}
use Rattle.error.specs.Said.{Said, says, refused, said}
use Rattle.error.specs.Refusal.{refusal_of}
use Rattle.wire.specs.Part.{pad_to, splice}
use Rattle.elements.specs.Named.{Found, absent, at}
use Rattle.header.specs.declared.Header.{Header}
use Rattle.header.specs.declared.Unmarshalled.{Unmarshalled}
use Rattle.header.specs.declared.Changed.{Changed}
use Rattle.header.specs.declared.Data.{Data}
use Rattle.header.specs.declared.Ids.{Ids}
use Rattle.header.specs.Fields.{lay_out, blank}
use Rattle.header.specs.Read.{Reading}

-- ---- reading

-- the answer and the record beside it
pub record Heard : Type 0 where
  pub answer : Said ℕ
  pub header : Header

abbrev pub heard : Unmarshalled → Heard
heard u = record { answer = said u.read; header = u.header }

-- "A refusal returns its number, no record"
abbrev pub reading_heard : Said Reading → Heard
reading_heard (says r) = record { answer = says r.place; header = lay_out r.fields }
reading_heard (refused r) = record { answer = refused r; header = blank }

-- ---- sizes and writing

-- the answer, and the buffer at exit
pub record Written : Type 0 where
  pub answer : Said ℕ
  pub buffer : List ℕ

abbrev pub heard_written : Result ℕ Error → List ℕ → Written
heard_written r buf = record { answer = said r; buffer = buf }

-- "a refusal .. changes no buffer", "an answer changes only the bytes it writes"; these are the bytes
abbrev pub written : List ℕ → Said (List ℕ) → Written
written buf (says octets) = record { answer = says (length octets); buffer = splice buf 0 octets }
written buf (refused r) = record { answer = refused r; buffer = buf }

-- ---- changes

-- the answer and the record beside it
pub record After : Type 0 where
  pub answer : Said Unit
  pub header : Header

abbrev pub heard_change : Changed → After
heard_change c = record { answer = said c.change; header = c.header }

-- "a refusal .. changes .. no state"
abbrev pub change_heard : Header → Said Header → After
change_heard h (says h') = record { answer = says tt; header = h' }
change_heard h (refused r) = record { answer = refused r; header = h }

-- what a check says before what follows it
abbrev pub unless : Said Unit → Said Header → Said Header
unless (says u) next = next
unless (refused r) next = refused r

-- ---- looking

-- where an element's data are, if it is there
abbrev pub found : Option Data → Found
found (Some d) = at d.at d.len
found None = absent

abbrev pub said_got : Result (Option Data) Error → Said Found
said_got (Ok g) = says (found g)
said_got (Err e) = refused (refusal_of e)

pub record Listed : Type 0 where
  pub answer : Said ℕ
  pub ids : List ℕ

abbrev pub heard_ids : Ids → Listed
heard_ids i = record { answer = said i.count; ids = i.ids }

abbrev pub ids_heard : Said (List ℕ) → Listed
ids_heard (says l) = record { answer = says (length l); ids = pad_to 32 l }
ids_heard (refused r) = record { answer = refused r; ids = pad_to 32 [] }
