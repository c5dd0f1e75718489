-- What became of a payload, in the code's own terms. Assumes nothing.
use Rattle.std.specs.Prelude.{Bool, true, false, cond, List, ◌∷◌, ℕ, Option, Some, None, Result, Ok, Err}
use Rattle.error.specs.declared.Error.{Error}
use Rattle.error.specs.Refusal.{refusal_of}
use Rattle.error.specs.Said.{Said, says, refused}
use Rattle.nal.specs.Fed.{Laid}
use Rattle.nal.specs.Ran.{RanOn, lay_run}
use Rattle.joiner_step.specs.Run as step
use Rattle.joiner_step.specs.Run.{Held, nothing, held_of, Does, gathers, ends, fed_said}
use Rattle.joiner_feed.specs.declared.Run.{Run}
use Rattle.joiner_feed.specs.declared.Ran.{Ran}
use Rattle.joiner_feed.specs.Content.{Note, blank, top_bit}

abbrev pub note_of : Run → Note
note_of run = record { marked = run.marked; time = run.time }

-- what a record keeps of a run
abbrev pub held_in : Option Run → Held Note
held_in None = nothing blank
held_in (Some run) = record { running = true; gathered = run.gathered; note = note_of run }

-- and how the code says it
abbrev pub run_from : Held Note → Option Run
run_from h = cond h.running (Some (record { gathered = h.gathered; marked = h.note.marked; time = h.note.time })) None

abbrev pub recorded : step.Run Note → Option Run
recorded run = run_from (held_of blank run)

-- the run that it and the gather buffer stand for
abbrev pub run_of : Option Run → List ℕ → step.Run Note
run_of run gather = step.run_of (held_in run) gather

abbrev pub ran_said : Result Ran Error → Said (RanOn (Option Run))
ran_said (Ok ran) = says (record { run = ran.run; bytes = ran.bytes })
ran_said (Err e) = refused (refusal_of e)

abbrev pub ran_heard : Result Ran Error → List ℕ → List ℕ → Laid (RanOn (Option Run))
ran_heard r gather out = record { answer = ran_said r; gather = gather; out = out }

-- what a payload does, laid into both buffers
abbrev pub lay_does : Bool → List ℕ → List ℕ → Said (Does Note) → Laid (RanOn (Option Run))
lay_does avc gather out x = lay_run recorded avc gather out (fed_said x)

-- a later fragment of the run's own time, the last or not: these are the run's bytes with it, and its mark
abbrev pub goes_on : (last : Bool) (head : ℕ) → Note → List ℕ → Does Note
goes_on false head note bytes = gathers note bytes
goes_on true head note bytes = ends bytes (top_bit note.marked head ∷ bytes)
