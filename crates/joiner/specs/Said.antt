-- What each answer says, in the paper's numbers and values. Assumes nothing.
use Rattle.std.specs.Prelude.{false, cond, List, ℕ, ◌+◌, ltb, eqb, Option, None, Result, Ok, Err}
use Rattle.error.specs.declared.Error.{Error}
use Rattle.error.specs.Refusal.{refusal_of}
use Rattle.error.specs.Said.{Said, says, refused, refuse}
use Rattle.sequence.specs.Number.{distance_of, next_of}
use Rattle.nal.specs.Ran.{RanOn}
use Rattle.joiner_feed.specs.declared.Run.{Run}
use Rattle.joiner_feed.specs.Ran.{held_in, run_from}
use Rattle.joiner_step.specs.Step.{Accepted, Answer, accepted, late, wrong}
use Rattle.joiner.specs.declared.Joiner.{Joiner}
use Rattle.joiner.specs.declared.Joined.{Joined}
use Rattle.joiner.specs.declared.Joined.TheVariants as joined
use Rattle.joiner.specs.declared.Step.{Step}
use Rattle.joiner.specs.declared.Moved.{Moved}
use Rattle.joiner.specs.declared.Closed.{Closed}
use Rattle.joiner.specs.declared.Closing.{Closing}
use Rattle.joiner.specs.Join.{kept_of, choice_of, Stepped, ClosingStepped}

abbrev pub said_joined : Result Joined Error → Said Answer
said_joined (Ok (joined.Accepted first count bytes)) = says (accepted (record { first = first; count = count; bytes = bytes }))
said_joined (Ok joined.Late) = says late
said_joined (Err e) = refused (refusal_of e)

abbrev pub step_heard : Step → List ℕ → List ℕ → Stepped
step_heard s gather out = record { joiner = s.joiner; answer = said_joined s.answer; gather = gather; out = out }

-- the same where the record is lent
abbrev pub place_heard : Joiner → Result Joined Error → List ℕ → List ℕ → Stepped
place_heard j r gather out = record { joiner = j; answer = said_joined r; gather = gather; out = out }

-- and where a refusal is yet to be put beside the record that stays
abbrev pub moved_heard : Joiner → Result Moved Error → List ℕ → List ℕ → Stepped
moved_heard j (Ok m) gather out = record { joiner = m.joiner; answer = said_joined (Ok m.joined); gather = gather; out = out }
moved_heard j (Err e) gather out = record { joiner = j; answer = refused (refusal_of e); gather = gather; out = out }

-- 22, then 8: what is told of a record by itself
abbrev pub live_said : Joiner → Said (Unit {0})
live_said j = cond j.closed (refuse 22) (cond (wrong (choice_of j) (kept_of j).run) (refuse 8) (says tt))

-- 24, and what is missed after d numbers more
abbrev pub missed_said : Joiner → ℕ → Said ℕ
missed_said j d = cond (ltb 4294967295 (j.missed + d)) (refuse 24) (says (j.missed + d))

-- with this run open
abbrev pub with_run : Joiner → Option Run → Joiner
with_run j run =
    record {
      source = j.source;
      awaited = j.awaited;
      missed = j.missed;
      running = (held_in run).running;
      gathered = (held_in run).gathered;
      marked = (held_in run).note.marked;
      time = (held_in run).note.time;
      closed = j.closed;
    }

-- "d > 0 drops the open run": the run that a payload is fed to
abbrev pub held_at : Joiner → ℕ → Option Run
held_at j d = cond (eqb d 0) (run_from (kept_of j).run) None

-- what an accepted packet's fate makes of the record and of the answer
abbrev pub accepted_joiner : Joiner → ℕ → ℕ → Said (RanOn (Option Run)) → Joiner
accepted_joiner j number missed (says r) =
    record {
      source = j.source;
      awaited = next_of number;
      missed = missed;
      running = (held_in r.run).running;
      gathered = (held_in r.run).gathered;
      marked = (held_in r.run).note.marked;
      time = (held_in r.run).note.time;
      closed = false;
    }
accepted_joiner j number missed (refused r) = j

abbrev pub accepted_answer : Joiner → ℕ → Said (RanOn (Option Run)) → Said Answer
accepted_answer j d (says r) = says (accepted (record { first = j.awaited; count = d; bytes = r.bytes }))
accepted_answer j d (refused r) = refused r

abbrev pub said_closed : Result Closed Error → Said Accepted
said_closed (Ok c) = says (record { first = c.first; count = c.count; bytes = 0 })
said_closed (Err e) = refused (refusal_of e)

abbrev pub closing_heard : Closing → ClosingStepped
closing_heard c = record { joiner = c.joiner; answer = said_closed c.answer }

-- closed by this number, or a refusal that is yet to be put beside the record that stays
abbrev pub shut_heard : Joiner → ℕ → Result Joiner Error → ClosingStepped
shut_heard j number (Ok k) = record { joiner = k; answer = says (record { first = j.awaited; count = distance_of number j.awaited; bytes = 0 }) }
shut_heard j number (Err e) = record { joiner = j; answer = refused (refusal_of e) }
