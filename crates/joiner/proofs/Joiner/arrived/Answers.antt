-- The tests are those of `by_source` and `by_distance`; what follows is the payload's fate.
use mathlib.Core.Path.{◌≡◌, sym, ap, ap₂, ◌∙◌}
use mathlib.Core.Bool.{Bool, false}
use mathlib.Core.List.{List}
use Prim.Native.Nat.{ℕ, ◌+◌}
use native.Mathlib.Omega.{arith}
use borrow.Author.Rules.{rules}
use Rattle.std.specs.Prelude.{Option, Result, Ok, Err}
use Rattle.std.proofs.lemmas.Result.{err_from_is_err_and}
use Rattle.error.specs.declared.Error.{Error}
use Rattle.error.specs.Refusal.{Refusal}
use Rattle.error.specs.Said.{says, refused}
use Rattle.sequence.specs.Number.{distance_of, next_of}
use Rattle.joiner_step.specs.Run.{Run}
use Rattle.joiner_step.specs.Choice.{Arrived}
use Rattle.joiner_step.specs.Step.{Accepted, accepted, run_at, by_distance, by_source}
use Rattle.joiner_step.proofs.Stages.{source_own, source_other, distance_late, distance_full, distance_near}
use Rattle.joiner_feed.specs.declared.Run as feed
use Rattle.joiner_feed.specs.declared.Ran.{Ran}
use Rattle.joiner_feed.specs.Content.{Note, fed_after}
use Rattle.joiner_feed.specs.H264.{check}
use Rattle.joiner_feed.specs.Ran.{held_in, run_of, ran_heard, lay_does}
use Rattle.joiner.specs.declared.Joiner.{Joiner}
use Rattle.joiner.specs.Join.{kept_of, Stepped, as_step, Known, known, choice_of}
use Rattle.joiner.proofs.Joining.{stepped, checked_is, held_is, held_le, full, not_full}
use Rattle.joiner.proofs.Joiner.arrived.Goals as goal
use Rattle.joiner.proofs.Joiner.arrived.Goals.{Start, After-run_at}

abbrev joiner : Start → Joiner
joiner s = s.args.self

-- what is known of the packet
abbrev came : Start → Arrived Known
came s = record { source = s.args.arrival.source; number = s.args.arrival.number; known = known s.args.arrival.time s.args.payload.now }

abbrev far : Start → ℕ
far s = distance_of s.args.arrival.number (joiner s).awaited

-- what the call is to leave
abbrev asked : Start → Stepped
asked s = as_step (by_source (choice_of (joiner s)) (kept_of (joiner s)) (came s) s.args.gather.now s.args.out.now)

abbrev by_distance_lem : Start → ℕ → Stepped
by_distance_lem s d =
    as_step (by_distance (choice_of (joiner s)) (kept_of (joiner s)) d s.args.arrival.number (known s.args.arrival.time s.args.payload.now) s.args.gather.now s.args.out.now)

own : (s : Start) → s.args.arrival.source ≡ (joiner s).source → asked s ≡ by_distance_lem s (far s)
own s e = ap as_step (source_own (choice_of (joiner s)) (kept_of (joiner s)) s.args.gather.now s.args.out.now (came s) e)

-- ---- 20, Late, 24
pub returns-then-arrival-self : goal.returns-then-arrival-self
returns-then-arrival-self c =
    let s = (goal.at.returns-then-arrival-self c).Start in
    sym (ap as_step (source_other (choice_of (joiner s)) (kept_of (joiner s)) s.args.gather.now s.args.out.now (came s) c.if-arrival-self.true))

pub returns-then-d-ge32768 : goal.returns-then-d-ge32768
returns-then-d-ge32768 c =
    let s = (goal.at.returns-then-d-ge32768 c).Start in
    sym
    (own s c.if-arrival-self.false
    ∙ ap as_step
    (distance_late (choice_of (joiner s)) (kept_of (joiner s)) s.args.gather.now s.args.out.now (far s) s.args.arrival.number (known s.args.arrival.time s.args.payload.now) (omega (arith, c.distance-d.ensures, c.if-d-ge32768.true))))

pub returns-in_err-missed : goal.returns-in_err-missed
returns-in_err-missed c =
    let s = (goal.at.returns-in_err-missed c).Start in
    let p = err_from_is_err_and c.from_residual.result c.from_residual.ensures.1 in
    let f = full (joiner s) c.distance-d.result c.in_err-missed.ensures in
    rw (p.1, p.2)
    (ap (λ (r : Refusal). record { joiner = joiner s; answer = refused r; gather = s.args.gather.now; out = s.args.out.now }) f.0
    ∙ sym
    (own s c.if-arrival-self.false
    ∙ ap as_step
    (distance_full (choice_of (joiner s)) (kept_of (joiner s)) s.args.gather.now s.args.out.now (far s) s.args.arrival.number (known s.args.arrival.time s.args.payload.now) (omega (arith, c.distance-d.ensures, c.if-d-ge32768.false)) (omega (arith, c.distance-d.ensures, f.1)))))

-- ---- the payload

-- its fate, by what `feed` answers
fate : (c : After-run_at) → (x : Result Ran Error) (g' o' : List ℕ) →
    let a = c.args in
    ran_heard x g' o' ≡ lay_does false a.gather.now a.out.now (fed_after (run_of c.run_at.result a.gather.now) a.arrival.time (check a.payload.now)) →
    stepped a.self a.arrival.number c.in_ok-missed.missed c.distance-d.result (ran_heard x g' o')
    ≡ as_step (by_source (choice_of a.self) (kept_of a.self) (record { source = a.arrival.source; number = a.arrival.number; known = known a.arrival.time a.payload.now }) a.gather.now a.out.now)
fate c x g' o' e =
    let a = c.args in
    let j = a.self in
    let number = a.arrival.number in
    let payload : List ℕ = a.payload.now in
    let g : List ℕ = a.gather.now in
    let o : List ℕ = a.out.now in
    let n = distance_of number j.awaited in
    let dist = c.distance-d in
    let m = not_full j dist.result c.in_ok-missed.ensures in
    let total : c.in_ok-missed.missed ≡ j.missed + n = m.0 ∙ ap (λ (k : ℕ). j.missed + k) dist.ensures in
    let run : run_of c.run_at.result g ≡ run_at (choice_of j) (kept_of j) n g =
    ap (λ (r : Option feed.Run). run_of r g) c.run_at.ensures
    ∙ held_is j dist.result g
    ∙ ap (λ (k : ℕ). run_at (choice_of j) (kept_of j) k g) dist.ensures in
    ap (stepped j number c.in_ok-missed.missed dist.result) e
    ∙ ap₂ (λ (k e : ℕ). stepped j number k e (lay_does false g o (fed_after (run_of c.run_at.result g) a.arrival.time (check payload)))) total dist.ensures
    ∙ ap (λ (r : Run Note). stepped j number (j.missed + n) n (lay_does false g o (fed_after r a.arrival.time (check payload)))) run
    ∙ sym
    (ap as_step (source_own (choice_of j) (kept_of j) g o (record { source = a.arrival.source; number = number; known = known a.arrival.time payload }) c.if-arrival-self.false)
    ∙ ap as_step (distance_near (choice_of j) (kept_of j) g o n number (known a.arrival.time payload) (omega (arith, dist.ensures, c.if-d-ge32768.false)) (omega (arith, dist.ensures, m.1)))
    ∙ checked_is j n number g o a.arrival.time (check payload))

pub returns-in_err-ran : goal.returns-in_err-ran
returns-in_err-ran c =
    let p = err_from_is_err_and c.from_residual-in_err-ran.result c.from_residual-in_err-ran.ensures.1 in
    rw (p.1, p.2) (fate (goal.at.returns-in_err-ran c).After-run_at (Err _) _ _ c.in_err-ran.ensures)

pub returns : goal.returns
returns c =
    let j = c.args.self in
    let ran = c.in_ok-ran.ran in
    let g' = c.feed.new.gather in
    let o' = c.feed.new.out in
    let answer : Accepted = record { first = j.awaited; count = c.distance-d.result; bytes = ran.bytes } in
    ap₂
    (λ (k : Joiner) (n : ℕ). record {
      joiner = record { source = k.source; awaited = n; missed = c.in_ok-missed.missed; running = k.running; gathered = k.gathered; marked = k.marked; time = k.time; closed = k.closed };
      answer = says (accepted answer);
      gather = g';
      out = o';
    }) c.with_run.ensures c.after.ensures
    ∙ ap
    (λ (b : Bool). record {
      joiner = record { source = j.source; awaited = next_of c.args.arrival.number; missed = c.in_ok-missed.missed; running = (held_in ran.run).running; gathered = (held_in ran.run).gathered; marked = (held_in ran.run).note.marked; time = (held_in ran.run).note.time; closed = b };
      answer = says (accepted answer);
      gather = g';
      out = o';
    }) c.requires.2
    ∙ fate (goal.at.returns c).After-run_at (Ok ran) g' o' c.in_ok-ran.ensures
