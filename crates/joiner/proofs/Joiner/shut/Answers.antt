-- The tests are those of `close_step`, in the same order.
use mathlib.Core.Path.{◌≡◌, sym, ap, ap₂, ◌∙◌}
use mathlib.Core.Bool.{true}
use Prim.Native.Nat.{ℕ, ◌+◌}
use native.Mathlib.Omega.{arith}
use Rattle.std.proofs.lemmas.Result.{err_from_is_err_and}
use Rattle.error.specs.Refusal.{Refusal}
use Rattle.error.specs.Said.{says, refused}
use Rattle.sequence.specs.Number.{distance_of}
use Rattle.joiner_step.specs.Step.{close_by}
use Rattle.joiner_step.proofs.Stages.{close_open, close_far, close_full, close_shut}
use Rattle.joiner.specs.declared.Joiner.{Joiner}
use Rattle.joiner.specs.Join.{kept_of, as_closing, choice_of, close_step}
use Rattle.joiner.proofs.Joining.{is_live, not_live, full, not_full}
use Rattle.joiner.proofs.Joiner.shut.Goals as goal
use Rattle.joiner.proofs.Joiner.shut.Goals.{In_ok-live}

-- ---- 22, 8
pub returns-in_err-live : goal.returns-in_err-live
returns-in_err-live c =
    let p = err_from_is_err_and c.from_residual.result c.from_residual.ensures.1 in
    rw (p.1, p.2) (sym ((not_live c.args.self c.in_err-live.ensures).1 c.args.number))

-- ---- the distance

opened : (c : In_ok-live) →
    let j = c.args.self in
    close_step j c.args.number ≡ as_closing (close_by (choice_of j) (kept_of j) (distance_of c.args.number j.awaited))
unfolding close_step
opened c =
    let j = c.args.self in
    let live = is_live j c.in_ok-live.ensures in
    ap as_closing (close_open (choice_of j) (kept_of j) c.args.number live.0 live.1)

pub returns-then-d-ge32768 : goal.returns-then-d-ge32768
returns-then-d-ge32768 c =
    let j = c.args.self in
    sym
    (opened (goal.at.returns-then-d-ge32768 c).In_ok-live
    ∙ ap as_closing (close_far (choice_of j) (kept_of j) (distance_of c.args.number j.awaited) (omega (arith, c.distance-d.ensures, c.if-d-ge32768.true))))

pub returns-in_err-missed : goal.returns-in_err-missed
returns-in_err-missed c =
    let j = c.args.self in
    let p = err_from_is_err_and c.from_residual-in_err-missed.result c.from_residual-in_err-missed.ensures.1 in
    let f = full j c.distance-d.result c.in_err-missed.ensures in
    rw (p.1, p.2)
    (ap (λ (r : Refusal). record { joiner = j; answer = refused r }) f.0
    ∙ sym
    (opened (goal.at.returns-in_err-missed c).In_ok-live
    ∙ ap as_closing
    (close_full (choice_of j) (kept_of j) (distance_of c.args.number j.awaited) (omega (arith, c.distance-d.ensures, c.if-d-ge32768.false)) (omega (arith, c.distance-d.ensures, f.1)))))

pub returns : goal.returns
returns c =
    let j = c.args.self in
    let d = distance_of c.args.number j.awaited in
    let m = not_full j c.distance-d.result c.in_ok-missed.ensures in
    let total : c.in_ok-missed.missed ≡ j.missed + d = m.0 ∙ ap (λ (k : ℕ). j.missed + k) c.distance-d.ensures in
    ap₂ (λ (k : Joiner) (n : ℕ). record {
      joiner = record { source = k.source; awaited = k.awaited; missed = n; running = k.running; gathered = k.gathered; marked = k.marked; time = k.time; closed = true };
      answer = says (record { first = j.awaited; count = d; bytes = 0 });
    }) c.with_run.ensures total
    ∙ sym
    (opened (goal.at.returns c).In_ok-live
    ∙ ap as_closing (close_shut (choice_of j) (kept_of j) d (omega (arith, c.distance-d.ensures, c.if-d-ge32768.false)) (omega (arith, c.distance-d.ensures, m.1))))
