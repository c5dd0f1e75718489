use mathlib.Core.Path.{◌≡◌, refl, sym, ap, ◌∙◌}
use mathlib.Core.Bool.{false}
use Prim.Native.Nat.{◌+◌, ◌-◌}
use native.Mathlib.Omega.{arith}
use lib.ListN.{get_or}
use borrow.Author.Tests.{le-leb, lt-leb}
use Rattle.annexb.specs.Search.{ends_code, next_code, code_of}
use Rattle.annexb.specs.Runs.{Run, Zero}
use Rattle.annexb.proofs.Runs.{run_one, run_on, run_as}
use Rattle.annexb.proofs.Codes.{scan_end, no_one, few_zeros}
use Rattle.annexb.proofs.Skips.{ahead, past_others, past_zeros, code_found, no_code, few_left, past_three, to_zeros}
use Rattle.annexb.proofs.find_code.Goals as goal
use Rattle.annexb.proofs.find_code.Goals.{After-past_zeros-end, else-frame-i-eq0-via-then-frame-i-eq0+else-frame-i-eq0-2, else-frame-i-eq0-via-else-frame-i-eq0, else-frame-end-eq1-via-then-frame-end-eq1+else-end-first-ge2, else-frame-end-eq1-via-else-frame-end-eq1}

-- fewer than three bytes
pub returns-then-frame-lt3 : goal.returns-then-frame-lt3
unfolding next_code
returns-then-frame-lt3 c = sym (ap code_of (few_left c.args.frame.now c.args.start (omega arith)))

pub loop-i-init : goal.loop-i-init
unfolding next_code
loop-i-init c = refl

-- no 0 and no 1 two ahead
pub loop-i-preserved-then-b-gt1 : goal.loop-i-preserved-then-b-gt1
loop-i-preserved-then-b-gt1 c =
    let frame = c.args.frame.now in
    let i = c.loop-i.i in
    sym (past_three frame i (omega arith) (λ q. omega arith) (λ p q r. omega arith)
    ∙ past_others frame (i + 3) c.past-i.result (run_as (λ b h. omega arith) c.past-i.ensures))
    ∙ c.loop-i.invariant

-- a 1 two ahead, and not two zeros before it
pub loop-i-preserved-then-b-eq1 : goal.loop-i-preserved-then-b-eq1
loop-i-preserved-then-b-eq1 c =
    let frame = c.args.frame.now in
    let i = c.loop-i.i in
    sym (past_three frame i (omega arith) (λ q. omega arith)
    (λ p q r. elim c.else-frame-i-eq0.branch [ else-frame-i-eq0-via-then-frame-i-eq0+else-frame-i-eq0-2 w ↦ w.if-frame-i-eq0-2.false q | else-frame-i-eq0-via-else-frame-i-eq0 w ↦ w.if-frame-i-eq0.false p ]))
    ∙ c.loop-i.invariant

-- a 0 two ahead: the zeros before and behind it are one run
zeros : (c : After-past_zeros-end) →
    let frame = c.args.frame.now in
    Run Zero frame c.first_zero-first.result c.past_zeros-end.result
zeros c = run_on c.first_zero-first.ensures.zeros c.past_zeros-end.ensures.zeros

-- and what stands before them does not count
from_first : (c : After-past_zeros-end) →
    let args = c.args in
    ahead args.frame.now c.first_zero-first.result 0 ≡ next_code args.frame.now args.start
from_first c =
    let found = c.first_zero-first in
    sym (to_zeros c.args.frame.now c.loop-i.i (omega arith) found.result found.ensures)
    ∙ c.loop-i.invariant

-- behind them no 1, or fewer than two of them
pub loop-i-preserved : goal.loop-i-preserved
loop-i-preserved c =
    let frame = c.args.frame.now in
    let first = c.first_zero-first.result in
    let end = c.past_zeros-end.result in
    let b = get_or frame end 0 in
    let none : ends_code b (end - first) ≡ false =
    elim c.else-frame-end-eq1.branch [ else-frame-end-eq1-via-then-frame-end-eq1+else-end-first-ge2 w ↦ few_zeros b (end - first) (lt-leb 2 (end - first) w.if-end-first-ge2.false) | else-frame-end-eq1-via-else-frame-end-eq1 w ↦ no_one b (end - first) w.if-frame-end-eq1.false ] in
    sym (no_code frame first end (zeros (goal.at.loop-i-preserved c).After-past_zeros-end) (omega arith) (c.past_zeros-end.ensures.stop (omega arith)) none) ∙ from_first (goal.at.loop-i-preserved c).After-past_zeros-end

-- fewer than three bytes left
pub returns-then-last-i : goal.returns-then-last-i
returns-then-last-i c =
    ap code_of (sym (few_left c.args.frame.now c.loop-i.i (omega arith)) ∙ c.loop-i.invariant)

-- zeros to the frame's end
pub returns-then-frame-end : goal.returns-then-frame-end
returns-then-frame-end c =
    let frame = c.args.frame.now in
    let first = c.first_zero-first.result in
    let end = c.past_zeros-end.result in
    ap code_of (sym (past_zeros frame first end (zeros (goal.at.returns-then-frame-end c).After-past_zeros-end) ∙ scan_end frame end (end - first) (omega arith)) ∙ from_first (goal.at.returns-then-frame-end c).After-past_zeros-end)

-- two zeros or more and a 1
pub returns-then-end-first-ge2 : goal.returns-then-end-first-ge2
returns-then-end-first-ge2 c =
    let frame = c.args.frame.now in
    ap code_of (code_found frame c.first_zero-first.result c.past_zeros-end.result (omega arith) (zeros (goal.at.returns-then-end-first-ge2 c).After-past_zeros-end) (omega arith)
    c.if-frame-end-eq1.true (le-leb 2 (c.past_zeros-end.result - c.first_zero-first.result) c.if-end-first-ge2.true)
    ∙ from_first (goal.at.returns-then-end-first-ge2 c).After-past_zeros-end)
