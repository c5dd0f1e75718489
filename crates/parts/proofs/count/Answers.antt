use mathlib.Core.Path.{◌≡◌, sym, ap, ◌∙◌}
use Prim.Native.Nat.{ℕ, zero, suc, ◌+◌, ◌-◌, ◌*◌, ◌/◌, ◌^◌, ◌≤◌, ◌<◌}
use native.Mathlib.Nat.{mul-one, mul_assoc, mul_left_comm, le-mul_of_pos_right, add-mul, one-mul, pow-succ', div-eq_of_lt-le}
use native.Mathlib.Omega.{arith}
use lib.Pow.{pow_pos}
use borrow.Author.Rules.{rules}
use Rattle.parts.proofs.count.Goals as goal
use Rattle.parts.proofs.count.Invariants.{Step, Divided}
use Rattle.parts.proofs.count.Goals.{At-loop-step-2}

doubled : (size times : ℕ) → size * 2 ^ suc times ≡ 2 * (size * 2 ^ times)
doubled size times = ap (λ (k : ℕ). size * k) (pow-succ' 2 times) ∙ mul_left_comm size 2 (2 ^ times)

-- a step that is more than a part halves to a step
halved : (size step : ℕ) → Step size step → size < step → Step size (step / 2) × (step ≡ 2 * (step / 2))
halved size step s more = go s.times s.is
  where
    go : (times : ℕ) → step ≡ size * 2 ^ times → Step size (step / 2) × (step ≡ 2 * (step / 2))
    go zero e = absurd (omega (arith, mul-one size))
    go (suc times) e =
        let twice = doubled size times in
        (record { times = times; is = omega (arith, e) }, omega (arith, e))

-- a turn of the second loop up to its test: twice as many steps of half the size
turn : (len size step taken left : ℕ) → Step size step → size < step → Divided len step taken left →
    Step size (step / 2) × (len ≡ 2 * taken * (step / 2) + left) × (left ≤ step / 2 + step / 2)
turn len size step taken left s more d =
    let h = halved size step s more in
    let same : taken * step ≡ 2 * taken * (step / 2) =
    ap (λ (k : ℕ). taken * k) h.1 ∙ mul_left_comm taken 2 (step / 2) ∙ sym (mul_assoc 2 taken (step / 2)) in
    (h.0, omega (arith, d.whole), omega (arith, d.most, h.1))

one_more : (n k : ℕ) → (n + 1) * k ≡ n * k + k
one_more n k = add-mul n 1 k ∙ ap (λ (m : ℕ). n * k + m) (one-mul k)

pub loop-step-preserved : goal.loop-step-preserved
loop-step-preserved c =
    let s = c.loop-step.invariant.0 in
    (record { times = suc s.times; is = ap (λ (k : ℕ). 2 * k) s.is ∙ sym (doubled _ s.times) }, search rules, search rules)

-- in the second loop
small : (c : At-loop-step-2) → c.loop-step-2.taken < c.args.len
small c = omega (arith, le-mul_of_pos_right {m = c.loop-step-2.step} c.loop-step-2.taken (search rules), c.loop-step-2.invariant.1.whole)

pub loop-step-2-preserved-then-step-left : goal.loop-step-2-preserved-then-step-left
loop-step-2-preserved-then-step-left c =
    let at = c.loop-step-2 in
    let t = turn _ _ at.step at.taken at.left at.invariant.0 (omega (arith, c.loop-step-2-test.true)) at.invariant.1 in
    let one = one_more (2 * at.taken) (at.step / 2) in
    (t.0, record { whole = omega (arith, t.1); some = search rules; most = omega (arith, t.2) })

pub loop-step-2-preserved : goal.loop-step-2-preserved
loop-step-2-preserved c =
    let at = c.loop-step-2 in
    let t = turn _ _ at.step at.taken at.left at.invariant.0 (omega (arith, c.loop-step-2-test.true)) at.invariant.1 in
    (t.0, record { whole = t.1; some = at.invariant.1.some; most = search rules })

pub returns : goal.returns
returns c =
    let a = c.args in
    let at = c.loop-step-2 in
    let least = le-mul_of_pos_right a.size (pow_pos at.invariant.0.times) in
    let part : at.step ≡ a.size = omega (arith, at.invariant.0.is) in
    let product : at.taken * at.step ≡ at.taken * a.size = ap (λ (k : ℕ). at.taken * k) part in
    let next = one_more at.taken a.size in
    let quotient : (a.len - 1) / a.size ≡ at.taken =
    div-eq_of_lt-le a.size (omega (arith, at.invariant.1.whole, at.invariant.1.some)) (omega (arith, at.invariant.1.whole, at.invariant.1.most)) in
    (omega arith, omega (arith, small (goal.at.returns c).At-loop-step-2))
