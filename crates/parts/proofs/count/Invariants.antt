-- Long division: steps taken and bytes left make up the length at every turn, and at the last a step is one part.
use mathlib.Core.Path.{◌≡◌}
use Prim.Native.Nat.{ℕ, ◌+◌, ◌-◌, ◌*◌, ◌^◌, ◌≤◌, ◌<◌}
use Rattle.parts.proofs.count.Given as goal

-- a step is a part, doubled some times
pub record Step (size step : ℕ) : Type 0 where
  pub times : ℕ
  pub is : step ≡ size * 2 ^ times

pub record Divided (len step taken left : ℕ) : Type 0 where
  pub whole : len ≡ taken * step + left
  pub some : 0 < left
  pub most : left ≤ step

-- 33,554,432 is twice the longest length
abbrev pub invariant-loop-step : goal.invariant-loop-step
invariant-loop-step l = Step l.size l.step × (0 < l.step) × (l.step ≤ 33554432)

abbrev pub decreases-loop-step : goal.decreases-loop-step
decreases-loop-step l = l.len - l.step

abbrev pub invariant-loop-step-2 : goal.invariant-loop-step-2
invariant-loop-step-2 l = Step l.size l.step × Divided l.len l.step l.taken l.left

abbrev pub decreases-loop-step-2 : goal.decreases-loop-step-2
decreases-loop-step-2 l = l.step
