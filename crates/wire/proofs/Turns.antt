-- The two laws by which a loop follows a definition by turns: a turn that goes on uses up one of the fuel, and a turn that ends
-- says the result. Assumes nothing.
use mathlib.Core.Path.{◌≡◌, ap, ◌∙◌}
use Prim.Native.Nat.{ℕ, zero, suc, ◌-◌, ◌<◌}
use native.Mathlib.Nat.{not-suc-le-zero}
use native.Mathlib.Omega.{arith}
use Rattle.wire.specs.Turns.{Turn, more, done, after, run}

module _ {S R : Type 0} (step : S → Turn S R) (otherwise : R) where
  pub run_more : (fuel : ℕ) (s s' : S) → 0 < fuel → step s ≡ more s' →
      run step otherwise fuel s ≡ run step otherwise (fuel - 1) s'
  unfolding run
  run_more zero s s' h e = absurd (not-suc-le-zero h)
  run_more (suc fuel) s s' h e =
      let l : fuel ≡ suc fuel - 1 = omega arith in
      ap (λ (t : Turn S R). after t (run step otherwise fuel)) e ∙ ap (λ (f : ℕ). run step otherwise f s') l

  pub run_done : (fuel : ℕ) (s : S) (r : R) → 0 < fuel → step s ≡ done r → run step otherwise fuel s ≡ r
  unfolding run
  run_done zero s r h e = absurd (not-suc-le-zero h)
  run_done (suc fuel) s r h e = ap (λ (t : Turn S R). after t (run step otherwise fuel)) e
