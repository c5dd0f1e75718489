-- Definitions by turns: a step says how a state goes on, or what it ends in. Assumes nothing.
use Rattle.std.specs.Prelude.{ℕ, zero, suc}

pub data Turn (S R : Type 0) : Type 0 where
  more : S → Turn S R
  done : R → Turn S R

abbrev pub after : {S R : Type 0} → Turn S R → (S → R) → R
after (more s) go = go s
after (done r) go = r

-- turn after turn from s on, `fuel` of them at most; `otherwise` where those were not enough
unfoldable pub run : {S R : Type 0} → (S → Turn S R) → R → ℕ → S → R
run step otherwise zero s = otherwise
run step otherwise (suc fuel) s = after (step s) (run step otherwise fuel)
