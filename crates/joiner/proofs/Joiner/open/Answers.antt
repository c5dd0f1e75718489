-- Field by field.
use mathlib.Core.Path.{refl}
use Rattle.joiner_step.specs.Step.{opening}
use Rattle.joiner.specs.Join.{opened}
use Rattle.joiner.proofs.Joiner.open.Goals as goal

pub returns : goal.returns
unfolding opened opening
returns c = refl
