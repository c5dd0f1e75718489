-- Field by field, as the definition has it.
use mathlib.Core.Path.{refl}
use Rattle.header.specs.Parts.{together}
use Rattle.header.proofs.Front.with.Goals as goal

pub returns : goal.returns
unfolding together
returns c = refl
