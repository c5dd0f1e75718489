-- Zeros everywhere are the front of the blank record.
use mathlib.Core.Path.{refl}
use Rattle.elements.specs.Elements.{lay_elements}
use Rattle.header.specs.Fields.{blank, lay_out}
use Rattle.header.proofs.read.FrontDefault.default.Goals as goal

pub returns : goal.returns
unfolding blank lay_out lay_elements
returns c = refl
