-- An array of zeros is an empty list laid out.
use mathlib.Core.Path.{refl}
use Rattle.wire.specs.Part.{pad_to}
use Rattle.elements.specs.Elements.{lay_elements}
use Rattle.elements.proofs.Extensions.new.Goals as goal

pub returns : goal.returns
unfolding lay_elements pad_to
returns c = refl
