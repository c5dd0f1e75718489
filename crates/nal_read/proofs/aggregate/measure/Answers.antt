-- The sizes behind the first byte say it, with 17 and 18 for what is wrong.
use mathlib.Core.Path.{◌∙◌}
use Rattle.nal_read.proofs.Stap.{measure_said_lem, with_refusals}
use Rattle.nal_read.proofs.aggregate.measure.Goals as goal

pub returns : goal.returns
returns c = with_refusals _ _ c.map_err.ensures.cases ∙ measure_said_lem c.args.payload.now _ c.measure.ensures
