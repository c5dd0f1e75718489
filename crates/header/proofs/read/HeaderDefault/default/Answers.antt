-- Zeros everywhere are the blank record.
use Rattle.wire.specs.Part.{pad_to}
use Rattle.header.specs.Fields.{blank, lay_out}
use Rattle.header.proofs.read.HeaderDefault.default.Goals as goal

pub returns : goal.returns
unfolding blank lay_out pad_to
returns c = rw c.new.ensures
