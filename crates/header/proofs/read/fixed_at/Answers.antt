-- Field by field, as the definition has it.
use Rattle.header.specs.Parts.{fixed_at}
use Rattle.header.proofs.read.fixed_at.Goals as goal

pub returns : goal.returns
unfolding fixed_at
returns c = rw (c.get_u16.ensures, c.get_u32.ensures, c.get_u32-2.ensures)
