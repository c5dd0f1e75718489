-- An array of zeros is the empty list, padded.
use borrow.Author.Rules.{rules}
use Rattle.wire.specs.Part.{pad_to}
use Rattle.header.proofs.look.no_ids.Goals as goal

pub returns : goal.returns
unfolding pad_to
returns c = search rules
