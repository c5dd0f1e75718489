-- The limits of a record are those of its parts, and each array, lent as a slice, tells its length.
use borrow.Author.Rules.{rules}
use Rattle.header.specs.Fields.{in_domain}
use Rattle.header.specs.Parts.{together}
use Rattle.header.proofs.look.in_domain.Goals as goal

pub returns : goal.returns
unfolding in_domain together
returns c =
    record {
      answer = c.in_limits.ensures;
      arrays = record { csrc = search rules; ids = search rules; lens = search rules; bytes = search rules };
    }
