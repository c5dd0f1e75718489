-- Field by field: the fixed fields put together again are the record's.
use mathlib.Core.Path.{ap}
use Rattle.header_write.specs.declared.Fixed.{Fixed}
use Rattle.header.specs.Parts.{together}
use Rattle.header.proofs.Header.parts.Goals as goal

pub returns : goal.returns
unfolding together
returns c =
    let h = c.args.self.now in
    ap (λ (f : Fixed). together f h.csrc_count h.csrc h.extension_profile h.extensions h.extensions_padding) c.fixed.ensures
