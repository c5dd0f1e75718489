-- In the domain the length that is counted from the arrays is that of the elements; outside it is 8.
use mathlib.Core.Path.{sym, ap, ◌∙◌}
use mathlib.Core.Bool.{not}
use Prim.Native.Nat.{◌+◌, ◌*◌}
use lib.ListN.{take}
use Rattle.error.specs.Said.{says}
use Rattle.elements.specs.Elements.{sum}
use Rattle.block.specs.declared.Form.{Form}
use Rattle.block.specs.Form.{per_element}
use Rattle.header.specs.Parts.{together}
use Rattle.header.proofs.Sizes.{passes, fails, limits_of, packed, payload_length_lem, length_asked_lem}
use Rattle.header.proofs.size.get_extension_payload_len_parts.Goals as goal

pub returns-then-not-in_domain : goal.returns-then-not-in_domain
returns-then-not-in_domain c = sym (length_asked_lem _ (fails c.in_domain.ensures (ap not c.if-not-in_domain.true)))

pub payload_len-requires : goal.payload_len-requires
unfolding together
payload_len-requires c =
    let l = limits_of _ (passes c.in_domain.ensures (ap not c.if-not-in_domain.false)) in
    record { count_bound = l.elements; lens_bound = l.bytes }

pub returns : goal.returns
unfolding together
returns c =
    let tested = c.in_domain.ensures in
    let inside = passes tested (ap not c.if-not-in_domain.false) in
    ap says (c.payload_len.ensures.0 ∙ ap (λ (f : Form). sum (take c.args.parts.count c.args.parts.lens.now) + c.args.parts.count * per_element f) c.from.ensures ∙ sym (payload_length_lem _ (packed _ tested.arrays (limits_of _ inside))))
    ∙ sym (length_asked_lem _ inside)
