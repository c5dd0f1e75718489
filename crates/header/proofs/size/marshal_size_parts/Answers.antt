-- In the domain the size that is counted from the arrays is that of the elements; outside it is 8.
use mathlib.Core.Path.{sym, ap, ◌∙◌}
use mathlib.Core.Bool.{not}
use Prim.Native.Nat.{ℕ, ◌+◌, ◌*◌}
use lib.ListN.{take}
use native.Mathlib.Omega.{arith}
use Rattle.error.specs.Said.{says}
use Rattle.elements.specs.Elements.{sum}
use Rattle.block.specs.declared.Form.{Form}
use Rattle.block.specs.Form.{per_element}
use Rattle.header_write.specs.Size.{size_for}
use Rattle.header.specs.Parts.{together}
use Rattle.header.proofs.Sizes.{passes, fails, limits_of, packed, header_size_lem, size_asked_lem}
use Rattle.header.proofs.size.marshal_size_parts.Goals as goal

pub returns-then-not-in_domain : goal.returns-then-not-in_domain
returns-then-not-in_domain c = sym (size_asked_lem _ (fails c.in_domain.ensures (ap not c.if-not-in_domain.true)))

pub payload_len-len-requires : goal.payload_len-len-requires
unfolding together
payload_len-len-requires c =
    let l = limits_of _ (passes c.in_domain.ensures (ap not c.if-not-in_domain.false)) in
    record { count_bound = l.elements; lens_bound = l.bytes }

pub size_of-requires : goal.size_of-requires
unfolding together
size_of-requires c =
    let l = limits_of _ (passes c.in_domain.ensures (ap not c.if-not-in_domain.false)) in
    record { csrc_count_bound = l.sources; len_bound = c.payload_len-len.ensures.1; padding_bound = l.zeros }

pub returns : goal.returns
unfolding together
returns c =
    let tested = c.in_domain.ensures in
    let inside = passes tested (ap not c.if-not-in_domain.false) in
    let l = limits_of _ inside in
    let a = c.args.parts in
    ap says
    (c.size_of.ensures
    ∙ ap (λ (n : ℕ). size_for a.csrc_count a.fixed.extension n a.padding) (c.payload_len-len.ensures.0 ∙ ap (λ (f : Form). sum (take c.args.parts.count c.args.parts.lens.now) + c.args.parts.count * per_element f) c.from.ensures)
    ∙ sym (header_size_lem _ (packed _ tested.arrays l) (omega (arith, tested.arrays.csrc, l.sources))))
    ∙ sym (size_asked_lem _ inside)
