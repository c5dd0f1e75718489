-- The front is judged first; then the arrays are those of the record that it is the front of.
use mathlib.Core.Path.{subst}
use mathlib.Core.List.{List}
use native.Mathlib.Omega.{arith}
use Rattle.block_read.specs.Said.{Laid}
use Rattle.elements.specs.Elements.{Element}
use Rattle.header.proofs.Fronts.{front_answered, laid_nothing, block_answers, block_elements, sources_inside, nothing_counted, block_counted, arrays_filled}
use Rattle.header.proofs.read.unmarshal_parts.Goals as goal

pub fill_csrcs-requires : goal.fill_csrcs-requires
fill_csrcs-requires c =
    let q = c.unmarshal_front-seen in
    sources_inside _ _ _ (front_answered q.result _ q.ensures _ c.in-Ok.is)

pub overflow_mul-cc : goal.overflow_mul-cc
overflow_mul-cc c =
    let q = c.unmarshal_front-seen in
    omega (arith, sources_inside _ _ _ (front_answered q.result _ q.ensures _ c.in-Ok.is))

pub overflow_add-cc : goal.overflow_add-cc
overflow_add-cc c =
    let q = c.unmarshal_front-seen in
    omega (arith, sources_inside _ _ _ (front_answered q.result _ q.ensures _ c.in-Ok.is))

pub fill_extended-requires : goal.fill_extended-requires
fill_extended-requires c =
    let q = c.unmarshal_front-seen in
    let x = block_counted _ _ _ (front_answered q.result _ q.ensures _ c.in-Ok.is) c.if-seen-ne0.true in
    record { at_in_bounds = x.inside; answers = block_answers _ _ _ x; laid = laid_nothing }

pub returns-then-seen-ne0-clause-bytes_after : goal.returns-then-seen-ne0-clause-bytes_after
returns-then-seen-ne0-clause-bytes_after c =
    let q = c.unmarshal_front-seen in
    let l = c.fill_extended.new in
    let a = front_answered q.result _ q.ensures _ c.in-Ok.is in
    let x = block_counted _ _ _ a c.if-seen-ne0.true in
    arrays_filled _ _ _ a _ _ _ _ _ c.fill_csrcs.ensures
    (subst (λ (es : List Element). Laid es l.ids l.lens l.bytes) (block_elements _ _ _ x) c.fill_extended.ensures)

pub returns-else-seen-ne0-clause-bytes_after : goal.returns-else-seen-ne0-clause-bytes_after
returns-else-seen-ne0-clause-bytes_after c =
    let q = c.unmarshal_front-seen in
    let a = front_answered q.result _ q.ensures _ c.in-Ok.is in
    arrays_filled _ _ _ a _ _ _ _ _ c.fill_csrcs.ensures (rw (nothing_counted _ _ _ a c.if-seen-ne0.false) laid_nothing)
