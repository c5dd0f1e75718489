-- Every test that refuses is one of `measured`, and where none does, all hold.
use mathlib.Core.Path.{sym, ap, ap₂, ◌∙◌}
use Prim.Native.Nat.{ℕ, ◌+◌, ◌*◌}
use native.Mathlib.Omega.{arith}
use lib.ListN.{take}
use Rattle.error.specs.Said.{says}
use Rattle.block.specs.Form.{form_of, per_element}
use Rattle.block_write.proofs.Octets.{weighed, unweighed}
use Rattle.header_write.proofs.Domain.{Fine, measured_fine, measured_outside}
use Rattle.header_write.proofs.by_parts.measure.Goals as goal
use Rattle.header_write.proofs.by_parts.measure.Goals.{then-parts-gt15-via-then-parts-gt15, then-parts-gt15-via-else-parts-gt15+then-parts-gt32, then-parts-gt15-via-else-parts-gt15+else-parts-gt32+then-parts-gt262140, then-parts-gt3-via-then-parts-gt3, then-parts-gt3-via-else-parts-gt3+then-parts-gt127}

pub returns-then-parts-gt15-clause-value : goal.returns-then-parts-gt15-clause-value
returns-then-parts-gt15-clause-value c =
    let a = c.args in
    sym
    (measured_outside a.parts.fixed a.parts.csrc_count a.parts.profile a.parts.count a.parts.ids.now a.parts.lens.now a.parts.padding
    (λ w.
    elim c.then-parts-gt15.branch [
      | then-parts-gt15-via-then-parts-gt15 v ↦ omega (arith, v.if-parts-gt15.true, w.limits.sources)
      | then-parts-gt15-via-else-parts-gt15+then-parts-gt32 v ↦ omega (arith, v.if-parts-gt32.true, w.limits.elements)
      | then-parts-gt15-via-else-parts-gt15+else-parts-gt32+then-parts-gt262140 v ↦
          omega (arith, v.if-parts-gt262140.true, w.limits.zeros)
    ]))

pub returns-then-parts-gt3-clause-value : goal.returns-then-parts-gt3-clause-value
returns-then-parts-gt3-clause-value c =
    let a = c.args in
    sym
    (measured_outside a.parts.fixed a.parts.csrc_count a.parts.profile a.parts.count a.parts.ids.now a.parts.lens.now a.parts.padding
    (λ w.
    elim c.then-parts-gt3.branch [
      | then-parts-gt3-via-then-parts-gt3 v ↦ omega (arith, v.if-parts-gt3.true, w.version)
      | then-parts-gt3-via-else-parts-gt3+then-parts-gt127 v ↦ omega (arith, v.if-parts-gt127.true, w.type)
    ]))

pub returns-in_default-clause-value : goal.returns-in_default-clause-value
returns-in_default-clause-value c =
    let a = c.args in
    let w = weighed (form_of a.parts.profile) (take a.parts.count a.parts.ids.now) (take a.parts.count a.parts.lens.now) c.in-Some.bytes
    (rw c.from-form.ensures at c.in-Some.ensures) in
    sym
    (measured_outside a.parts.fixed a.parts.csrc_count a.parts.profile a.parts.count a.parts.ids.now a.parts.lens.now a.parts.padding
    (λ f. omega (arith, f.limits.bytes, c.if-bytes-le1024.false, w.1)))

pub returns-in_default-2-clause-value : goal.returns-in_default-2-clause-value
returns-in_default-2-clause-value c =
    let a = c.args in
    sym
    (measured_outside a.parts.fixed a.parts.csrc_count a.parts.profile a.parts.count a.parts.ids.now a.parts.lens.now a.parts.padding
    (λ f.
    unweighed (form_of a.parts.profile) (take a.parts.count a.parts.ids.now) (take a.parts.count a.parts.lens.now) (rw c.from-form.ensures at c.in_default.ensures) f.fit))

pub returns-in-Some-clause-value : goal.returns-in-Some-clause-value
returns-in-Some-clause-value c =
    let a = c.args in
    let form = form_of a.parts.profile in
    let w = weighed form (take a.parts.count a.parts.ids.now) (take a.parts.count a.parts.lens.now) c.in-Some.bytes (rw c.from-form.ensures at c.in-Some.ensures) in
    let fine : Fine a.parts.fixed a.parts.csrc_count a.parts.profile a.parts.count a.parts.ids.now a.parts.lens.now a.parts.padding = record {
      limits = record {
        sources = omega arith;
        elements = omega arith;
        bytes = omega (arith, w.1);
        zeros = omega arith;
      };
      version = omega arith;
      type = omega arith;
      fit = w.0;
    } in
    ap₂ (λ (n k : ℕ). says (n + a.parts.count * k)) w.1 (c.per_element.ensures.0 ∙ ap per_element c.from-form.ensures)
    ∙ sym (measured_fine a.parts.fixed a.parts.csrc_count a.parts.profile a.parts.count a.parts.ids.now a.parts.lens.now a.parts.padding fine)
