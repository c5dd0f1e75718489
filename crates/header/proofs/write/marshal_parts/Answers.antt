-- Every refusal is judged in the order of `write_header`, of the record of these parts, and then its octets are put.
use mathlib.Core.Path.{◌≡◌, sym, ap, ◌∙◌}
use Prim.Native.Nat.{ℕ, ◌≤◌}
use native.Mathlib.Omega.{arith}
use lib.ListN.{length}
use Rattle.std.proofs.lemmas.Result.{err_from_is_err_and}
use Rattle.error.specs.Said.{Said}
use Rattle.header_write.specs.declared.Parts.{Parts}
use Rattle.header_write.specs.Size.{size_for}
use Rattle.header.specs.declared.Header.{Header}
use Rattle.header.specs.Fields.{fields_of}
use Rattle.header.specs.Size.{header_size}
use Rattle.header.specs.Said.{written}
use Rattle.header.specs.Parts.{together, record_of}
use Rattle.header.proofs.Writing.{Measured, few, sized, octets_room, all_writable_lem, short_written, judge_written, put_written, write_outside}
use Rattle.header.proofs.Apart.{known_of, unknown_of}
use Rattle.header.proofs.write.marshal_parts.Goals as goal

-- room for the size
roomy : (p : Parts) (k : ℕ) → Measured (record_of p) k → (size room : ℕ) → size ≡ size_for p.csrc_count p.fixed.extension k p.padding →
    size ≤ room → header_size (fields_of (record_of p)) ≤ room
unfolding together
roomy p k m size room s h = omega (arith, sized (record_of p) k m)

-- ---- 8
pub returns-in_err-len : goal.returns-in_err-len
returns-in_err-len c =
    let a = c.args in
    let out = unknown_of a.parts c.measure.ensures.whole c.measure.result c.measure.ensures.value _ c.in_err-len.was in
    let p = err_from_is_err_and c.from_residual.result c.from_residual.ensures.1 in
    rw (p.1, p.2)
    (ap (λ (s : Said ℕ). record { answer = s; buffer = a.buf.now }) out.0
    ∙ sym (ap (written a.buf.now) (write_outside _ (length a.buf.now) out.1)))

-- ---- 5
pub size_of-requires : goal.size_of-requires
unfolding together
size_of-requires c =
    let a = c.args in
    let h : Header = record_of a.parts in
    let m = known_of a.parts c.measure.ensures.whole c.measure.result c.measure.ensures.value _ c.in_ok-len.was in
    record {
      csrc_count_bound = m.can.limits.sources;
      len_bound = few h _ m;
      padding_bound = m.can.limits.zeros;
    }

pub returns-then-buf-size_of : goal.returns-then-buf-size_of
unfolding together
returns-then-buf-size_of c =
    let a = c.args in
    let h : Header = record_of a.parts in
    let m = known_of a.parts c.measure.ensures.whole c.measure.result c.measure.ensures.value _ c.in_ok-len.was in
    short_written h _ m a.buf.now (omega (arith, c.size_of.ensures, c.if-buf-size_of.true))

-- ---- 9, 10
pub returns-in_err-judge : goal.returns-in_err-judge
unfolding together
returns-in_err-judge c =
    let a = c.args in
    let h : Header = record_of a.parts in
    let m = known_of a.parts c.measure.ensures.whole c.measure.result c.measure.ensures.value _ c.in_ok-len.was in
    let fits = roomy a.parts _ m c.size_of.result (length a.buf.now) c.size_of.ensures
    c.if-buf-size_of.false in
    let p = err_from_is_err_and c.from_residual-in_err-judge.result c.from_residual-in_err-judge.ensures.1 in
    rw (p.1, p.2)
    (judge_written h _ m a.buf.now fits c.judge.result c.judge.ensures _ c.in_err-judge.was)

-- ---- the octets
pub put_header-requires : goal.put_header-requires
unfolding together
put_header-requires c =
    let a = c.args in
    let h : Header = record_of a.parts in
    let m = known_of a.parts c.measure.ensures.whole c.measure.result c.measure.ensures.value _ c.in_ok-len.was in
    let fits = roomy a.parts _ m c.size_of.result (length a.buf.now) c.size_of.ensures
    c.if-buf-size_of.false in
    record {
      version_bound = (m.can.version, m.can.type);
      csrc_count_bound = (m.can.limits.sources, m.can.sources);
      packed = m.can.packing;
      bytes_value = all_writable_lem h _ m;
      len_value = (m.taken, few h _ m);
      bytes_in_bounds = octets_room h _ m (length a.buf.now) fits;
    }

pub returns : goal.returns
unfolding together
returns c =
    let a = c.args in
    let h : Header = record_of a.parts in
    let m = known_of a.parts c.measure.ensures.whole c.measure.result c.measure.ensures.value _ c.in_ok-len.was in
    let fits = roomy a.parts _ m c.size_of.result (length a.buf.now) c.size_of.ensures
    c.if-buf-size_of.false in
    put_written h _ m a.buf.now fits c.judge.result c.judge.ensures _ c.in_ok-judge.was _ _ c.put_header.ensures
