-- Every refusal is judged in the order of `write_packet`, of the record of these parts; then the header's octets are put, and payload
-- and padding into the rest behind them.
use mathlib.Core.Path.{sym, ap, ◌∙◌}
use Prim.Native.Nat.{ℕ, ◌≤◌}
use native.Mathlib.Omega.{arith}
use lib.ListN.{length}
use borrow.Author.Tests.{le-leb, lt-leb}
use Rattle.std.proofs.lemmas.Result.{err_from_is_err_and}
use Rattle.error.specs.Said.{Said}
use Rattle.header.specs.declared.Header.{Header}
use Rattle.header.specs.Fields.{fields_of}
use Rattle.header.specs.Said.{written}
use Rattle.header.specs.Parts.{together, record_of}
use Rattle.header.proofs.Writing.{few, octets_room, all_writable_lem}
use Rattle.header.proofs.Apart.{known_of, unknown_of}
use Rattle.packet.specs.Write.{packet_size}
use Rattle.packet.proofs.Writing.{packet_outside, packet_long, short_written, judge_written, header_fits, behind, size_counted, size_small, reached, rest_room, packet_written}
use Rattle.packet.proofs.write.marshal_parts.Goals as goal

-- ---- 8
pub returns-in_err-len : goal.returns-in_err-len
returns-in_err-len c =
    let a = c.args in
    let h : Header = record_of a.parts in
    let out = unknown_of a.parts c.measure.ensures.whole c.measure.result c.measure.ensures.value _ c.in_err-len.was in
    let p = err_from_is_err_and c.from_residual.result c.from_residual.ensures.1 in
    rw (p.1, p.2)
    (ap (λ (s : Said ℕ). record { answer = s; buffer = a.buf.now }) out.0
    ∙ sym (ap (written a.buf.now) (packet_outside h a.payload.now (length a.buf.now) out.1)))

pub returns-then-payload-gt65535 : goal.returns-then-payload-gt65535
returns-then-payload-gt65535 c =
    let a = c.args in
    let h : Header = record_of a.parts in
    let m = known_of a.parts c.measure.ensures.whole c.measure.result c.measure.ensures.value _ c.in_ok-len.was in
    sym
    (ap (written a.buf.now)
    (packet_long h a.payload.now (length a.buf.now) m.domain (lt-leb (length a.payload.now) 65535 c.if-payload-gt65535.true)))

-- ---- 5
pub size_of-size-requires : goal.size_of-size-requires
unfolding together
size_of-size-requires c =
    let a = c.args in
    let h : Header = record_of a.parts in
    let m = known_of a.parts c.measure.ensures.whole c.measure.result c.measure.ensures.value _ c.in_ok-len.was in
    record {
      csrc_count_bound = m.can.limits.sources;
      len_bound = few h _ m;
      padding_bound = m.can.limits.zeros;
    }

pub overflow_add-size : goal.overflow_add-size
unfolding together
overflow_add-size c =
    let a = c.args in
    let h : Header = record_of a.parts in
    let m = known_of a.parts c.measure.ensures.whole c.measure.result c.measure.ensures.value _ c.in_ok-len.was in
    let q = le-leb (length a.payload.now) 65535 c.if-payload-gt65535.false in
    let small = size_small h _ m a.payload.now a.buf.now q c.size_of-size.result c.padding_len-padding.result c.size_of-size.ensures
    c.padding_len-padding.ensures.0 in
    omega (arith, small)

pub overflow_add-size-2 : goal.overflow_add-size-2
unfolding together
overflow_add-size-2 c =
    let a = c.args in
    let h : Header = record_of a.parts in
    let m = known_of a.parts c.measure.ensures.whole c.measure.result c.measure.ensures.value _ c.in_ok-len.was in
    let q = le-leb (length a.payload.now) 65535 c.if-payload-gt65535.false in
    let small = size_small h _ m a.payload.now a.buf.now q c.size_of-size.result c.padding_len-padding.result c.size_of-size.ensures
    c.padding_len-padding.ensures.0 in
    omega (arith, small, c.padding_len-padding.ensures.1)

pub returns-then-buf-size : goal.returns-then-buf-size
unfolding together
returns-then-buf-size c =
    let a = c.args in
    let h : Header = record_of a.parts in
    let m = known_of a.parts c.measure.ensures.whole c.measure.result c.measure.ensures.value _ c.in_ok-len.was in
    let q = le-leb (length a.payload.now) 65535 c.if-payload-gt65535.false in
    let size = size_counted h _ m a.payload.now a.buf.now q c.size_of-size.result c.padding_len-padding.result c.size_of-size.ensures
    c.padding_len-padding.ensures.0 in
    short_written h _ m a.payload.now a.buf.now q (omega (arith, size, c.if-buf-size.true))

-- ---- 9, 10
pub returns-in_err-judge : goal.returns-in_err-judge
unfolding together
returns-in_err-judge c =
    let a = c.args in
    let h : Header = record_of a.parts in
    let m = known_of a.parts c.measure.ensures.whole c.measure.result c.measure.ensures.value _ c.in_ok-len.was in
    let q = le-leb (length a.payload.now) 65535 c.if-payload-gt65535.false in
    let size = size_counted h _ m a.payload.now a.buf.now q c.size_of-size.result c.padding_len-padding.result c.size_of-size.ensures
    c.padding_len-padding.ensures.0 in
    let fits : packet_size (fields_of h) a.payload.now ≤ length a.buf.now = omega (arith, size, c.if-buf-size.false) in
    let p = err_from_is_err_and c.from_residual-in_err-judge.result c.from_residual-in_err-judge.ensures.1 in
    rw (p.1, p.2)
    (judge_written h _ m a.payload.now a.buf.now q fits c.judge.result c.judge.ensures _
    c.in_err-judge.was)

-- ---- the octets
pub put_header-at-requires : goal.put_header-at-requires
unfolding together
put_header-at-requires c =
    let a = c.args in
    let h : Header = record_of a.parts in
    let m = known_of a.parts c.measure.ensures.whole c.measure.result c.measure.ensures.value _ c.in_ok-len.was in
    let q = le-leb (length a.payload.now) 65535 c.if-payload-gt65535.false in
    let size = size_counted h _ m a.payload.now a.buf.now q c.size_of-size.result c.padding_len-padding.result c.size_of-size.ensures
    c.padding_len-padding.ensures.0 in
    let fits : packet_size (fields_of h) a.payload.now ≤ length a.buf.now = omega (arith, size, c.if-buf-size.false) in
    record {
      version_bound = (m.can.version, m.can.type);
      csrc_count_bound = (m.can.limits.sources, m.can.sources);
      packed = m.can.packing;
      bytes_value = all_writable_lem h _ m;
      len_value = (m.taken, few h _ m);
      bytes_in_bounds = octets_room h _ m (length a.buf.now) (header_fits h a.payload.now (length a.buf.now) m.domain q fits);
    }

pub slice_bounds-put_payload-count : goal.slice_bounds-put_payload-count
unfolding together
slice_bounds-put_payload-count c =
    let a = c.args in
    let h : Header = record_of a.parts in
    let m = known_of a.parts c.measure.ensures.whole c.measure.result c.measure.ensures.value _ c.in_ok-len.was in
    let q = le-leb (length a.payload.now) 65535 c.if-payload-gt65535.false in
    let size = size_counted h _ m a.payload.now a.buf.now q c.size_of-size.result c.padding_len-padding.result c.size_of-size.ensures
    c.padding_len-padding.ensures.0 in
    let fits : packet_size (fields_of h) a.payload.now ≤ length a.buf.now = omega (arith, size, c.if-buf-size.false) in
    let behind = behind h _ m a.payload.now a.buf.now q fits c.judge.result c.judge.ensures _ c.in_ok-judge.was c.put_header-at.new.buf
    c.put_header-at.result c.put_header-at.ensures in
    let reach = reached h _ m a.payload.now a.buf.now q c.size_of-size.result c.padding_len-padding.result c.size_of-size.ensures
    c.padding_len-padding.ensures.0 c.put_header-at.new.buf c.put_header-at.result behind in
    omega (arith, reach, c.if-buf-size.false, c.put_header-at.auto.buf)

pub slice_bounds-put_payload-start : goal.slice_bounds-put_payload-start
unfolding together
slice_bounds-put_payload-start c =
    let a = c.args in
    let h : Header = record_of a.parts in
    let m = known_of a.parts c.measure.ensures.whole c.measure.result c.measure.ensures.value _ c.in_ok-len.was in
    let q = le-leb (length a.payload.now) 65535 c.if-payload-gt65535.false in
    let size = size_counted h _ m a.payload.now a.buf.now q c.size_of-size.result c.padding_len-padding.result c.size_of-size.ensures
    c.padding_len-padding.ensures.0 in
    let fits : packet_size (fields_of h) a.payload.now ≤ length a.buf.now = omega (arith, size, c.if-buf-size.false) in
    let behind = behind h _ m a.payload.now a.buf.now q fits c.judge.result c.judge.ensures _ c.in_ok-judge.was c.put_header-at.new.buf
    c.put_header-at.result c.put_header-at.ensures in
    let reach = reached h _ m a.payload.now a.buf.now q c.size_of-size.result c.padding_len-padding.result c.size_of-size.ensures
    c.padding_len-padding.ensures.0 c.put_header-at.new.buf c.put_header-at.result behind in
    omega (arith, reach, c.if-buf-size.false, c.put_header-at.auto.buf)

pub put_payload-requires-clause-padding_in_bounds : goal.put_payload-requires-clause-padding_in_bounds
unfolding together
put_payload-requires-clause-padding_in_bounds c =
    let a = c.args in
    let h : Header = record_of a.parts in
    let m = known_of a.parts c.measure.ensures.whole c.measure.result c.measure.ensures.value _ c.in_ok-len.was in
    let q = le-leb (length a.payload.now) 65535 c.if-payload-gt65535.false in
    let size = size_counted h _ m a.payload.now a.buf.now q c.size_of-size.result c.padding_len-padding.result c.size_of-size.ensures
    c.padding_len-padding.ensures.0 in
    let fits : packet_size (fields_of h) a.payload.now ≤ length a.buf.now = omega (arith, size, c.if-buf-size.false) in
    let behind = behind h _ m a.payload.now a.buf.now q fits c.judge.result c.judge.ensures _ c.in_ok-judge.was c.put_header-at.new.buf
    c.put_header-at.result c.put_header-at.ensures in
    let reach = reached h _ m a.payload.now a.buf.now q c.size_of-size.result c.padding_len-padding.result c.size_of-size.ensures
    c.padding_len-padding.ensures.0 c.put_header-at.new.buf c.put_header-at.result behind in
    rest_room c.put_header-at.new.buf _ _ (omega (arith, reach, c.if-buf-size.false, c.put_header-at.auto.buf))

pub overflow_add-result : goal.overflow_add-result
unfolding together
overflow_add-result c =
    let a = c.args in
    let h : Header = record_of a.parts in
    let m = known_of a.parts c.measure.ensures.whole c.measure.result c.measure.ensures.value _ c.in_ok-len.was in
    let q = le-leb (length a.payload.now) 65535 c.if-payload-gt65535.false in
    let size = size_counted h _ m a.payload.now a.buf.now q c.size_of-size.result c.padding_len-padding.result c.size_of-size.ensures
    c.padding_len-padding.ensures.0 in
    let small = size_small h _ m a.payload.now a.buf.now q c.size_of-size.result c.padding_len-padding.result c.size_of-size.ensures
    c.padding_len-padding.ensures.0 in
    let fits : packet_size (fields_of h) a.payload.now ≤ length a.buf.now = omega (arith, size, c.if-buf-size.false) in
    let behind = behind h _ m a.payload.now a.buf.now q fits c.judge.result c.judge.ensures _ c.in_ok-judge.was c.put_header-at.new.buf
    c.put_header-at.result c.put_header-at.ensures in
    let reach = reached h _ m a.payload.now a.buf.now q c.size_of-size.result c.padding_len-padding.result c.size_of-size.ensures
    c.padding_len-padding.ensures.0 c.put_header-at.new.buf c.put_header-at.result behind in
    omega (arith, reach, small, c.if-payload-gt65535.false, c.padding_len-padding.ensures.1, c.put_payload.ensures.0)

pub returns : goal.returns
unfolding together
returns c =
    let a = c.args in
    let h : Header = record_of a.parts in
    let m = known_of a.parts c.measure.ensures.whole c.measure.result c.measure.ensures.value _ c.in_ok-len.was in
    let q = le-leb (length a.payload.now) 65535 c.if-payload-gt65535.false in
    let size = size_counted h _ m a.payload.now a.buf.now q c.size_of-size.result c.padding_len-padding.result c.size_of-size.ensures
    c.padding_len-padding.ensures.0 in
    let fits : packet_size (fields_of h) a.payload.now ≤ length a.buf.now = omega (arith, size, c.if-buf-size.false) in
    let behind = behind h _ m a.payload.now a.buf.now q fits c.judge.result c.judge.ensures _ c.in_ok-judge.was c.put_header-at.new.buf
    c.put_header-at.result c.put_header-at.ensures in
    packet_written h a.payload.now a.buf.now c.put_header-at.new.buf c.put_payload.new.rest c.put_header-at.result c.padding_len-padding.result
    c.put_payload.result behind c.padding_len-padding.ensures.0 c.put_payload.ensures.0 c.put_payload.ensures.1
