-- Three tests are all of `in_writing_domain` where there is nothing to count; the rest is as for any header.
use mathlib.Core.Path.{sym, ap}
use Prim.Native.Nat.{◌≤◌}
use native.Mathlib.Omega.{arith}
use lib.ListN.{length}
use borrow.Author.Tests.{le-leb, lt-leb}
use Rattle.std.proofs.lemmas.Result.{err_from_is_err_and}
use Rattle.elements.specs.Elements.{lay_elements}
use Rattle.header.specs.declared.Header.{Header}
use Rattle.header.specs.Fields.{fields_of}
use Rattle.header.specs.Said.{written}
use Rattle.header.specs.Parts.{together, bare}
use Rattle.header.proofs.Writing.{octets_room}
use Rattle.header.proofs.Apart.{bare_measured, bare_outside}
use Rattle.packet.specs.Write.{packet_size}
use Rattle.packet.proofs.Writing.{packet_outside, packet_long, short_written, judge_written, header_fits, behind, size_counted, size_small, reached, rest_room, packet_written}
use Rattle.packet.proofs.write.marshal_bare.Goals as goal
use Rattle.packet.proofs.write.marshal_bare.Goals.{then-fixed-gt3-via-then-fixed-gt3, then-fixed-gt3-via-else-fixed-gt3+then-fixed-gt127, then-fixed-gt3-via-else-fixed-gt3+else-fixed-gt127+then-extensions_padding-gt262140}

-- ---- 8
pub returns-then-fixed-gt3 : goal.returns-then-fixed-gt3
returns-then-fixed-gt3 c =
    let a = c.args in
    let h : Header = bare a.fixed a.profile a.extensions_padding in
    sym
    (ap (written a.buf.now)
    (packet_outside h a.payload.now (length a.buf.now)
    (bare_outside a.fixed a.profile a.extensions_padding
    (λ v t z.
    elim c.then-fixed-gt3.branch [
      | then-fixed-gt3-via-then-fixed-gt3 w ↦ omega (arith, w.if-fixed-gt3.true)
      | then-fixed-gt3-via-else-fixed-gt3+then-fixed-gt127 w ↦ omega (arith, w.if-fixed-gt127.true)
      | then-fixed-gt3-via-else-fixed-gt3+else-fixed-gt127+then-extensions_padding-gt262140 w ↦
          omega (arith, w.if-extensions_padding-gt262140.true)
    ]))))

pub returns-then-payload-gt65535 : goal.returns-then-payload-gt65535
returns-then-payload-gt65535 c =
    let a = c.args in
    let h : Header = bare a.fixed a.profile a.extensions_padding in
    let m = bare_measured a.fixed a.profile a.extensions_padding (omega arith) (omega arith) (omega arith) in
    sym
    (ap (written a.buf.now)
    (packet_long h a.payload.now (length a.buf.now) m.domain (lt-leb (length a.payload.now) 65535 c.if-payload-gt65535.true)))

-- ---- 5
pub returns-then-buf-size : goal.returns-then-buf-size
unfolding bare together lay_elements
returns-then-buf-size c =
    let a = c.args in
    let h : Header = bare a.fixed a.profile a.extensions_padding in
    let m = bare_measured a.fixed a.profile a.extensions_padding (omega arith) (omega arith) (omega arith) in
    let q = le-leb (length a.payload.now) 65535 c.if-payload-gt65535.false in
    let size = size_counted h 0 m a.payload.now a.buf.now q c.size_of-size.result c.padding_len-padding.result c.size_of-size.ensures
    c.padding_len-padding.ensures.0 in
    short_written h 0 m a.payload.now a.buf.now q (omega (arith, size, c.if-buf-size.true))

-- ---- 9, 10
pub returns-in_err-judge : goal.returns-in_err-judge
unfolding bare together lay_elements
returns-in_err-judge c =
    let a = c.args in
    let h : Header = bare a.fixed a.profile a.extensions_padding in
    let m = bare_measured a.fixed a.profile a.extensions_padding (omega arith) (omega arith) (omega arith) in
    let q = le-leb (length a.payload.now) 65535 c.if-payload-gt65535.false in
    let size = size_counted h 0 m a.payload.now a.buf.now q c.size_of-size.result c.padding_len-padding.result c.size_of-size.ensures
    c.padding_len-padding.ensures.0 in
    let fits : packet_size (fields_of h) a.payload.now ≤ length a.buf.now = omega (arith, size, c.if-buf-size.false) in
    let p = err_from_is_err_and c.from_residual.result c.from_residual.ensures.1 in
    rw (p.1, p.2)
    (judge_written h 0 m a.payload.now a.buf.now q fits c.judge.result c.judge.ensures _
    c.in_err-judge.was)

-- ---- the octets
pub put_bare-at-requires-clause-profile_in_bounds : goal.put_bare-at-requires-clause-profile_in_bounds
unfolding bare together lay_elements
put_bare-at-requires-clause-profile_in_bounds c =
    let a = c.args in
    let h : Header = bare a.fixed a.profile a.extensions_padding in
    let m = bare_measured a.fixed a.profile a.extensions_padding (omega arith) (omega arith) (omega arith) in
    let q = le-leb (length a.payload.now) 65535 c.if-payload-gt65535.false in
    let size = size_counted h 0 m a.payload.now a.buf.now q c.size_of-size.result c.padding_len-padding.result c.size_of-size.ensures
    c.padding_len-padding.ensures.0 in
    let fits : packet_size (fields_of h) a.payload.now ≤ length a.buf.now = omega (arith, size, c.if-buf-size.false) in
    octets_room h 0 m (length a.buf.now) (header_fits h a.payload.now (length a.buf.now) m.domain q fits)

pub slice_bounds-put_payload-count : goal.slice_bounds-put_payload-count
unfolding bare together lay_elements
slice_bounds-put_payload-count c =
    let a = c.args in
    let h : Header = bare a.fixed a.profile a.extensions_padding in
    let m = bare_measured a.fixed a.profile a.extensions_padding (omega arith) (omega arith) (omega arith) in
    let q = le-leb (length a.payload.now) 65535 c.if-payload-gt65535.false in
    let size = size_counted h 0 m a.payload.now a.buf.now q c.size_of-size.result c.padding_len-padding.result c.size_of-size.ensures
    c.padding_len-padding.ensures.0 in
    let fits : packet_size (fields_of h) a.payload.now ≤ length a.buf.now = omega (arith, size, c.if-buf-size.false) in
    let behind = behind h 0 m a.payload.now a.buf.now q fits c.judge.result c.judge.ensures _ c.in_ok-judge.was c.put_bare-at.new.buf
    c.put_bare-at.result c.put_bare-at.ensures in
    let reach = reached h 0 m a.payload.now a.buf.now q c.size_of-size.result c.padding_len-padding.result c.size_of-size.ensures
    c.padding_len-padding.ensures.0 c.put_bare-at.new.buf c.put_bare-at.result behind in
    omega (arith, reach, c.if-buf-size.false, c.put_bare-at.auto.buf)

pub slice_bounds-put_payload-start : goal.slice_bounds-put_payload-start
unfolding bare together lay_elements
slice_bounds-put_payload-start c =
    let a = c.args in
    let h : Header = bare a.fixed a.profile a.extensions_padding in
    let m = bare_measured a.fixed a.profile a.extensions_padding (omega arith) (omega arith) (omega arith) in
    let q = le-leb (length a.payload.now) 65535 c.if-payload-gt65535.false in
    let size = size_counted h 0 m a.payload.now a.buf.now q c.size_of-size.result c.padding_len-padding.result c.size_of-size.ensures
    c.padding_len-padding.ensures.0 in
    let fits : packet_size (fields_of h) a.payload.now ≤ length a.buf.now = omega (arith, size, c.if-buf-size.false) in
    let behind = behind h 0 m a.payload.now a.buf.now q fits c.judge.result c.judge.ensures _ c.in_ok-judge.was c.put_bare-at.new.buf
    c.put_bare-at.result c.put_bare-at.ensures in
    let reach = reached h 0 m a.payload.now a.buf.now q c.size_of-size.result c.padding_len-padding.result c.size_of-size.ensures
    c.padding_len-padding.ensures.0 c.put_bare-at.new.buf c.put_bare-at.result behind in
    omega (arith, reach, c.if-buf-size.false, c.put_bare-at.auto.buf)

pub put_payload-requires-clause-padding_in_bounds : goal.put_payload-requires-clause-padding_in_bounds
unfolding bare together lay_elements
put_payload-requires-clause-padding_in_bounds c =
    let a = c.args in
    let h : Header = bare a.fixed a.profile a.extensions_padding in
    let m = bare_measured a.fixed a.profile a.extensions_padding (omega arith) (omega arith) (omega arith) in
    let q = le-leb (length a.payload.now) 65535 c.if-payload-gt65535.false in
    let size = size_counted h 0 m a.payload.now a.buf.now q c.size_of-size.result c.padding_len-padding.result c.size_of-size.ensures
    c.padding_len-padding.ensures.0 in
    let fits : packet_size (fields_of h) a.payload.now ≤ length a.buf.now = omega (arith, size, c.if-buf-size.false) in
    let behind = behind h 0 m a.payload.now a.buf.now q fits c.judge.result c.judge.ensures _ c.in_ok-judge.was c.put_bare-at.new.buf
    c.put_bare-at.result c.put_bare-at.ensures in
    let reach = reached h 0 m a.payload.now a.buf.now q c.size_of-size.result c.padding_len-padding.result c.size_of-size.ensures
    c.padding_len-padding.ensures.0 c.put_bare-at.new.buf c.put_bare-at.result behind in
    rest_room c.put_bare-at.new.buf _ _ (omega (arith, reach, c.if-buf-size.false, c.put_bare-at.auto.buf))

pub overflow_add-result : goal.overflow_add-result
unfolding bare together lay_elements
overflow_add-result c =
    let a = c.args in
    let h : Header = bare a.fixed a.profile a.extensions_padding in
    let m = bare_measured a.fixed a.profile a.extensions_padding (omega arith) (omega arith) (omega arith) in
    let q = le-leb (length a.payload.now) 65535 c.if-payload-gt65535.false in
    let size = size_counted h 0 m a.payload.now a.buf.now q c.size_of-size.result c.padding_len-padding.result c.size_of-size.ensures
    c.padding_len-padding.ensures.0 in
    let small = size_small h 0 m a.payload.now a.buf.now q c.size_of-size.result c.padding_len-padding.result c.size_of-size.ensures
    c.padding_len-padding.ensures.0 in
    let fits : packet_size (fields_of h) a.payload.now ≤ length a.buf.now = omega (arith, size, c.if-buf-size.false) in
    let behind = behind h 0 m a.payload.now a.buf.now q fits c.judge.result c.judge.ensures _ c.in_ok-judge.was c.put_bare-at.new.buf
    c.put_bare-at.result c.put_bare-at.ensures in
    let reach = reached h 0 m a.payload.now a.buf.now q c.size_of-size.result c.padding_len-padding.result c.size_of-size.ensures
    c.padding_len-padding.ensures.0 c.put_bare-at.new.buf c.put_bare-at.result behind in
    omega (arith, reach, small, c.if-payload-gt65535.false, c.padding_len-padding.ensures.1, c.put_payload.ensures.0)

pub returns : goal.returns
unfolding bare together lay_elements
returns c =
    let a = c.args in
    let h : Header = bare a.fixed a.profile a.extensions_padding in
    let m = bare_measured a.fixed a.profile a.extensions_padding (omega arith) (omega arith) (omega arith) in
    let q = le-leb (length a.payload.now) 65535 c.if-payload-gt65535.false in
    let size = size_counted h 0 m a.payload.now a.buf.now q c.size_of-size.result c.padding_len-padding.result c.size_of-size.ensures
    c.padding_len-padding.ensures.0 in
    let fits : packet_size (fields_of h) a.payload.now ≤ length a.buf.now = omega (arith, size, c.if-buf-size.false) in
    let behind = behind h 0 m a.payload.now a.buf.now q fits c.judge.result c.judge.ensures _ c.in_ok-judge.was c.put_bare-at.new.buf
    c.put_bare-at.result c.put_bare-at.ensures in
    packet_written h a.payload.now a.buf.now c.put_bare-at.new.buf c.put_payload.new.rest c.put_bare-at.result c.padding_len-padding.result
    c.put_payload.result behind c.padding_len-padding.ensures.0 c.put_payload.ensures.0 c.put_payload.ensures.1
