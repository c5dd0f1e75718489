-- Three tests are all of `in_writing_domain` where there is nothing to count, and then the refusals and the octets are those of the record.
use mathlib.Core.Path.{◌≡◌, sym, ap}
use Prim.Native.Nat.{ℕ, ◌≤◌}
use native.Mathlib.Omega.{arith}
use lib.ListN.{length}
use Rattle.std.proofs.lemmas.Result.{err_from_is_err_and}
use Rattle.elements.specs.Elements.{lay_elements}
use Rattle.header_write.specs.declared.Fixed.{Fixed}
use Rattle.header_write.specs.Size.{size_for}
use Rattle.header.specs.Fields.{fields_of}
use Rattle.header.specs.Size.{header_size}
use Rattle.header.specs.Said.{written}
use Rattle.header.specs.Parts.{together, bare}
use Rattle.header.proofs.Writing.{Measured, sized, octets_room, short_written, judge_written, put_written, write_outside}
use Rattle.header.proofs.Apart.{bare_measured, bare_outside}
use Rattle.header.proofs.write.marshal_bare.Goals as goal
use Rattle.header.proofs.write.marshal_bare.Goals.{then-fixed-gt3-via-then-fixed-gt3, then-fixed-gt3-via-else-fixed-gt3+then-fixed-gt127, then-fixed-gt3-via-else-fixed-gt3+else-fixed-gt127+then-padding-gt262140}

-- room for the size
roomy : (f : Fixed) (profile pads : ℕ) → Measured (bare f profile pads) 0 → (size room : ℕ) → size ≡ size_for 0 f.extension 0 pads →
    size ≤ room → header_size (fields_of (bare f profile pads)) ≤ room
unfolding bare together
roomy f profile pads m size room s h = omega (arith, sized (bare f profile pads) 0 m)

-- ---- 8
pub returns-then-fixed-gt3 : goal.returns-then-fixed-gt3
returns-then-fixed-gt3 c =
    let a = c.args in
    sym
    (ap (written a.buf.now)
    (write_outside (bare a.fixed a.profile a.padding) (length a.buf.now)
    (bare_outside a.fixed a.profile a.padding
    (λ v t z.
    elim c.then-fixed-gt3.branch [
      | then-fixed-gt3-via-then-fixed-gt3 w ↦ omega (arith, w.if-fixed-gt3.true)
      | then-fixed-gt3-via-else-fixed-gt3+then-fixed-gt127 w ↦ omega (arith, w.if-fixed-gt127.true)
      | then-fixed-gt3-via-else-fixed-gt3+else-fixed-gt127+then-padding-gt262140 w ↦ omega (arith, w.if-padding-gt262140.true)
    ]))))

-- ---- 5
pub returns-then-buf-size_of : goal.returns-then-buf-size_of
unfolding bare together
returns-then-buf-size_of c =
    let a = c.args in
    let m = bare_measured a.fixed a.profile a.padding (omega arith) (omega arith) (omega arith) in
    short_written (bare a.fixed a.profile a.padding) 0 m a.buf.now (omega (arith, c.size_of.ensures, c.if-buf-size_of.true))

-- ---- 9, 10
pub returns-in_err-judge : goal.returns-in_err-judge
unfolding bare together lay_elements
returns-in_err-judge c =
    let a = c.args in
    let m = bare_measured a.fixed a.profile a.padding (omega arith) (omega arith) (omega arith) in
    let p = err_from_is_err_and c.from_residual.result c.from_residual.ensures.1 in
    rw (p.1, p.2)
    (judge_written (bare a.fixed a.profile a.padding) 0 m a.buf.now
    (roomy a.fixed a.profile a.padding m c.size_of.result (length a.buf.now) c.size_of.ensures c.if-buf-size_of.false)
    c.judge.result c.judge.ensures _ c.in_err-judge.was)

-- ---- the octets
pub put_bare-requires-clause-profile_in_bounds : goal.put_bare-requires-clause-profile_in_bounds
unfolding bare together lay_elements
put_bare-requires-clause-profile_in_bounds c =
    let a = c.args in
    let m = bare_measured a.fixed a.profile a.padding (omega arith) (omega arith) (omega arith) in
    octets_room (bare a.fixed a.profile a.padding) 0 m (length a.buf.now)
    (roomy a.fixed a.profile a.padding m c.size_of.result (length a.buf.now) c.size_of.ensures c.if-buf-size_of.false)

pub returns : goal.returns
unfolding bare together lay_elements
returns c =
    let a = c.args in
    let m = bare_measured a.fixed a.profile a.padding (omega arith) (omega arith) (omega arith) in
    put_written (bare a.fixed a.profile a.padding) 0 m a.buf.now
    (roomy a.fixed a.profile a.padding m c.size_of.result (length a.buf.now) c.size_of.ensures c.if-buf-size_of.false)
    c.judge.result c.judge.ensures _ c.in_ok-judge.was _ _
    c.put_bare.ensures
