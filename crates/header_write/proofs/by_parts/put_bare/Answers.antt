-- The figure without sources is the fixed part, and the block without elements is two numbers behind it.
use mathlib.Core.List.{[]}
use native.Mathlib.Omega.{arith}
use Rattle.header_write.proofs.Octets.{figure_fits, put_on, put_off, bare_figure, length_bare, bare_put}
use Rattle.header_write.proofs.by_parts.put_bare.Goals as goal

pub put-requires-clause-room : goal.put-requires-clause-room
put-requires-clause-room c = omega (arith, c.requires.profile_in_bounds, figure_fits c.args.fixed [] c.args.profile 0 [])

pub put_u16-requires : goal.put_u16-requires
put_u16-requires c =
    let l = length_bare c.args.fixed c.args.profile c.if-fixed.true in
    omega (arith, c.requires.profile_in_bounds, c.put.auto.buf)

pub put_u16-requires-then-fixed : goal.put_u16-requires-then-fixed
put_u16-requires-then-fixed c =
    let l = length_bare c.args.fixed c.args.profile c.if-fixed.true in
    omega (arith, c.requires.profile_in_bounds, c.put.auto.buf, c.put_u16.auto.s)

pub returns-then-fixed : goal.returns-then-fixed
returns-then-fixed c =
    let a = c.args in
    let l = length_bare a.fixed a.profile c.if-fixed.true in
    put_on a.fixed [] a.profile 0 [] c.if-fixed.true a.buf.now c.put.new.buf _ 12 16
    (bare_figure a.fixed a.buf.now c.put.new.buf c.put.ensures)
    (bare_put a.profile c.put.new.buf c.put_u16.new.s _ 12 (omega (arith, c.requires.profile_in_bounds, c.put.auto.buf))
    c.put_u16.ensures c.put_u16-then-fixed.ensures)

pub returns : goal.returns
returns c =
    let a = c.args in
    put_off a.fixed [] a.profile 0 [] c.if-fixed.false a.buf.now c.put.new.buf 12
    (bare_figure a.fixed a.buf.now c.put.new.buf c.put.ensures)
