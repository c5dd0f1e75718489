-- The tests are those of `stripped`.
use mathlib.Core.Path.{◌≡◌, sym, ap, ◌∙◌}
use Prim.Native.Nat.{ℕ, ◌-◌}
use native.Mathlib.Omega.{arith}
use lib.ListN.{length, get_or}
use borrow.Author.Tests.{eq-eqb, ne_eqb, lt-ltb, le-ltb}
use Rattle.error.specs.Said.{says}
use Rattle.packet.specs.Read.{stripped}
use Rattle.packet.proofs.read.strip.Goals as goal

pub returns-then-left-eq0 : goal.returns-then-left-eq0
unfolding stripped
returns-then-left-eq0 c = sym (rw (eq-eqb _ 0 c.if-left-eq0.true))

pub returns-then-left-n : goal.returns-then-left-n
unfolding stripped
returns-then-left-n c =
    let a = c.args in
    let s = a.packet.now in
    let n : c.from-n.result ≡ get_or s (length s - 1) 0 = c.from-n.ensures in
    sym (rw (ne_eqb _ 0 c.if-left-eq0.false, lt-ltb (length s - a.at) (get_or s (length s - 1) 0) (omega arith)))

pub returns : goal.returns
unfolding stripped
returns c =
    let a = c.args in
    let s = a.packet.now in
    let n : c.from-n.result ≡ get_or s (length s - 1) 0 = c.from-n.ensures in
    ap (λ (k : ℕ). says (record { place = a.at; len = length s - a.at - k })) n
    ∙ sym (rw (ne_eqb _ 0 c.if-left-eq0.false, le-ltb (length s - a.at) (get_or s (length s - 1) 0) (omega arith)))
