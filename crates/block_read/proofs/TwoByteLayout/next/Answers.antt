-- The id and the length byte stand in front of the rest, and each test is the definition's own.
use mathlib.Core.Path.{sym, ap, ◌∙◌}
use Prim.Native.Nat.{ℕ, ◌+◌}
use native.Mathlib.Omega.{arith}
use lib.ListN.{get_or}
use borrow.Author.Rules.{rules}
use borrow.Author.Tests.{ne_eqb}
use Rattle.block_read.specs.Read.{element}
use Rattle.block_read.proofs.Reading.{two_byte_pad, two_byte_last, two_byte_at, within_past, within_packet}
use Rattle.block_read.proofs.TwoByteLayout.next.Goals as goal

pub returns-then-id-eq0 : goal.returns-then-id-eq0
returns-then-id-eq0 c =
    let a = c.args in
    sym (two_byte_pad a.packet.now a.at (search rules) c.if-id-eq0.true)

pub returns-then-packet-at : goal.returns-then-packet-at
returns-then-packet-at c =
    let a = c.args in
    sym
    (two_byte_last a.packet.now a.at (search rules) c.if-packet-at.true ∙ rw (ne_eqb _ 0 c.if-id-eq0.false))

pub returns-then-packet-at-2 : goal.returns-then-packet-at-2
returns-then-packet-at-2 c =
    let a = c.args in
    let s = a.packet.now in
    sym
    (two_byte_at s a.at (search rules)
    ∙ rw (ne_eqb (get_or s a.at 0) 0 c.if-id-eq0.false)
    (within_past s (a.at + 2) 2 (get_or s a.at 0) (get_or s (a.at + 1) 0) (omega arith)))

pub returns : goal.returns
returns c =
    let a = c.args in
    let s = a.packet.now in
    ap (λ (n : ℕ). element 2 (get_or s a.at 0) n) c.from-len.ensures
    ∙ sym
    (two_byte_at s a.at (search rules)
    ∙ rw (ne_eqb (get_or s a.at 0) 0 c.if-id-eq0.false)
    (within_packet s (a.at + 2) 2 (get_or s a.at 0) (get_or s (a.at + 1) 0) (omega arith)))
