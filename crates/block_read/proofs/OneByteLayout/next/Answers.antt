-- The byte at the place stands in front of the rest, and each test is the definition's own.
use mathlib.Core.Path.{sym, ap, ◌∙◌}
use Prim.Native.Nat.{ℕ, ◌+◌, ◌/◌, ◌%◌}
use native.Mathlib.Omega.{arith}
use lib.ListN.{get_or}
use borrow.Author.Rules.{rules}
use borrow.Author.Tests.{eq-eqb, ne_eqb}
use Rattle.block_read.specs.Read.{element}
use Rattle.block_read.proofs.Reading.{one_byte_at, within_past, within_packet}
use Rattle.block_read.proofs.OneByteLayout.next.Goals as goal

pub returns-then-b-eq0 : goal.returns-then-b-eq0
returns-then-b-eq0 c =
    let a = c.args in
    sym (one_byte_at a.packet.now a.at (search rules) ∙ rw (eq-eqb _ 0 c.if-b-eq0.true))

pub returns-then-id-eq-EXTENSION_ID_RESERVED : goal.returns-then-id-eq-EXTENSION_ID_RESERVED
returns-then-id-eq-EXTENSION_ID_RESERVED c =
    let a = c.args in
    sym
    (one_byte_at a.packet.now a.at (search rules)
    ∙ rw (ne_eqb _ 0 c.if-b-eq0.false, eq-eqb _ 15 c.if-id-eq-EXTENSION_ID_RESERVED.true))

pub returns-then-packet-at : goal.returns-then-packet-at
returns-then-packet-at c =
    let a = c.args in
    let s = a.packet.now in
    let b = get_or s a.at 0 in
    sym
    (one_byte_at s a.at (search rules)
    ∙ rw (ne_eqb b 0 c.if-b-eq0.false, ne_eqb (b / 16) 15 c.if-id-eq-EXTENSION_ID_RESERVED.false)
    (within_past s (a.at + 1) 1 (b / 16) (b % 16 + 1) (omega arith)))

pub returns : goal.returns
returns c =
    let a = c.args in
    let s = a.packet.now in
    let b = get_or s a.at 0 in
    ap (λ (n : ℕ). element 1 (b / 16) (n + 1)) c.from-len.ensures
    ∙ sym
    (one_byte_at s a.at (search rules)
    ∙ rw (ne_eqb b 0 c.if-b-eq0.false, ne_eqb (b / 16) 15 c.if-id-eq-EXTENSION_ID_RESERVED.false)
    (within_packet s (a.at + 1) 1 (b / 16) (b % 16 + 1) (omega arith)))
