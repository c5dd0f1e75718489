-- The tests are those of `read_header`, in the same order.
use mathlib.Core.Path.{◌≡◌, sym, ap, ◌∙◌}
use Prim.Native.Nat.{ℕ}
use native.Mathlib.Omega.{arith}
use borrow.Author.Rules.{rules}
use Rattle.error.specs.Said.{says}
use Rattle.header.specs.Parts.{front_at}
use Rattle.header.specs.Read.{fixed_length, count_of, read_extension}
use Rattle.header.proofs.Reading.{said_front, header_long, header_short, header_cut, header_extended, header_plain, plain_heard_lem}
use Rattle.header.proofs.read.unmarshal_front.Goals as goal

pub returns-then-packet-gt65535 : goal.returns-then-packet-gt65535
returns-then-packet-gt65535 c =
    let s = c.args.packet.now in
    c.refused_front.ensures ∙ sym (ap said_front (header_long s c.if-packet-gt65535.true))

pub returns-then-packet-lt4 : goal.returns-then-packet-lt4
returns-then-packet-lt4 c =
    let s = c.args.packet.now in
    c.refused_front-then-packet-lt4.ensures ∙ sym (ap said_front (header_short s (search rules) c.if-packet-lt4.true))

pub returns-then-packet-at : goal.returns-then-packet-at
returns-then-packet-at c =
    let s = c.args.packet.now in
    let cc : c.from-cc.result ≡ count_of s = c.from-cc.ensures in
    c.refused_front-then-packet-at.ensures ∙ sym (ap said_front (header_cut s (search rules) (search rules) (omega arith)))

pub returns-then-b0-eq1 : goal.returns-then-b0-eq1
returns-then-b0-eq1 c =
    let s = c.args.packet.now in
    let cc : c.from-cc.result ≡ count_of s = c.from-cc.ensures in
    c.front_extended.ensures
    ∙ ap (λ (n : ℕ). said_front (read_extension s n (fixed_length n))) cc
    ∙ sym (ap said_front (header_extended s (search rules) (search rules) (omega arith) c.if-b0-eq1.true))

pub returns : goal.returns
returns c =
    let s = c.args.packet.now in
    let cc : c.from-cc.result ≡ count_of s = c.from-cc.ensures in
    c.front_at.ensures
    ∙ ap (λ (n : ℕ). record { answer = says (fixed_length n); front = front_at s n 0 0 0 }) cc
    ∙ sym
    (ap said_front (header_plain s (search rules) (search rules) (omega arith) c.if-b0-eq1.false)
    ∙ plain_heard_lem s (count_of s) (omega arith))
