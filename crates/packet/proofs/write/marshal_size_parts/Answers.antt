-- The header's size, asked first, with the payload and a padding of four at most.
use mathlib.Core.Path.{refl, sym, ap, ap₂, ◌∙◌}
use Prim.Native.Nat.{ℕ, ◌+◌}
use native.Mathlib.Omega.{arith}
use lib.ListN.{length}
use borrow.Author.Tests.{le-leb, lt-leb}
use Rattle.std.proofs.lemmas.Result.{err_from_is_err_and}
use Rattle.error.specs.Said.{says, said}
use Rattle.header.specs.Parts.{together}
use Rattle.header.proofs.Sizes.{size_asked_lem, size_said, size_refused, size_small}
use Rattle.packet.proofs.Writing.{size_tests, packet_size_lem}
use Rattle.packet.proofs.write.marshal_size_parts.Goals as goal

pub returns-in_err-n : goal.returns-in_err-n
returns-in_err-n c =
    let size = c.marshal_size_parts in
    let out = size_refused _ size.result size.ensures _ c.in_err-n.was in
    let p = err_from_is_err_and c.from_residual.result c.from_residual.ensures.1 in
    rw (p.1, p.2) (ap said (sym c.in_err-n.was) ∙ size.ensures ∙ size_asked_lem _ out ∙ sym (size_tests _ _ out refl))

pub returns-then-len-gt65535 : goal.returns-then-len-gt65535
returns-then-len-gt65535 c =
    let size = c.marshal_size_parts in
    let s = size_said _ size.result size.ensures _ c.in_ok-n.was in
    sym (size_tests _ _ s.0 (lt-leb _ 65535 c.if-len-gt65535.true))

pub returns : goal.returns
unfolding together
returns c =
    let size = c.marshal_size_parts in
    let s = size_said _ size.result size.ensures _ c.in_ok-n.was in
    let payload = c.args.payload.now in
    ap says
    (ap₂ (λ (k m : ℕ). k + length payload + m) (sym s.1) c.padding_len.ensures.0 ∙ sym (packet_size_lem _ payload))
    ∙ sym (size_tests _ payload s.0 (le-leb (length payload) 65535 c.if-len-gt65535.false))

pub overflow_add-result : goal.overflow_add-result
overflow_add-result c =
    let size = c.marshal_size_parts in
    let s = size_said _ size.result size.ensures _ c.in_ok-n.was in
    omega (arith, s.1, size_small _ s.0)

pub overflow_add-result-2 : goal.overflow_add-result-2
overflow_add-result-2 c =
    let size = c.marshal_size_parts in
    let s = size_said _ size.result size.ensures _ c.in_ok-n.was in
    omega (arith, s.1, size_small _ s.0, c.padding_len.ensures.1)
