-- The zeros, and behind them the count.
use mathlib.Core.Path.{◌≡◌, sym, ap, ◌∙◌}
use mathlib.Core.List.{List}
use Prim.Native.Nat.{ℕ, ◌+◌, ◌-◌, ◌<◌}
use native.Mathlib.Omega.{arith}
use lib.ListN.{length, set, replicate, length-replicate}
use Rattle.wire.specs.Part.{splice}
use Rattle.wire.proofs.Part.{splice_nothing, splice_push}
use Rattle.packet.specs.Write.{padding_octets}
use Rattle.packet.proofs.Writing.{padding_some}
use Rattle.packet.proofs.write.put_padding.Goals as goal

pub returns-then-n-eq0 : goal.returns-then-n-eq0
returns-then-n-eq0 c =
    let a = c.args in
    sym (ap (λ (k : ℕ). splice a.rest.now a.at (padding_octets k)) c.if-n-eq0.true ∙ splice_nothing a.rest.now a.at)

pub returns : goal.returns
returns c =
    let a = c.args in
    let some : 0 < a.n = omega (arith, c.if-n-eq0.false) in
    let zeros : List ℕ = replicate (a.n - 1) 0 in
    let many : length zeros ≡ a.n - 1 = length-replicate (a.n - 1) 0 in
    ap (λ (l : List ℕ). set l (a.at + (a.n - 1)) a.n) c.fill_at.ensures
    ∙ ap (λ (k : ℕ). set (splice a.rest.now a.at zeros) (a.at + k) a.n) (sym many)
    ∙ splice_push a.rest.now a.at zeros a.n (omega (arith, c.requires.n_in_bounds))
    ∙ ap (splice a.rest.now a.at) (sym (padding_some a.n some))
