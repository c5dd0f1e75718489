-- The unit with its prefix is one part of the output, or it does not fit.
use mathlib.Core.Path.{◌≡◌, sym, ap, ap₂, ◌∙◌}
use mathlib.Core.List.{List, [], ◌∷◌}
use Prim.Native.Nat.{ℕ, ◌+◌}
use native.Mathlib.Omega.{arith}
use lib.ListN.{length}
use Rattle.error.specs.Said.{says}
use Rattle.wire.specs.Part.{splice}
use Rattle.nal.specs.Said.{is_avc}
use Rattle.nal.specs.Fed.{prefixed}
use Rattle.nal.proofs.Handing.{prefixed_one, length_one, bytes_short, bytes_fit}
use Rattle.nal.proofs.buffers.hand_plain.Goals as goal

pub returns-then-out-n : goal.returns-then-out-n
returns-then-out-n c =
    let a = c.args in
    let n : length (prefixed (is_avc a.prefix) (a.unit.now ∷ [])) ≡ length a.unit.now + 4 = length_one (is_avc a.prefix) a.unit.now in
    sym (bytes_short a.out.now (prefixed (is_avc a.prefix) (a.unit.now ∷ [])) (omega (arith, n, c.if-out-n.true)))

pub returns : goal.returns
returns c =
    let a = c.args in
    let u = a.unit.now in
    let n : length (prefixed (is_avc a.prefix) (u ∷ [])) ≡ length u + 4 = length_one (is_avc a.prefix) u in
    ap₂ (λ (k : ℕ) (l : List ℕ). record { answer = says k; out = l }) (sym n)
    (c.put_unit.ensures ∙ ap (splice a.out.now 0) (sym (prefixed_one (is_avc a.prefix) u)))
    ∙ sym (bytes_fit a.out.now (prefixed (is_avc a.prefix) (u ∷ [])) (omega (arith, n, c.if-out-n.false)))
