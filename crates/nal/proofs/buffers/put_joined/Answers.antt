-- Prefix, header and body stand one behind the other: `joined_unit`.
use mathlib.Core.Path.{ap, ◌∙◌}
use mathlib.Core.List.{List}
use Prim.Native.Nat.{ℕ, ◌+◌}
use lib.ListN.{length}
use borrow.Author.Rules.{rules}
use Rattle.wire.specs.Part.{splice}
use Rattle.nal.specs.Said.{is_avc}
use Rattle.nal.proofs.Handing.{joined_unit}
use Rattle.nal.proofs.buffers.put_joined.Goals as goal

pub returns : goal.returns
returns c =
    let a = c.args in
    let head = a.head.now in
    let body = a.body.now in
    c.copy_at-2.ensures
    ∙ ap (λ (l : List ℕ). splice l (4 + length head) body) c.copy_at.ensures
    ∙ ap (λ (l : List ℕ). splice (splice l 4 head) (4 + length head) body) c.put_prefix.ensures
    ∙ joined_unit (is_avc a.prefix) a.out.now head body (search rules)
