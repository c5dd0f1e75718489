-- The unit is put right behind its prefix: `splice_on`.
use mathlib.Core.Path.{◌≡◌, sym, ap, ◌∙◌}
use mathlib.Core.List.{List}
use Prim.Native.Nat.{ℕ, ◌+◌}
use lib.ListN.{length}
use borrow.Author.Rules.{rules}
use Rattle.wire.specs.Part.{splice}
use Rattle.wire.proofs.Part.{splice_on}
use Rattle.nal.specs.Said.{is_avc}
use Rattle.nal.specs.Fed.{prefix_of}
use Rattle.nal.proofs.Handing.{length_prefix_for}
use Rattle.nal.proofs.buffers.put_unit.Goals as goal

pub returns : goal.returns
returns c =
    let a = c.args in
    let u = a.unit.now in
    let p = prefix_of (is_avc a.prefix) u in
    let four : length p ≡ 4 = length_prefix_for (is_avc a.prefix) (length u) in
    c.copy_at.ensures
    ∙ ap (λ (l : List ℕ). splice l (a.at + 4) u) c.put_prefix.ensures
    ∙ ap (λ (k : ℕ). splice (splice a.out.now a.at p) (a.at + k) u) (sym four)
    ∙ splice_on a.out.now a.at p u (search rules)
