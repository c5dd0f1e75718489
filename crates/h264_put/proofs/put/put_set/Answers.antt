-- The length and the set behind it are one part.
use mathlib.Core.Path.{◌≡◌, ap, ◌∙◌}
use mathlib.Core.List.{List}
use Prim.Native.Nat.{ℕ, ◌+◌}
use lib.ListN.{length}
use Rattle.wire.specs.Net.{be16}
use Rattle.wire.specs.Part.{splice}
use Rattle.wire.proofs.Net.{length_be16}
use Rattle.wire.proofs.Part.{splice_on}
use borrow.Author.Rules.{rules}
use Rattle.h264_put.proofs.put.put_set.Goals as goal

pub returns : goal.returns
returns c =
    let start = c.args in
    let set = start.set.now in
    let two : start.at + 2 ≡ start.at + length (be16 (length set)) = rw (length_be16 (length set)) in
    c.copy_at.ensures
    ∙ ap (λ (l : List ℕ). splice l (start.at + 2) set) c.put_u16.ensures
    ∙ ap (λ (k : ℕ). splice (splice start.out.now start.at (be16 (length set))) k set) two
    ∙ splice_on start.out.now start.at (be16 (length set)) set (search rules)
