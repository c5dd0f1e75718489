-- The first byte, each set behind its length, and the end in the table.
use mathlib.Core.Path.{◌≡◌, ap, ◌∙◌}
use mathlib.Core.List.{List, ◌++◌}
use Prim.Native.Nat.{ℕ, ◌+◌}
use native.Mathlib.Omega.{arith}
use lib.ListN.{length, length-set}
use Rattle.wire.specs.Net.{be16}
use Rattle.wire.specs.Part.{splice}
use Rattle.h264_put.specs.Groups.{stap_a}
use Rattle.h264_put.proofs.Sinks.{put_is, splice_pair, length_stap_a}
use borrow.Author.Rules.{rules}
use Rattle.h264_put.proofs.put.put_pair.Goals as goal

pub returns : goal.returns
returns c =
    let start = c.args in
    let out = start.out.now in
    let sps = start.sps.now in
    let pps = start.pps.now in
    let at = start.to.at in
    put_is out start.ends.now c.put_set-2.new.out start.to (stap_a sps pps) _
    (c.put_set-2.ensures
    ∙ ap (λ (l : List ℕ). splice l (at + 3 + length sps) (be16 (length pps) ++ pps))
    c.put_set.ensures
    ∙ splice_pair out at sps pps (search rules))
    (rw (length_stap_a sps pps) (omega arith))
