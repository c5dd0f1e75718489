use Rattle.std.proofs.Common.{rules, sym, ap, ◌∙◌, List, ℕ, ◌+◌, slice_set, slice_index_or}
use Rattle.wire.proofs.Part.{splice_nothing, splice_more}
use Rattle.wire.proofs.copy_at.Goals as goal

pub loop-i-init : goal.loop-i-init
loop-i-init c = (search rules, sym (splice_nothing _ _), search rules)

pub loop-i-preserved : goal.loop-i-preserved
loop-i-preserved c =
    let start = c.args in
    let at_head = c.loop-i in
    let src = start.src.now in
    let i = at_head.i in (
      search rules,
      ap (λ (l : List ℕ). slice_set l (start.at + i) (slice_index_or src i 0)) at_head.invariant.1
          ∙ splice_more start.dst.now start.at src i 0 (search rules) (search rules),
      search rules,
    )
