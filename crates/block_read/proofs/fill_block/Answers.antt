-- The one element of a block of neither profile of RFC 8285 is the whole block.
use Rattle.std.proofs.Common.{arith, ◌≡◌, ◌+◌, ◌-◌, ◌≤◌}
use Rattle.block_read.specs.Read.{whole_block, block_at}
use Rattle.block_read.specs.Said.{Answers}
use Rattle.block_read.proofs.Filling.{whole_fits, whole_laid}
use Rattle.block_read.proofs.fill_block.Goals as goal
use Rattle.block_read.proofs.fill_block.Goals.{In-Other}

-- the block as one element is not refused
whole : (c : In-Other) → Answers (whole_block (block_at c.args.packet.now c.args.start c.args.len))
whole c = rw c.in-Other.is at c.requires.answers

fits : (c : In-Other) → c.args.len ≤ 1024
fits c = let a = c.args in whole_fits a.packet.now a.start a.len (whole c)

pub overflow_cast-lens : goal.overflow_cast-lens
overflow_cast-lens c = omega (arith, fits (goal.at.overflow_cast-lens c).In-Other)

pub copy_at-requires : goal.copy_at-requires
copy_at-requires c = omega (arith, fits (goal.at.copy_at-requires c).In-Other)

pub returns-in-Other : goal.returns-in-Other
returns-in-Other c =
    let a = c.args in
    let p = c.requires in
    let len : a.start + a.len - a.start ≡ a.len = omega arith in
    rw (c.in-Other.is, c.copy_at.ensures, len)
    (whole_laid a.packet.now a.start a.len (whole (goal.at.returns-in-Other c).In-Other) _ _ _ p.len_in_bounds p.laid)
