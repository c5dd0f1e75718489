-- A block of neither profile of RFC 8285 is one element.
use Rattle.std.proofs.Common.{rules, [], ◌∷◌, ◌+◌, length, ap, sym, ◌∙◌}
use Rattle.block_read.specs.Said.{block_seen}
use Rattle.block_read.proofs.Reading.{whole_element, whole_full, whole_block_lem, seen_at}
use Rattle.block_read.proofs.see_block.Goals as goal

pub returns-then-len-gt1024 : goal.returns-then-len-gt1024
returns-then-len-gt1024 c =
    let a = c.args in
    rw c.in-Other.is (sym (ap (block_seen (length a.packet.now)) (whole_full a.packet.now a.start a.len c.if-len-gt1024.true)))

pub returns-else-len-gt1024 : goal.returns-else-len-gt1024
returns-else-len-gt1024 c =
    let a = c.args in
    let s = a.packet.now in
    let end = a.start + a.len in
    rw c.in-Other.is
    (sym
    (ap (block_seen (length s)) (whole_block_lem s a.start a.len (search rules))
    ∙ seen_at s end end (whole_element s a.start a.len ∷ []) 0 (search rules)))
