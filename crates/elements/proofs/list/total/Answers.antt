use Rattle.std.proofs.Common.{rules, arith, take}
use Rattle.elements.proofs.Elements.{sum_more}
use Rattle.elements.proofs.list.total.Goals as goal

pub loop-len-preserved : goal.loop-len-preserved
loop-len-preserved c =
    let front = take c.args.count c.args.lens.now in
    let more = sum_more front c.loop-len.len-index in
    record { so_far = omega (arith, more); small = search rules }
