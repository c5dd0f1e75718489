-- The step is made in the bytes that were there, which the search finds, or in those behind one more read.
use Rattle.std.proofs.Common.{rules}
use Rattle.stream.specs.Records.{behind}
use Rattle.stream.proofs.records.next_packet.Goals as goal

pub returns : goal.returns
returns c =
    let read = c.refill-fresh in
    (behind read.result read.ensures c.first_in.ensures.0, record { ordered = search rules; inside = search rules })
