-- The arrays were zeros, so that the front with them is the record beside the answer, also beside a refusal.
use mathlib.Core.Path.{ap, ◌∙◌}
use Rattle.header.specs.declared.Header.{Header}
use Rattle.packet.specs.Read.{read_packet}
use Rattle.packet.specs.Said.{heard}
use Rattle.packet.proofs.Reading.{whole_heard}
use Rattle.packet.proofs.read.unmarshal.Goals as goal

pub returns : goal.returns
returns c =
    let q = c.unmarshal_parts-seen in
    ap (λ (h : Header). heard (record { read = q.result.read; header = h })) c.with.ensures
    ∙ whole_heard q.result _ (read_packet c.args.packet.now) q.ensures.result_value q.ensures.bytes_after
