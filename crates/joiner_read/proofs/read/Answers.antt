-- The reader's answer, shrunk to what is needed: `shrunk_is`.
use Rattle.std.specs.Prelude.{Result}
use Rattle.std.proofs.lemmas.Result.{err_from_is_err_and}
use mathlib.Core.Path.{sym, ap, ◌∙◌}
use Rattle.error.specs.declared.Error.{Error}
use Rattle.packet.specs.declared.Payload.{Payload}
use Rattle.packet.specs.Read.{read_packet}
use Rattle.packet.specs.Said.{said_read}
use Rattle.joiner_read.proofs.Arriving.{shrunk, shrunk_is}
use Rattle.joiner_read.proofs.read.Goals as goal

pub returns : goal.returns
returns c =
    let u = c.unmarshal_front-answer in
    sym (ap (λ (r : Result Payload Error). shrunk (record { answer = said_read r; front = u.result.front })) c.in_ok-payload.was)
    ∙ ap shrunk u.ensures
    ∙ shrunk_is (read_packet c.args.packet.now)
