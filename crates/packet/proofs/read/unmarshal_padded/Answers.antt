-- The packet is judged first; then the arrays are those of its header, which is read.
use mathlib.Core.Path.{◌∙◌}
use Rattle.packet.specs.Read.{read_packet}
use Rattle.packet.proofs.Reading.{front_says, front_refusal, arrays_alike}
use Rattle.packet.proofs.read.unmarshal_padded.Goals as goal

pub returns : goal.returns
returns c =
    let q = c.unmarshal_front-seen in record {
      result_value = q.ensures;
      bytes_after = c.unmarshal_parts.ensures.bytes_after
          ∙ arrays_alike _ _ _ (front_says q.result _ q.ensures _ c.in-Ok.is).1;
    }
