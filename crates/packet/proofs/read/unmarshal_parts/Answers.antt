-- Without the padding bit the header's answer is the packet's, and its arrays are the packet's too.
use mathlib.Core.Path.{◌≡◌, sym, ◌∙◌}
use mathlib.Core.Bool.{false}
use Prim.Native.Nat.{◌/◌}
use lib.ListN.{get_or}
use Rattle.wire.specs.Net.{bit}
use Rattle.packet.proofs.Reading.{front_begins, front_clear, arrays_clear}
use Rattle.packet.proofs.read.unmarshal_parts.Goals as goal

pub unpadded-requires : goal.unpadded-requires
unpadded-requires c =
    let s = c.args.packet.now in
    let q = c.unmarshal_parts-seen in
    front_begins s q.result q.ensures.result_value

pub returns : goal.returns
returns c =
    let s = c.args.packet.now in
    let q = c.unmarshal_parts-seen in
    let clear : bit (get_or s 0 0 / 32) ≡ false = sym c.is_padded.ensures ∙ c.if-is_padded.false in record {
      result_value = front_clear s q.result q.ensures.result_value clear _ c.unpadded.ensures;
      bytes_after = q.ensures.bytes_after ∙ arrays_clear s clear _;
    }
