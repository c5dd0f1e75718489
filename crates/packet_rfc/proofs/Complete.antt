-- Every well-formed packet within the limits is read as what its plan says: the header by the header's COMPLETE, and then the payload by the
-- count in the last octet. Assumes nothing.
use mathlib.Core.Path.{◌≡◌, refl, ap, ◌∙◌}
use mathlib.Core.List.{List, ◌++◌, append-nil}
use mathlib.Core.Option.{Option, none, some}
use Prim.Native.Nat.{ℕ}
use lib.ListN.{length, take}
use lib.Seq.{take_at, drop_at}
use Rattle.error.specs.Said.{says, refuse}
use Rattle.wire.specs.Part.{part}
use Rattle.header.specs.Fields.{Fields}
use Rattle.header.specs.Read.{read_header}
use Rattle.rfc3550.specs.Rfc3550.{present}
use Rattle.rfc3550.specs.Rfc8285.{octets}
use Rattle.rfc3550.specs.Packet.{Padding, Packet, LawfulPacket, end_octets, packet_octets}
use Rattle.header_rfc.specs.Says.{elements_said, fields_said, fields_with, Within, Over, Plain, Fits}
use Rattle.header_rfc.proofs.Complete as header
use Rattle.packet.specs.Read.{behind, read_packet}
use Rattle.packet_rfc.specs.Says.{reading_said, payload_in, Complete}
use Rattle.packet_rfc.proofs.Behind.{reading_at, read_all, read_padded}

-- ---- a payload and what may follow it, behind the octets of a header

module _ (front payload : List ℕ) where
  pub read_end : (e : Option Padding) (f : Fields) → f.padding ≡ present e →
      read_header (front ++ (payload ++ end_octets e)) ≡ says (record { fields = f; place = length front }) →
      read_packet (front ++ (payload ++ end_octets e)) ≡ says (reading_at f (length front) (length payload))
  read_end none f bit read =
      read_all (front ++ (payload ++ end_octets none)) payload (length front)
      (drop_at front (payload ++ end_octets none) (length front) refl ∙ append-nil payload) f read bit
  read_end (some p) f bit read =
      read_padded (front ++ (payload ++ end_octets (some p))) (payload ++ end_octets (some p)) (length front)
      (drop_at front (payload ++ end_octets (some p)) (length front) refl) f read bit payload p refl

  -- the payload's bytes
  pub part_end : (tail : List ℕ) → part (front ++ (payload ++ tail)) (length front) (length payload) ≡ payload
  part_end tail =
      ap (take (length payload)) (drop_at front (payload ++ tail) (length front) refl) ∙ take_at payload tail (length payload) refl

-- ---- COMPLETE

within : (p : Packet) → LawfulPacket p → Plain p.header.content → Fits (packet_octets p) → Within (elements_said p.header.content) →
    read_packet (packet_octets p) ≡ says (reading_said p)
unfolding packet_octets fields_with
within p l plain fits w =
    read_end (octets p.header) p.payload p.padding (fields_said p.header) l.bit
    ((header.complete).within p.header (p.payload ++ end_octets p.padding) l.header plain fits w)

over : (p : Packet) → LawfulPacket p → Plain p.header.content → Fits (packet_octets p) → Over (elements_said p.header.content) →
    read_packet (packet_octets p) ≡ refuse 7
unfolding packet_octets read_packet
over p l plain fits o =
    ap (behind (octets p.header ++ (p.payload ++ end_octets p.padding)))
    ((header.complete).over p.header (p.payload ++ end_octets p.padding) l.header plain fits o)

pub complete : Complete read_packet
complete = record { within = within; over = over }

-- the bytes at the place that the plan says are the payload
pub payload_bytes : (p : Packet) → payload_in (packet_octets p) (reading_said p) ≡ p.payload
unfolding packet_octets
payload_bytes p = part_end (octets p.header) p.payload (end_octets p.padding)
