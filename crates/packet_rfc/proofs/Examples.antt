-- The smallest packets that show where the reader leaves the RFC, computed. Assumes nothing.
use mathlib.Core.Path.{◌≡◌, refl}
use mathlib.Core.Bool.{Bool, true, false}
use mathlib.Core.List.{List, [], ◌∷◌}
use Prim.Native.Nat.{ℕ}
use Rattle.error.specs.Said.{says, refuse}
use Rattle.wire.specs.Net.{u16_at, u32_at}
use Rattle.wire.specs.Turns.{run}
use Rattle.elements.specs.Elements.{Element}
use Rattle.block_read.specs.Read.{one_byte_item, taken, turn}
use Rattle.header.specs.Fields.{Fields}
use Rattle.header.specs.Read.{fields_at, read_extension, read_fixed, read_header}
use Rattle.packet.specs.Read.{stripped, read_packet}
use Rattle.packet_rfc.proofs.Behind.{reading_at}

-- a header of twelve octets with this first octet, and what follows it
abbrev packet : ℕ → List ℕ → List ℕ
packet first rest = first ∷ 0x60 ∷ 0 ∷ 1 ∷ 0 ∷ 0 ∷ 0 ∷ 2 ∷ 0 ∷ 0 ∷ 0 ∷ 3 ∷ rest

-- its fields
abbrev fields : Bool → Bool → ℕ → List Element → ℕ → Fields
fields padding extension profile elements pads =
    record {
      version = 2;
      padding = padding;
      extension = extension;
      marker = false;
      type = 96;
      number = 1;
      time = 2;
      source = 3;
      csrcs = [];
      profile = profile;
      elements = elements;
      pads = pads;
    }

-- the P bit is set, and there are no elements
abbrev padded : Bool → ℕ → Fields
padded extension profile = fields true extension profile [] 0

-- an element of id 0
abbrev zero : List ℕ → Element
zero bytes = record { id = 0; bytes = bytes }

-- "Padding bit, payload 00: payload 00." (`Deviations.zero_kept`)
count_of_0 : read_packet (packet 0xA0 (0 ∷ [])) ≡ says (reading_at (padded false 0) 12 1)
unfolding read_packet read_header read_fixed fields_at stripped u16_at u32_at
count_of_0 = refl

-- "Empty: 4." (`SHORT`)
no_count : read_packet (packet 0xA0 []) ≡ refuse 4
unfolding read_packet read_header read_fixed fields_at stripped u16_at u32_at
no_count = refl

-- padding and no payload (`Deviations.only_padding`)
count_of_all : read_packet (packet 0xA0 (1 ∷ [])) ≡ says (reading_at (padded false 0) 12 0)
unfolding read_packet read_header read_fixed fields_at stripped u16_at u32_at
count_of_all = refl

-- id 15, and the block's last octet is the count (`Deviations.reserved_padded`)
count_in_block : read_packet (packet 0xB0 (0xBE ∷ 0xDE ∷ 0 ∷ 1 ∷ 0xF0 ∷ 0xAA ∷ 0xBB ∷ 3 ∷ [])) ≡ says (reading_at (padded true 0xBEDE) 17 0)
unfolding read_packet read_header read_fixed read_extension turn taken one_byte_item run fields_at stripped u16_at u32_at
count_in_block = refl

-- an id 0 with a length and then an id 15, and two ids 0 with a length: `Examples` of header_rfc has how they are taken (`EXACT`)
zero_then_fifteen : read_packet (packet 0x90 (0xBE ∷ 0xDE ∷ 0 ∷ 1 ∷ 0x01 ∷ 0xAA ∷ 0xBB ∷ 0xF0 ∷ []))
    ≡ says (reading_at (fields false true 0xBEDE (zero (0xAA ∷ 0xBB ∷ []) ∷ []) 0) 20 0)
unfolding read_packet read_header read_fixed read_extension turn taken one_byte_item run fields_at stripped u16_at u32_at
zero_then_fifteen = refl

zero_twice : read_packet (packet 0x90 (0xBE ∷ 0xDE ∷ 0 ∷ 2 ∷ 0x01 ∷ 0xAA ∷ 0xBB ∷ 0x01 ∷ 0xCC ∷ 0xDD ∷ 0 ∷ 0 ∷ 0x99 ∷ []))
    ≡ says (reading_at (fields false true 0xBEDE (zero (0xAA ∷ 0xBB ∷ []) ∷ zero (0xCC ∷ 0xDD ∷ []) ∷ []) 2) 24 1)
unfolding read_packet read_header read_fixed read_extension turn taken one_byte_item run fields_at stripped u16_at u32_at
zero_twice = refl
