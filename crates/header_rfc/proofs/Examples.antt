-- The smallest headers that leave RFC 8285 in two ways at once, computed: how they are taken, and what is read. Assumes nothing.
use mathlib.Core.Path.{◌≡◌, refl}
use mathlib.Core.Bool.{true, false}
use mathlib.Core.List.{List, [], ◌∷◌}
use Prim.Native.Nat.{ℕ}
use Rattle.error.specs.Said.{says}
use Rattle.wire.specs.Net.{be16, be32, u16_at, u32_at}
use Rattle.wire.specs.Turns.{run}
use Rattle.block_read.specs.Read.{one_byte_item, taken, turn}
use Rattle.elements.specs.Elements.{Element}
use Rattle.header.specs.Read.{Reading, fields_at, read_extension, read_fixed, read_header}
use Rattle.rfc3550.specs.Rfc3550.{Fixed, fixed_octets, extension_octets}
use Rattle.rfc3550.specs.Rfc3550 as rtp
use Rattle.rfc3550.specs.Rfc8285.{one_byte, padding, element}
use Rattle.header_rfc.specs.Says.{fields_with, reading_at}
use Rattle.header_rfc.specs.Taken.{ends, fifteen, Taken, packet_taken, payload_taken, reading_taken}

-- X of the paper, and what follows it
abbrev X : List ℕ → List ℕ
X rest = 0x90 ∷ 0x60 ∷ 0 ∷ 1 ∷ 0 ∷ 0 ∷ 0 ∷ 2 ∷ 0 ∷ 0 ∷ 0 ∷ 3 ∷ rest

abbrev fixed_fields : Fixed
fixed_fields =
    record {
      version = 2;
      padding = false;
      marker = false;
      payload_type = 96;
      sequence_number = 1;
      timestamp = 2;
      ssrc = 3;
      csrcs = [];
    }

-- an element of id 0
abbrev zero : List ℕ → Element
zero bytes = record { id = 0; bytes = bytes }

-- s is taken as t with nothing behind it; its payload is empty, and r is what is said and what is read
record Computed (s : List ℕ) (t : Taken) (r : Reading) : Type 0 where
  octets : packet_taken t [] ≡ s
  payload : payload_taken t [] ≡ []
  said : reading_taken t ≡ r
  read : read_header s ≡ says r

-- an id 0 with a length, and then an id 15: `BEDE0001 01AABBF0`
zero_then_fifteen : Computed (X (0xBE ∷ 0xDE ∷ 0 ∷ 1 ∷ 0x01 ∷ 0xAA ∷ 0xBB ∷ 0xF0 ∷ []))
    (record { fixed = fixed_fields; form = one_byte; items = element 0 (0xAA ∷ 0xBB ∷ []) ∷ []; ending = fifteen 0 [] })
    (reading_at fixed_fields true 0xBEDE (zero (0xAA ∷ 0xBB ∷ []) ∷ []) 0 20)
unfolding rtp.octets fixed_octets extension_octets be16 be32 read_header read_fixed read_extension turn taken one_byte_item run fields_at fields_with u16_at u32_at
zero_then_fifteen = record { octets = refl; payload = refl; said = refl; read = refl }

-- two ids 0 with a length in one block: `BEDE0002 01AABB01 CCDD0000`
zero_twice : Computed (X (0xBE ∷ 0xDE ∷ 0 ∷ 2 ∷ 0x01 ∷ 0xAA ∷ 0xBB ∷ 0x01 ∷ 0xCC ∷ 0xDD ∷ 0 ∷ 0 ∷ []))
    (record {
      fixed = fixed_fields;
      form = one_byte;
      items = element 0 (0xAA ∷ 0xBB ∷ []) ∷ element 0 (0xCC ∷ 0xDD ∷ []) ∷ padding ∷ padding ∷ [];
      ending = ends;
    })
    (reading_at fixed_fields true 0xBEDE (zero (0xAA ∷ 0xBB ∷ []) ∷ zero (0xCC ∷ 0xDD ∷ []) ∷ []) 2 24)
unfolding rtp.octets fixed_octets extension_octets be16 be32 read_header read_fixed read_extension turn taken one_byte_item run fields_at fields_with u16_at u32_at
zero_twice = record { octets = refl; payload = refl; said = refl; read = refl }
