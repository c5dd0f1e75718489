-- A packet with the plainest header reads back: its header has twelve bytes, and the payload is what follows. Assumes nothing.
use mathlib.Core.Path.{◌≡◌, ap, ap₂, ◌∙◌}
use mathlib.Core.Bool.{Bool, true, false}
use mathlib.Core.List.{List, [], ◌++◌, append-nil}
use Prim.Native.Nat.{ℕ, ◌+◌, ◌-◌, ◌*◌, ◌/◌, ◌%◌, ◌≤◌, ◌<◌}
use native.Mathlib.Omega.{arith}
use lib.ListN.{length}
use lib.Seq.{take_all}
use borrow.Author.Tests.{eq-eqb, ne_eqb, le-leb, le-ltb}
use Rattle.error.specs.Said.{says}
use Rattle.wire.specs.Net.{u16_at, u32_at, be16, be32, bit}
use Rattle.wire.specs.Part.{part}
use Rattle.elements.specs.Elements.{elements_of, lay_elements}
use Rattle.block_read.specs.Read.{block_at}
use Rattle.header.specs.Fields.{Fields, fields_of, lay_out, in_domain}
use Rattle.header.specs.Read.{fields_at, read_header}
use Rattle.header.specs.Size.{header_size}
use Rattle.header_write.specs.Fixed.{flag, fixed_for}
use Rattle.header.specs.Write.{octets_of, in_writing_domain}
use Rattle.header.proofs.Reading.{header_plain}
use Rattle.packet.specs.Read.{behind, read_packet}
use Rattle.packet.specs.Write.{payload_octets, packet_octets, packet_size, write_packet}
use Rattle.packet.specs.Plain.{Stamp, Stampable, plain_fields, plain_packet}

-- the header's twelve bytes, then the payload
unfoldable bare : Stamp → ℕ → ℕ → List ℕ → List ℕ
bare x number source payload = octets_of (plain_fields x number source) ++ payload

module _ (x : Stamp) (number source : ℕ) (payload : List ℕ) where
  -- no padding is written
  plain_is : plain_packet x number source payload ≡ bare x number source payload
  unfolding plain_packet packet_octets payload_octets bare
  plain_is = ap (λ (l : List ℕ). octets_of (plain_fields x number source) ++ l) (append-nil payload)

  length_bare : length (bare x number source payload) ≡ 12 + length payload
  unfolding bare octets_of fixed_for be16 be32
  length_bare = omega arith

  -- the second octet is marker and type
  marker_back : (m : Bool) (t : ℕ) → t < 128 → bit ((flag m 128 + t) / 128) ≡ m
  marker_back true t h = eq-eqb ((128 + t) / 128 % 2) 1 (omega arith)
  marker_back false t h = ne_eqb ((0 + t) / 128 % 2) 1 (λ e. omega arith)

  type_back : (m : Bool) (t : ℕ) → t < 128 → (flag m 128 + t) % 128 ≡ t
  type_back true t h = omega arith
  type_back false t h = omega arith

  module _ (stamp : Stampable x) (low : number < 65536) (short : source < 4294967296) where
    fields_back : fields_at (bare x number source payload) 0 0 (block_at (bare x number source payload) 12 0) ≡ plain_fields x number source
    unfolding fields_at bare octets_of fixed_for be16 be32 u16_at u32_at
    fields_back =
        let m : bit ((flag x.marker 128 + x.type) / 128) ≡ x.marker = marker_back x.marker x.type stamp.type in
        let t : (flag x.marker 128 + x.type) % 128 ≡ x.type = type_back x.marker x.type stamp.type in
        let n : number / 256 % 256 * 256 + number % 256 ≡ number = omega arith in
        let ti : x.time / 256 / 256 / 256 % 256 * 16777216 + x.time / 256 / 256 % 256 * 65536 + x.time / 256 % 256 * 256 + x.time % 256 ≡ x.time = omega (arith, stamp.time) in
        let s : source / 256 / 256 / 256 % 256 * 16777216 + source / 256 / 256 % 256 * 65536 + source / 256 % 256 * 256 + source % 256 ≡ source = omega arith in
        λ i. record {
          version = 2;
          padding = false;
          extension = false;
          marker = m i;
          type = t i;
          number = n i;
          time = ti i;
          source = s i;
          csrcs = [];
          profile = 0;
          elements = [];
          pads = 0;
        }

    -- it is what the packet writer writes, where there is room
    pub plain_written : (room : ℕ) → length payload ≤ 65523 → 12 + length payload ≤ room →
        write_packet (lay_out (plain_fields x number source)) payload room ≡ says (plain_packet x number source payload)
    unfolding write_packet lay_out fields_of lay_elements elements_of in_writing_domain in_domain packet_size header_size plain_packet
    plain_written room fits h =
        rw (le-leb x.type 127 (omega (arith, stamp.type)), le-leb (length payload) 65535 (omega arith), le-ltb room (12 + length payload + 0) (omega arith))

    module _ (fits : length payload ≤ 65523) where
      header_back : read_header (bare x number source payload) ≡ says (record { fields = plain_fields x number source; place = 12 })
      unfolding bare octets_of fixed_for be16 be32
      header_back =
          let s : List ℕ = bare x number source payload in
          let place : length s - length payload ≡ 12 = omega arith in
          header_plain s (omega arith) (omega arith) (omega arith) (λ e. omega arith)
          ∙ ap₂ (λ (f : Fields) (n : ℕ). says (record { fields = f; place = n })) fields_back place

      pub packet_back : read_packet (plain_packet x number source payload)
          ≡ says (record { fields = plain_fields x number source; payload = record { place = 12; len = length payload } })
      unfolding read_packet
      packet_back =
          let len : length (bare x number source payload) - 12 ≡ length payload = omega (arith, length_bare) in
          ap read_packet plain_is
          ∙ ap (behind (bare x number source payload)) header_back
          ∙ ap (λ (n : ℕ). says (record { fields = plain_fields x number source; payload = record { place = 12; len = n } })) len

      -- the payload's bytes
      pub payload_back : part (plain_packet x number source payload) 12 (length payload) ≡ payload
      unfolding bare octets_of fixed_for be16 be32
      payload_back =
          ap (λ (s : List ℕ). part s 12 (length payload)) plain_is ∙ take_all (length payload) payload (omega arith)
