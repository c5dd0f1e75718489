-- The definitions compute the octets of headers that can be held against the RFCs' figures. Assumes nothing.
use mathlib.Core.Path.{◌≡◌, refl}
use mathlib.Core.Bool.{true, false}
use mathlib.Core.List.{List, [], ◌∷◌}
use mathlib.Core.Option.{none, some}
use Prim.Native.Nat.{ℕ}
use Rattle.wire.specs.Net.{be16, be32}
use Rattle.rfc3550.specs.Rfc3550.{Fixed, fixed_octets, extension_octets}
use Rattle.rfc3550.specs.Rfc3550 as rtp
use Rattle.rfc3550.specs.Rfc8285.{one_byte, two_byte, padding, element, Content, laid, other, extension_of, octets}
use Rattle.rfc3550.specs.Packet.{packet_octets}

abbrev sample : Fixed
sample =
    record {
      version = 2;
      padding = false;
      marker = true;
      payload_type = 96;
      sequence_number = 1;
      timestamp = 2;
      ssrc = 3;
      csrcs = 4 ∷ [];
    }

-- RFC 3550 5.1, with one CSRC
fixed_header : octets (record { fixed = sample; content = none })
    ≡ 0x81 ∷ 0xE0 ∷ 0 ∷ 1 ∷ 0 ∷ 0 ∷ 0 ∷ 2 ∷ 0 ∷ 0 ∷ 0 ∷ 3 ∷ 0 ∷ 0 ∷ 0 ∷ 4 ∷ []
unfolding rtp.octets fixed_octets be16 be32
fixed_header = refl

-- the octets of an extension
abbrev extension : Content → List ℕ
extension c = extension_octets (extension_of c)

-- RFC 8285 4.2, the figure's extension of three elements with two octets of padding before the last
one_byte_figure : extension (laid one_byte (element 1 (0xAA ∷ []) ∷ element 2 (0xBB ∷ 0xCC ∷ []) ∷ padding ∷ padding ∷ element 3 (1 ∷ 2 ∷ 3 ∷ 4 ∷ []) ∷ []))
    ≡ 0xBE ∷ 0xDE ∷ 0 ∷ 3 ∷ 0x10 ∷ 0xAA ∷ 0x21 ∷ 0xBB ∷ 0xCC ∷ 0 ∷ 0 ∷ 0x33 ∷ 1 ∷ 2 ∷ 3 ∷ 4 ∷ []
unfolding extension_octets be16
one_byte_figure = refl

-- RFC 8285 4.3, an element without data, padding, and one with two bytes, application bits 5
two_byte_elements : extension (laid (two_byte 5) (element 200 [] ∷ padding ∷ padding ∷ element 1 (0xAA ∷ 0xBB ∷ []) ∷ []))
    ≡ 0x10 ∷ 0x05 ∷ 0 ∷ 2 ∷ 200 ∷ 0 ∷ 0 ∷ 0 ∷ 1 ∷ 2 ∷ 0xAA ∷ 0xBB ∷ []
unfolding extension_octets be16
two_byte_elements = refl

-- RFC 3550 5.3.1, a length of zero
no_words : extension (other 0x1234 []) ≡ 0x12 ∷ 0x34 ∷ 0 ∷ 0 ∷ []
unfolding extension_octets be16
no_words = refl

-- RFC 3550 5.1, two octets of payload and three of padding, which need not be zeros
padded_packet : packet_octets
    (record {
      header = record {
        fixed = record {
          version = 2;
          padding = true;
          marker = false;
          payload_type = 96;
          sequence_number = 1;
          timestamp = 2;
          ssrc = 3;
          csrcs = [];
        };
        content = none;
      };
      payload = 0xAA ∷ 0xBB ∷ [];
      padding = some (record { before = 7 ∷ 9 ∷ [] });
    })
    ≡ 0xA0 ∷ 0x60 ∷ 0 ∷ 1 ∷ 0 ∷ 0 ∷ 0 ∷ 2 ∷ 0 ∷ 0 ∷ 0 ∷ 3 ∷ 0xAA ∷ 0xBB ∷ 7 ∷ 9 ∷ 3 ∷ []
unfolding packet_octets rtp.octets fixed_octets be16 be32
padded_packet = refl
