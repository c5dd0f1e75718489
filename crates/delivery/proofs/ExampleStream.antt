-- The premises on a stream by RFC 6184 can be met: an access unit delimiter of two octets, an STAP-A and the second of three fragments that a relay
-- marked, and a unit that is lost. Assumes nothing.
use mathlib.Core.Path.{◌≡◌, refl}
use mathlib.Core.Bool.{Bool, true, false, cond, ◌||◌}
use mathlib.Core.List.{List, [], ◌∷◌}
use mathlib.Core.Logic.{inl, inr}
use Prim.Native.Nat.{ℕ, ◌≤◌}
use native.Mathlib.Omega.{arith}
use lib.Dec.{eqb, ltb}
use lib.ListN.{replicate}
use Rattle.wire.specs.Net.{u16_at, u32_at, be16, be32}
use Rattle.wire.specs.Part.{splice}
use Rattle.wire.specs.Turns.{run}
use Rattle.header.specs.Read.{fields_at, read_fixed, read_header}
use Rattle.header_write.specs.Fixed.{fixed_for}
use Rattle.header.specs.Write as header
use Rattle.packet.specs.Read.{read_packet}
use Rattle.packet.specs.Write.{payload_octets, packet_octets}
use Rattle.packet.specs.Plain.{plain_packet}
use Rattle.rfc6184.specs.Sending.{Nal, octet, octets_of, Part, single, stap_a, fu_a, fragment}
use Rattle.nal_read.specs.Kind.{shape}
use Rattle.nal_read.specs.Unpack.{unpack}
use Rattle.nal.specs.Unpack.{unpack_turn}
use Rattle.nal.specs.Unpack as unpacking
use Rattle.nal.specs.Fed.{lay_bytes, lay_both}
use Rattle.sequence.specs.Arrival.{ours}
use Rattle.joiner_step.specs.Step.{by_source, step, closing, opening}
use Rattle.joiner_step.specs.Play.{handed_out}
use Rattle.joiner_feed.specs.H264.{check}
use Rattle.joiner.specs.Join.{join_step, close_step, opened}
use Rattle.delivery.specs.Show.{largest}
use Rattle.delivery.specs.Play.{our_joiner, played}
use Rattle.delivery.specs.Play as play
use Rattle.delivery.specs.AnySender.{Stream, stream_show, StreamPremises}
use Rattle.delivery.proofs.Example.{of_32_bits}

abbrev unit : ℕ → ℕ → List ℕ → Nal
unit nri type payload = record { f = 0; nri = nri; type = type; payload = payload }

abbrev pub part : List ℕ → Part
part s = record { reserved = 0; octets = s }

-- six packets, of which a relay marked the second and the fourth, and the last is lost
unfoldable pub stream : Stream
stream =
    record {
      sendings =
          single (unit 0 9 (0xF0 ∷ []))
          ∷ stap_a 0 3 (unit 3 7 (0xAA ∷ []) ∷ unit 3 8 (0xBB ∷ []) ∷ [])
          ∷ fu_a (record { f = 0; nri = 3; type = 5; first = part (1 ∷ 2 ∷ []); middle = part (3 ∷ []) ∷ []; last = part (4 ∷ []) })
          ∷ single (unit 2 1 (1 ∷ 2 ∷ []))
          ∷ [];
      marks = λ i. eqb i 1 || eqb i 3;
      source = 3;
      first = 65534;
      stamps = λ i. record { marker = false; type = 96; time = cond (ltb i 5) 4294967295 3599 };
      gather = replicate 4 0;
      outs = λ i. replicate 12 0;
      arrivals = ours 0 ∷ ours 1 ∷ ours 2 ∷ ours 3 ∷ ours 4 ∷ [];
    }

-- whatever the prefix, the largest group takes 12 bytes
largest_out : (avc : Bool) → largest avc (stream_show stream).groups ≤ 12
unfolding stream octets_of fragment octet be16 be32
largest_out false = omega arith
largest_out true = omega arith

pub stream_premises : (avc : Bool) → StreamPremises avc stream
unfolding stream octets_of fragment octet be16
stream_premises avc =
    record {
      formed = omega arith;
      ruled = omega arith;
      taken = (inr (refl, refl), (tt, (omega arith, (inl (omega arith), tt))));
      short = omega arith;
      domain = omega arith;
      received =
          record {
            few = omega arith;
            gather_room = omega arith;
            out_room = λ i. largest_out avc;
            source = omega arith;
            first = omega arith;
            stamps = λ i. record { type = omega arith; time = of_32_bits 4294967295 3599 (omega arith) (omega arith) (ltb i 5) };
            one_time = omega arith;
            foreign = tt;
            window = omega arith;
          };
    }

-- what is handed out, as it computes: the units of the STAP-A as they are, the fragmented unit with its top bit set; and how many packets were missed
pub stream_outcome : (handed_out (played our_joiner (stream_show stream)) ≡ (0 ∷ 0 ∷ 0 ∷ 1 ∷ 9 ∷ 0xF0 ∷ []) ∷ (0 ∷ 0 ∷ 0 ∷ 1 ∷ 0x67 ∷ 0xAA ∷ 0 ∷ 0 ∷ 0 ∷ 1 ∷ 0x68 ∷ 0xBB ∷ []) ∷ (0 ∷ 0 ∷ 0 ∷ 1 ∷ 0xE5 ∷ 1 ∷ 2 ∷ 3 ∷ 4 ∷ []) ∷ [])
    × ((play.closing our_joiner (stream_show stream)).joiner.missed ≡ 1)
unfolding stream octets_of fragment octet join_step step close_step closing by_source check shape unpack unpacking.unpack unpack_turn run lay_both lay_bytes splice read_packet read_header read_fixed fields_at u16_at u32_at plain_packet packet_octets payload_octets header.octets_of fixed_for be16 be32 opened opening
stream_outcome = (refl, refl)
