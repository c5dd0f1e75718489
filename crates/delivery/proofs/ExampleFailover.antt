-- "Two encoders sharing a failover SSRC once continued each other's unit" (E4): two streams of one source and one row of numbers, each of which meets
-- the premises by itself. Where the second goes on with the first's unit, the joiner refuses its fragment by 25, and nothing torn is handed out; at one
-- time the torn unit would be. Assumes nothing.
use mathlib.Core.Path.{◌≡◌, refl}
use mathlib.Core.Bool.{Bool, true, false, cond, ◌||◌}
use mathlib.Core.List.{List, [], ◌∷◌, map}
use Prim.Native.Nat.{ℕ, ◌≤◌, ◌<◌}
use native.Mathlib.Omega.{arith}
use lib.Dec.{eqb, ltb}
use lib.ListN.{replicate}
use Rattle.error.specs.Said.{Said, says, refuse}
use Rattle.wire.specs.Net.{u16_at, u32_at, be16, be32}
use Rattle.wire.specs.Part.{splice}
use Rattle.header.specs.Read.{fields_at, read_fixed, read_header}
use Rattle.header_write.specs.Fixed.{fixed_for}
use Rattle.header.specs.Write as header
use Rattle.packet.specs.Read.{read_packet}
use Rattle.packet.specs.Write.{payload_octets, packet_octets}
use Rattle.packet.specs.Plain.{plain_packet}
use Rattle.rfc6184.specs.Sending.{octet, fu_a, fragment}
use Rattle.nal_read.specs.Kind.{shape}
use Rattle.nal.specs.Fed.{lay_bytes, lay_both}
use Rattle.sequence.specs.Arrival.{ours}
use Rattle.joiner_step.specs.Step.{Answer, accepted, by_source, step, closing, opening}
use Rattle.joiner_step.specs.Play.{handed_out}
use Rattle.joiner_feed.specs.H264.{check}
use Rattle.joiner.specs.Join.{Stepped, join_step, close_step, opened}
use Rattle.delivery.specs.Show.{packet, largest}
use Rattle.delivery.specs.Play.{our_joiner, played_on, closing_on}
use Rattle.delivery.specs.AnySender.{Stream, stream_show, StreamPremises}
use Rattle.delivery.proofs.Example.{of_32_bits}
use Rattle.delivery.proofs.ExampleStream.{part}

-- A unit in three fragments at the time t, then one in two at the time u; the byte k tells whose they are. Packets 0 to 4 bear the numbers 65534 to 2.
unfoldable pub encoder : (k t u : ℕ) → Stream
encoder k t u =
    record {
      sendings =
          fu_a (record { f = 0; nri = 3; type = 5; first = part (k ∷ k ∷ []); middle = part (k ∷ []) ∷ []; last = part (k ∷ []) })
          ∷ fu_a (record { f = 0; nri = 2; type = 1; first = part (k ∷ []); middle = []; last = part (k ∷ []) })
          ∷ [];
      marks = λ i. false;
      source = 3;
      first = 65534;
      stamps = λ i. record { marker = eqb i 2 || eqb i 4; type = 96; time = cond (ltb i 3) t u };
      gather = replicate 4 0;
      outs = λ i. replicate 9 0;
      arrivals = ours 0 ∷ ours 1 ∷ ours 2 ∷ ours 3 ∷ ours 4 ∷ [];
    }

-- ---- each meets the premises

largest_out : (avc : Bool) (k t u : ℕ) → largest avc (stream_show (encoder k t u)).groups ≤ 9
unfolding encoder fragment octet be16 be32
largest_out false k t u = omega arith
largest_out true k t u = omega arith

pub encoder_premises : (avc : Bool) (k t u : ℕ) → k < 256 → t < 4294967296 → u < 4294967296 → StreamPremises avc (encoder k t u)
unfolding encoder fragment octet be16
encoder_premises avc k t u byte early late =
    record {
      formed = omega arith;
      ruled = omega arith;
      taken = omega arith;
      short = omega arith;
      domain = omega arith;
      received =
          record {
            few = omega arith;
            gather_room = omega arith;
            out_room = λ i. largest_out avc k t u;
            source = omega arith;
            first = omega arith;
            stamps = λ i. record { type = omega arith; time = of_32_bits t u early late (ltb i 3) };
            one_time = ((refl, (refl, (refl, tt))), ((refl, (refl, tt)), tt));
            foreign = tt;
            window = omega arith;
          };
    }

-- ---- both at once

-- packet i of the first encoder, whose first unit is of the time 4,294,967,295, and of the second, which is of the time t there
abbrev of_first : ℕ → List ℕ
of_first i = packet (stream_show (encoder 1 4294967295 3599)) i

abbrev of_second : (t : ℕ) → ℕ → List ℕ
of_second t i = packet (stream_show (encoder 2 t 3600)) i

-- what the joiner answers, what it hands out, and how many packets it missed at closing
pub record Outcome (bytes : List (List ℕ)) (answers : List (Said Answer)) (out : List (List ℕ)) (missed : ℕ) : Type 0 where
  pub says_these : map (λ (st : Stepped). st.answer) (played_on our_joiner (stream_show (encoder 2 0 3600)) bytes) ≡ answers
  pub hands_out : handed_out (played_on our_joiner (stream_show (encoder 2 0 3600)) bytes) ≡ out
  pub misses : (closing_on our_joiner (stream_show (encoder 2 0 3600)) bytes).joiner.missed ≡ missed

abbrev taken : (first count bytes : ℕ) → Said Answer
taken first count bytes = says (accepted (record { first = first; count = count; bytes = bytes }))

-- the first fails before its unit's end: the second's end is refused, and its next unit comes whole
abbrev pub Failover : Type 0
Failover =
    Outcome
    (of_first 0 ∷ of_first 1 ∷ of_second 0 2 ∷ of_second 0 3 ∷ of_second 0 4 ∷ [])
    (taken 65534 0 0 ∷ taken 65535 0 0 ∷ refuse 25 ∷ taken 0 1 0 ∷ taken 2 0 7 ∷ [])
    ((0 ∷ 0 ∷ 0 ∷ 1 ∷ 0x41 ∷ 2 ∷ 2 ∷ []) ∷ [])
    1

-- the first's own end still comes: its unit is handed out whole, and nothing was missed
abbrev pub Recovery : Type 0
Recovery =
    Outcome
    (of_first 0 ∷ of_first 1 ∷ of_second 0 2 ∷ of_first 2 ∷ of_second 0 3 ∷ of_second 0 4 ∷ [])
    (taken 65534 0 0 ∷ taken 65535 0 0 ∷ refuse 25 ∷ taken 0 0 9 ∷ taken 1 0 0 ∷ taken 2 0 7 ∷ [])
    ((0 ∷ 0 ∷ 0 ∷ 1 ∷ 0x65 ∷ 1 ∷ 1 ∷ 1 ∷ 1 ∷ []) ∷ (0 ∷ 0 ∷ 0 ∷ 1 ∷ 0x41 ∷ 2 ∷ 2 ∷ []) ∷ [])
    0

-- what the time is for: were the second's unit of the first's time, its end would be taken for the first's
abbrev pub AtOneTime : Type 0
AtOneTime =
    Outcome
    (of_first 0 ∷ of_first 1 ∷ of_second 4294967295 2 ∷ of_second 4294967295 3 ∷ of_second 4294967295 4 ∷ [])
    (taken 65534 0 0 ∷ taken 65535 0 0 ∷ taken 0 0 9 ∷ taken 1 0 0 ∷ taken 2 0 7 ∷ [])
    ((0 ∷ 0 ∷ 0 ∷ 1 ∷ 0x65 ∷ 1 ∷ 1 ∷ 1 ∷ 2 ∷ []) ∷ (0 ∷ 0 ∷ 0 ∷ 1 ∷ 0x41 ∷ 2 ∷ 2 ∷ []) ∷ [])
    0

pub outcomes : Failover × Recovery × AtOneTime
unfolding encoder octet fragment join_step step close_step closing by_source check shape lay_both lay_bytes splice read_packet read_header read_fixed fields_at u16_at u32_at plain_packet packet_octets payload_octets header.octets_of fixed_for be16 be32 opened opening
outcomes = (record { says_these = refl; hands_out = refl; misses = refl }, record { says_these = refl; hands_out = refl; misses = refl }, record { says_these = refl; hands_out = refl; misses = refl })
