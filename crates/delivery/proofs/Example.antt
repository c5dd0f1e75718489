-- The premises can be met: a show with a loss, a repeat, a reordering, a wrap of the number and a packet of another source, whose
-- outcome the checker computes. Assumes nothing.
use mathlib.Core.Path.{◌≡◌, refl, ap}
use mathlib.Core.Bool.{Bool, true, false, cond, ◌||◌}
use mathlib.Core.List.{List, [], ◌∷◌, map}
use Prim.Native.Nat.{ℕ, ◌≤◌, ◌<◌}
use native.Mathlib.Omega.{arith}
use lib.Dec.{eqb, ltb}
use lib.ListN.{replicate}
use Rattle.error.specs.Said.{Said, says, refused}
use Rattle.wire.specs.Net.{u16_at, u32_at, be16, be32}
use Rattle.wire.specs.Part.{splice}
use Rattle.wire.specs.Turns.{run}
use Rattle.header.specs.Read.{fields_at, read_fixed, read_header}
use Rattle.header_write.specs.Fixed.{fixed_for}
use Rattle.header.specs.Write.{octets_of}
use Rattle.packet.specs.Read.{PacketReading, read_packet}
use Rattle.packet.specs.Write.{payload_octets, packet_octets}
use Rattle.packet.specs.Plain.{plain_packet}
use Rattle.annexb.specs.Units.{units, units_at}
use Rattle.h264_put.specs.Groups.{nothing_saved, keep, stap_a, fragment, pair_for, unit_for, groups_for}
use Rattle.nal_read.specs.Kind.{shape}
use Rattle.nal_read.specs.Unpack.{unpack}
use Rattle.nal.specs.Unpack.{unpack_turn}
use Rattle.nal.specs.Unpack as unpacking
use Rattle.nal.specs.Fed.{prefixed, lay_bytes, lay_both}
use Rattle.sequence.specs.Arrival.{Arrival, ours, other, Window}
use Rattle.joiner_step.specs.Step.{by_source, step, closing, opening}
use Rattle.joiner_step.specs.Play.{is_accepted, handed_out}
use Rattle.joiner_feed.specs.H264.{check}
use Rattle.joiner.specs.Join.{Stepped, join_step, close_step, opened}
use Rattle.delivery.specs.Play.{our_joiner, played}
use Rattle.delivery.specs.Play as play
use Rattle.delivery.specs.Show.{largest}
use Rattle.delivery.specs.Demand.{Foreign, OthersForeign}
use Rattle.delivery.specs.Frames.{Sending, show_of, SendingPremises}
use Rattle.delivery.specs.Calls.{Lent, LentEnough}

-- a packet of source 9
unfoldable pub stranger : List ℕ
stranger = 0x80 ∷ 0x60 ∷ 0 ∷ 1 ∷ 0 ∷ 0 ∷ 0 ∷ 2 ∷ 0 ∷ 0 ∷ 0 ∷ 9 ∷ 0x65 ∷ 1 ∷ 2 ∷ []

-- the timestamp of packet i: one for each frame, 3,600 ticks apart, with a wrap behind the first; the marker stands on each frame's last packet
abbrev time_of : ℕ → ℕ
time_of i = cond (ltb i 2) 4294963696 (cond (ltb i 5) 0 (cond (ltb i 8) 3600 7200))

abbrev is_last : ℕ → Bool
is_last i = eqb i 1 || (eqb i 4 || (eqb i 7 || eqb i 8))

-- nine packets: a pair of sets and a unit, a unit in three fragments, another in three, a unit. The sixth bears the number 0.
unfoldable pub nine : List (Arrival (List ℕ)) → Sending
nine arrivals =
    record {
      frames =
          (0 ∷ 0 ∷ 1 ∷ 0x67 ∷ 0xAA ∷ 0 ∷ 0 ∷ 1 ∷ 0x68 ∷ 0xBB ∷ 0 ∷ 0 ∷ 1 ∷ 0x65 ∷ 1 ∷ 2 ∷ [])
          ∷ (0 ∷ 0 ∷ 0 ∷ 1 ∷ 0x65 ∷ replicate 84 7)
          ∷ (0 ∷ 0 ∷ 0 ∷ 1 ∷ 0x41 ∷ replicate 84 8)
          ∷ (0x41 ∷ 11 ∷ 12 ∷ [])
          ∷ [];
      mtu = 30;
      source = 3;
      first = 65531;
      stamps = λ i. record { marker = is_last i; type = 96; time = time_of i };
      gather = replicate 84 0;
      outs = λ i. replicate 89 0;
      arrivals = arrivals;
    }

-- packet 0 comes twice, packet 1 behind packet 2, packet 6 not at all
unfoldable pub show : Sending
show = nine (ours 0 ∷ ours 0 ∷ other stranger ∷ ours 2 ∷ ours 1 ∷ ours 3 ∷ ours 4 ∷ ours 5 ∷ ours 7 ∷ ours 8 ∷ [])

-- ---- it meets the premises

of_another : Foreign 3 stranger
unfolding stranger read_packet read_header read_fixed fields_at u16_at u32_at
of_another r e same = let nine : 9 ≡ r.fields.source = ap source_of e in omega arith
  where
    source_of : Said PacketReading → ℕ
    source_of (says x) = x.fields.source
    source_of (refused x) = 0

-- one of two times
pub of_32_bits : (t u : ℕ) → t < 4294967296 → u < 4294967296 → (b : Bool) → cond b t u < 4294967296
of_32_bits t u early late true = early
of_32_bits t u early late false = late

time_32 : (i : ℕ) → time_of i < 4294967296
time_32 i =
    of_32_bits 4294963696 _ (omega arith) (of_32_bits 0 _ (omega arith) (of_32_bits 3600 7200 (omega arith) (omega arith) (ltb i 8)) (ltb i 5)) (ltb i 2)

-- whatever the prefix, the largest group takes 89 bytes
largest_out : (avc : Bool) (arrivals : List (Arrival (List ℕ))) → largest avc (show_of (nine arrivals)).groups ≤ 89
unfolding nine units units_at keep stap_a pair_for unit_for groups_for fragment be16 be32
largest_out false arrivals = omega arith
largest_out true arrivals = omega arith

pub nine_premises : (avc : Bool) (arrivals : List (Arrival (List ℕ))) → OthersForeign 3 arrivals → Window 9 0 arrivals →
    SendingPremises avc (nine arrivals)
unfolding nine units units_at keep stap_a pair_for unit_for groups_for fragment be16
nine_premises avc arrivals foreign window =
    record {
      frames = omega arith;
      mtu_low = omega arith;
      mtu_high = omega arith;
      received =
          record {
            few = omega arith;
            gather_room = omega arith;
            out_room = λ i. largest_out avc arrivals;
            source = omega arith;
            first = omega arith;
            stamps = λ i. record { type = omega arith; time = time_32 i };
            one_time = omega arith;
            foreign = foreign;
            window = window;
          };
    }

pub premises : (avc : Bool) → SendingPremises avc show
unfolding show
premises avc = nine_premises avc _ (of_another, tt) (omega arith)

-- ---- its outcome, as it computes

-- what is handed out: the pair, the first fragmented unit and the last unit
abbrev pub pair_out : Bool → List ℕ
pair_out avc = prefixed avc ((0x67 ∷ 0xAA ∷ []) ∷ (0x68 ∷ 0xBB ∷ []) ∷ [])

abbrev pub joined_out : Bool → List ℕ
joined_out avc = prefixed avc ((0x65 ∷ replicate 84 7) ∷ [])

abbrev pub last_out : Bool → List ℕ
last_out avc = prefixed avc ((0x41 ∷ 11 ∷ 12 ∷ []) ∷ [])

-- which calls accept, what is handed out, how many packets were missed
pub record Outcome (accepts : List Bool) (out : List (List ℕ)) (missed : ℕ) : Type 0 where
  pub accepts_these : map (λ (st : Stepped). is_accepted st.answer) (played our_joiner (show_of show)) ≡ accepts
  pub hands_out : handed_out (played our_joiner (show_of show)) ≡ out
  pub misses : (play.closing our_joiner (show_of show)).joiner.missed ≡ missed

-- the repeat, the stranger and the packet behind a later one are not accepted; packets 1 and 6 are missed
pub outcome : Outcome
    (true ∷ false ∷ false ∷ true ∷ false ∷ true ∷ true ∷ true ∷ true ∷ true ∷ [])
    (pair_out false ∷ joined_out false ∷ last_out false ∷ [])
    2
unfolding show nine stranger units units_at keep stap_a pair_for unit_for groups_for fragment join_step step close_step closing by_source check shape unpack unpacking.unpack unpack_turn run lay_both lay_bytes splice read_packet read_header read_fixed fields_at u16_at u32_at plain_packet packet_octets payload_octets octets_of fixed_for be16 be32 opened opening
outcome = record { accepts_these = refl; hands_out = refl; misses = refl }

-- ---- its calls answer

-- an output of 90 bytes and a table of three ends for each call
abbrev pub lent_to : ℕ → Lent
lent_to i = record { out = replicate 90 0; ends = replicate 3 0 }

pub lent_enough : LentEnough show.mtu nothing_saved lent_to show.frames
unfolding show nine units units_at keep stap_a pair_for unit_for groups_for fragment be16
lent_enough = (
  (refl, (refl, (refl, tt))),
  record { bytes = omega arith; places = omega arith },
  (
    (refl, tt),
    record { bytes = omega arith; places = omega arith },
    ((refl, tt), record { bytes = omega arith; places = omega arith }, ((refl, tt), record { bytes = omega arith; places = omega arith }, tt)),
  ),
)
