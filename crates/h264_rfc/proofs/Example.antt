-- The premises of SENT AND READ can be met: two frames, one with a pair of sets, one whose unit has F set and goes in fragments. Assumes nothing.
use mathlib.Core.Path.{◌≡◌, refl}
use mathlib.Core.Bool.{false}
use mathlib.Core.List.{List, [], ◌∷◌, map}
use Prim.Native.Nat.{ℕ}
use native.Mathlib.Omega.{arith}
use lib.ListN.{length, replicate}
use Rattle.wire.specs.Net.{be16}
use Rattle.wire.specs.Part.{splice}
use Rattle.wire.specs.Turns.{run}
use Rattle.nal_read.specs.Kind.{shape}
use Rattle.nal_read.specs.Unpack.{unpack}
use Rattle.nal.specs.Unpack.{unpack_turn}
use Rattle.nal.specs.Unpack as unpacking
use Rattle.nal.specs.Fed.{lay_bytes, lay_both}
use Rattle.rfc6184.specs.Sending.{Each, octet, octets_of}
use Rattle.annexb.specs.Units.{units, units_at}
use Rattle.h264_put.specs.Groups.{keep, stap_a, fragment, pair_for, unit_for, groups_for, packets_of}
use Rattle.h264.specs.Frames.{groups_sent}
use Rattle.h264_packet.specs.Depacketize.{read_payload, depacketized}
use Rattle.h264_rfc.specs.Reading.{fresh, calls, handed_by, Hears}
use Rattle.h264_rfc.specs.Sent.{FrameOk, GroupRoom, back_from}
use Rattle.h264_rfc.proofs.Main.{SENT_AND_READ}

unfoldable pub frames : List (List ℕ)
frames =
    (0 ∷ 0 ∷ 1 ∷ 0x67 ∷ 0xAA ∷ 0 ∷ 0 ∷ 1 ∷ 0x68 ∷ 0xBB ∷ 0 ∷ 0 ∷ 1 ∷ 0x65 ∷ 1 ∷ 2 ∷ [])
    ∷ (0 ∷ 0 ∷ 0 ∷ 1 ∷ 0xE5 ∷ 1 ∷ 2 ∷ 3 ∷ 4 ∷ 5 ∷ 6 ∷ 7 ∷ 8 ∷ 9 ∷ [])
    ∷ []

abbrev gather : List ℕ
gather = replicate 9 0

abbrev outs : ℕ → List ℕ
outs i = replicate 14 0

pub frames_ok : Each (FrameOk 9) frames
unfolding frames units units_at
frames_ok = (
  record { bytes = omega arith; short = omega arith; units = omega arith },
  (record { bytes = omega arith; short = omega arith; units = omega arith }, tt),
)

pub enough_room : Each (GroupRoom false (length gather) outs) (groups_sent 9 frames)
unfolding frames units units_at keep stap_a pair_for unit_for groups_for be16 octets_of octet
enough_room = (
  record { gather_room = omega arith; out_room = λ i. omega arith },
  (
    record { gather_room = omega arith; out_room = λ i. omega arith },
    (record { gather_room = omega arith; out_room = λ i. omega arith }, tt),
  ),
)

-- so that the theorem speaks of it
pub read_back_lem : Hears depacketized false (fresh gather) outs (packets_of (groups_sent 9 frames)) (back_from false (groups_sent 9 frames))
read_back_lem = SENT_AND_READ 9 (omega arith) false gather outs frames frames_ok enough_room

-- and its outcome, as it computes: an STAP-A, a unit, and two fragments, with which E5 comes back as 65
pub outcome : map handed_by (calls depacketized false (fresh gather) outs (packets_of (groups_sent 9 frames)))
    ≡ (0 ∷ 0 ∷ 0 ∷ 1 ∷ 0x67 ∷ 0xAA ∷ 0 ∷ 0 ∷ 0 ∷ 1 ∷ 0x68 ∷ 0xBB ∷ [])
    ∷ (0 ∷ 0 ∷ 0 ∷ 1 ∷ 0x65 ∷ 1 ∷ 2 ∷ [])
    ∷ []
    ∷ (0 ∷ 0 ∷ 0 ∷ 1 ∷ 0x65 ∷ 1 ∷ 2 ∷ 3 ∷ 4 ∷ 5 ∷ 6 ∷ 7 ∷ 8 ∷ 9 ∷ [])
    ∷ []
unfolding frames units units_at keep stap_a fragment pair_for unit_for groups_for be16 depacketized read_payload shape unpack unpacking.unpack unpack_turn run lay_both lay_bytes splice
outcome = refl
