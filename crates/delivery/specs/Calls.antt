-- From the sender's calls to the packets on the wire: what its calls wrote is cut at the ends that they wrote, and each payload goes to the
-- packet writer. Assumes nothing.
use Rattle.std.specs.Prelude.{◌≡◌, Bool, false, List, [], ◌∷◌, ◌++◌, map, ℕ, suc, ◌+◌, ◌≤◌, ◌<◌, length, take, get_or}
use Rattle.error.specs.Said.{Said, says, refused}
use Rattle.wire.specs.Each.{Each}
use Rattle.wire.specs.Packets.{cut, Room}
use Rattle.header.specs.Fields as header
use Rattle.packet.specs.Write.{write_packet}
use Rattle.packet.specs.Plain.{plain_fields}
use Rattle.h264.specs.declared.send.H264Payloader.{H264Payloader}
use Rattle.annexb.specs.Units.{units_at}
use Rattle.h264_put.specs.Groups.{Saved, nothing_saved, keep_all, groups_of, packets_of}
use Rattle.h264_put.specs.Step.{empty_sink, too_long}
use Rattle.h264.specs.declared.send.Written.{Written}
use Rattle.h264.specs.Payload.{LeftIn, Left, lay_out, payload_of, lent_of}
use Rattle.h264.specs.Payload as sets
use Rattle.sequence.specs.Number.{number_of}
use Rattle.sequence.specs.Joiner.{bytes_of}
use Rattle.delivery.specs.Show.{payloads, count, packet}
use Rattle.delivery.specs.Play.{our_joiner}
use Rattle.delivery.specs.Demand.{DeliveredOn}
use Rattle.delivery.specs.Frames.{Sending, show_of}

-- ---- the sender's calls, one for each frame

-- the output and the table of ends that a call is lent
pub record Lent : Type 0 where
  pub out : List ℕ
  pub ends : List ℕ

-- what each call leaves; its state goes to the next
abbrev pub sending : H264Payloader → ℕ → (ℕ → Lent) → List (List ℕ) → List Left
sending h mtu lent [] = []
sending h mtu lent (frame ∷ frames) =
    payload_of h mtu frame (lent 0).out (lent 0).ends
    ∷ sending (payload_of h mtu frame (lent 0).out (lent 0).ends).sender mtu (λ i. lent (suc i)) frames

-- the same of a sender whose parameter sets lie in lent buffers
abbrev pub sending_lent : sets.Lent → ℕ → (ℕ → Lent) → List (List ℕ) → List (LeftIn sets.Lent)
sending_lent l mtu lent [] = []
sending_lent l mtu lent (frame ∷ frames) =
    lent_of l mtu frame (lent 0).out (lent 0).ends
    ∷ sending_lent (lent_of l mtu frame (lent 0).out (lent 0).ends).sender mtu (λ i. lent (suc i)) frames

-- none of them is refused
abbrev pub NoneRefused : {S : Type 0} → List (LeftIn S) → Type 0
NoneRefused {S} = Each (λ (l : LeftIn S). (c : Written) × (l.answer ≡ says c))

-- "a fresh sender"
abbrev pub calls_for : Sending → (ℕ → Lent) → List Left
calls_for x lent = sending (lay_out nothing_saved) x.mtu lent x.frames

-- the same with two buffers, whatever stands in them
abbrev pub lent_calls_for : Sending → (ℕ → Lent) → (sps pps : List ℕ) → List (LeftIn sets.Lent)
lent_calls_for x lent sps pps = sending_lent (record { sender = record { sps_len = 0; pps_len = 0 }; sps = sps; pps = pps }) x.mtu lent x.frames

-- ---- when they answer

-- a call is lent room for the packets of its frame, and no set is over 1,024 bytes: "a saved SPS and PPS of 1,024 bytes each"
abbrev pub LentEnough : ℕ → Saved → (ℕ → Lent) → List (List ℕ) → Type 0
LentEnough mtu v lent [] = Unit {0}
LentEnough mtu v lent (frame ∷ frames) =
    Each (λ (u : List ℕ). too_long u ≡ false) (units_at mtu frame)
    × Room (empty_sink (lent 0).out (lent 0).ends) (packets_of (groups_of mtu v (units_at mtu frame)))
    × LentEnough mtu (keep_all v (units_at mtu frame)) (λ i. lent (suc i)) frames

-- ---- the payloads that they wrote

-- a call's output, cut at as many ends as it says that it wrote
abbrev pub cut_by : Said Written → List ℕ → List ℕ → List (List ℕ)
cut_by (says c) out ends = cut out 0 (take c.packets ends)
cut_by (refused r) out ends = []

abbrev pub written : {S : Type 0} → List (LeftIn S) → List (List ℕ)
written [] = []
written (l ∷ ls) = cut_by l.answer l.out l.ends ++ written ls

-- ---- the packets

-- The packet writer on payload i, into a buffer of `room` bytes: "version 2, no padding, extensions or CSRCs; packet i bears (first + i) mod
-- 65,536", with its own marker, payload type and timestamp.
abbrev pub writing : Sending → ℕ → List ℕ → ℕ → Said (List ℕ)
writing x i payload room =
    write_packet (header.lay_out (plain_fields (x.stamps i) (number_of x.first i) x.source)) payload room

-- the packet writer made `on_wire i` of the payload i that the calls wrote, in a buffer with room for twelve bytes before it
pub record Wrote (x : Sending) (lent : ℕ → Lent) (on_wire : ℕ → List ℕ) (i : ℕ) : Type 0 where
  pub room : ℕ
  pub enough : 12 + length (get_or (written (calls_for x lent)) i []) ≤ room
  pub wrote : writing x i (get_or (written (calls_for x lent)) i []) room ≡ says (on_wire i)

pub record FromTheCalls (avc : Bool) (x : Sending) (lent : ℕ → Lent) : Type 0 where
  -- the sender's calls wrote the payloads of the show, in order
  pub wrote_payloads : written (calls_for x lent) ≡ payloads (show_of x)
  -- the packet writer refuses none of them, and makes the show's packets of them
  pub writes_packets : (i room : ℕ) → i < count (show_of x) → 12 + length (get_or (written (calls_for x lent)) i []) ≤ room →
      writing x i (get_or (written (calls_for x lent)) i []) room ≡ says (packet (show_of x) i)
  -- and of what it wrote, as far as it arrives, and beside the bytes of others, the joiner hands out what demand 3 says
  pub delivered : (on_wire : ℕ → List ℕ) → ((i : ℕ) → i < count (show_of x) → Wrote x lent on_wire i) →
      DeliveredOn avc our_joiner (show_of x) (map (bytes_of on_wire) x.arrivals)
