-- Frames through a fresh sender, as a show: its groups are those of the sender's own definition. Assumes nothing.
use Rattle.std.specs.Prelude.{Bool, List, [], ◌∷◌, ◌++◌, map, ℕ, ◌+◌, ◌%◌, ◌≤◌, length}
use Rattle.wire.specs.Each.{Each}
use Rattle.wire.specs.Packets.{joined}
use Rattle.packet.specs.Plain.{Stamp}
use Rattle.annexb.specs.Units.{units_at}
use Rattle.h264_put.specs.Groups.{Saved, pair, plain, fragments, fate_of, stap_a, fragment, keep_all, groups_of, packets_of}
use Rattle.h264_put.specs.Groups as sender
use Rattle.h264.specs.Frames.{groups_sent, WhereCoded}
use Rattle.sequence.specs.Arrival.{Arrival}
use Rattle.sequence.specs.Group.{Group}
use Rattle.joiner_step.specs.Run.{Units}
use Rattle.joiner.specs.Sent.{PlainUnit}
use Rattle.delivery.specs.Show.{Show}
use Rattle.delivery.specs.Play.{Machine}
use Rattle.delivery.specs.Demand.{AllAt, Received, Delivered}

-- ---- what is sent

-- "A group is one STAP-A, one plain unit, or all fragments of one unit (handed out with its top bit clear)."
abbrev pub group_sent : sender.Group → Group (List ℕ) Units
group_sent (pair sps pps) = record { first = stap_a sps pps; others = []; handed = sps ∷ pps ∷ [] }
group_sent (plain unit) = record { first = unit; others = []; handed = unit ∷ [] }
group_sent (fragments head first middle last) =
    record {
      first = fragment head 128 first;
      others = map (fragment head 0) middle ++ (fragment head 64 last ∷ []);
      handed = (head % 128 ∷ (first ++ (joined middle ++ last))) ∷ [];
    }

-- frames, with what a show has besides
pub record Sending : Type 0 where
  pub frames : List (List ℕ)
  pub mtu : ℕ
  pub source : ℕ
  pub first : ℕ
  pub stamps : ℕ → Stamp
  pub gather : List ℕ
  pub outs : ℕ → List ℕ
  pub arrivals : List (Arrival (List ℕ))

abbrev pub show_of : Sending → Show
show_of x =
    record {
      groups = map group_sent (groups_sent x.mtu x.frames);
      source = x.source;
      first = x.first;
      stamps = x.stamps;
      gather = x.gather;
      outs = x.outs;
      arrivals = x.arrivals;
    }

-- ---- the premises

-- "frames up to 16,777,216", and "units .. of type 1 to 23, of 3 bytes or more unless type 7, 8, 9 or 12"
pub record FrameOk (mtu : ℕ) (frame : List ℕ) : Type 0 where
  pub short : length frame ≤ 16777216
  pub units : Each (λ (u : List ℕ). WhereCoded PlainUnit (fate_of u) u) (units_at mtu frame)

pub record SendingPremises (avc : Bool) (x : Sending) : Type 0 where
  pub frames : Each (FrameOk x.mtu) x.frames
  -- "mtu 3 to 65,523"
  pub mtu_low : 3 ≤ x.mtu
  pub mtu_high : x.mtu ≤ 65523
  pub received : Received avc (show_of x)

-- all packets of one frame carry one timestamp: that of its first, which has the index i, where v is saved
abbrev pub OneTimeFrames : (ℕ → Stamp) → (mtu i : ℕ) → Saved → List (List ℕ) → Type 0
OneTimeFrames stamps mtu i v [] = Unit {0}
OneTimeFrames stamps mtu i v (frame ∷ frames) =
    AllAt stamps (stamps i).time i (packets_of (groups_of mtu v (units_at mtu frame)))
    × OneTimeFrames stamps mtu (i + length (packets_of (groups_of mtu v (units_at mtu frame)))) (keep_all v (units_at mtu frame)) frames

-- demand 3 of the joiner m and this prefix, whatever frames a fresh sender sends
abbrev pub Delivers : Bool → Machine → Type 0
Delivers avc m = (x : Sending) → SendingPremises avc x → Delivered avc m (show_of x)
