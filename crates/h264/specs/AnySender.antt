-- What the paper asks of any H.264 sender: that a frame as an encoder writes it goes out as the course of its units says, by RFC 6184.
-- Assumes nothing.
use Rattle.std.specs.Prelude.{◌≡◌, List, [], ◌∷◌, map, ℕ, ◌<◌, ◌≤◌, length}
use Rattle.rfc6184.specs.Sending.{Each, Nal, UnitType, Packetization}
use Rattle.annexb.specs.Units.{units_at}
use Rattle.annexb.specs.AnnexB.{Prefixed, written, Apart, units_written}
use Rattle.h264_put.specs.declared.fate.Fate.{Fate}
use Rattle.h264_put.specs.declared.fate.Fate.TheVariants.{Empty, Dropped, Sps, Pps, Coded}
use Rattle.h264_put.specs.Groups.{Saved, fate_of, keep_all, groups_of, packets_of}
use Rattle.h264.specs.Conformance.{Octets, nal}
use Rattle.h264.specs.Course.{Course, Coursed, waiting_after, sent}

-- what a sender answers: the packets, and the sets that wait then
pub record Answered : Type 0 where
  pub packets : List (List ℕ)
  pub saved : Saved

-- a sender, by the mtu, the sets that wait and a frame
abbrev pub Sender : Type 0
Sender = ℕ → Saved → List ℕ → Answered

-- a unit with which our sender keeps RFC 6184's rules (docs/DIFFERENCES.md has the others): F clear, a type of 1 to 23, and NRI 3 of a set
abbrev pub PlainBy : Fate → Nal → Type 0
PlainBy Empty n = Unit {0}
PlainBy Dropped n = Unit {0}
PlainBy Sps n = (n.f ≡ 0) × (n.nri ≡ 3)
PlainBy Pps n = (n.f ≡ 0) × (n.nri ≡ 3)
PlainBy Coded n = (n.f ≡ 0) × UnitType n.type

pub record Plainly (u : List ℕ) : Type 0 where
  pub octets : Octets u
  pub rules : PlainBy (fate_of u) (nal u)

-- a set that waits, if there is one, is such a unit of its kind
pub record SavedPlainly (v : Saved) : Type 0 where
  pub sps : 0 < length v.sps → (fate_of v.sps ≡ Sps) × Plainly v.sps
  pub pps : 0 < length v.pps → (fate_of v.pps ≡ Pps) × Plainly v.pps

-- an answer goes by a course: the packets are a packetization by RFC 6184 of exactly the units that go out, in that order, each fits the
-- mtu, and the sets that wait in the end are saved
pub record Goes (mtu : ℕ) (v : Saved) (course : Course) (a : Answered) : Type 0 where
  pub carried : Packetization a.packets (map nal (sent mtu v course))
  pub fits : Each (λ (p : List ℕ). length p ≤ mtu) a.packets
  pub waits : a.saved ≡ waiting_after v course

-- every frame of plain units, as an encoder writes it, goes by the course of its units
abbrev pub SendsFrames : Sender → Type 0
SendsFrames send =
    (mtu : ℕ) (v : Saved) (end : ℕ) (c : Prefixed) (cs : List Prefixed) → 0 < mtu → mtu ≤ 65535 → Each (λ (x : Prefixed). Apart x.unit) (c ∷ cs) →
    SavedPlainly v → Each Plainly (units_written end (c ∷ cs)) →
    (r : Coursed v (units_written end (c ∷ cs))) → Goes mtu v r.course (send mtu v (written end (c ∷ cs)))

-- our sender: what `payload` writes and keeps where it does not refuse
abbrev pub ours : Sender
ours mtu v frame =
    record { packets = packets_of (groups_of mtu v (units_at mtu frame)); saved = keep_all v (units_at mtu frame) }

-- ---- wrong senders

-- no packet, whatever the frame
abbrev pub Silent : Sender → Type 0
Silent send = (mtu : ℕ) (v : Saved) (frame : List ℕ) → (send mtu v frame).packets ≡ []

-- a set that waits stays where a later one of its kind comes
abbrev pub KeepsEarlierSps : Sender → Type 0
KeepsEarlierSps send =
    (mtu : ℕ) (v : Saved) (set : List ℕ) → 0 < length v.sps → fate_of set ≡ Sps → (send mtu v (0 ∷ 0 ∷ 1 ∷ set)).saved.sps ≡ v.sps

abbrev pub KeepsEarlierPps : Sender → Type 0
KeepsEarlierPps send =
    (mtu : ℕ) (v : Saved) (set : List ℕ) → 0 < length v.pps → fate_of set ≡ Pps → (send mtu v (0 ∷ 0 ∷ 1 ∷ set)).saved.pps ≡ v.pps
