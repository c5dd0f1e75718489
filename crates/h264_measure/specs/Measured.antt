-- How much the packets of a frame take. Assumes nothing.
use Rattle.std.specs.Prelude.{◌≡◌, List, [], ◌∷◌, false, ◌||◌, ℕ, ◌+◌, ◌*◌, ◌≤◌, length}
use Rattle.wire.specs.Packets.{joined}
use Rattle.h264_put.specs.Groups.{Saved, keep, groups_for, packets_of}
use Rattle.h264_put.specs.Step.{too_long}
use Rattle.h264_measure.specs.declared.Size.{Size}
use Rattle.h264_measure.specs.declared.Measure.{Measure}

-- how many packets, and how many bytes they have
unfoldable pub size_of : List (List ℕ) → Size
size_of ps = record { packets = length ps; bytes = length (joined ps) }

-- the saved sets have these lengths
pub record Lengths (v : Saved) (sps pps : ℕ) : Type 0 where
  pub of_sps : length v.sps ≡ sps
  pub of_pps : length v.pps ≡ pps

-- a measure so small that a unit more still fits a machine's number
pub record Small (m : Measure) : Type 0 where
  pub packets : m.packets ≤ 70000 * 16777216
  pub bytes : m.bytes ≤ 70000 * 16777216
  pub sps : m.sps ≤ 16777216
  pub pps : m.pps ≤ 16777216

-- how far a unit of `len` bytes lets it grow
pub record Grown (m : Measure) (len : ℕ) (r : Measure) : Type 0 where
  pub packets : r.packets ≤ m.packets + len + 1
  pub bytes : r.bytes ≤ m.bytes + 3 * len + 65535
  pub sps : r.sps ≤ 16777216
  pub pps : r.pps ≤ 16777216

-- m and what one unit takes, where v is saved
unfoldable pub measured : Measure → ℕ → Saved → List ℕ → Measure
measured m mtu v u =
    let packets : List (List ℕ) = packets_of (groups_for mtu v u) in
    record {
      packets = m.packets + length packets;
      bytes = m.bytes + length (joined packets);
      sps = length (keep v u).sps;
      pps = length (keep v u).pps;
      long = m.long || too_long u;
    }

abbrev pub measured_all : Measure → ℕ → Saved → List (List ℕ) → Measure
measured_all m mtu v [] = m
measured_all m mtu v (u ∷ us) = measured_all (measured m mtu v u) mtu (keep v u) us

abbrev pub nothing_yet : ℕ → ℕ → Measure
nothing_yet sps pps = record { packets = 0; bytes = 0; sps = sps; pps = pps; long = false }
