-- Frames through our sender and then, without loss, through a reader. Assumes nothing.
use Rattle.std.specs.Prelude.{Bool, cond, List, [], ◌∷◌, ◌++◌, ℕ, ◌≤◌, leb, length}
use Rattle.rfc6184.specs.Sending.{Each, Nal, UnitType}
use Rattle.annexb.specs.Units.{units_at}
use Rattle.h264_put.specs.Groups.{Group, pair, plain, fragments, fate_of, packets_of_group}
use Rattle.h264.specs.Conformance.{Octets, nal, cleared, rebuilt, sending_of, nals_of, is_coded, those_that}
use Rattle.h264.specs.Frames.{WhereCoded}
use Rattle.h264_rfc.specs.Reading.{lastly, handed_as, gathered_of}

-- ---- the premises

-- "units .. of type 1 to 23, of 3 bytes or more"
pub record Readable (u : List ℕ) : Type 0 where
  pub type : UnitType (nal u).type
  pub long : 3 ≤ length u

-- "frames up to 16,777,216", of bytes, and their units
pub record FrameOk (mtu : ℕ) (frame : List ℕ) : Type 0 where
  pub bytes : Octets frame
  pub short : length frame ≤ 16777216
  pub units : Each (λ (u : List ℕ). WhereCoded Readable (fate_of u) u) (units_at mtu frame)

pub record GroupRoom (avc : Bool) (gather : ℕ) (outs : ℕ → List ℕ) (g : Group) : Type 0 where
  -- "Room: gather for the longest unit less one byte"
  pub gather_room : gathered_of (sending_of g) ≤ gather
  -- "output for the largest group as handed out, prefixes included"
  pub out_room : (i : ℕ) → length (handed_as avc (nals_of g)) ≤ length (outs i)

-- ---- what comes back

-- the units of each group, once, with its last packet; "all fragments of one unit (handed out with its top bit clear)" by `nals_of`
abbrev pub back_from : Bool → List Group → List (List ℕ)
back_from avc [] = []
back_from avc (g ∷ gs) = lastly (packets_of_group g) (handed_as avc (nals_of g)) ++ back_from avc gs

-- a unit as it comes back: F is cleared where it did not fit alone
abbrev pub back : ℕ → List ℕ → Nal
back mtu u = cond (leb (length u) mtu) (nal u) (cleared (nal u))

-- the units that groups hand over, pairs aside
abbrev pub coded_nals : List Group → List Nal
coded_nals [] = []
coded_nals (pair sps pps ∷ gs) = coded_nals gs
coded_nals (plain u ∷ gs) = nal u ∷ coded_nals gs
coded_nals (fragments head first middle last ∷ gs) = cleared (nal (rebuilt head first middle last)) ∷ coded_nals gs

-- the units of frames, in order, without empty ones, types 9 and 12, and the sets that are saved
abbrev pub coded_units : ℕ → List (List ℕ) → List (List ℕ)
coded_units mtu [] = []
coded_units mtu (frame ∷ frames) = those_that (λ (u : List ℕ). is_coded (fate_of u)) (units_at mtu frame) ++ coded_units mtu frames
