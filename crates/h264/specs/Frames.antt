-- Frames one after the other through a sender: what is saved goes from call to call. Assumes nothing.
use Rattle.std.specs.Prelude.{List, [], ◌∷◌, ◌++◌, ℕ}
use Rattle.h264_put.specs.declared.fate.Fate.{Fate}
use Rattle.h264_put.specs.declared.fate.Fate.TheVariants.{Empty, Dropped, Sps, Pps, Coded}
use Rattle.annexb.specs.Units.{units_at}
use Rattle.h264_put.specs.declared.outcome.Drops.{Drops}
use Rattle.h264_put.specs.Groups.{Saved, nothing_saved, Group, keep_all, groups_of}
use Rattle.h264_put.specs.Outcomes.{outcomes_of, drops_in, together}

-- the groups sent for frames in order, where v is saved
abbrev pub groups_from : ℕ → Saved → List (List ℕ) → List Group
groups_from mtu v [] = []
groups_from mtu v (frame ∷ frames) =
    groups_of mtu v (units_at mtu frame) ++ groups_from mtu (keep_all v (units_at mtu frame)) frames

-- "a fresh sender"
abbrev pub groups_sent : ℕ → List (List ℕ) → List Group
groups_sent mtu frames = groups_from mtu nothing_saved frames

-- what is dropped for the mtu, the counts of the frames added up
abbrev pub drops_from : ℕ → Saved → List (List ℕ) → Drops
drops_from mtu v [] = record { units = 0; pairs = 0 }
drops_from mtu v (frame ∷ frames) =
    together (drops_in (outcomes_of mtu v (units_at mtu frame))) (drops_from mtu (keep_all v (units_at mtu frame)) frames)

-- the units of frames, one frame behind the other
abbrev pub units_of_frames : ℕ → List (List ℕ) → List (List ℕ)
units_of_frames mtu [] = []
units_of_frames mtu (frame ∷ frames) = units_at mtu frame ++ units_of_frames mtu frames

-- P of a unit "unless type 7, 8, 9 or 12"
abbrev pub WhereCoded : (List ℕ → Type 0) → Fate → List ℕ → Type 0
WhereCoded P Empty u = Unit {0}
WhereCoded P Dropped u = Unit {0}
WhereCoded P Sps u = Unit {0}
WhereCoded P Pps u = Unit {0}
WhereCoded P Coded u = P u
