-- What is put into output and table, and which units are too long. Assumes nothing.
use Rattle.std.specs.Prelude.{List, [], ◌∷◌, Bool, true, false, ◌&&◌, ◌||◌, ℕ, ltb, length}
use Rattle.wire.specs.Packets.{Sink}
use Rattle.h264_put.specs.declared.fate.Fate.{Fate}
use Rattle.h264_put.specs.declared.fate.Fate.TheVariants.{Empty, Dropped, Sps, Pps, Coded}
use Rattle.h264_put.specs.declared.put.Place.{Place}
use Rattle.h264_put.specs.Groups.{fate_of}

-- output and table, written up to a place
abbrev pub sink_at : List ℕ → List ℕ → Place → Sink
sink_at out ends to = record { out = out; at = to.at; ends = ends; n = to.n }

-- output and table of which nothing is written yet
abbrev pub empty_sink : List ℕ → List ℕ → Sink
empty_sink out ends = record { out = out; at = 0; ends = ends; n = 0 }

-- whether a unit is to be saved, by its fate
abbrev pub is_saved : Fate → Bool
is_saved Empty = false
is_saved Dropped = false
is_saved Sps = true
is_saved Pps = true
is_saved Coded = false

-- 7: "an SPS or PPS to be saved is over 1,024"
abbrev pub too_long : List ℕ → Bool
too_long u = is_saved (fate_of u) && ltb 1024 (length u)

-- 7, of a frame's units
abbrev pub over_limit : List (List ℕ) → Bool
over_limit [] = false
over_limit (u ∷ us) = too_long u || over_limit us
