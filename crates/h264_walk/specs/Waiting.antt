-- The parameter sets that wait, by where they lie. Assumes nothing.
use Rattle.std.specs.Prelude.{List, ℕ, ◌+◌, ◌≤◌, length, take, Option, Some, None, MatchOption}
use Rattle.wire.specs.Part.{part}
use Rattle.h264_put.specs.Groups.{Saved}
use Rattle.h264_walk.specs.declared.places.Lies.{Lies}
use Rattle.h264_walk.specs.declared.places.Waiting.{Waiting}

-- the bytes of a set: in front of what is held of it since before the frame, or a part of the frame
abbrev pub bytes_at : List ℕ → List ℕ → Option ℕ → ℕ → List ℕ
bytes_at held frame None len = take len held
bytes_at held frame (Some at) len = part frame at len

unfoldable pub bytes_of : List ℕ → List ℕ → Lies → List ℕ
bytes_of held frame l = bytes_at held frame l.at l.len

-- what waits, the sets' bytes
abbrev pub saved_at : (sps pps frame : List ℕ) → Waiting → Saved
saved_at sps pps frame w = record { sps = bytes_of sps frame w.sps; pps = bytes_of pps frame w.pps }

-- a set lies where it is said to, and is within the limit
pub record Lying (held frame : List ℕ) (l : Lies) : Type 0 where
  pub short : l.len ≤ 1024
  pub within : MatchOption l.at (l.len ≤ length held) (λ at. at + l.len ≤ length frame)

-- both do
pub record Waits (sps pps frame : List ℕ) (w : Waiting) : Type 0 where
  pub of_sps : Lying sps frame w.sps
  pub of_pps : Lying pps frame w.pps

-- no set waits
abbrev pub nothing_waits : Waiting
nothing_waits = record { sps = record { at = None; len = 0 }; pps = record { at = None; len = 0 } }
