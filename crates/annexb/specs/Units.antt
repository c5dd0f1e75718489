-- From a frame to its units. Assumes nothing.
use Rattle.std.specs.Prelude.{List, [], ◌∷◌, ◌++◌, Bool, true, false, cond, ◌||◌, ◌≡◌, ℕ, ◌-◌, ◌≤◌, ◌<◌, eqb, length, take, drop, replicate, Option, Some, None, MatchOption}
use Rattle.annexb.specs.declared.Piece.{Piece}
use Rattle.annexb.specs.Search.{zeros_by, ends_code}

-- bytes cut at their start codes: what stands before the first code, and what stands behind each
pub record Cut : Type 0 where
  pub before : List ℕ
  pub behind : List (List ℕ)

-- a byte b with `count` zeros before it, in front of what is cut already: one zero more, the end of a start code, or a byte of a unit
abbrev pub cut_by : (is_zero is_code : Bool) → ℕ → ℕ → Cut → Cut
cut_by true is_code b count c = c
cut_by false true b count c = record { before = []; behind = c.before ∷ c.behind }
cut_by false false b count c = record { before = replicate count 0 ++ (b ∷ c.before); behind = c.behind }

-- bytes with `count` zeros before them, cut; zeros that end in no start code stay where they stand
abbrev pub cut : List ℕ → ℕ → Cut
cut [] count = record { before = replicate count 0; behind = [] }
cut (b ∷ s) count = cut_by (eqb b 0) (ends_code b count) b count (cut s (zeros_by (eqb b 0) count))

-- all that start codes part, what stands before the first among it
unfoldable pub pieces : List ℕ → List (List ℕ)
pieces s = (cut s 0).before ∷ (cut s 0).behind

-- "Bytes before the first code are ignored; without a code the frame is one unit."
abbrev pub units_of_cut : List ℕ → List (List ℕ) → List (List ℕ)
units_of_cut before [] = before ∷ []
units_of_cut before (u ∷ us) = u ∷ us

unfoldable pub units : List ℕ → List (List ℕ)
units frame = units_of_cut (cut frame 0).before (cut frame 0).behind

-- "An empty frame or mtu 0 gives no packets and saves nothing": no unit of it counts
abbrev pub no_units : ℕ → ℕ → Bool
no_units mtu len = eqb len 0 || eqb mtu 0

unfoldable pub units_at : ℕ → List ℕ → List (List ℕ)
units_at mtu frame = cond (no_units mtu (length frame)) [] (units frame)

-- the pieces of the frame from a place on, if there are any
abbrev pub pieces_at : List ℕ → Option ℕ → List (List ℕ)
pieces_at frame (Some next) = pieces (drop next frame)
pieces_at frame None = []

-- p is the piece of the frame that starts at `start`
pub record Pieced (frame : List ℕ) (start : ℕ) (p : Piece) : Type 0 where
  pub from : start ≤ p.end
  pub within : p.end ≤ length frame
  pub onward : MatchOption p.next (Unit {0}) (λ next. (p.end < next) × (next ≤ length frame))
  pub same : pieces (drop start frame) ≡ take (p.end - start) (drop start frame) ∷ pieces_at frame p.next
