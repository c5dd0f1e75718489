-- "A start code is two or more zeros and a 1." Assumes nothing.
use Rattle.std.specs.Prelude.{List, [], ◌∷◌, Bool, true, false, cond, ◌&&◌, ◌||◌, ℕ, ◌+◌, ◌-◌, eqb, leb, ltb, length, drop, Option, Some, None}
use Rattle.error.specs.Said.{Said, says, refuse}
use Rattle.annexb.specs.declared.Code.{Code}

-- how many zeros stand in a row up to a byte, that byte included, where `count` stood before it
abbrev pub zeros_by : Bool → ℕ → ℕ
zeros_by true count = count + 1
zeros_by false count = 0

-- a byte b ends a start code
abbrev pub ends_code : ℕ → ℕ → Bool
ends_code b count = eqb b 1 && leb 2 count

-- the first start code that ends in s, where s stands at the place `at` and `count` zeros stand before it
abbrev pub scan : List ℕ → ℕ → ℕ → Option Code
scan [] at count = None
scan (b ∷ s) at count =
    cond (ends_code b count) (Some (record { at = at - count; len = count + 1 })) (scan s (at + 1) (zeros_by (eqb b 0) count))

-- "The search yields the place and length of the first start code, all its zeros included": from the place `start` on
unfoldable pub next_code : List ℕ → ℕ → Option Code
next_code frame start = scan (drop start frame) start 0

-- a start code in two numbers, both 0 where there is none
abbrev pub code_of : Option Code → Code
code_of (Some code) = code
code_of None = record { at = 0; len = 0 }

-- ---- the search as a call

-- 8: "frames up to 16,777,216"; and a place beyond the frame's end, where the Rust panics
abbrev pub beyond : List ℕ → ℕ → Bool
beyond frame start = ltb 16777216 (length frame) || ltb (length frame) start

unfoldable pub next_ind : List ℕ → ℕ → Said (Option Code)
next_ind frame start = cond (beyond frame start) (refuse 8) (says (next_code frame start))
