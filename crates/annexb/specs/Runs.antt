-- Bytes in a row that are alike. Assumes nothing.
use Rattle.std.specs.Prelude.{List, ◌≡◌, ℕ, ◌+◌, ◌≤◌, ◌<◌, length, get_or}

-- P of each byte from `start` to before `end`
pub record Run (P : ℕ → Type 0) (frame : List ℕ) (start end : ℕ) : Type 0 where
  pub from : start ≤ end
  pub within : end ≤ length frame
  pub each : (k : ℕ) → k < end → start ≤ k → P (get_or frame k 0)

-- a zero
abbrev pub Zero : ℕ → Type 0
Zero b = b ≡ 0

-- a byte that stands in no start code
abbrev pub Other : ℕ → Type 0
Other b = 1 < b

-- a byte from `low` to `high`
abbrev pub FromTo : ℕ → ℕ → ℕ → Type 0
FromTo low high b = (low ≤ b) × (b ≤ high)

-- the zeros from `start` on reach to before `end`
pub record ZerosEnd (frame : List ℕ) (start end : ℕ) : Type 0 where
  pub zeros : Run Zero frame start end
  pub stop : end < length frame → get_or frame end 0 ≡ 0 → ⊥

-- the zeros up to the one two places behind i start at `first`; those before i do not count
pub record ZerosStart (frame : List ℕ) (i first : ℕ) : Type 0 where
  pub from : i ≤ first
  pub some : first < i + 3
  pub zeros : Run Zero frame first (i + 3)
  pub start : (k : ℕ) → i ≤ k → k + 1 ≡ first → get_or frame k 0 ≡ 0 → ⊥
