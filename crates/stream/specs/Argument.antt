-- Numbers among arguments. Assumes nothing.
use Rattle.std.specs.Prelude.{ℕ, ◌+◌, ◌-◌, ◌*◌, ◌%◌, ◌≤◌, Bool, cond, ◌&&◌, List, [], ◌∷◌, length, Option, None, Some, ◌==◌, nat_le}

-- what a byte counts as a decimal digit: 10 or more where it is none
abbrev pub digit_of : ℕ → ℕ
digit_of b = (b + 256 - 48) % 256

-- a decimal digit, behind a number that may have one digit more
abbrev pub goes_on : ℕ → ℕ → Bool
goes_on d n = nat_le d 9 && nat_le n 999999999

-- the number that digits say, where n stands before them
abbrev pub number_from : List ℕ → ℕ → Option ℕ
number_from [] n = Some n
number_from (b ∷ s) n = cond (goes_on (digit_of b) n) (number_from s (n * 10 + digit_of b)) None

-- decimal digits, at least one, up to 9,999,999,999
unfoldable pub number_of : List ℕ → Option ℕ
number_of s = cond (length s == 0) None (number_from s 0)

-- a number from least to most
abbrev pub Between : ℕ → ℕ → ℕ → Type 0
Between least most n = (least ≤ n) × (n ≤ most)
