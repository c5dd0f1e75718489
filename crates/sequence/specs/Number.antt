-- Sequence numbers: 16 bits, which wrap. Assumes nothing.
use Rattle.std.specs.Prelude.{ℕ, ◌+◌, ◌-◌, ◌%◌, ◌≤◌, Bool, nat_le}

-- "packet i bears (first + i) mod 65,536"
abbrev pub number_of : ℕ → ℕ → ℕ
number_of first i = (first + i) % 65536

-- "distance d = (number - awaited) mod 65,536"
abbrev pub distance_of : ℕ → ℕ → ℕ
distance_of number awaited = (number + 65536 - awaited) % 65536

-- "awaited is the number plus 1"
abbrev pub next_of : ℕ → ℕ
next_of number = (number + 1) % 65536

-- "d of 32,768 or more answers Late"
abbrev pub is_late : ℕ → Bool
is_late d = nat_le 32768 d

-- "each index is m - 32,768 to m + 32,767"
pub record Near (m i : ℕ) : Type 0 where
  pub low : m ≤ i + 32768
  pub high : i ≤ m + 32767

-- "n - m is at most 32,767 at closing"
pub record Closable (m n : ℕ) : Type 0 where
  pub high : n ≤ m + 32767
