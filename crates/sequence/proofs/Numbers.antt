-- Inside the window the distance of two numbers tells the distance of their indices. Assumes nothing.
use Rattle.std.proofs.Common.{◌≡◌, ℕ, suc, ◌-◌, ◌<◌, ◌≤◌, arith}
use Rattle.sequence.specs.Number.{number_of, distance_of, next_of, Near, Closable}

pub first_number : (first : ℕ) → first < 65536 → number_of first 0 ≡ first
first_number first h = omega arith

pub next_number : (first i : ℕ) → next_of (number_of first i) ≡ number_of first (suc i)
next_number first i = omega arith

pub ahead : (first m i : ℕ) → m ≤ i → Near m i → distance_of (number_of first i) (number_of first m) ≡ i - m
ahead first m i h w = omega (arith, w.high)

pub ahead_near : (m i : ℕ) → m ≤ i → Near m i → i - m < 32768
ahead_near m i h w = omega (arith, w.high)

pub late_far : (first m i : ℕ) → i < m → Near m i → 32768 ≤ distance_of (number_of first i) (number_of first m)
late_far first m i h w = omega (arith, w.low)

pub closing : (first m n : ℕ) → m ≤ n → Closable m n → distance_of (number_of first n) (number_of first m) ≡ n - m
closing first m n h w = omega (arith, w.high)

pub closing_near : (m n : ℕ) → m ≤ n → Closable m n → n - m < 32768
closing_near m n h w = omega (arith, w.high)
