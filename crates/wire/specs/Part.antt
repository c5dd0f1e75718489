-- A list with a part replaced: what every write into a lent buffer leaves. A list filled up with zeros: what every fixed array of
-- a record holds. Assumes nothing.
use Rattle.std.specs.Prelude.{◌≡◌, List, ◌++◌, ℕ, ◌+◌, ◌-◌, length, take, drop, replicate}

-- xs with the places from `at` on replaced by ys
unfoldable pub splice {ℓ} : {A : Type ℓ} → List A → ℕ → List A → List A
splice xs at ys = take at xs ++ (ys ++ drop (at + length ys) xs)

-- the part of xs of `len` places from `at` on
abbrev pub part {ℓ} : {A : Type ℓ} → List A → ℕ → ℕ → List A
part xs at len = take len (drop at xs)

-- xs, then zeros, n places in all
unfoldable pub pad_to : ℕ → List ℕ → List ℕ
pad_to n xs = xs ++ replicate (n - length xs) 0

-- what every inner function that writes promises: octets were put at `at` into `buf`, which is now `exit`, and r is the place behind them
pub record Put (buf : List ℕ) (at : ℕ) (octets : List ℕ) (r : ℕ) (exit : List ℕ) : Type 0 where
  pub next : r ≡ at + length octets
  pub buffer : exit ≡ splice buf at octets
