-- "Padding arithmetic is that of 000." Assumes nothing.
use Rattle.std.specs.Prelude.{cond, ℕ, ◌+◌, ◌-◌, ◌%◌, ltb}

-- the block grew by n
abbrev pub grown : ℕ → ℕ → ℕ
grown pads n = cond (ltb pads (n % 4)) (pads + 4 - n % 4) (pads - n % 4)

-- the block shrank by n
abbrev pub shrunk : ℕ → ℕ → ℕ
shrunk pads n = (pads + n) % 4

-- data of `new` bytes in the place of `old` bytes
abbrev pub resized : ℕ → ℕ → ℕ → ℕ
resized pads old new = cond (ltb new old) (shrunk pads (old - new)) (grown pads (new - old))
