-- Numbers in network order: most significant octet first; and a bit of an octet. Assumes nothing.
use Rattle.std.specs.Prelude.{Bool, List, [], ◌∷◌, ℕ, ◌+◌, ◌*◌, ◌/◌, ◌%◌, eqb, get_or}

-- the number that the two octets from `at` on say
unfoldable pub u16_at : List ℕ → ℕ → ℕ
u16_at s at = get_or s at 0 * 256 + get_or s (at + 1) 0

-- the number that the four octets from `at` on say
unfoldable pub u32_at : List ℕ → ℕ → ℕ
u32_at s at = get_or s at 0 * 16777216 + get_or s (at + 1) 0 * 65536 + get_or s (at + 2) 0 * 256 + get_or s (at + 3) 0

-- the two octets that say n
unfoldable pub be16 : ℕ → List ℕ
be16 n = n / 256 % 256 ∷ n % 256 ∷ []

-- the four octets that say n
unfoldable pub be32 : ℕ → List ℕ
be32 n = n / 256 / 256 / 256 % 256 ∷ n / 256 / 256 % 256 ∷ n / 256 % 256 ∷ n % 256 ∷ []

-- whether the lowest bit of n is set
abbrev pub bit : ℕ → Bool
bit n = eqb (n % 2) 1
