-- A number and its octets in network order say each other. Assumes nothing.
use mathlib.Core.Path.{◌≡◌, refl, ap₂}
use mathlib.Core.List.{List, [], ◌∷◌, ◌++◌}
use Prim.Native.Nat.{ℕ, ◌+◌, ◌<◌, ◌*◌, ◌/◌, ◌%◌}
use native.Mathlib.Omega.{arith}
use native.Mathlib.Nat.{add_assoc}
use lib.ListN.{length, drop}
use lib.Seq.{get_or-drop}
use Rattle.wire.specs.Net.{u16_at, u32_at, be16, be32}

pub length_be16 : (n : ℕ) → length (be16 n) ≡ 2
unfolding be16
length_be16 n = refl

pub length_be32 : (n : ℕ) → length (be32 n) ≡ 4
unfolding be32
length_be32 n = refl

pub u16_of_be16 : (n : ℕ) (rest : List ℕ) → n < 65536 → u16_at (be16 n ++ rest) 0 ≡ n
unfolding u16_at be16
u16_of_be16 n rest h = omega arith

pub u32_of_be32 : (n : ℕ) (rest : List ℕ) → n < 4294967296 → u32_at (be32 n ++ rest) 0 ≡ n
unfolding u32_at be32
u32_of_be32 n rest h = omega arith

-- the octets of a number of two octets are those two
pub be16_of_u16 : (a b : ℕ) → a < 256 → b < 256 → be16 (a * 256 + b) ≡ a ∷ b ∷ []
unfolding be16
be16_of_u16 a b ha hb =
    let high : (a * 256 + b) / 256 % 256 ≡ a = omega arith in
    let low : (a * 256 + b) % 256 ≡ b = omega arith in
    ap₂ (λ (x y : ℕ). x ∷ y ∷ []) high low

pub be32_of_u32 : (a b c d : ℕ) → a < 256 → b < 256 → c < 256 → d < 256 →
    be32 (a * 16777216 + b * 65536 + c * 256 + d) ≡ a ∷ b ∷ c ∷ d ∷ []
unfolding be32
be32_of_u32 a b c d ha hb hc hd =
    let n : ℕ = a * 16777216 + b * 65536 + c * 256 + d in
    let o0 : n / 256 / 256 / 256 % 256 ≡ a = omega arith in
    let o1 : n / 256 / 256 % 256 ≡ b = omega arith in
    let o2 : n / 256 % 256 ≡ c = omega arith in
    let o3 : n % 256 ≡ d = omega arith in
    λ i. o0 i ∷ o1 i ∷ o2 i ∷ o3 i ∷ []

-- a number further on is one at the front of the rest
pub u16_at_drop : (s : List ℕ) (k at : ℕ) → u16_at (drop k s) at ≡ u16_at s (k + at)
unfolding u16_at
u16_at_drop s k at = rw (get_or-drop k s at, get_or-drop k s (at + 1), ← add_assoc k at 1)

pub u32_at_drop : (s : List ℕ) (k at : ℕ) → u32_at (drop k s) at ≡ u32_at s (k + at)
unfolding u32_at
u32_at_drop s k at =
    rw (
      get_or-drop k s at,
      get_or-drop k s (at + 1),
      get_or-drop k s (at + 2),
      get_or-drop k s (at + 3),
      ← add_assoc k at 1,
      ← add_assoc k at 2,
      ← add_assoc k at 3,
    )
