-- Setting a byte's top bit leaves its low seven bits: so type and NRI stay, and the bit that was set is read back. Assumes nothing.
use mathlib.Core.Path.{◌≡◌, refl}
use mathlib.Core.Bool.{Bool, true, false}
use Prim.Native.Nat.{ℕ, ◌/◌, ◌%◌, ◌<◌}
use native.Mathlib.Decide.{ℕ_discrete}
use native.Mathlib.Omega.{arith}
use borrow.Author.Tests.{eq-eqb, ne_eqb}
use Rattle.wire.specs.Net.{bit}
use Rattle.joiner_feed.specs.Content.{top_bit}

pub top_low : (m : Bool) (b : ℕ) → top_bit m b % 128 ≡ b % 128
top_low true b = omega arith
top_low false b = refl

pub top_type : (m : Bool) (b : ℕ) → top_bit m b % 32 ≡ b % 32
top_type m b = omega (arith, top_low m b)

pub top_octet : (m : Bool) (b : ℕ) → b < 256 → top_bit m b < 256
top_octet true b h = omega arith
top_octet false b h = h

-- where it was clear, it is now what was asked for
pub top_is : (m : Bool) (b : ℕ) → b < 128 → bit (top_bit m b / 128) ≡ m
top_is true b h = eq-eqb (top_bit true b / 128 % 2) 1 (omega arith)
top_is false b h = ne_eqb (top_bit false b / 128 % 2) 1 (λ e. omega arith)

-- an octet is its low seven bits and its own top bit
pub own_top : (b : ℕ) → b < 256 → top_bit (bit (b / 128)) (b % 128) ≡ b
own_top b h = go (ℕ_discrete (b / 128 % 2) 1)
  where
    go : Dec (b / 128 % 2 ≡ 1) → top_bit (bit (b / 128)) (b % 128) ≡ b
    go (yes e) = rw (eq-eqb (b / 128 % 2) 1 e) (omega arith)
    go (no n) = rw (ne_eqb (b / 128 % 2) 1 n) (omega (arith, n))
