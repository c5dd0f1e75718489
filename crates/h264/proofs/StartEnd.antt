-- Start and end never fall on one fragment: the start bit stands on the first fragment alone, the end bit on the last alone, and there
-- are two of them at least. Assumes nothing.
use mathlib.Core.Path.{◌≡◌, refl, ◌∙◌}
use mathlib.Core.List.{List, [], ◌∷◌, ◌++◌, map}
use Prim.Native.Nat.{ℕ, ◌+◌, ◌%◌, ◌/◌, ◌≤◌}
use native.Mathlib.Omega.{arith}
use lib.ListN.{length, length-append}
use Rattle.rfc6184.specs.Sending.{Each}
use Rattle.rfc6184.proofs.Each.{each_append, each_any, each_map}
use Rattle.h264_put.specs.Groups.{fragments, fragment, packets_of_group}
use Rattle.h264.specs.Conformance.{start_bit, end_bit}

-- a fragment of a unit with this first byte bears these bits
marked : (head bits : ℕ) (part : List ℕ) → (start_bit (fragment head bits part) ≡ (bits + head % 32) / 128 % 2) × (end_bit (fragment head bits part) ≡ (bits + head % 32) / 64 % 2)
unfolding fragment
marked head bits part = (refl, refl)

pub first_marked : (head : ℕ) (part : List ℕ) → (start_bit (fragment head 128 part) ≡ 1) × (end_bit (fragment head 128 part) ≡ 0)
first_marked head part = let m = marked head 128 part in (m.0 ∙ omega arith, m.1 ∙ omega arith)

pub middle_marked : (head : ℕ) (part : List ℕ) → (start_bit (fragment head 0 part) ≡ 0) × (end_bit (fragment head 0 part) ≡ 0)
middle_marked head part = let m = marked head 0 part in (m.0 ∙ omega arith, m.1 ∙ omega arith)

pub last_marked : (head : ℕ) (part : List ℕ) → (start_bit (fragment head 64 part) ≡ 0) × (end_bit (fragment head 64 part) ≡ 1)
last_marked head part = let m = marked head 64 part in (m.0 ∙ omega arith, m.1 ∙ omega arith)

module _ (head : ℕ) (first : List ℕ) (middle : List (List ℕ)) (last : List ℕ) where
  -- not both bits on one
  pub never_both : Each (λ (p : List ℕ). start_bit p + end_bit p ≤ 1) (packets_of_group (fragments head first middle last))
  never_both = (
    omega (arith, (first_marked head first).0, (first_marked head first).1),
    each_append (λ (p : List ℕ). start_bit p + end_bit p ≤ 1) (map (fragment head 0) middle) (fragment head 64 last ∷ [])
        (each_map (λ (p : List ℕ). start_bit p + end_bit p ≤ 1) (fragment head 0) middle
        (each_any (λ (x : List ℕ). start_bit (fragment head 0 x) + end_bit (fragment head 0 x) ≤ 1)
        (λ x. omega (arith, (middle_marked head x).0, (middle_marked head x).1)) middle))
        (omega (arith, (last_marked head last).0, (last_marked head last).1), tt),
  )

  pub two_at_least : 2 ≤ length (packets_of_group (fragments head first middle last))
  two_at_least =
      let l : length (map (fragment head 0) middle ++ (fragment head 64 last ∷ [])) ≡ length (map (fragment head 0) middle) + 1 =
      length-append (map (fragment head 0) middle) (fragment head 64 last ∷ []) in
      omega arith
