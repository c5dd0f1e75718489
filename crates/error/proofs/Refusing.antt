-- A refusal is no answer, and an answer is one. Assumes nothing.
use mathlib.Core.Path.{◌≡◌}
use Prim.Native.Nat.{ℕ}
use native.Mathlib.Omega.{arith}
use Rattle.error.specs.Refusal.{Refusal}
use Rattle.error.specs.Said.{Said, says, refused}

pub not_says : {A : Type 0} {r : Refusal} {x : A} → refused r ≡ says x → ⊥
not_says e = let z : ◌≡◌ {A = ℕ} 0 1 = cc in omega arith

pub same_answer : {A : Type 0} (a : Said A) (r t : A) → a ≡ says r → a ≡ says t → r ≡ t
same_answer a r t p q = cc
