-- What it is for a contract to allow one answer alone. Assumes nothing.
use Rattle.std.specs.Prelude.{◌≡◌}

-- "no second answer satisfies it": some answer meets the contract C, and whatever meets it is that one
pub record Determined {ℓ κ} {A : Type ℓ} (C : A → Type κ) : Type (ℓ ⊔ κ) where
  pub answer : A
  pub holds : C answer
  pub only : (a : A) → C a → a ≡ answer
