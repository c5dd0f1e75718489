-- What is so of each member of a list. Assumes nothing.
use Rattle.std.specs.Prelude.{List, [], ◌∷◌}

-- P of each member
abbrev pub Each {ℓ} : {A : Type ℓ} → (A → Type 0) → List A → Type 0
Each P [] = Unit
Each P (x ∷ xs) = P x × Each P xs
