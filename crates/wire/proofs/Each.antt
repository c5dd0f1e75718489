-- What holds of each member: of two lists behind each other, by another property, of any member, of what a function makes of each.
-- Assumes nothing.
use mathlib.Core.List.{List, [], ◌∷◌, ◌++◌, map}
use Rattle.wire.specs.Each.{Each}

module _ {ℓ} {A : Type ℓ} (P : A → Type 0) where
  pub each_append : (xs ys : List A) → Each P xs → Each P ys → Each P (xs ++ ys)
  each_append [] ys a b = b
  each_append (x ∷ xs) ys a b = (a.0, each_append xs ys a.1 b)

  -- by another property of each
  pub each_by : (Q : A → Type 0) → ((x : A) → Q x → P x) → (xs : List A) → Each Q xs → Each P xs
  each_by Q f [] a = tt
  each_by Q f (x ∷ xs) a = (f x a.0, each_by Q f xs a.1)

  pub each_any : ((x : A) → P x) → (xs : List A) → Each P xs
  each_any f [] = tt
  each_any f (x ∷ xs) = (f x, each_any f xs)

pub each_map {ℓ κ} : {A : Type ℓ} {B : Type κ} (P : B → Type 0) (f : A → B) (xs : List A) → Each (λ (x : A). P (f x)) xs → Each P (map f xs)
each_map P f [] a = tt
each_map P f (x ∷ xs) a = (a.0, each_map P f xs a.1)
