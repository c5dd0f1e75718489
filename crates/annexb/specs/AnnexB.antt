-- A frame as an encoder writes it: units, each behind a start code, and zeros at the end. Nothing here knows of the search.
-- Assumes nothing.
use Rattle.std.specs.Prelude.{◌≡◌, List, [], ◌∷◌, ◌++◌, ℕ, ◌+◌, replicate}

-- a unit behind a start code of two zeros, `more` zeros more, and a 1
pub record Prefixed : Type 0 where
  pub more : ℕ
  pub unit : List ℕ

-- the frame, `end` zeros behind the last unit
abbrev pub written : ℕ → List Prefixed → List ℕ
written end [] = replicate end 0
written end (c ∷ cs) = replicate (2 + c.more) 0 ++ (1 ∷ (c.unit ++ written end cs))

-- a unit that can be told from its surroundings: no start code lies in it, and it does not end in a zero
pub record Apart (u : List ℕ) : Type 0 where
  pub no_code : (a b : List ℕ) → u ≡ a ++ (0 ∷ 0 ∷ 1 ∷ b) → ⊥
  pub no_zero : (a : List ℕ) → u ≡ a ++ (0 ∷ []) → ⊥

-- the units, the zeros at the frame's end being part of the last
abbrev pub units_written : ℕ → List Prefixed → List (List ℕ)
units_written end [] = []
units_written end (c ∷ []) = (c.unit ++ replicate end 0) ∷ []
units_written end (c ∷ d ∷ cs) = c.unit ∷ units_written end (d ∷ cs)
