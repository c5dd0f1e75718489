-- Packets that belong together, and what they are handed out as. Assumes nothing.
use Rattle.std.specs.Prelude.{ℕ, suc, ◌+◌, Bool, true, false, ◌&&◌, List, [], ◌∷◌, ◌++◌, length}
use Rattle.wire.specs.Each.{Each}

pub record Group (P O : Type 0) : Type 0 where
  -- its first packet, and the others in order
  pub first : P
  pub others : List P
  pub handed : O

module _ {P O : Type 0} where
  abbrev pub packets_in : Group P O → List P
  packets_in g = g.first ∷ g.others

  abbrev pub packets_of : List (Group P O) → List P
  packets_of [] = []
  packets_of (g ∷ gs) = packets_in g ++ packets_of gs

  abbrev pub handed_of : List (Group P O) → List O
  handed_of [] = []
  handed_of (g ∷ gs) = g.handed ∷ handed_of gs

-- the same packets, the first of index i, of each of which something else is known, by its index
abbrev pub map_from : {P Q : Type 0} → (ℕ → P → Q) → ℕ → List P → List Q
map_from f i [] = []
map_from f i (p ∷ ps) = f i p ∷ map_from f (suc i) ps

-- the same groups
abbrev pub map_group : {P Q O : Type 0} → (ℕ → P → Q) → ℕ → Group P O → Group Q O
map_group f i g = record { first = f i g.first; others = map_from f (suc i) g.others; handed = g.handed }

abbrev pub map_groups : {P Q O : Type 0} → (ℕ → P → Q) → ℕ → List (Group P O) → List (Group Q O)
map_groups f i [] = []
map_groups f i (g ∷ gs) = map_group f i g ∷ map_groups f (i + length (packets_in g)) gs

-- what each group is handed out as is so
abbrev pub EachHanded : {P O : Type 0} → (O → Type 0) → List (Group P O) → Type 0
EachHanded {P} {O} Ok = Each (λ (g : Group P O). Ok g.handed)

-- all packets from index i on came
abbrev pub all_came : {P : Type 0} → (ℕ → Bool) → ℕ → List P → Bool
all_came came i [] = true
all_came came i (p ∷ ps) = came i && all_came came (suc i) ps

abbrev pub keep : {O : Type 0} → Bool → O → List O → List O
keep true o os = o ∷ os
keep false o os = os

-- "exactly the sent groups all of whose packets were accepted", in order, once each; the first packet's index is i
abbrev pub whole_of : {P O : Type 0} → (ℕ → Bool) → ℕ → List (Group P O) → List O
whole_of came i [] = []
whole_of came i (g ∷ gs) = keep (all_came came i (packets_in g)) g.handed (whole_of came (i + length (packets_in g)) gs)
