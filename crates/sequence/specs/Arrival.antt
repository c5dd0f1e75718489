-- What arrives, and what accepted means, read off the arrivals alone. Assumes nothing.
use Rattle.std.specs.Prelude.{ℕ, zero, suc, ◌+◌, ◌<◌, Bool, true, false, cond, ◌&&◌, ◌||◌, List, [], ◌∷◌, ◌==◌, nat_le, nat_lt}
use Rattle.sequence.specs.Number.{Near, Closable}

-- a packet of ours, by its index, or something else
pub data Arrival (B : Type 0) : Type 0 where
  ours : ℕ → Arrival B
  other : B → Arrival B

-- "m one more than the largest index arrived so far": after the index i
abbrev pub raised : ℕ → ℕ → ℕ
raised m i = cond (nat_le m i) (suc i) m

module _ {B : Type 0} where
  -- "above every index that arrived before it"
  abbrev pub above_all : ℕ → List (Arrival B) → Bool
  above_all i [] = true
  above_all i (ours j ∷ before) = nat_lt j i && above_all i before
  above_all i (other b ∷ before) = above_all i before

  -- "a packet is accepted exactly when its index is above every index that arrived before it"; `before` is in any order
  abbrev pub is_accepted : List (Arrival B) → Arrival B → Bool
  is_accepted before (ours i) = above_all i before
  is_accepted before (other b) = false

  -- call by call, behind the arrivals `before`
  abbrev pub accepted_calls : List (Arrival B) → List (Arrival B) → List Bool
  accepted_calls before [] = []
  accepted_calls before (a ∷ later) = is_accepted before a ∷ accepted_calls (a ∷ before) later

  abbrev pub is_packet : ℕ → Arrival B → Bool
  is_packet i (ours j) = j == i
  is_packet i (other b) = false

  -- packet i is accepted by one of the calls
  abbrev pub accepted_among : List (Arrival B) → List (Arrival B) → ℕ → Bool
  accepted_among before [] i = false
  accepted_among before (a ∷ later) i = (is_accepted before a && is_packet i a) || accepted_among (a ∷ before) later i

  abbrev pub accepted : List (Arrival B) → ℕ → Bool
  accepted later = accepted_among [] later

  -- "with m one more than the largest index arrived so far (0 at first), each index is m - 32,768 to m + 32,767, and n - m is at
  -- most 32,767 at closing"; an index of ours is that of one of the n packets sent
  abbrev pub Window : ℕ → ℕ → List (Arrival B) → Type 0
  Window n m [] = Closable m n
  Window n m (ours i ∷ later) = (i < n) × Near m i × Window n (raised m i) later
  Window n m (other b ∷ later) = Window n m later

-- how many of the n packets from index i on were not accepted
abbrev pub never : (ℕ → Bool) → ℕ → ℕ → ℕ
never came i zero = 0
never came i (suc n) = cond (came i) 0 1 + never came (suc i) n
