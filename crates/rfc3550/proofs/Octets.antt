-- Parts of a list of octets are lists of octets. Assumes nothing.
use mathlib.Core.List.{List, [], ◌∷◌, ◌++◌}
use Prim.Native.Nat.{ℕ, zero, suc}
use lib.ListN.{drop}
use Rattle.rfc3550.specs.Rfc3550.{AllBelow}

pub below_drop : (k n : ℕ) (s : List ℕ) → AllBelow k s → AllBelow k (drop n s)
below_drop k zero s h = h
below_drop k (suc n) [] h = h
below_drop k (suc n) (x ∷ s) h = below_drop k n s h.1

pub below_left : (k : ℕ) (a b : List ℕ) → AllBelow k (a ++ b) → AllBelow k a
below_left k [] b h = tt
below_left k (x ∷ a) b h = (h.0, below_left k a b h.1)

pub below_right : (k : ℕ) (a b : List ℕ) → AllBelow k (a ++ b) → AllBelow k b
below_right k [] b h = h
below_right k (x ∷ a) b h = below_right k a b h.1
