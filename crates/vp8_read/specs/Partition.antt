-- The partition head test: 8 on more than 65,535 bytes; of no byte false; else S of the first byte. Assumes nothing.
use Rattle.std.specs.Prelude.{Bool, false, cond, List, [], ◌∷◌, ℕ, ◌/◌, ◌%◌, ltb, eqb, length}
use Rattle.error.specs.Said.{Said, says, refuse}

abbrev pub start_bit : List ℕ → Bool
start_bit [] = false
start_bit (b ∷ s) = eqb (b / 16 % 2) 1

unfoldable pub partition_head : List ℕ → Said Bool
partition_head s = cond (ltb 65535 (length s)) (refuse 8) (says (start_bit s))
