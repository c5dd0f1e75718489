-- The numbers that never came, as text. Assumes nothing.
use Rattle.std.specs.Prelude.{ℕ, ◌+◌, ◌-◌, ◌%◌, ◌^◌, cond, List, [], ◌++◌, ◌==◌, codes, decimal}

-- a line with the first and the last of `count` numbers, where there are any
abbrev pub jump_text : ℕ → ℕ → List ℕ
jump_text first count =
    cond (count == 0) [] (codes "jump from " ++ decimal first ++ codes " to " ++ decimal ((first + (count - 1)) % 2 ^ 16) ++ codes "\n")
