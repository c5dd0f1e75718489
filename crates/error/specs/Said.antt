-- What a call says: its answer's values, or a refusal. The promises are put through `said`. Assumes nothing.
use Rattle.std.specs.Prelude.{[], ℕ, Result, Ok, Err}
use Rattle.error.specs.declared.Error.{Error}
use Rattle.error.specs.Refusal.{Refusal, refusal_of}

pub data Said (A : Type 0) : Type 0 where
  says : A → Said A
  refused : Refusal → Said A

-- the refusal of a number that carries nothing
abbrev pub refuse : {A : Type 0} → ℕ → Said A
refuse n = refused (record { number = n; carried = [] })

-- what a result says, in the paper's numbers and values
abbrev pub said : {A : Type 0} → Result A Error → Said A
said (Ok x) = says x
said (Err e) = refused (refusal_of e)
