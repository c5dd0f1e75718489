-- How an answer, or a refusal, stands in a record that C and Rust can read. Assumes nothing.
use Rattle.std.specs.Prelude.{Bool, false, cond, List, [], ◌∷◌, ℕ, eqb, get_or, take}
use Rattle.error.specs.Refusal.{Refusal}
use Rattle.error.specs.Said.{Said, says, refused}
use Rattle.gateway.specs.declared.refused.Refused.{Refused}
use Rattle.gateway.specs.declared.refused.RtpTest.{RtpTest}

-- "(carries size and bytes left)", "(carries it)": two places, zeros where it carries less
abbrev pub carried_as : List ℕ → List ℕ
carried_as carried = get_or carried 0 0 ∷ get_or carried 1 0 ∷ []

-- "A refusal returns its number", and what it carries
abbrev pub refused_as : Refusal → Refused
refused_as r = record { number = r.number; carried = carried_as r.carried }

-- the number of no refusal
abbrev pub not_refused : Refused
not_refused = record { number = 0; carried = carried_as [] }

-- of any answer: number 0, or the refusal
abbrev pub refused_in : {A : Type 0} → Said A → Refused
refused_in (says x) = not_refused
refused_in (refused r) = refused_as r

-- a number of the answer: "A refusal returns .. length 0"
abbrev pub number_in : {A : Type 0} → (A → ℕ) → Said A → ℕ
number_in of (says x) = of x
number_in of (refused r) = 0

-- a truth value of the answer: false beside a refusal
abbrev pub flag_in : {A : Type 0} → (A → Bool) → Said A → Bool
flag_in of (says x) = of x
flag_in of (refused r) = false

-- whether a test holds
abbrev pub test_as : Said Bool → RtpTest
test_as x = record { refused = refused_in x; holds = flag_in (λ b. b) x }

-- ---- how a caller reads it

-- how many values the refusal of a number carries
abbrev pub carries : ℕ → ℕ
carries n = cond (eqb n 17) 2 (cond (eqb n 19) 1 0)

-- the refusal with what it carries
abbrev pub refusal_by : Refused → Refusal
refusal_by r = record { number = r.number; carried = take (carries r.number) r.carried }

-- number 0: the values beside it; else the refusal
abbrev pub said_by : {A : Type 0} → Refused → A → Said A
said_by r x = cond (eqb r.number 0) (says x) (refused (refusal_by r))
