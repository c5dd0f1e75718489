-- A joiner played call after call, whatever it does; and what its answers say. Assumes nothing.
use Rattle.std.specs.Prelude.{Bool, true, false, List, [], ◌∷◌, ◌++◌, ℕ, suc}
use Rattle.error.specs.Said.{Said, says, refused}
use Rattle.joiner_step.specs.Step.{Answer, accepted, late, Stepped}
use Rattle.joiner_step.specs.General.{handed_bytes}

-- `step` takes the record, the packet, the gather buffer and the output as they come
module _ {J : Type 0} (step : J → List ℕ → List ℕ → List ℕ → Stepped J) where
  -- what each call leaves: record and gather buffer go from call to call, and each call brings an output of its own
  abbrev pub steps : J → List ℕ → (ℕ → List ℕ) → List (List ℕ) → List (Stepped J)
  steps j gather outs [] = []
  steps j gather outs (b ∷ bytes) =
      step j b gather (outs 0) ∷ steps (step j b gather (outs 0)).joiner (step j b gather (outs 0)).gather (λ i. outs (suc i)) bytes

  -- the record after the calls
  abbrev pub joiner_after : J → List ℕ → (ℕ → List ℕ) → List (List ℕ) → J
  joiner_after j gather outs [] = j
  joiner_after j gather outs (b ∷ bytes) =
      joiner_after (step j b gather (outs 0)).joiner (step j b gather (outs 0)).gather (λ i. outs (suc i)) bytes

-- ---- what a call answers

abbrev pub is_accepted : Said Answer → Bool
is_accepted (says (accepted a)) = true
is_accepted (says late) = false
is_accepted (refused r) = false

abbrev pub is_refused : Said Answer → Bool
is_refused (says a) = false
is_refused (refused r) = true

-- the bytes that a call handed out: as many as it says, from the front of its output on
abbrev pub handed_in : Said Answer → List ℕ → List (List ℕ)
handed_in (says (accepted a)) out = handed_bytes a.bytes out
handed_in (says late) out = []
handed_in (refused r) out = []

-- what all calls handed out, in order, one list of bytes for each call that handed something out
abbrev pub handed_out : {J : Type 0} → List (Stepped J) → List (List ℕ)
handed_out [] = []
handed_out (st ∷ sts) = handed_in st.answer st.out ++ handed_out sts
