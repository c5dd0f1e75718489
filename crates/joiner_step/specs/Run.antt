-- A run and what a packet does to it, without buffers; how a record keeps a run. `N` is what is noted of a run beside its bytes. Assumes
-- nothing.
use Rattle.std.specs.Prelude.{Bool, true, false, cond, List, [], ◌∷◌, ℕ, length, take}
use Rattle.error.specs.Said.{Said, says, refused}
use Rattle.nal.specs.Fed.{Fed}

abbrev pub Units : Type 0
Units = List (List ℕ)

-- the fragments gathered of one unit: what is noted of them, and the unit's bytes behind its header
pub data Run (N : Type 0) : Type 0 where
  none : Run N
  gathering : N → List ℕ → Run N

-- what a packet does
pub data Does (N : Type 0) : Type 0 where
  -- the run is dropped, and these units are handed out
  hands : Units → Does N
  -- a run is open now, of which this is noted and gathered
  gathers : N → List ℕ → Does N
  -- the run's last fragment: these bytes were gathered, and this unit is handed out
  ends : (gathered unit : List ℕ) → Does N

module _ {N : Type 0} where
  -- with what then stands in front of the gather buffer: an end fragment's bytes are gathered too
  abbrev pub fed_by : Does N → Fed (Run N)
  fed_by (hands units) = record { run = none; kept = []; handed = units }
  fed_by (gathers note bytes) = record { run = gathering note bytes; kept = bytes; handed = [] }
  fed_by (ends bytes unit) = record { run = none; kept = bytes; handed = unit ∷ [] }

  abbrev pub fed_said : Said (Does N) → Said (Fed (Run N))
  fed_said (says x) = says (fed_by x)
  fed_said (refused r) = refused r

-- what a record keeps of a run, whose bytes stand in front of the gather buffer
pub record Held (N : Type 0) : Type 0 where
  -- a run is open
  pub running : Bool
  -- how many bytes are gathered; 0 where no run is open
  pub gathered : ℕ
  -- blank where no run is open
  pub note : N

module _ {N : Type 0} (blank : N) where
  abbrev pub nothing : Held N
  nothing = record { running = false; gathered = 0; note = blank }

  abbrev pub held_of : Run N → Held N
  held_of none = nothing
  held_of (gathering note bytes) = record { running = true; gathered = length bytes; note = note }

-- the run that a record and the gather buffer stand for
abbrev pub run_of : {N : Type 0} → Held N → List ℕ → Run N
run_of h gather = cond h.running (gathering h.note (take h.gathered gather)) none
