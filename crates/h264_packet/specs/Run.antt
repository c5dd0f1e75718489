-- The reader's run: the bytes gathered of one unit, and what stands for them in its record. Assumes nothing.
use Rattle.std.specs.Prelude.{cond, List, [], ◌∷◌, ℕ, eqb, length, take}
use Rattle.nal.specs.Fed.{Fed}
use Rattle.nal.specs.Fed as fed

-- the fragments gathered of one unit: its bytes behind the first
pub data Run : Type 0 where
  none : Run
  gathering : List ℕ → Run

abbrev pub gathered : Run → List ℕ
gathered none = []
gathered (gathering bytes) = bytes

-- the run that a record's length and the gather buffer stand for: length 0 for none
abbrev pub run_of : ℕ → List ℕ → Run
run_of n gather = cond (eqb n 0) none (gathering (take n gather))

-- what the record keeps of it
abbrev pub recorded : Run → ℕ
recorded run = length (gathered run)

-- a fragment that does not end the unit: these bytes are gathered now
abbrev pub ongoing : List ℕ → Fed Run
ongoing bytes = fed.ongoing (gathering bytes) bytes

-- the last fragment: these bytes were gathered, and the unit is handed out behind its first byte
abbrev pub finished : ℕ → List ℕ → Fed Run
finished head bytes = fed.finished none (head ∷ []) bytes
