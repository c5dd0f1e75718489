-- What the answers inside say. Assumes nothing.
use Rattle.std.specs.Prelude.{◌≡◌, Bool, true, false, List, ℕ, ◌≤◌, length, Result, Ok, Err}
use Rattle.error.specs.declared.Error.{Error}
use Rattle.error.specs.Said.{said}
use Rattle.wire.specs.Packets.{joined}
use Rattle.nal.specs.declared.Measured.{Measured}
use Rattle.nal.specs.declared.Prefix.{Prefix}
use Rattle.nal.specs.declared.Prefix.TheVariants as prefix
use Rattle.nal.specs.declared.WrongSize.{WrongSize}
use Rattle.nal.specs.declared.WrongSize.TheVariants as wrong
use Rattle.nal.specs.Fed.{prefixed, OutLaid, GatherLaid, Laid}
use Rattle.nal.specs.Unpack.{Unpacked, right, past, lone, unpack}

-- whether units are handed out behind their lengths
abbrev pub is_avc : Prefix → Bool
is_avc prefix.Length = true
is_avc prefix.StartCode = false

-- the answer is how many bytes were handed out
abbrev pub out_heard : Result ℕ Error → List ℕ → OutLaid
out_heard r out = record { answer = said r; out = out }

abbrev pub gather_heard : Result ℕ Error → List ℕ → GatherLaid
gather_heard r gather = record { answer = said r; gather = gather }

abbrev pub heard : Result ℕ Error → List ℕ → List ℕ → Laid ℕ
heard r gather out = record { answer = said r; gather = gather; out = out }

-- ---- an aggregation packet

abbrev pub measure_said : Result Measured WrongSize → Unpacked Measured
measure_said (Ok m) = right m
measure_said (Err (wrong.Past size left)) = past size left
measure_said (Err wrong.Lone) = lone

abbrev pub measure_of : Unpacked (List (List ℕ)) → Unpacked Measured
measure_of (right units) = right (record { count = length units; bytes = length (joined units) })
measure_of (past size left) = past size left
measure_of lone = lone

-- the sizes are right, and the units with their prefixes fit n bytes
pub record Room (s : List ℕ) (avc : Bool) (n : ℕ) : Type 0 where
  pub units : List (List ℕ)
  pub sizes : unpack s ≡ right units
  pub fits : length (prefixed avc units) ≤ n
