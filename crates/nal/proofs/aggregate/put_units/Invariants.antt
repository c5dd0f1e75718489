-- The units before the place stand in the output behind their prefixes (`Putting`); none of them can be wrong, since they were
-- measured.
use mathlib.Core.Bool.{Bool}
use mathlib.Core.List.{List}
use Prim.Native.Nat.{ℕ, ◌-◌}
use lib.ListN.{length}
use Rattle.nal.specs.Said.{is_avc, Room}
use Rattle.nal.proofs.Putting.{Putting}
use Rattle.nal.proofs.aggregate.put_units.Given as goal

-- the room that was asked for, and what was written so far
pub record Written (s : List ℕ) (avc : Bool) (out₀ : List ℕ) (at to : ℕ) (out : List ℕ) : Type 0 where
  pub room : Room s avc (length out₀)
  pub putting : Putting s avc out₀ room at to out

abbrev pub invariant-loop-at : goal.invariant-loop-at
invariant-loop-at l = Written l.sized (is_avc l.prefix) l.initial.out l.at l.to l.out

abbrev pub decreases-loop-at : goal.decreases-loop-at
decreases-loop-at l = length l.sized - l.at
