-- What becomes of each unit of a list, and of the pair that may be due at it, in order; and how many are dropped for the mtu. Assumes nothing.
use Rattle.std.specs.Prelude.{List, [], ◌∷◌, Bool, true, false, cond, ℕ, ◌+◌, ltb, leb, length}
use Rattle.h264_put.specs.declared.fate.Fate.{Fate}
use Rattle.h264_put.specs.declared.fate.Fate.TheVariants.{Empty, Dropped, Sps, Pps, Coded}
use Rattle.h264_put.specs.declared.outcome.UnitOutcome.{UnitOutcome}
use Rattle.h264_put.specs.declared.outcome.UnitOutcome.TheVariants as of_unit
use Rattle.h264_put.specs.declared.outcome.PairOutcome.{PairOutcome}
use Rattle.h264_put.specs.declared.outcome.PairOutcome.TheVariants as of_pair
use Rattle.h264_put.specs.declared.outcome.Outcome.{Outcome}
use Rattle.h264_put.specs.declared.outcome.Drops.{Drops}
use Rattle.h264_put.specs.Groups.{Saved, both_saved, fate_of, keep, stap_a}

-- ---- what becomes of them

-- "A unit that fits goes alone, else as FU-A with at most mtu - 2 bytes each; under mtu 3 it is dropped."
unfoldable pub unit_outcome : ℕ → List ℕ → UnitOutcome
unit_outcome mtu u = cond (leb (length u) mtu) of_unit.Sent (cond (ltb mtu 3) of_unit.DroppedForMtu of_unit.Sent)

-- "with both saved, is preceded by a STAP-A (0x78) if that fits the mtu; the pair is forgotten either way"
unfoldable pub pair_outcome : ℕ → Saved → PairOutcome
pair_outcome mtu v =
    cond (both_saved v) (cond (leb (length (stap_a v.sps v.pps)) mtu) of_pair.Sent of_pair.DroppedForMtu) of_pair.NotDue

-- at a unit that is not to be sent no pair is due
abbrev pub without_pair : UnitOutcome → Outcome
without_pair u = record { unit = u; pair = of_pair.NotDue }

-- "Empty units and types 9, 12 are dropped; 7, 8 are saved. Any other unit" is sent or dropped for the mtu
abbrev pub outcome_by : Fate → ℕ → Saved → List ℕ → Outcome
outcome_by Empty mtu v u = without_pair of_unit.Empty
outcome_by Dropped mtu v u = without_pair of_unit.DroppedByType
outcome_by Sps mtu v u = without_pair of_unit.Saved
outcome_by Pps mtu v u = without_pair of_unit.Saved
outcome_by Coded mtu v u = record { unit = unit_outcome mtu u; pair = pair_outcome mtu v }

-- what becomes of one unit and of the pair at it, where v is saved
unfoldable pub outcome_for : ℕ → Saved → List ℕ → Outcome
outcome_for mtu v u = outcome_by (fate_of u) mtu v u

-- of units in order; of a frame that is refused nothing is sent or saved, and this is not asked
abbrev pub outcomes_of : ℕ → Saved → List (List ℕ) → List Outcome
outcomes_of mtu v [] = []
outcomes_of mtu v (u ∷ us) = outcome_for mtu v u ∷ outcomes_of mtu (keep v u) us

-- ---- how many are dropped for the mtu

abbrev pub unit_dropped : UnitOutcome → Bool
unit_dropped of_unit.Empty = false
unit_dropped of_unit.DroppedByType = false
unit_dropped of_unit.Saved = false
unit_dropped of_unit.Sent = false
unit_dropped of_unit.DroppedForMtu = true

abbrev pub pair_dropped : PairOutcome → Bool
pair_dropped of_pair.NotDue = false
pair_dropped of_pair.Sent = false
pair_dropped of_pair.DroppedForMtu = true

abbrev pub one : Bool → ℕ
one b = cond b 1 0

-- how many of a list have it
abbrev pub how_many : (Outcome → Bool) → List Outcome → ℕ
how_many test [] = 0
how_many test (o ∷ os) = one (test o) + how_many test os

-- "how many units and pairs were dropped for the mtu, each count equal to the number so named"
unfoldable pub drops_in : List Outcome → Drops
drops_in os =
    record {
      units = how_many (λ (o : Outcome). unit_dropped o.unit) os;
      pairs = how_many (λ (o : Outcome). pair_dropped o.pair) os;
    }

-- one unit more
abbrev pub counted : Drops → Outcome → Drops
counted d o = record { units = d.units + one (unit_dropped o.unit); pairs = d.pairs + one (pair_dropped o.pair) }

-- those of units and of the units behind them
abbrev pub together : Drops → Drops → Drops
together d e = record { units = d.units + e.units; pairs = d.pairs + e.pairs }
