-- When a step of a sender tells what became of its unit and of the pair at it: said of any step, by what anyone can see, the unit, the groups sent, and
-- the sets before and after; and without the sizes by which ours decides. Assumes nothing.
use Rattle.std.specs.Prelude.{◌≡◌, List, [], ◌∷◌, ◌++◌, true, ◌⊎◌, ◌↔◌, ℕ, ◌%◌}
use Rattle.h264_put.specs.declared.outcome.UnitOutcome.{UnitOutcome}
use Rattle.h264_put.specs.declared.outcome.UnitOutcome.TheVariants as of_unit
use Rattle.h264_put.specs.declared.outcome.PairOutcome.{PairOutcome}
use Rattle.h264_put.specs.declared.outcome.PairOutcome.TheVariants as of_pair
use Rattle.h264_put.specs.declared.outcome.Outcome.{Outcome}
use Rattle.h264_put.specs.Groups.{Saved, nothing_saved, both_saved, Group, pair, plain, fragments, keep, groups_for}
use Rattle.h264_put.specs.Outcomes.{outcome_for}
use Rattle.h264.specs.Conformance.{units_in, carried_in}

-- ---- what can be seen

-- a unit has a first byte, and its type is t
abbrev pub Typed : ℕ → List ℕ → Type 0
Typed t [] = ⊥
Typed t (b ∷ s) = b % 32 ≡ t

-- "Any other unit": it is not empty, and its type is not 7, 8, 9 or 12
abbrev pub Other : List ℕ → Type 0
Other [] = ⊥
Other (b ∷ s) = ((b % 32 ≡ 7) → ⊥) × ((b % 32 ≡ 8) → ⊥) × ((b % 32 ≡ 9) → ⊥) × ((b % 32 ≡ 12) → ⊥)

-- the pairs among groups; `units_in` has the units that the others carry
abbrev pub pairs_in : List Group → List Group
pairs_in [] = []
pairs_in (pair sps pps ∷ gs) = pair sps pps ∷ pairs_in gs
pairs_in (plain u ∷ gs) = pairs_in gs
pairs_in (fragments head first middle last ∷ gs) = pairs_in gs

-- what is saved changes to the unit
abbrev pub ChangedTo : List ℕ → Saved → Saved → Type 0
ChangedTo u v v' = (Typed 7 u × (v' ≡ record { sps = u; pps = v.pps })) ⊎ (Typed 8 u × (v' ≡ record { sps = v.sps; pps = u }))

-- both sets waited, and none does now
abbrev pub Gone : Saved → Saved → Type 0
Gone v v' = (both_saved v ≡ true) × (v' ≡ nothing_saved)

-- ---- each outcome, by what is seen

abbrev pub UnitSeen : UnitOutcome → Saved → List ℕ → List Group → Saved → Type 0
UnitSeen of_unit.Empty v u gs v' = u ≡ []
UnitSeen of_unit.DroppedByType v u gs v' = Typed 9 u ⊎ Typed 12 u
UnitSeen of_unit.Saved v u gs v' = ChangedTo u v v'
UnitSeen of_unit.Sent v u gs v' = units_in gs ≡ u ∷ []
UnitSeen of_unit.DroppedForMtu v u gs v' = Other u × (units_in gs ≡ [])

abbrev pub PairSeen : PairOutcome → Saved → List Group → Saved → Type 0
PairSeen of_pair.NotDue v gs v' = (Gone v v' → ⊥) × (pairs_in gs ≡ [])
PairSeen of_pair.Sent v gs v' = pairs_in gs ≡ pair v.sps v.pps ∷ []
PairSeen of_pair.DroppedForMtu v gs v' = Gone v v' × (pairs_in gs ≡ [])

-- the units that go out where the pair and the unit are said to be sent
abbrev pub sets_sent : PairOutcome → Saved → List (List ℕ)
sets_sent of_pair.NotDue v = []
sets_sent of_pair.Sent v = v.sps ∷ v.pps ∷ []
sets_sent of_pair.DroppedForMtu v = []

abbrev pub unit_sent : UnitOutcome → List ℕ → List (List ℕ)
unit_sent of_unit.Empty u = []
unit_sent of_unit.DroppedByType u = []
unit_sent of_unit.Saved u = []
unit_sent of_unit.Sent u = u ∷ []
unit_sent of_unit.DroppedForMtu u = []

-- ---- a step that tells

-- each outcome is said exactly where it is seen; nothing else goes out than what is said to be sent, the pair first; and of what is saved nothing else
-- changes than what is said
pub record Tells (v : Saved) (u : List ℕ) (o : Outcome) (gs : List Group) (v' : Saved) : Type 0 where
  pub unit_told : (x : UnitOutcome) → (o.unit ≡ x) ↔ UnitSeen x v u gs v'
  pub pair_told : (x : PairOutcome) → (o.pair ≡ x) ↔ PairSeen x v gs v'
  pub nothing_else : carried_in gs ≡ sets_sent o.pair v ++ unit_sent o.unit u
  pub kept : (v' ≡ v) ⊎ (ChangedTo u v v' ⊎ Gone v v')

-- the units that a list of outcomes says are sent, in the order of sending
abbrev pub said_sent : Saved → List (List ℕ) → List Outcome → List (List ℕ)
said_sent v [] os = []
said_sent v (u ∷ us) [] = []
said_sent v (u ∷ us) (o ∷ os) = (sets_sent o.pair v ++ unit_sent o.unit u) ++ said_sent (keep v u) us os

-- any step of a sender, by the mtu, what is saved and the unit: what it says, sends and keeps
pub record Step : Type 0 where
  pub says : ℕ → Saved → List ℕ → Outcome
  pub sends : ℕ → Saved → List ℕ → List Group
  pub keeps : ℕ → Saved → List ℕ → Saved

abbrev pub TellsAlways : Step → Type 0
TellsAlways s = (mtu : ℕ) (v : Saved) (u : List ℕ) → Tells v u (s.says mtu v u) (s.sends mtu v u) (s.keeps mtu v u)

abbrev pub our_step : Step
our_step = record { says = outcome_for; sends = groups_for; keeps = λ mtu. keep }

-- ---- wrong steps

-- one that forgets a pair that it does not send, and never says so
pub record ForgetsUntold (s : Step) : Type 0 where
  pub mtu : ℕ
  pub saved : Saved
  pub unit : List ℕ
  pub gone : Gone saved (s.keeps mtu saved unit)
  pub unsent : pairs_in (s.sends mtu saved unit) ≡ []
  pub untold : (s.says mtu saved unit).pair ≡ of_pair.DroppedForMtu → ⊥

-- one that drops a unit that is to be sent, and does not say so
pub record DropsUntold (s : Step) : Type 0 where
  pub mtu : ℕ
  pub saved : Saved
  pub unit : List ℕ
  pub other : Other unit
  pub unsent : units_in (s.sends mtu saved unit) ≡ []
  pub untold : (s.says mtu saved unit).unit ≡ of_unit.DroppedForMtu → ⊥

-- one that says of a unit that is not to be sent, of a delimiter say, that it was dropped for the mtu
pub record CountsUnasked (s : Step) : Type 0 where
  pub mtu : ℕ
  pub saved : Saved
  pub unit : List ℕ
  pub never : Other unit → ⊥
  pub told : (s.says mtu saved unit).unit ≡ of_unit.DroppedForMtu
