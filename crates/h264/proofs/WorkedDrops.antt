-- Worked frames, as they compute: what became of each unit and of the pair at it, and what a call of a fresh sender answers. Assumes nothing.
use mathlib.Core.Path.{◌≡◌, refl}
use mathlib.Core.List.{List, [], ◌∷◌, map}
use Prim.Native.Nat.{ℕ}
use lib.ListN.{replicate}
use Rattle.error.specs.Said.{Said, says, refuse}
use Rattle.wire.specs.Net.{be16}
use Rattle.wire.specs.Packets.{whole}
use Rattle.wire.specs.Part.{splice, pad_to}
use Rattle.annexb.specs.Units.{units, units_at}
use Rattle.h264_put.specs.declared.outcome.UnitOutcome.TheVariants as of_unit
use Rattle.h264_put.specs.declared.outcome.PairOutcome.TheVariants as of_pair
use Rattle.h264_put.specs.declared.outcome.Outcome.{Outcome}
use Rattle.h264_put.specs.Groups.{nothing_saved, keep, stap_a, pair_for, unit_for, groups_for, fragment}
use Rattle.h264_put.specs.Outcomes.{unit_outcome, pair_outcome, without_pair, outcome_for, outcomes_of, drops_in}
use Rattle.h264.specs.declared.send.Written.{Written}
use Rattle.h264.specs.Payload.{lay_out, payload_of}

-- an mtu, a frame, what became of its units in order, and the answer: packets, bytes, units and pairs dropped for the mtu
abbrev Row : Type 0
Row = ℕ × List ℕ × List Outcome × Said Written

abbrev counts : ℕ → ℕ → ℕ → ℕ → Said Written
counts packets bytes units pairs = says (record { packets = packets; bytes = bytes; units_dropped = units; pairs_dropped = pairs })

-- the unit with the pair at it
abbrev with : Outcome → List Outcome
with o = without_pair of_unit.Saved ∷ without_pair of_unit.Saved ∷ o ∷ []

-- 67AA, 68BB, 650102
abbrev pair_then_unit : List ℕ
pair_then_unit = 0 ∷ 0 ∷ 1 ∷ 0x67 ∷ 0xAA ∷ 0 ∷ 0 ∷ 1 ∷ 0x68 ∷ 0xBB ∷ 0 ∷ 0 ∷ 1 ∷ 0x65 ∷ 1 ∷ 2 ∷ []

pub table : List Row
table =
    -- the pair fits
    (9, pair_then_unit, with (record { unit = of_unit.Sent; pair = of_pair.Sent }), counts 2 12 0 0)
    -- one pair dropped, the unit sent
    ∷ (8, pair_then_unit, with (record { unit = of_unit.Sent; pair = of_pair.DroppedForMtu }), counts 1 3 0 1)
    -- pair and unit dropped
    ∷ (2, pair_then_unit, with (record { unit = of_unit.DroppedForMtu; pair = of_pair.DroppedForMtu }), counts 0 0 1 1)
    -- in fragments
    ∷ (4, 0x65 ∷ 1 ∷ 2 ∷ 3 ∷ 4 ∷ 5 ∷ [], without_pair of_unit.Sent ∷ [], counts 3 11 0 0)
    -- at mtu 0, and of an empty frame, nothing is asked
    ∷ (0, pair_then_unit, [], counts 0 0 0 0)
    ∷ (2, [], [], counts 0 0 0 0)
    -- types 9 and 12 and an empty unit, whatever the mtu
    ∷ (
      1,
      0 ∷ 0 ∷ 1 ∷ 0x09 ∷ 0x10 ∷ 0 ∷ 0 ∷ 1 ∷ 0 ∷ 0 ∷ 1 ∷ 0x0C ∷ 0x80 ∷ [],
      without_pair of_unit.DroppedByType ∷ without_pair of_unit.Empty ∷ without_pair of_unit.DroppedByType ∷ [],
      counts 0 0 0 0,
    )
    -- a refused frame has no counts
    ∷ (2, 0 ∷ 0 ∷ 1 ∷ 0x65 ∷ 1 ∷ 2 ∷ 0 ∷ 0 ∷ 1 ∷ (0x67 ∷ replicate 1024 0xAA), without_pair of_unit.DroppedForMtu ∷ without_pair of_unit.Saved ∷ [], refuse 7)
    ∷ []

abbrev asked : Row → List Outcome × Said Written
asked row = (
  outcomes_of row.0 nothing_saved (units_at row.0 row.1),
  (payload_of (lay_out nothing_saved) row.0 row.1 (replicate 16 0) (replicate 4 0)).answer,
)

abbrev told : Row → List Outcome × Said Written
told row = (row.2, row.3)

pub drop_rows : map asked table ≡ map told table
unfolding table payload_of units units_at keep stap_a pair_for unit_for groups_for fragment unit_outcome pair_outcome outcome_for drops_in whole splice pad_to be16
drop_rows = refl
