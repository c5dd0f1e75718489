-- Every well-formed header within the limits is read as what its plan says: the plan goes one of the four ways, and the reader follows. Assumes nothing.
use mathlib.Core.Path.{◌≡◌, refl}
use mathlib.Core.List.{List, ◌++◌}
use Prim.Native.Nat.{ℕ}
use Rattle.error.specs.Said.{says, refuse}
use Rattle.header.specs.Read.{read_header}
use Rattle.rfc3550.specs.Rfc8285.{Plan, Lawful, octets}
use Rattle.header_rfc.specs.Says.{elements_said, fields_with, reading_said, Within, Over, Plain, Fits, Complete}
use Rattle.header_rfc.proofs.Plans.{way_within, way_over, plan_way}

pub complete : Complete read_header
unfolding fields_with
complete = record { within = within; over = over }
  where
    within : (p : Plan) (payload : List ℕ) → Lawful p → Plain p.content → Fits (octets p ++ payload) → Within (elements_said p.content) →
        read_header (octets p ++ payload) ≡ says (reading_said p)
    within p payload l plain fits w =
        way_within (octets p ++ payload) (reading_said p) (plan_way (octets p ++ payload) p.fixed p.content payload l plain refl) fits w

    over : (p : Plan) (payload : List ℕ) → Lawful p → Plain p.content → Fits (octets p ++ payload) → Over (elements_said p.content) →
        read_header (octets p ++ payload) ≡ refuse 7
    over p payload l plain fits o =
        way_over (octets p ++ payload) (reading_said p) (plan_way (octets p ++ payload) p.fixed p.content payload l plain refl) fits o
