-- The measure decides; the units that it says are right are handed out.
use mathlib.Core.Path.{sym, ap, ◌∙◌}
use Rattle.nal.specs.Fed.{lay_units}
use Rattle.nal.specs.Said.{is_avc}
use Rattle.nal_read.proofs.Stap.{measured}
use Rattle.nal_read.proofs.aggregate.hand_stap_a.Goals as goal

pub hand_units-requires-clause-sized_value : goal.hand_units-requires-clause-sized_value
hand_units-requires-clause-sized_value c =
    (measured c.args.payload.now _ (sym c.in_ok-units.ensures)).0

pub returns : goal.returns
returns c =
    let a = c.args in
    c.hand_units.ensures
    ∙ sym (ap (lay_units (is_avc a.prefix) a.out.now) (measured a.payload.now _ (sym c.in_ok-units.ensures)).1)
