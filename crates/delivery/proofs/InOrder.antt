-- The premises can be met however many packets are sent: those that arrive in order, each once, are within the window, and all that
-- was sent is handed out. Assumes nothing.
use mathlib.Core.Path.{◌≡◌, ap, ◌∙◌}
use mathlib.Core.Bool.{Bool}
use mathlib.Core.List.{List, map}
use Prim.Native.Nat.{ℕ}
use Rattle.nal.specs.Fed.{prefixed}
use Rattle.sequence.specs.Arrival.{Arrival, accepted, never, Window}
use Rattle.sequence.specs.Group.{handed_of}
use Rattle.sequence.proofs.InOrder.{in_order, in_order_within, in_order_accepted}
use Rattle.joiner_step.specs.Play.{handed_out}
use Rattle.delivery.specs.Show.{Show, count}
use Rattle.delivery.specs.Play.{our_joiner, played}
use Rattle.delivery.specs.Demand.{Delivered}

-- "Window", for every n
pub window : (n : ℕ) → Window {B = List ℕ} n 0 (in_order 0 n)
window n = in_order_within (List ℕ) n

pub all_handed_out : (avc : Bool) (w : Show) → Delivered avc our_joiner w → w.arrivals ≡ in_order 0 (count w) →
    handed_out (played our_joiner w) ≡ map (prefixed avc) (handed_of w.groups)
all_handed_out avc w d e =
    d.complete (d.counts ∙ ap (λ (l : List (Arrival (List ℕ))). never (accepted l) 0 (count w)) e ∙ in_order_accepted (List ℕ) (count w))
