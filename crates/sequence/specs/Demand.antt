-- Demand 3 for any rule, reader and codec: what is owed of the arrivals, and what is so of the calls and of closing. Assumes nothing.
use Rattle.std.specs.Prelude.{◌≡◌, ℕ, ◌<◌, Bool, List, [], ◌∷◌, ◌++◌, map}
use Rattle.sequence.specs.Arrival.{Arrival, ours, other, never}
use Rattle.sequence.specs.Group.{Group, handed_of, whole_of}
use Rattle.sequence.specs.Joiner.{turned_away, Parts, shut, Now, close, answers, final, is_taken, is_refused, handed_out, bytes_of, is_other}

-- each packet of ours is one of the n sent, and whatever else arrives is turned away
abbrev pub Told : {B K E P C Run O : Type 0} → Parts B K E P C Run O → ℕ → List (Arrival B) → Type 0
Told j n [] = Unit {0}
Told j n (ours i ∷ later) = (i < n) × Told j n later
Told {E = E} j n (other b ∷ later) = ((e : E) × (j.reader b ≡ turned_away e)) × Told j n later

-- `came` says which packets were accepted, and `calls` at which calls
pub record Delivered {B K E P C Run O : Type 0} (j : Parts B K E P C Run O) (Enough : K → Type 0) (number : ℕ → ℕ) (sent : ℕ → B) (n : ℕ)
    (rooms : ℕ → K) (s : Now j) (arrivals : List (Arrival B)) (came : ℕ → Bool) (calls : List Bool) (gs : List (Group P O)) : Type 0 where
  -- (a) call by call, which were accepted
  pub accepts : map is_taken (answers j rooms s (map (bytes_of sent) arrivals)) ≡ calls
  -- (b) what was handed out, in order: the groups all of whose packets were accepted
  pub at_end : List O
  pub hands_out : handed_out (answers j rooms s (map (bytes_of sent) arrivals)) ++ at_end ≡ whole_of came 0 gs
  -- (c) closing is not refused, and the missed total is the number of packets never accepted
  pub last_missed : ℕ
  pub closes : (k : K) → Enough k → close j k (final j rooms s (map (bytes_of sent) arrivals)) (number n) ≡ shut last_missed (never came 0 n) at_end
  -- (d) with none missed, everything sent was handed out
  pub complete : never came 0 n ≡ 0 → handed_out (answers j rooms s (map (bytes_of sent) arrivals)) ++ at_end ≡ handed_of gs
  -- (e) no call of ours is refused, and every other one is
  pub refuses_others : map is_refused (answers j rooms s (map (bytes_of sent) arrivals)) ≡ map is_other arrivals
