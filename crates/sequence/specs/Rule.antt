-- A sequence rule turns numbered packets into events, and the plain rule of the paper. Assumes nothing.
use Rattle.std.specs.Prelude.{◌≡◌, ℕ, ◌≤◌, Bool, true, false, cond, List, [], ◌∷◌, ◌++◌, map}
use Rattle.sequence.specs.Number.{distance_of, next_of, is_late}
use Rattle.sequence.specs.Arrival.{Arrival, ours, other}
use Rattle.sequence.specs.Event.{Event, got, holes, got_in, as_got}

-- what a rule says of a numbered packet: nothing is done with it, or the rule goes on and yields events
pub data Ruled (S P : Type 0) : Type 0 where
  late : Ruled S P
  onward : S → List (Event P) → Ruled S P

-- what a rule says of a closing number
pub data Ended (P : Type 0) : Type 0 where
  too_far : Ended P
  ended : List (Event P) → Ended P

pub record Rule (P : Type 0) : Type 1 where
  pub State : Type 0
  -- a packet of this number
  pub arrive : State → ℕ → P → Ruled State P
  -- "Closing takes the number after the last sent"
  pub close : State → ℕ → Ended P

-- ---- the plain rule; its state is the awaited number

module _ {P : Type 0} where
  -- "d of 32,768 or more answers Late"; else d numbers were passed over, and "awaited is the number plus 1"
  abbrev pub arrive_by : ℕ → ℕ → P → Ruled ℕ P
  arrive_by d number p = cond (is_late d) late (onward (next_of number) (holes d (got p ∷ [])))

  -- "23: closing number 32,768 or more ahead of the awaited one"
  abbrev pub close_by : ℕ → Ended P
  close_by d = cond (is_late d) too_far (ended (holes d []))

abbrev pub plain : (P : Type 0) → Rule P
plain P =
    record {
      State = ℕ;
      arrive = λ awaited number p. arrive_by (distance_of number awaited) number p;
      close = λ awaited number. close_by (distance_of number awaited);
    }

-- ---- how a rule goes on

module _ {S P : Type 0} where
  abbrev pub state_after : S → Ruled S P → S
  state_after s late = s
  state_after s (onward next es) = next

  abbrev pub events_of : Ruled S P → List (Event P)
  events_of late = []
  events_of (onward next es) = es

  abbrev pub is_onward : Ruled S P → Bool
  is_onward late = false
  is_onward (onward next es) = true

module _ {P : Type 0} where
  abbrev pub ended_events : Ended P → List (Event P)
  ended_events too_far = []
  ended_events (ended es) = es

  abbrev pub is_ended : Ended P → Bool
  is_ended too_far = false
  is_ended (ended es) = true

-- ---- a rule over arrivals: n packets were sent, packet i with this number

module _ {P : Type 0} (rule : Rule P) (number : ℕ → ℕ) (packet : ℕ → P) (n : ℕ) where
  abbrev pub ruling : rule.State → ℕ → Ruled rule.State P
  ruling s i = rule.arrive s (number i) (packet i)

  -- the state before closing
  abbrev pub last_state : {B : Type 0} → rule.State → List (Arrival B) → rule.State
  last_state s [] = s
  last_state s (other b ∷ later) = last_state s later
  last_state s (ours i ∷ later) = last_state (state_after s (ruling s i)) later

  -- all events, those of closing with the number after the last sent too
  abbrev pub all_events : {B : Type 0} → rule.State → List (Arrival B) → List (Event P)
  all_events s [] = ended_events (rule.close s (number n))
  all_events s (other b ∷ later) = all_events s later
  all_events s (ours i ∷ later) = events_of (ruling s i) ++ all_events (state_after s (ruling s i)) later

  -- which calls the rule goes on at
  abbrev pub onward_calls : {B : Type 0} → rule.State → List (Arrival B) → List Bool
  onward_calls s [] = []
  onward_calls s (other b ∷ later) = false ∷ onward_calls s later
  onward_calls s (ours i ∷ later) = is_onward (ruling s i) ∷ onward_calls (state_after s (ruling s i)) later

  -- no call joins more than c packets
  abbrev pub JoinsAtMost : ℕ → {B : Type 0} → rule.State → List (Arrival B) → Type 0
  JoinsAtMost c s [] = got_in (ended_events (rule.close s (number n))) ≤ c
  JoinsAtMost c s (other b ∷ later) = JoinsAtMost c s later
  JoinsAtMost c s (ours i ∷ later) = (got_in (events_of (ruling s i)) ≤ c) × JoinsAtMost c (state_after s (ruling s i)) later

  -- what a rule owes over arrivals: its events are the n packets in order, those of a call or out of a hold, with a hole for each that was
  -- not accepted; it goes on at the calls that accept; closing is not refused; and no call joins more than c packets
  pub record Follows (c : ℕ) {B : Type 0} (s : rule.State) (later : List (Arrival B)) (events : List (Event P)) (calls : List Bool) : Type 0 where
    pub sees : map as_got (all_events s later) ≡ events
    pub goes : onward_calls s later ≡ calls
    pub ends : is_ended (rule.close (last_state s later) (number n)) ≡ true
    pub joins : JoinsAtMost c s later
