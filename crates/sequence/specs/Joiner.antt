-- The joiner for any rule, reader and codec. Assumes nothing.
use Rattle.std.specs.Prelude.{ℕ, suc, ◌+◌, Bool, true, false, cond, List, [], ◌∷◌, ◌++◌, nat_lt}
use Rattle.sequence.specs.Arrival.{Arrival, ours, other}
use Rattle.sequence.specs.Event.{Event, lost_in}
use Rattle.sequence.specs.Rule.{Rule, Ruled, late, onward, Ended, too_far, ended}
use Rattle.sequence.specs.Codec.{Checked, bad, good, Codec, Went, stopped, went, feed_all}

-- what a reader says of bytes: they are no packet for this joiner, be it another's or one of ours that is refused for itself; or this number
-- and packet
pub data Heard (E P : Type 0) : Type 0 where
  turned_away : E → Heard E P
  numbered : ℕ → P → Heard E P

-- the parts of a joiner: bytes B, a call's room K, refusals E, what is known of a packet P, what it holds C, runs, and what is handed out O
pub record Parts (B K E P C Run O : Type 0) : Type 1 where
  pub rule : Rule P
  pub reader : B → Heard E P
  pub codec : Codec K E P C Run O
  -- what a call hands out is too much for its room, and that refusal
  pub too_much : K → List O → Bool
  pub over_room : E
  -- the largest missed total, and the refusal of a larger one
  pub limit : ℕ
  pub over_limit : E
  -- the refusal of a closing number that is too far ahead
  pub over_closing : E

pub record State (S Run : Type 0) : Type 0 where
  pub seq : S
  pub run : Run
  pub missed : ℕ

pub data Answer (E O : Type 0) : Type 0 where
  refuses : E → Answer E O
  too_late : Answer E O
  -- accepted: how many numbers were missed, and what is handed out
  takes : ℕ → List O → Answer E O

pub record Called (S E Run O : Type 0) : Type 0 where
  pub state : State S Run
  pub answer : Answer E O

-- closing: how many numbers were missed, the missed total, and what is handed out
pub data Shut (E O : Type 0) : Type 0 where
  not_shut : E → Shut E O
  shut : (count total : ℕ) → List O → Shut E O

module _ {B K E P C Run O : Type 0} (j : Parts B K E P C Run O) where
  abbrev pub Now : Type 0
  Now = State j.rule.State Run

  abbrev pub Made : Type 0
  Made = Called j.rule.State E Run O

  -- "a refusal .. changes no .. state"; nor does Late
  abbrev pub stays : Now → Answer E O → Made
  stays s answer = record { state = s; answer = answer }

  -- "24: missed total would pass" the limit
  abbrev pub is_full : Now → ℕ → Bool
  is_full s count = nat_lt j.limit (s.missed + count)

  -- by the run and the room; 24 on all that the call misses; "If nothing refuses, the packet is accepted: missed grows"
  abbrev pub by_went : K → Now → j.rule.State → Went E Run O → Made
  by_went k s seq (stopped e) = stays s (refuses e)
  by_went k s seq (went run count out) =
      cond (is_full s count) (stays s (refuses j.over_limit))
      (cond (j.too_much k out) (stays s (refuses j.over_room))
      (record { state = record { seq = seq; run = run; missed = s.missed + count }; answer = takes count out }))

  -- the packet's own checks
  abbrev pub by_check : K → Now → j.rule.State → List (Event P) → Checked E C → Made
  by_check k s seq es (bad e) = stays s (refuses e)
  by_check k s seq es (good c) = by_went k s seq (feed_all j.codec k s.run es)

  -- 24 on the numbers that are passed over
  abbrev pub by_rule : K → Now → P → Ruled j.rule.State P → Made
  by_rule k s p late = stays s too_late
  by_rule k s p (onward seq es) =
      cond (is_full s (lost_in es)) (stays s (refuses j.over_limit)) (by_check k s seq es (j.codec.check p))

  abbrev pub by_heard : K → Now → Heard E P → Made
  by_heard k s (turned_away e) = stays s (refuses e)
  by_heard k s (numbered number p) = by_rule k s p (j.rule.arrive s.seq number p)

  -- one call
  abbrev pub call : K → Now → B → Made
  call k s b = by_heard k s (j.reader b)

  -- closing, which may still join what the rule held back
  abbrev pub shut_went : K → Now → Went E Run O → Shut E O
  shut_went k s (stopped e) = not_shut e
  shut_went k s (went run count out) =
      cond (is_full s count) (not_shut j.over_limit)
      (cond (j.too_much k out) (not_shut j.over_room) (shut count (s.missed + count) out))

  abbrev pub shut_by : K → Now → Ended P → Shut E O
  shut_by k s too_far = not_shut j.over_closing
  shut_by k s (ended es) =
      cond (is_full s (lost_in es)) (not_shut j.over_limit) (shut_went k s (feed_all j.codec k s.run es))

  abbrev pub close : K → Now → ℕ → Shut E O
  close k s number = shut_by k s (j.rule.close s.seq number)

  -- ---- call after call, each with the room that it brings

  abbrev pub answers : (ℕ → K) → Now → List B → List (Answer E O)
  answers rooms s [] = []
  answers rooms s (b ∷ bs) = (call (rooms 0) s b).answer ∷ answers (λ i. rooms (suc i)) (call (rooms 0) s b).state bs

  abbrev pub final : (ℕ → K) → Now → List B → Now
  final rooms s [] = s
  final rooms s (b ∷ bs) = final (λ i. rooms (suc i)) (call (rooms 0) s b).state bs

-- ---- what was answered

module _ {E O : Type 0} where
  abbrev pub is_taken : Answer E O → Bool
  is_taken (refuses e) = false
  is_taken too_late = false
  is_taken (takes count out) = true

  abbrev pub is_refused : Answer E O → Bool
  is_refused (refuses e) = true
  is_refused too_late = false
  is_refused (takes count out) = false

  abbrev pub handed_by : Answer E O → List O
  handed_by (refuses e) = []
  handed_by too_late = []
  handed_by (takes count out) = out

  -- what the calls handed out, in order
  abbrev pub handed_out : List (Answer E O) → List O
  handed_out [] = []
  handed_out (a ∷ later) = handed_by a ++ handed_out later

-- ---- the bytes that arrive

-- a packet of ours arrives as it was sent
abbrev pub bytes_of : {B : Type 0} → (ℕ → B) → Arrival B → B
bytes_of sent (ours i) = sent i
bytes_of sent (other b) = b

abbrev pub is_other : {B : Type 0} → Arrival B → Bool
is_other (ours i) = false
is_other (other b) = true
