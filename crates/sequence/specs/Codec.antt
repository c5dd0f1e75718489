-- A codec: what a packet does to the open run, and what it owes of the groups sent. Assumes nothing.
use Rattle.std.specs.Prelude.{◌≡◌, ℕ, ◌+◌, List, [], ◌∷◌, ◌++◌}
use Rattle.wire.specs.Each.{Each}
use Rattle.sequence.specs.Event.{Event, lost, got, held}
use Rattle.sequence.specs.Group.{Group, packets_in}

-- what a packet is by itself: it is refused, or it holds this
pub data Checked (E C : Type 0) : Type 0 where
  bad : E → Checked E C
  good : C → Checked E C

-- what it does to the open run: it is refused, or the run goes on and something is handed out
pub data Fed (E Run O : Type 0) : Type 0 where
  refusal : E → Fed E Run O
  fed : Run → List O → Fed E Run O

-- K is the room that a call brings, P what is known of a packet, C what it holds
pub record Codec (K E P C Run O : Type 0) : Type 0 where
  -- the checks of a packet alone: no run, no room
  pub check : P → Checked E C
  -- a hole drops the run
  pub drop : Run → Run
  -- the checks by the run and the room
  pub feed : K → Run → C → Fed E Run O

-- both, one after the other
module _ {K E P C Run O : Type 0} (codec : Codec K E P C Run O) where
  abbrev pub feed_checked : K → Run → Checked E C → Fed E Run O
  feed_checked k run (bad e) = refusal e
  feed_checked k run (good c) = codec.feed k run c

  abbrev pub join : K → Run → P → Fed E Run O
  join k run p = feed_checked k run (codec.check p)

-- ---- events fed one after the other

-- what events do: one is refused, or the run goes on, so many numbers are missed, and something is handed out
pub data Went (E Run O : Type 0) : Type 0 where
  stopped : E → Went E Run O
  went : Run → (missed : ℕ) → List O → Went E Run O

module _ {E Run O : Type 0} where
  -- one number more is missed
  abbrev pub missing : Went E Run O → Went E Run O
  missing (stopped e) = stopped e
  missing (went run missed out) = went run (1 + missed) out

  abbrev pub behind : List O → Went E Run O → Went E Run O
  behind out (stopped e) = stopped e
  behind out (went run missed more) = went run missed (out ++ more)

  -- a packet of this call: its refusal refuses the call
  abbrev pub got_then : Fed E Run O → (Run → Went E Run O) → Went E Run O
  got_then (refusal e) go = stopped e
  got_then (fed run out) go = behind out (go run)

  -- "one that gets 6 or 25 while being joined out of the hold counts as missed and drops the run"
  abbrev pub held_then : Run → Fed E Run O → (Run → Went E Run O) → Went E Run O
  held_then dropped (refusal e) go = missing (go dropped)
  held_then dropped (fed run out) go = behind out (go run)

-- a hole drops the run, and counts as missed
abbrev pub feed_all : {K E P C Run O : Type 0} → Codec K E P C Run O → K → Run → List (Event P) → Went E Run O
feed_all codec k run [] = went run 0 []
feed_all codec k run (lost ∷ es) = missing (feed_all codec k (codec.drop run) es)
feed_all codec k run (got p ∷ es) = got_then (join codec k run p) (λ next. feed_all codec k next es)
feed_all codec k run (held p ∷ es) = held_then (codec.drop run) (join codec k run p) (λ next. feed_all codec k next es)

-- ---- what a codec owes, in every room that is enough

module _ {K E P C Run O : Type 0} (codec : Codec K E P C Run O) (Enough : K → Type 0) where
  -- in the run, the packet is not refused, leads to the run `next` and hands `out` out
  abbrev pub Does : Run → P → Run → List O → Type 0
  Does run p next out = (k : K) → Enough k → join codec k run p ≡ fed next out

  -- the packets hand o out with the last, and none is refused
  abbrev pub HandsOut : Run → List P → O → Type 0
  HandsOut run [] o = ⊥
  HandsOut run (p ∷ []) o = (next : Run) × Does run p next (o ∷ [])
  HandsOut run (p ∷ q ∷ ps) o = (next : Run) × Does run p next [] × HandsOut next (q ∷ ps) o

  -- where the run was dropped, the packet yields nothing, and the run stays so
  abbrev pub Silent : P → Type 0
  Silent p = (run : Run) → Does (codec.drop run) p (codec.drop run) []

  abbrev pub Quiet : List P → Type 0
  Quiet = Each Silent

  -- whatever run is open, a group's packets hand it out with the last; where the run was dropped, its packets but the first yield nothing
  pub record Owes (g : Group P O) : Type 0 where
    pub hands : (run : Run) → HandsOut run (packets_in g) g.handed
    pub quiet : Quiet g.others

  abbrev pub OwesAll : List (Group P O) → Type 0
  OwesAll = Each Owes

  -- ---- a unit cut into pieces

  -- five facts on single packets. A piece, and what is gathered of some, is an `A`; `on` puts a piece behind what is gathered. `Piece` says which
  -- pieces may be sent, `Fits` what may be gathered.
  pub record Cuts {A : Type 0} (on : A → A → A) (gathering : A → Run) (start middle end : A → P) (unit : A → O) (Piece Fits : A → Type 0) : Type 0 where
    pub starts : (run : Run) (s : A) → Piece s → Fits s → Does run (start s) (gathering s) []
    pub continues : (before s : A) → Piece s → Fits (on before s) → Does (gathering before) (middle s) (gathering (on before s)) []
    pub ends : (before s : A) → Piece s → Fits (on before s) → (next : Run) × Does (gathering before) (end s) next (unit (on before s) ∷ [])
    pub middle_quiet : (s : A) → Piece s → Silent (middle s)
    pub end_quiet : (s : A) → Piece s → Silent (end s)
    -- what is gathered fits where more does
    pub shorter : (before s : A) → Fits (on before s) → Fits before
