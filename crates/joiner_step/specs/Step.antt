-- The joiner, step by step, for any choice: "Each call does, in order: 22; packet reading; 20; distance d .. d of 32,768 or more answers
-- Late, unchanged; 24; H.264 checks", 8 after 22; then "the packet is accepted: missed grows by d, awaited is the number plus 1, and d > 0
-- drops the open run." Assumes nothing.
use Rattle.std.specs.Prelude.{Bool, true, false, cond, ◌||◌, not, List, ℕ, ◌+◌, ltb, leb, eqb, length}
use Rattle.error.specs.Said.{Said, says, refused, refuse}
use Rattle.nal.specs.Fed.{Laid, lay_both}
use Rattle.sequence.specs.Number.{distance_of, next_of}
use Rattle.joiner_step.specs.Run.{Run, none, Does, fed_by, Held, nothing, held_of, run_of}
use Rattle.joiner_step.specs.Choice.{Arrived, Choice}

-- ---- the record

-- what a joiner keeps from call to call
pub record Kept (N : Type 0) : Type 0 where
  -- the sender's SSRC
  pub source : ℕ
  -- the sequence number of the next packet
  pub awaited : ℕ
  -- how many packets were passed over
  pub missed : ℕ
  pub run : Held N
  -- closed: every call answers 22
  pub closed : Bool

-- ---- the answers

-- what an accepted packet's answer says: the jump before it, and how many bytes were handed out
pub record Accepted : Type 0 where
  pub first : ℕ
  pub count : ℕ
  pub bytes : ℕ

pub data Answer : Type 0 where
  accepted : Accepted → Answer
  late : Answer

-- the record, the answer and both buffers after a call; `J` is the record
pub record Stepped (J : Type 0) : Type 0 where
  pub joiner : J
  pub answer : Said Answer
  pub gather : List ℕ
  pub out : List ℕ

-- "a refusal .. changes no buffer and no state"; nor does Late
abbrev pub unchanged : {J : Type 0} → J → List ℕ → List ℕ → Said Answer → Stepped J
unchanged j gather out answer = record { joiner = j; answer = answer; gather = gather; out = out }

-- closing: the record, and the numbers that never came: the first, and how many
pub record ClosingStepped (J : Type 0) : Type 0 where
  pub joiner : J
  pub answer : Said Accepted

abbrev pub still_open : {J : Type 0} → J → ℕ → ClosingStepped J
still_open j n = record { joiner = j; answer = refuse n }

module _ {P C N : Type 0} (c : Choice P C N) where
  -- ---- what a record may say

  -- what belongs to a run, where none is open
  abbrev pub stray : Held N → Bool
  stray h = cond h.running false (not (eqb h.gathered 0) || c.noted h.note)

  -- "counts and lengths in a record that lie within" their limits
  abbrev pub wrong : Held N → Bool
  wrong h = ltb 16777215 h.gathered || stray h

  -- ".. and the lent buffers"
  abbrev pub outside : Held N → List ℕ → Bool
  outside h gather = ltb (length gather) h.gathered || wrong h

  -- ---- the call

  -- accepted: `d` numbers were passed over, and `number` came
  abbrev pub moved : Kept N → ℕ → ℕ → Run N → Kept N
  moved j d number run =
      record {
        source = j.source;
        awaited = next_of number;
        missed = j.missed + d;
        run = held_of c.blank run;
        closed = false;
      }

  -- room: 6, then 5
  abbrev pub laid_by : Kept N → ℕ → ℕ → Run N → Laid ℕ → Said ℕ → Stepped (Kept N)
  laid_by j d number run l (refused r) = unchanged j l.gather l.out (refused r)
  laid_by j d number run l (says n) =
      record {
        joiner = moved j d number run;
        answer = says (accepted (record { first = j.awaited; count = d; bytes = n }));
        gather = l.gather;
        out = l.out;
      }

  -- what the packet does to the run
  abbrev pub fed_to : Kept N → ℕ → ℕ → List ℕ → List ℕ → Said (Does N) → Stepped (Kept N)
  fed_to j d number gather out (refused r) = unchanged j gather out (refused r)
  fed_to j d number gather out (says x) =
      laid_by j d number (fed_by x).run (lay_both c.avc gather out (fed_by x).kept (fed_by x).handed)
      (lay_both c.avc gather out (fed_by x).kept (fed_by x).handed).answer

  -- "d > 0 drops the open run"
  abbrev pub run_at : Kept N → ℕ → List ℕ → Run N
  run_at j d gather = cond (eqb d 0) (run_of j.run gather) none

  -- the packet's own checks
  abbrev pub by_check : Kept N → ℕ → ℕ → List ℕ → List ℕ → Said C → Stepped (Kept N)
  by_check j d number gather out (refused r) = unchanged j gather out (refused r)
  by_check j d number gather out (says x) = fed_to j d number gather out (c.feed (run_at j d gather) x)

  -- "d of 32,768 or more answers Late, unchanged; 24"
  abbrev pub by_distance : Kept N → ℕ → ℕ → P → List ℕ → List ℕ → Stepped (Kept N)
  by_distance j d number p gather out =
      cond (leb 32768 d) (unchanged j gather out (says late))
      (cond (ltb 4294967295 (j.missed + d)) (unchanged j gather out (refuse 24))
      (by_check j d number gather out (c.check p)))

  -- "20: other SSRC"
  unfoldable pub by_source : Kept N → Arrived P → List ℕ → List ℕ → Stepped (Kept N)
  by_source j a gather out =
      cond (eqb a.source j.source) (by_distance j (distance_of a.number j.awaited) a.number a.known gather out)
      (unchanged j gather out (refuse 20))

  abbrev pub by_reading : Kept N → List ℕ → List ℕ → Said (Arrived P) → Stepped (Kept N)
  by_reading j gather out (refused r) = unchanged j gather out (refused r)
  by_reading j gather out (says a) = by_source j a gather out

  unfoldable pub step : Kept N → List ℕ → List ℕ → List ℕ → Stepped (Kept N)
  step j packet gather out =
      cond j.closed (unchanged j gather out (refuse 22))
      (cond (outside j.run gather) (unchanged j gather out (refuse 8)) (by_reading j gather out (c.reads packet)))

  -- ---- closing

  abbrev pub shut : Kept N → ℕ → Kept N
  shut j d =
      record { source = j.source; awaited = j.awaited; missed = j.missed + d; run = nothing c.blank; closed = true }

  -- "Closing takes the number after the last sent, checks 22, 23, 24 in that order, drops the open run and adds the distance to missed."
  abbrev pub close_by : Kept N → ℕ → ClosingStepped (Kept N)
  close_by j d =
      cond (leb 32768 d) (still_open j 23)
      (cond (ltb 4294967295 (j.missed + d)) (still_open j 24)
      (record { joiner = shut j d; answer = says (record { first = j.awaited; count = d; bytes = 0 }) }))

  -- 8 after 22, as for a packet: no record in the domain says otherwise
  unfoldable pub closing : Kept N → ℕ → ClosingStepped (Kept N)
  closing j number =
      cond j.closed (still_open j 22) (cond (wrong j.run) (still_open j 8) (close_by j (distance_of number j.awaited)))

  -- ---- opening

  unfoldable pub opening : ℕ → ℕ → Kept N
  opening source first = record { source = source; awaited = first; missed = 0; run = nothing c.blank; closed = false }
