-- "H.264 checks, with 21 before 17", and E4's "25 fragment of another time, after 21": what a payload is refused by, in the order 4, 19, 21, 25, 17 or 18,
-- and what it else does to the run; in shapes and times, and not by the definition's tests. Assumes nothing.
use Rattle.std.specs.Prelude.{◌≡◌, Bool, true, false, List, [], ◌∷◌, ◌++◌, ℕ}
use Rattle.error.specs.Refusal.{Refusal}
use Rattle.error.specs.Said.{Said, says, refused, refuse}
use Rattle.nal_read.specs.Kind.{short, unknown, plain, aggregate, fragment, shape}
use Rattle.nal_read.specs.Unpack.{unpack}
use Rattle.joiner_step.specs.Run.{Units, Run, none, gathering, Does, hands, gathers, ends}
use Rattle.joiner_feed.specs.Content.{Note, onward, top_bit}
use Rattle.joiner_feed.specs.H264.{forbidden, fragment_in}

-- `x` is what becomes of the payload of a packet of this time, where this run is open
pub record Checks (run : Run Note) (time : ℕ) (payload : List ℕ) (x : Said (Does Note)) : Type 0 where
  -- "4", "19"
  pub short : shape payload ≡ short → x ≡ refuse 4
  pub unknown : (type : ℕ) → shape payload ≡ unknown type → x ≡ refused (record { number = 19; carried = type ∷ [] })
  -- "21": whatever the time
  pub both : (head : ℕ) → shape payload ≡ fragment true true head → x ≡ refuse 21
  -- "A start fragment replaces the run", whatever its time
  pub starts : (head : ℕ) → shape payload ≡ fragment true false head →
      x ≡ says (gathers (record { marked = forbidden payload; time = time }) (fragment_in payload).part)
  -- "a continuation without a run yields nothing"
  pub idle : (last : Bool) (head : ℕ) → shape payload ≡ fragment false last head → run ≡ none → x ≡ says (hands [])
  -- "25": "a continuation .. but carries another timestamp"
  pub other_time : (last : Bool) (head : ℕ) (note : Note) (bytes : List ℕ) → shape payload ≡ fragment false last head → run ≡ gathering note bytes →
      (time ≡ note.time → ⊥) → x ≡ refuse 25
  -- one of the run's goes on with it, and "the end bit hands the unit out"
  pub goes_on : (head : ℕ) (note : Note) (bytes : List ℕ) → shape payload ≡ fragment false false head → run ≡ gathering note bytes →
      time ≡ note.time → x ≡ says (gathers (onward note (fragment_in payload)) (bytes ++ (fragment_in payload).part))
  pub ends_it : (head : ℕ) (note : Note) (bytes : List ℕ) → shape payload ≡ fragment false true head → run ≡ gathering note bytes →
      time ≡ note.time →
      x ≡ says (ends (bytes ++ (fragment_in payload).part) (top_bit (onward note (fragment_in payload)).marked head ∷ bytes ++ (fragment_in payload).part))
  -- "17 or 18"
  pub unsized : (r : Refusal) → shape payload ≡ aggregate → unpack payload ≡ refused r → x ≡ refused r
  pub sized : (units : Units) → shape payload ≡ aggregate → unpack payload ≡ says units → x ≡ says (hands units)
  -- a unit by itself
  pub alone : shape payload ≡ plain → x ≡ says (hands (payload ∷ []))
