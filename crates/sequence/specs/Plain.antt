-- A call by the plain rule, with no list of events left: d numbers are passed over, and one packet comes. Assumes nothing.
use Rattle.std.specs.Prelude.{ℕ, ◌+◌, cond, [], ◌==◌}
use Rattle.sequence.specs.Number.{distance_of, next_of, is_late}
use Rattle.sequence.specs.Rule.{plain}
use Rattle.sequence.specs.Codec.{Checked, bad, good, Fed, refusal, fed}
use Rattle.sequence.specs.Joiner.{Heard, turned_away, numbered, Parts, State, refuses, too_late, takes, Called, Answer, Shut, not_shut, shut, is_full}
use Rattle.sequence.specs.Refines.{ruled_by}

module _ {B K E P C Run O : Type 0} (j : Parts B K E P C Run O) (k : K) (s : State ℕ Run) where
  abbrev pub plain_stays : Answer E O → Called ℕ E Run O
  plain_stays answer = record { state = s; answer = answer }

  -- by the run and the room; "missed grows by d, awaited is the number plus 1"
  abbrev pub plain_fed : (d number : ℕ) → Fed E Run O → Called ℕ E Run O
  plain_fed d number (refusal e) = plain_stays (refuses e)
  plain_fed d number (fed run out) =
      cond (j.too_much k out) (plain_stays (refuses j.over_room))
      (record { state = record { seq = next_of number; run = run; missed = s.missed + d }; answer = takes d out })

  -- "d > 0 drops the open run"
  abbrev pub run_at : ℕ → Run
  run_at d = cond (d == 0) s.run (j.codec.drop s.run)

  abbrev pub plain_check : (d number : ℕ) → Checked E C → Called ℕ E Run O
  plain_check d number (bad e) = plain_stays (refuses e)
  plain_check d number (good c) = plain_fed d number (j.codec.feed k (run_at d) c)

  -- "d of 32,768 or more answers Late, unchanged; 24"
  abbrev pub plain_distance : (d number : ℕ) → P → Called ℕ E Run O
  plain_distance d number p =
      cond (is_late d) (plain_stays too_late)
      (cond (is_full (ruled_by (plain P) j) s d) (plain_stays (refuses j.over_limit)) (plain_check d number (j.codec.check p)))

  abbrev pub plain_heard : Heard E P → Called ℕ E Run O
  plain_heard (turned_away e) = plain_stays (refuses e)
  plain_heard (numbered number p) = plain_distance (distance_of number s.seq) number p

  -- "checks 22, 23, 24 in that order, drops the open run and adds the distance to missed"
  abbrev pub plain_shut : (d : ℕ) → Shut E O
  plain_shut d =
      cond (is_late d) (not_shut j.over_closing)
      (cond (is_full (ruled_by (plain P) j) s d) (not_shut j.over_limit)
      (cond (j.too_much k []) (not_shut j.over_room) (shut d (s.missed + d) [])))
