-- One codec stands for another, and so one joiner for another: a run of the first stands for a run of the second. Assumes nothing.
use Rattle.std.specs.Prelude.{◌≡◌, List}
use Rattle.sequence.specs.Rule.{Rule}
use Rattle.sequence.specs.Codec.{Fed, refusal, fed, Codec, Went, stopped, went}
use Rattle.sequence.specs.Joiner.{Parts, State, Called}

-- ---- what is so of the first, seen as the second's

-- a state, its run seen so
abbrev pub state_as : {S R A : Type 0} → (R → A) → State S R → State S A
state_as stands s = record { seq = s.seq; run = stands s.run; missed = s.missed }

module _ {E R A O : Type 0} (stands : R → A) where
  abbrev pub fed_as : Fed E R O → Fed E A O
  fed_as (refusal e) = refusal e
  fed_as (fed run out) = fed (stands run) out

  abbrev pub went_as : Went E R O → Went E A O
  went_as (stopped e) = stopped e
  went_as (went run missed out) = went (stands run) missed out

  abbrev pub called_as : {S : Type 0} → Called S E R O → Called S E A O
  called_as c = record { state = state_as stands c.state; answer = c.answer }

-- the first codec does what the second does, of runs that are as they must be in a call's room; and they stay so
pub record Refines {K E P C R A O : Type 0} (c : Codec K E P C R O) (a : Codec K E P C A O) (stands : R → A) (Fit : K → R → Type 0) : Type 0 where
  pub checks : (p : P) → c.check p ≡ a.check p
  pub drops : (run : R) → stands (c.drop run) ≡ a.drop (stands run)
  pub feeds : (k : K) (run : R) (x : C) → Fit k run → fed_as stands (c.feed k run x) ≡ a.feed k (stands run) x
  pub drop_fits : (k : K) (run : R) → Fit k run → Fit k (c.drop run)
  pub feed_fits : (k : K) (run : R) (x : C) → Fit k run → (next : R) (out : List O) → c.feed k run x ≡ fed next out → Fit k next

-- ---- the same joiner with another codec, or by another rule

abbrev pub with_codec : {B K E P C R A O : Type 0} → Parts B K E P C R O → Codec K E P C A O → Parts B K E P C A O
with_codec j codec =
    record {
      rule = j.rule;
      reader = j.reader;
      codec = codec;
      too_much = j.too_much;
      over_room = j.over_room;
      limit = j.limit;
      over_limit = j.over_limit;
      over_closing = j.over_closing;
    }

abbrev pub ruled_by : {B K E P C Run O : Type 0} → Rule P → Parts B K E P C Run O → Parts B K E P C Run O
ruled_by rule j =
    record {
      rule = rule;
      reader = j.reader;
      codec = j.codec;
      too_much = j.too_much;
      over_room = j.over_room;
      limit = j.limit;
      over_limit = j.over_limit;
      over_closing = j.over_closing;
    }
