-- The joiner of a choice as one of those of any rule, reader and codec: its parts, how record, buffers and answers stand for theirs, and
-- the codec with its buffers. Assumes nothing.
use Rattle.std.specs.Prelude.{Bool, cond, List, [], ◌∷◌, map, ℕ, ◌≤◌, ltb, eqb, length, take}
use Rattle.error.specs.Refusal.{Refusal}
use Rattle.error.specs.Said.{Said, says, refused}
use Rattle.wire.specs.Part.{splice}
use Rattle.wire.specs.Packets.{joined}
use Rattle.nal.specs.Fed.{prefixed, is_over, too_long}
use Rattle.sequence.specs.Rule.{Rule}
use Rattle.sequence.specs.Codec.{Checked, bad, good, Fed, refusal, fed, Codec}
use Rattle.sequence.specs.Joiner.{Heard, turned_away, numbered, Parts, State, refuses, too_late, takes, not_shut, shut}
use Rattle.sequence.specs.Joiner as any
use Rattle.joiner_step.specs.Run.{Units, Run, none, Does, fed_by, Held, nothing, held_of, run_of}
use Rattle.joiner_step.specs.Choice.{Arrived, Choice}
use Rattle.joiner_step.specs.Step.{Kept, Accepted, Answer, accepted, late, ClosingStepped}

-- the room that a call brings: the lengths of the gather buffer and of the output
pub record Room : Type 0 where
  pub gather : ℕ
  pub out : ℕ

-- room for `most` bytes gathered and for `largest` bytes handed out
pub record Enough (most largest : ℕ) (k : Room) : Type 0 where
  pub gather : most ≤ k.gather
  pub out : largest ≤ k.out

abbrev pub refusing : ℕ → Refusal
refusing n = record { number = n; carried = [] }

-- a packet hands out one group of units, or nothing
abbrev pub group_in : Units → List Units
group_in [] = []
group_in (u ∷ us) = (u ∷ us) ∷ []

abbrev pub checked_as : {C : Type 0} → Said C → Checked Refusal C
checked_as (refused r) = bad r
checked_as (says x) = good x

-- a run as the record and the gather buffer have it
pub record Lying (N : Type 0) : Type 0 where
  pub held : Held N
  pub gather : List ℕ

module _ {P C N : Type 0} (c : Choice P C N) where
  -- ---- the codec

  abbrev pub within : Room → Said (Does N) → Fed Refusal (Run N) Units
  within k (refused r) = refusal r
  within k (says x) =
      cond (is_over k.gather (length (fed_by x).kept)) (refusal (refusing 6)) (fed (fed_by x).run (group_in (fed_by x).handed))

  -- of runs without buffers
  abbrev pub codec : Codec Room Refusal P C (Run N) Units
  codec =
      record {
        check = λ p. checked_as (c.check p);
        drop = λ run. none;
        feed = λ k run x. within k (c.feed run x);
      }

  abbrev pub lain : List ℕ → Said (Does N) → Fed Refusal (Lying N) Units
  lain gather (refused r) = refusal r
  lain gather (says x) =
      cond (too_long gather (fed_by x).kept) (refusal (refusing 6))
      (fed (record { held = held_of c.blank (fed_by x).run; gather = splice gather 0 (fed_by x).kept }) (group_in (fed_by x).handed))

  -- of runs in record and gather buffer
  abbrev pub lying_codec : Codec Room Refusal P C (Lying N) Units
  lying_codec =
      record {
        check = λ p. checked_as (c.check p);
        drop = λ l. record { held = nothing c.blank; gather = l.gather };
        feed = λ k l x. lain l.gather (c.feed (run_of l.held l.gather) x);
      }

  -- ---- the reader

  -- "20: other SSRC"
  abbrev pub heard_from : ℕ → Said (Arrived P) → Heard Refusal P
  heard_from source (refused r) = turned_away r
  heard_from source (says a) = cond (eqb a.source source) (numbered a.number a.known) (turned_away (refusing 20))

  abbrev pub reader : ℕ → List ℕ → Heard Refusal P
  reader source packet = heard_from source (c.reads packet)

  -- ---- the joiner

  -- "5: output buffer .. too small"
  abbrev pub too_much : Room → List Units → Bool
  too_much k out = ltb k.out (length (joined (map (prefixed c.avc) out)))

  abbrev pub parts_of : {R : Type 0} → Codec Room Refusal P C R Units → Rule P → ℕ → Parts (List ℕ) Room Refusal P C R Units
  parts_of codec rule source =
      record {
        rule = rule;
        reader = reader source;
        codec = codec;
        too_much = too_much;
        over_room = refusing 5;
        limit = 4294967295;
        over_limit = refusing 24;
        over_closing = refusing 23;
      }

  abbrev pub parts : Rule P → ℕ → Parts (List ℕ) Room Refusal P C (Run N) Units
  parts = parts_of codec

-- ---- the state that record and gather buffer stand for

abbrev pub run_in : {N : Type 0} → Lying N → Run N
run_in l = run_of l.held l.gather

abbrev pub lying : {N : Type 0} → Kept N → List ℕ → State ℕ (Lying N)
lying j gather = record { seq = j.awaited; run = record { held = j.run; gather = gather }; missed = j.missed }

abbrev pub standing : {N : Type 0} → Kept N → List ℕ → State ℕ (Run N)
standing j gather = record { seq = j.awaited; run = run_of j.run gather; missed = j.missed }

-- ---- the answers, with the bytes handed out

-- what a call that handed out n bytes left in the output
abbrev pub handed_bytes : ℕ → List ℕ → List (List ℕ)
handed_bytes n out = cond (eqb n 0) [] (take n out ∷ [])

abbrev pub seen_by : Said Answer → List ℕ → any.Answer Refusal (List ℕ)
seen_by (refused r) out = refuses r
seen_by (says late) out = too_late
seen_by (says (accepted a)) out = takes a.count (handed_bytes a.bytes out)

-- units as the bytes that are handed out for them
abbrev pub as_bytes : Bool → any.Answer Refusal Units → any.Answer Refusal (List ℕ)
as_bytes avc (refuses r) = refuses r
as_bytes avc too_late = too_late
as_bytes avc (takes count out) = takes count (map (prefixed avc) out)

-- closing: the count and the missed total; nothing is handed out
abbrev pub closing_said : Said Accepted → ℕ → any.Shut Refusal Units
closing_said (refused r) missed = not_shut r
closing_said (says a) missed = shut a.count missed []

abbrev pub closing_seen : {N : Type 0} → ClosingStepped (Kept N) → any.Shut Refusal Units
closing_seen st = closing_said st.answer st.joiner.missed
