-- The paper's paragraph on a call and on closing, sentence by sentence, as what is so of all that they leave; in numbers, and not by the
-- definition's tests. Assumes nothing.
use Rattle.std.specs.Prelude.{◌≡◌, true, false, List, ◌⊎◌, ℕ, ◌+◌, ◌≤◌, ◌<◌, length}
use Rattle.error.specs.Refusal.{Refusal}
use Rattle.error.specs.Said.{says, refused, refuse}
use Rattle.wire.specs.Part.{splice}
use Rattle.nal.specs.Fed.{prefixed}
use Rattle.sequence.specs.Number.{distance_of, next_of}
use Rattle.joiner_step.specs.Run.{Run, none, Does, fed_by, Held, nothing, held_of, run_of}
use Rattle.joiner_step.specs.Choice.{Arrived, Choice}
use Rattle.joiner_step.specs.Step.{Kept, accepted, late, Stepped, unchanged, ClosingStepped, still_open}

-- what a record must say: "counts and lengths in a record that lie within .. the lent buffers", and nothing of a run where none is open
pub record InDomain {P C N : Type 0} (c : Choice P C N) (h : Held N) : Type 0 where
  pub few : h.gathered ≤ 16777215
  pub sure : h.running ≡ false → (h.gathered ≡ 0) × (c.noted h.note ≡ false)

module _ {P C N : Type 0} (c : Choice P C N) (j : Kept N) (packet gather out : List ℕ) where
  -- ---- how far a call gets

  -- past 22 and 8
  pub record Open : Type 0 where
    pub not_closed : j.closed ≡ false
    pub domain : InDomain c j.run
    pub lies : j.run.gathered ≤ length gather

  -- past the reading and 20
  pub record Ours (a : Arrived P) : Type 0 where
    pub opened : Open
    pub read : c.reads packet ≡ says a
    pub own : a.source ≡ j.source

  -- "distance d = (number - awaited) mod 65,536"
  abbrev pub distance : Arrived P → ℕ
  distance a = distance_of a.number j.awaited

  -- past Late and 24
  pub record Ahead (a : Arrived P) : Type 0 where
    pub ours : Ours a
    pub near : distance a < 32768
    pub room : j.missed + distance a ≤ 4294967295

  -- the run that the packet meets: "d > 0 drops the open run"
  pub record Meets (a : Arrived P) (run : Run N) : Type 0 where
    pub stays : distance a ≡ 0 → run ≡ run_of j.run gather
    pub drops : 0 < distance a → run ≡ none

  -- past the packet's own checks
  pub record Checked (a : Arrived P) (holds : C) (run : Run N) : Type 0 where
    pub ahead : Ahead a
    pub checked : c.check a.known ≡ says holds
    pub meets : Meets a run

  -- past those by the run
  pub record Passed (a : Arrived P) (x : Does N) : Type 0 where
    pub holds : C
    pub run : Run N
    pub checked : Checked a holds run
    pub fed : c.feed run holds ≡ says x

  -- past 6
  pub record Gathered (a : Arrived P) (x : Does N) : Type 0 where
    pub passed : Passed a x
    pub fits : length (fed_by x).kept ≤ length gather
    pub few : length (fed_by x).kept ≤ 16777215

  -- ---- what it leaves

  -- "a refusal .. changes no buffer and no state"
  abbrev pub Refuses : Stepped (Kept N) → Refusal → Type 0
  Refuses st r = st ≡ unchanged j gather out (refused r)

  abbrev pub RefusesBy : Stepped (Kept N) → ℕ → Type 0
  RefusesBy st n = st ≡ unchanged j gather out (refuse n)

  -- the bytes that are handed out
  abbrev pub bytes_for : Does N → List ℕ
  bytes_for x = prefixed c.avc (fed_by x).handed

  -- "the packet is accepted: missed grows by d, awaited is the number plus 1"
  abbrev pub accepted_with : Arrived P → Does N → Stepped (Kept N)
  accepted_with a x =
      record {
        joiner =
            record {
              source = j.source;
              awaited = next_of a.number;
              missed = j.missed + distance a;
              run = held_of c.blank (fed_by x).run;
              closed = false;
            };
        answer = says (accepted (record { first = j.awaited; count = distance a; bytes = length (bytes_for x) }));
        gather = splice gather 0 (fed_by x).kept;
        out = splice out 0 (bytes_for x);
      }

  -- "Each call does, in order: .."
  pub record Paragraph (st : Stepped (Kept N)) : Type 0 where
    -- "22"
    pub closed : j.closed ≡ true → RefusesBy st 22
    -- 8
    pub outside : j.closed ≡ false → (Open → ⊥) → RefusesBy st 8
    -- "packet reading"
    pub unread : Open → (r : Refusal) → c.reads packet ≡ refused r → Refuses st r
    -- "20"
    pub foreign : Open → (a : Arrived P) → c.reads packet ≡ says a → (a.source ≡ j.source → ⊥) → RefusesBy st 20
    -- "d of 32,768 or more answers Late, unchanged"
    pub behind : (a : Arrived P) → Ours a → 32768 ≤ distance a → st ≡ unchanged j gather out (says late)
    -- "24"
    pub full : (a : Arrived P) → Ours a → distance a < 32768 → 4294967295 < j.missed + distance a → RefusesBy st 24
    -- "H.264 checks": of the packet alone, then by the run
    pub bad : (a : Arrived P) → Ahead a → (r : Refusal) → c.check a.known ≡ refused r → Refuses st r
    pub unfit : (a : Arrived P) (x : C) (run : Run N) → Checked a x run → (r : Refusal) → c.feed run x ≡ refused r → Refuses st r
    -- "6", "5"
    pub long : (a : Arrived P) (x : Does N) → Passed a x → (length gather < length (fed_by x).kept) ⊎ (16777215 < length (fed_by x).kept) → RefusesBy st 6
    pub small : (a : Arrived P) (x : Does N) → Gathered a x → length out < length (bytes_for x) → RefusesBy st 5
    -- "If nothing refuses, the packet is accepted"
    pub accepts : (a : Arrived P) (x : Does N) → Gathered a x → length (bytes_for x) ≤ length out → st ≡ accepted_with a x

-- "Closing takes the number after the last sent, checks 22, 23, 24 in that order, drops the open run and adds the distance to missed."
pub record ClosingParagraph {P C N : Type 0} (c : Choice P C N) (j : Kept N) (number : ℕ) (st : ClosingStepped (Kept N)) : Type 0 where
  -- "22"; 8
  pub closed : j.closed ≡ true → st ≡ still_open j 22
  pub outside : j.closed ≡ false → (InDomain c j.run → ⊥) → st ≡ still_open j 8
  -- "23", "24"
  pub far : j.closed ≡ false → InDomain c j.run → 32768 ≤ distance_of number j.awaited → st ≡ still_open j 23
  pub full : j.closed ≡ false → InDomain c j.run → distance_of number j.awaited < 32768 →
      4294967295 < j.missed + distance_of number j.awaited → st ≡ still_open j 24
  -- the record is closed, and keeps its source and the awaited number
  pub ends : j.closed ≡ false → InDomain c j.run → distance_of number j.awaited < 32768 →
      j.missed + distance_of number j.awaited ≤ 4294967295 →
      st
      ≡ record {
        joiner =
            record {
              source = j.source;
              awaited = j.awaited;
              missed = j.missed + distance_of number j.awaited;
              run = nothing c.blank;
              closed = true;
            };
        answer = says (record { first = j.awaited; count = distance_of number j.awaited; bytes = 0 });
      }
