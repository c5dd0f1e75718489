-- How this joiner's definitions go on, from the facts that the code tests: the laws of the staged step, through the record. Assumes nothing.
use mathlib.Core.Path.{◌≡◌, refl, sym, ap, ◌∙◌}
use mathlib.Core.Bool.{Bool, true, false, cond, true≢false}
use mathlib.Core.List.{List, []}
use Prim.Native.Nat.{ℕ, ◌+◌, ◌≤◌, ◌<◌}
use native.Mathlib.Omega.{arith}
use lib.Dec.{ltb, eqb}
use borrow.Author.Tests.{ltb-true, ltb-false}
use Rattle.std.specs.Prelude.{Option, None}
use Rattle.error.specs.Refusal.{Refusal}
use Rattle.error.specs.Said.{Said, says, refused, refuse}
use Rattle.error.proofs.Refusing.{not_says, same_answer}
use Rattle.wire.specs.Part.{part}
use Rattle.packet.specs.Read.{read_packet}
use Rattle.nal.specs.Fed.{Laid, lay_both}
use Rattle.nal.specs.Ran.{RanOn, with_run}
use Rattle.joiner_read.specs.Arrive.{arrival_of}
use Rattle.joiner_read.specs.Arrive as read
use Rattle.joiner_read.proofs.Arriving.{came_from, came_refused}
use Rattle.joiner_step.specs.Run.{none, Does, run_of}
use Rattle.joiner_step.specs.Run as step
use Rattle.joiner_step.specs.Choice.{Arrived}
use Rattle.joiner_step.specs.Step.{laid_by, fed_to, by_check, run_at, wrong}
use Rattle.joiner_step.specs.Paragraph.{InDomain}
use Rattle.joiner_step.proofs.Stages.{in_domain, domain_right, step_closed, step_outside, close_closed, close_outside}
use Rattle.joiner_feed.specs.declared.Run.{Run}
use Rattle.joiner_feed.specs.Content.{Content, timed, Note, fed, fed_after}
use Rattle.joiner_feed.specs.Ran.{held_in, run_from, recorded, lay_does}
use Rattle.joiner_feed.specs.Ran as feed
use Rattle.joiner.specs.declared.Joiner.{Joiner}
use Rattle.joiner.specs.Join.{kept_of, Stepped, as_step, as_closing, join_step, close_step, Known, known, arrived_in, choice_of, avc_of}
use Rattle.joiner.specs.Said.{held_at, accepted_joiner, accepted_answer, live_said, missed_said}

-- ---- a packet that was read

-- what the joiner needs of it, from where its payload is
abbrev pub arrived_at : List ℕ → read.Arrived → Arrived Known
arrived_at packet a =
    record { source = a.source; number = a.number; known = known a.time (part packet a.place a.len) }

module _ (packet : List ℕ) where
  pub came : (a : read.Arrived) → arrival_of (read_packet packet) ≡ says a → arrived_in packet (read_packet packet) ≡ says (arrived_at packet a)
  came a e =
      let c = came_from (read_packet packet) a e in
      ap (arrived_in packet) c.1 ∙ sym (ap (λ (b : read.Arrived). says (arrived_at packet b)) c.2)

  pub came_not : (n : Refusal) → arrival_of (read_packet packet) ≡ refused n → arrived_in packet (read_packet packet) ≡ refused n
  came_not n e = ap (arrived_in packet) (came_refused (read_packet packet) n e)

-- ---- the payload's fate

-- put into the record and the answer
abbrev pub stepped : Joiner → ℕ → ℕ → ℕ → Laid (RanOn (Option Run)) → Stepped
stepped j number missed d l =
    record {
      joiner = accepted_joiner j number missed l.answer;
      answer = accepted_answer j d l.answer;
      gather = l.gather;
      out = l.out;
    }

module _ (j : Joiner) (d number : ℕ) (gather out : List ℕ) where
  fed_is : (x : Said (Does Note)) →
      as_step (fed_to (choice_of j) (kept_of j) d number gather out x) ≡ stepped j number (j.missed + d) d (lay_does (avc_of j) gather out x)
  fed_is (refused r) = refl
  fed_is (says x) =
      let l : Laid ℕ = lay_both (avc_of j) gather out (step.fed_by x).kept (step.fed_by x).handed in
      go (step.fed_by x).run l l.answer
    where
      go : (run : step.Run Note) (l : Laid ℕ) (a : Said ℕ) →
          as_step (laid_by (choice_of j) (kept_of j) d number run l a)
          ≡ stepped j number (j.missed + d) d (record { answer = with_run (recorded run) a; gather = l.gather; out = l.out })
      go none l (says n) = refl
      go (step.gathering note bytes) l (says n) = refl
      go run l (refused r) = refl

  pub checked_is : (time : ℕ) (x : Said Content) →
      as_step (by_check (choice_of j) (kept_of j) d number gather out (timed time x))
      ≡ stepped j number (j.missed + d) d (lay_does (avc_of j) gather out (fed_after (run_at (choice_of j) (kept_of j) d gather) time x))
  checked_is time (refused r) = refl
  checked_is time (says x) = fed_is (fed (run_at (choice_of j) (kept_of j) d gather) time x)

-- ---- the run that is open

pub held_is : (j : Joiner) (d : ℕ) (gather : List ℕ) → feed.run_of (held_at j d) gather ≡ run_at (choice_of j) (kept_of j) d gather
held_is j d gather = go (eqb d 0) j.running
  where
    go : (b running : Bool) →
        feed.run_of (cond b (run_from (record { running = running; gathered = j.gathered; note = (kept_of j).run.note })) None) gather
        ≡ cond b (run_of (record { running = running; gathered = j.gathered; note = (kept_of j).run.note }) gather) none
    go true true = refl
    go true false = refl
    go false running = refl

pub held_le : (j : Joiner) (d : ℕ) → (held_in (held_at j d)).gathered ≤ j.gathered
held_le j d = go (eqb d 0) j.running
  where
    go : (b running : Bool) →
        (held_in (cond b (run_from (record { running = running; gathered = j.gathered; note = (kept_of j).run.note })) None)).gathered ≤ j.gathered
    go true true = omega arith
    go true false = omega arith
    go false running = omega arith

-- ---- the record by itself

-- a test that refuses by a number
test_refused : {A : Type 0} (b : Bool) (n : ℕ) (x : A) {r : Refusal} → refused r ≡ cond b (refuse n) (says x) → (r ≡ record { number = n; carried = [] }) × (b ≡ true)
test_refused true n x e = (cc, refl)
test_refused false n x e = absurd (not_says e)

test_says : {A : Type 0} (b : Bool) (n : ℕ) (x : A) {m : A} → says m ≡ cond b (refuse n) (says x) → (m ≡ x) × (b ≡ false)
test_says {A} true n x e = absurd (not_says {A = A} {r = record { number = n; carried = [] }} (sym e))
test_says false n x {m} e = (same_answer _ m x (sym e) refl, refl)

-- 24, and what is missed where it is not
pub full : (j : Joiner) (d : ℕ) {r : Refusal} → refused r ≡ missed_said j d → (r ≡ record { number = 24; carried = [] }) × (4294967295 < j.missed + d)
full j d e = let t = test_refused (ltb 4294967295 (j.missed + d)) 24 (j.missed + d) e in (t.0, ltb-true 4294967295 (j.missed + d) t.1)

pub not_full : (j : Joiner) (d : ℕ) {m : ℕ} → says m ≡ missed_said j d → (m ≡ j.missed + d) × (j.missed + d ≤ 4294967295)
not_full j d e = let t = test_says (ltb 4294967295 (j.missed + d)) 24 (j.missed + d) e in (t.0, ltb-false 4294967295 (j.missed + d) t.1)

module _ (j : Joiner) where
  abbrev off : Bool
  off = wrong (choice_of j) (kept_of j).run

  abbrev live_by : (shut off : Bool) → Said (Unit {0})
  live_by shut off = cond shut (refuse 22) (cond off (refuse 8) (says tt))

  -- neither closed nor wrong
  pub is_live : {u : Unit {0}} → says u ≡ live_said j → (j.closed ≡ false) × InDomain (choice_of j) (kept_of j).run
  is_live {u} e = go j.closed off refl refl (e ∙ refl)
    where
      go : (shut wrong : Bool) → j.closed ≡ shut → off ≡ wrong → says u ≡ live_by shut wrong → (j.closed ≡ false) × InDomain (choice_of j) (kept_of j).run
      go true w f g e = absurd (not_says {A = Unit {0}} {r = record { number = 22; carried = [] }} (sym e))
      go false true f g e = absurd (not_says {A = Unit {0}} {r = record { number = 8; carried = [] }} (sym e))
      go false false f g e = (f, in_domain (choice_of j) (kept_of j).run g)

  -- what every call answers where it is one of them
  pub not_live : {r : Refusal} → refused r ≡ live_said j →
      ((packet gather out : List ℕ) → join_step j packet gather out ≡ record { joiner = j; answer = refused r; gather = gather; out = out })
      × ((number : ℕ) → close_step j number ≡ record { joiner = j; answer = refused r })
  unfolding join_step close_step
  not_live {r} e = go j.closed off refl refl e
    where
      go : (shut wrong : Bool) → j.closed ≡ shut → off ≡ wrong → refused r ≡ live_by shut wrong →
          ((packet gather out : List ℕ) → join_step j packet gather out ≡ record { joiner = j; answer = refused r; gather = gather; out = out })
          × ((number : ℕ) → close_step j number ≡ record { joiner = j; answer = refused r })
      go true w f g e =
          let same : ◌≡◌ {A = Refusal} r (record { number = 22; carried = [] }) = cc in (
            λ packet gather out. ap as_step (step_closed (choice_of j) (kept_of j) packet gather out f) ∙ rw same,
            λ number. ap as_closing (close_closed (choice_of j) (kept_of j) number f) ∙ rw same,
          )
      go false true f g e =
          let same : ◌≡◌ {A = Refusal} r (record { number = 8; carried = [] }) = cc in (
            λ packet gather out. ap as_step (step_outside (choice_of j) (kept_of j) packet gather out f (λ o. never g o.domain)) ∙ rw same,
            λ number. ap as_closing (close_outside (choice_of j) (kept_of j) number f (never g)) ∙ rw same,
          )
        where
          never : off ≡ true → InDomain (choice_of j) (kept_of j).run → ⊥
          never g d = true≢false (sym g ∙ domain_right (choice_of j) (kept_of j).run d)
      go false false f g e = absurd (not_says e)
