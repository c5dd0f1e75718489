-- Where each refusal of the reader and of the codec is one of `Error`, so is each refusal of a call, stage by stage. Assumes nothing.
use mathlib.Core.Path.{refl}
use mathlib.Core.Bool.{Bool, true, false, cond}
use mathlib.Core.List.{List}
use Prim.Native.Nat.{ℕ, ◌+◌}
use lib.Dec.{ltb, leb, eqb}
use Rattle.error.specs.Said.{Said, says, refused, refuse}
use Rattle.error.proofs.Only.{Sayable, passed, tested}
use Rattle.nal.specs.Fed.{Laid, lay_both}
use Rattle.nal.proofs.Sayable.{both_sayable}
use Rattle.sequence.specs.Number.{distance_of}
use Rattle.joiner_step.specs.Run.{Run, Does, fed_by}
use Rattle.joiner_step.specs.Choice.{Arrived, Choice}
use Rattle.joiner_step.specs.Step.{Kept, late, Stepped, unchanged, ClosingStepped, still_open, outside, wrong, laid_by, fed_to, run_at, by_check, by_distance, by_source, by_reading, step, shut, closing}

-- the reader's and the codec's refusals can be said
pub record Speaks {P C N : Type 0} (c : Choice P C N) : Type 0 where
  pub reads : (packet : List ℕ) → Sayable (c.reads packet)
  pub checks : (p : P) → Sayable (c.check p)
  pub feeds : (run : Run N) (x : C) → Sayable (c.feed run x)

module _ {P C N : Type 0} (c : Choice P C N) (speaks : Speaks c) (j : Kept N) (gather out : List ℕ) where
  abbrev Fine : Stepped (Kept N) → Type 0
  Fine st = Sayable st.answer

  both_fine : (x y : Stepped (Kept N)) (b : Bool) → Fine x → Fine y → Fine (cond b x y)
  both_fine = tested (λ (st : Stepped (Kept N)). st.answer)

  fed_fine : (d number : ℕ) (x : Said (Does N)) → Sayable x → Fine (fed_to c j d number gather out x)
  fed_fine d number (refused r) s = passed {A = Does N} {r = r} s
  fed_fine d number (says x) s =
      let l : Laid ℕ = lay_both c.avc gather out (fed_by x).kept (fed_by x).handed in
      go l l.answer (both_sayable c.avc gather out (fed_by x).kept (fed_by x).handed)
    where
      go : (l : Laid ℕ) (a : Said ℕ) → Sayable a → Fine (laid_by c j d number (fed_by x).run l a)
      go l (says n) s = refl
      go l (refused r) s = passed {A = ℕ} {r = r} s

  check_fine : (d number : ℕ) (x : Said C) → Sayable x → Fine (by_check c j d number gather out x)
  check_fine d number (refused r) s = passed {A = C} {r = r} s
  check_fine d number (says x) s = fed_fine d number (c.feed (run_at c j d gather) x) (speaks.feeds (run_at c j d gather) x)

  distance_fine : (d number : ℕ) (p : P) → Fine (by_distance c j d number p gather out)
  distance_fine d number p =
      let on : Stepped (Kept N) = by_check c j d number gather out (c.check p) in
      both_fine (unchanged j gather out (says late)) (cond (ltb 4294967295 (j.missed + d)) (unchanged j gather out (refuse 24)) on)
      (leb 32768 d) refl
      (both_fine (unchanged j gather out (refuse 24)) on (ltb 4294967295 (j.missed + d)) refl
      (check_fine d number (c.check p) (speaks.checks p)))

  reading_fine : (x : Said (Arrived P)) → Sayable x → Fine (by_reading c j gather out x)
  unfolding by_source
  reading_fine (refused r) s = passed {A = Arrived P} {r = r} s
  reading_fine (says a) s =
      let d : ℕ = distance_of a.number j.awaited in
      both_fine (by_distance c j d a.number a.known gather out) (unchanged j gather out (refuse 20))
      (eqb a.source j.source) (distance_fine d a.number a.known) refl

  pub step_sayable : (packet : List ℕ) → Sayable (step c j packet gather out).answer
  unfolding step
  step_sayable packet =
      let on : Stepped (Kept N) = by_reading c j gather out (c.reads packet) in
      both_fine (unchanged j gather out (refuse 22)) (cond (outside c j.run gather) (unchanged j gather out (refuse 8)) on)
      j.closed refl
      (both_fine (unchanged j gather out (refuse 8)) on (outside c j.run gather) refl (reading_fine (c.reads packet) (speaks.reads packet)))

-- what is so of each of the five outcomes is so of closing
pub closing_cases : {P C N : Type 0} (c : Choice P C N) (Q : ClosingStepped (Kept N) → Type 0) (j : Kept N) (number : ℕ) →
    Q (still_open j 22) → Q (still_open j 8) → Q (still_open j 23) → Q (still_open j 24) →
    ((d : ℕ) → Q (record { joiner = shut c j d; answer = says (record { first = j.awaited; count = d; bytes = 0 }) })) →
    Q (closing c j number)
unfolding closing
closing_cases {N = N} c Q j number closed outside far full ends =
    by_test j.closed closed
    (by_test (wrong c j.run) outside (by_test (leb 32768 d) far (by_test (ltb 4294967295 (j.missed + d)) full (ends d))))
  where
    d : ℕ
    d = distance_of number j.awaited

    by_test : {x y : ClosingStepped (Kept N)} (b : Bool) → Q x → Q y → Q (cond b x y)
    by_test true p q = p
    by_test false p q = q
