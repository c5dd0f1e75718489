-- How the staged step and closing go on, from the facts that decide their tests. Assumes nothing.
use mathlib.Core.Path.{◌≡◌, refl, sym, ap, ap₂, ◌∙◌}
use mathlib.Core.Bool.{Bool, true, false, cond, ◌||◌, not, true≢false}
use mathlib.Core.List.{List}
use Prim.Native.Nat.{ℕ, ◌+◌, ◌≤◌, ◌<◌}
use lib.Dec.{ltb, eqb}
use lib.ListN.{length}
use borrow.Author.Tests.{ltb-false, lt-ltb, le-ltb, le-leb, lt-leb, eq-eqb, ne_eqb, eqb-true}
use Rattle.error.specs.Said.{says, refuse}
use Rattle.sequence.specs.Number.{distance_of}
use Rattle.joiner_step.specs.Run.{Held}
use Rattle.joiner_step.specs.Choice.{Arrived, Choice}
use Rattle.joiner_step.specs.Step.{Kept, Stepped, unchanged, late, stray, wrong, outside, by_check, by_distance, by_source, by_reading, step, ClosingStepped, still_open, shut, close_by, closing}
use Rattle.joiner_step.specs.Paragraph.{InDomain, Open}
use Rattle.wire.proofs.Bools.{or_false_left, or_false_right}

-- ---- the domain

module _ {P C N : Type 0} (c : Choice P C N) (h : Held N) where
  abbrev says_more : Bool
  says_more = not (eqb h.gathered 0) || c.noted h.note

  pub in_domain : wrong c h ≡ false → InDomain c h
  in_domain e =
      record {
        few = ltb-false 16777215 h.gathered (or_false_left (ltb 16777215 h.gathered) (stray c h) e);
        sure = λ off. nothing_more (sym (ap (λ (b : Bool). cond b false says_more) off) ∙ or_false_right (ltb 16777215 h.gathered) (stray c h) e);
      }
    where
      not_false : (b : Bool) → not b ≡ false → b ≡ true
      not_false true e = refl
      not_false false e = sym e

      nothing_more : says_more ≡ false → (h.gathered ≡ 0) × (c.noted h.note ≡ false)
      nothing_more e = (
        eqb-true h.gathered 0 (not_false (eqb h.gathered 0) (or_false_left (not (eqb h.gathered 0)) (c.noted h.note) e)),
        or_false_right (not (eqb h.gathered 0)) (c.noted h.note) e,
      )

  pub domain_right : InDomain c h → wrong c h ≡ false
  domain_right d = rw (le-ltb 16777215 h.gathered d.few) (go h.running d.sure)
    where
      go : (running : Bool) → (running ≡ false → (h.gathered ≡ 0) × (c.noted h.note ≡ false)) → cond running false says_more ≡ false
      go true sure = refl
      go false sure =
          let e = sure refl in
          ap₂ (λ (a b : Bool). not a || b) (eq-eqb h.gathered 0 e.0) e.1

  pub domain_by : h.gathered ≤ 16777215 → stray c h ≡ false → InDomain c h
  domain_by few e = in_domain (ap₂ (λ (a b : Bool). a || b) (le-ltb 16777215 h.gathered few) e)

  pub strays_out : stray c h ≡ true → InDomain c h → ⊥
  strays_out e d = true≢false (sym e ∙ or_false_right (ltb 16777215 h.gathered) (stray c h) (domain_right d))

-- ---- 22, 8

module _ {P C N : Type 0} (c : Choice P C N) (j : Kept N) (packet gather out : List ℕ) where
  abbrev tested : Bool → Bool → Stepped (Kept N)
  tested shut off =
      cond shut (unchanged j gather out (refuse 22)) (cond off (unchanged j gather out (refuse 8)) (by_reading c j gather out (c.reads packet)))

  on : (shut off : Bool) → j.closed ≡ shut → outside c j.run gather ≡ off → step c j packet gather out ≡ tested shut off
  unfolding step
  on shut off a b = ap₂ tested a b

  pub step_closed : j.closed ≡ true → step c j packet gather out ≡ unchanged j gather out (refuse 22)
  step_closed e = on true (outside c j.run gather) e refl

  pub step_outside : j.closed ≡ false → (Open c j packet gather out → ⊥) → step c j packet gather out ≡ unchanged j gather out (refuse 8)
  step_outside e never = go (outside c j.run gather) refl
    where
      go : (off : Bool) → outside c j.run gather ≡ off → step c j packet gather out ≡ unchanged j gather out (refuse 8)
      go true is = on false true e is
      go false is =
          absurd
          (never
          (record {
            not_closed = e;
            domain = in_domain c j.run (or_false_right (ltb (length gather) j.run.gathered) (wrong c j.run) is);
            lies = ltb-false (length gather) j.run.gathered (or_false_left (ltb (length gather) j.run.gathered) (wrong c j.run) is);
          }))

  pub step_reads : Open c j packet gather out → step c j packet gather out ≡ by_reading c j gather out (c.reads packet)
  step_reads o =
      on false false o.not_closed
      (rw (le-ltb (length gather) j.run.gathered o.lies) (domain_right c j.run o.domain))

-- ---- 20, Late, 24

module _ {P C N : Type 0} (c : Choice P C N) (j : Kept N) (gather out : List ℕ) where
  pub source_own : (a : Arrived P) → a.source ≡ j.source →
      by_source c j a gather out ≡ by_distance c j (distance_of a.number j.awaited) a.number a.known gather out
  unfolding by_source
  source_own a e = rw (eq-eqb a.source j.source e)

  pub source_other : (a : Arrived P) → (a.source ≡ j.source → ⊥) → by_source c j a gather out ≡ unchanged j gather out (refuse 20)
  unfolding by_source
  source_other a e = rw (ne_eqb a.source j.source e)

  module _ (d number : ℕ) (p : P) where
    pub distance_late : 32768 ≤ d → by_distance c j d number p gather out ≡ unchanged j gather out (says late)
    distance_late h = rw (le-leb 32768 d h)

    pub distance_full : d < 32768 → 4294967295 < j.missed + d → by_distance c j d number p gather out ≡ unchanged j gather out (refuse 24)
    distance_full h g = rw (lt-leb 32768 d h, lt-ltb 4294967295 (j.missed + d) g)

    pub distance_near : d < 32768 → j.missed + d ≤ 4294967295 →
        by_distance c j d number p gather out ≡ by_check c j d number gather out (c.check p)
    distance_near h g = rw (lt-leb 32768 d h, le-ltb 4294967295 (j.missed + d) g)

-- ---- closing

module _ {P C N : Type 0} (c : Choice P C N) (j : Kept N) where
  abbrev close_tested : ℕ → Bool → Bool → ClosingStepped (Kept N)
  close_tested number closed off = cond closed (still_open j 22) (cond off (still_open j 8) (close_by c j (distance_of number j.awaited)))

  close_on : (number : ℕ) (closed off : Bool) → j.closed ≡ closed → wrong c j.run ≡ off → closing c j number ≡ close_tested number closed off
  unfolding closing
  close_on number closed off a b = ap₂ (close_tested number) a b

  pub close_closed : (number : ℕ) → j.closed ≡ true → closing c j number ≡ still_open j 22
  close_closed number e = close_on number true (wrong c j.run) e refl

  pub close_outside : (number : ℕ) → j.closed ≡ false → (InDomain c j.run → ⊥) → closing c j number ≡ still_open j 8
  close_outside number e never = go (wrong c j.run) refl
    where
      go : (off : Bool) → wrong c j.run ≡ off → closing c j number ≡ still_open j 8
      go true is = close_on number false true e is
      go false is = absurd (never (in_domain c j.run is))

  pub close_open : (number : ℕ) → j.closed ≡ false → InDomain c j.run → closing c j number ≡ close_by c j (distance_of number j.awaited)
  close_open number e d = close_on number false false e (domain_right c j.run d)

  module _ (d : ℕ) where
    pub close_far : 32768 ≤ d → close_by c j d ≡ still_open j 23
    close_far h = rw (le-leb 32768 d h)

    pub close_full : d < 32768 → 4294967295 < j.missed + d → close_by c j d ≡ still_open j 24
    close_full h g = rw (lt-leb 32768 d h, lt-ltb 4294967295 (j.missed + d) g)

    pub close_shut : d < 32768 → j.missed + d ≤ 4294967295 →
        close_by c j d ≡ record { joiner = shut c j d; answer = says (record { first = j.awaited; count = d; bytes = 0 }) }
    close_shut h g = rw (lt-leb 32768 d h, le-ltb 4294967295 (j.missed + d) g)
