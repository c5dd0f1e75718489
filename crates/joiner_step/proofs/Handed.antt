-- A call hands out no more than its packet and the run make together. Assumes nothing.
use mathlib.Core.Path.{◌≡◌, refl, subst⁻¹}
use mathlib.Core.List.{List}
use Prim.Native.Nat.{ℕ, ◌≤◌}
use native.Mathlib.Omega.{arith}
use lib.ListN.{length}
use Rattle.error.specs.Said.{Said, says, refused}
use Rattle.error.proofs.Refusing.{not_says}
use Rattle.nal.specs.Fed.{Laid, prefixed, lay_both}
use Rattle.nal.proofs.Handing.{both_says}
use Rattle.joiner_step.specs.Run.{Run, Does, fed_by}
use Rattle.joiner_step.specs.Choice.{Arrived, Choice}
use Rattle.joiner_step.specs.Step.{Kept, Accepted, accepted, late, Stepped, laid_by, step}
use Rattle.joiner_step.proofs.Cases.{step_cases}

module _ {P C N : Type 0} (c : Choice P C N) (most : ℕ) where
  -- whatever the run, the units that a packet makes of it take at most so many bytes behind their prefixes, where what is gathered is not too long
  abbrev pub Few : Type 0
  Few = (packet : List ℕ) (a : Arrived P) → c.reads packet ≡ says a → (x : C) → c.check a.known ≡ says x → (run : Run N) (y : Does N) →
      c.feed run x ≡ says y → length (fed_by y).kept ≤ 16777215 → length (prefixed c.avc (fed_by y).handed) ≤ most

  abbrev AtMost : Stepped (Kept N) → Type 0
  AtMost st = (a : Accepted) → st.answer ≡ says (accepted a) → a.bytes ≤ most

  late_not_accepted : {a : Accepted} → says late ≡ says (accepted a) → ⊥
  late_not_accepted e = let z : ◌≡◌ {A = ℕ} 0 1 = cc in omega arith

  pub step_few : Few → (j : Kept N) (packet gather out : List ℕ) → AtMost (step c j packet gather out)
  step_few few j packet gather out =
      step_cases c AtMost j packet gather out
      (record {
        closed = λ a e. absurd (not_says e);
        outside = λ a e. absurd (not_says e);
        foreign = λ a e. absurd (not_says e);
        behind = λ a e. absurd (late_not_accepted e);
        full = λ a e. absurd (not_says e);
        unread = λ r is a e. absurd (not_says e);
        bad = λ b is r isnt a e. absurd (not_says e);
        unfit = λ run x r isnt a e. absurd (not_says e);
        fed =
            λ b is x passes run y does d. laid_few b.number d y (lay_both c.avc gather out (fed_by y).kept (fed_by y).handed) _
            (λ n e. let s = both_says c.avc gather out (fed_by y).kept (fed_by y).handed n e in
            subst⁻¹ (λ (k : ℕ). k ≤ most) s.0 (few packet b is x passes run y does s.1));
      })
    where
      laid_few : (number d : ℕ) (y : Does N) (l : Laid ℕ) (a : Said ℕ) → ((n : ℕ) → a ≡ says n → n ≤ most) → AtMost (laid_by c j d number (fed_by y).run l a)
      laid_few number d y l (refused r) h a e = absurd (not_says e)
      laid_few number d y l (says n) h a e = let same : n ≡ a.bytes = cc in omega (arith, h n refl)
