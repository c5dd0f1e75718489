-- The staged step and closing are the paper's paragraph: each sentence's condition decides the tests before it and its own. Assumes nothing.
use mathlib.Core.Path.{◌≡◌, sym, ap, ◌∙◌}
use mathlib.Core.Bool.{Bool, cond}
use mathlib.Core.List.{List}
use mathlib.Core.Logic.{◌⊎◌}
use Prim.Native.Nat.{ℕ, ◌≤◌, ◌<◌}
use native.Mathlib.Decide.{dec_le}
use native.Mathlib.Nat.{lt_of_not-le}
use native.Mathlib.Omega.{arith}
use lib.ListN.{length}
use borrow.Author.Tests.{eq-eqb, ne_eqb}
use Rattle.error.specs.Said.{Said, says, refused, refuse}
use Rattle.nal.specs.Fed.{Laid, lay_both}
use Rattle.nal.proofs.Handing.{bytes_short, bytes_fit, both_long, both_by}
use Rattle.sequence.specs.Number.{distance_of}
use Rattle.joiner_step.specs.Run.{Run, none, Does, fed_by, run_of}
use Rattle.joiner_step.specs.Choice.{Arrived, Choice}
use Rattle.joiner_step.specs.Step.{Kept, unchanged, laid_by, fed_to, run_at, by_check, by_distance, by_reading, step, closing}
use Rattle.joiner_step.specs.Paragraph.{Open, Ours, distance, Ahead, Meets, Checked, Passed, Gathered, bytes_for, accepted_with, Paragraph, ClosingParagraph}
use Rattle.joiner_step.proofs.Stages.{step_closed, step_outside, step_reads, source_own, source_other, distance_late, distance_full, distance_near, close_closed, close_outside, close_open, close_far, close_full, close_shut}

module _ {P C N : Type 0} (c : Choice P C N) (j : Kept N) (packet gather out : List ℕ) where
  -- ---- the reader

  came : Open c j packet gather out → (x : Said (Arrived P)) → c.reads packet ≡ x → step c j packet gather out ≡ by_reading c j gather out x
  came o x e = step_reads c j packet gather out o ∙ ap (by_reading c j gather out) e

  own : (a : Arrived P) → Ours c j packet gather out a →
      step c j packet gather out ≡ by_distance c j (distance c j packet gather out a) a.number a.known gather out
  own a o = came o.opened (says a) o.read ∙ source_own c j gather out a o.own

  -- ---- the codec

  module _ (a : Arrived P) where
    abbrev d : ℕ
    d = distance c j packet gather out a

    checked : Ahead c j packet gather out a → (x : Said C) → c.check a.known ≡ x →
        step c j packet gather out ≡ by_check c j d a.number gather out x
    checked h x e =
        own a h.ours
        ∙ distance_near c j gather out d a.number a.known h.near h.room
        ∙ ap (by_check c j d a.number gather out) e

    -- the run that the packet meets
    run_met : (run : Run N) → Meets c j packet gather out a run → run_at c j d gather ≡ run
    run_met run m =
        elim (dec_le 1 d) [
          | yes h ↦ ap (λ (b : Bool). cond b (run_of j.run gather) none) (ne_eqb d 0 (λ e. omega arith)) ∙ sym (m.drops h)
          | no h ↦
              let e : d ≡ 0 = omega (arith, lt_of_not-le h) in
              ap (λ (b : Bool). cond b (run_of j.run gather) none) (eq-eqb d 0 e) ∙ sym (m.stays e)
        ]

    fed_as : (x : C) (run : Run N) → Checked c j packet gather out a x run → (y : Said (Does N)) → c.feed run x ≡ y →
        step c j packet gather out ≡ fed_to c j d a.number gather out y
    fed_as x run k y e =
        checked k.ahead (says x) k.checked
        ∙ ap (λ (r : Run N). fed_to c j d a.number gather out (c.feed r x)) (run_met run k.meets)
        ∙ ap (fed_to c j d a.number gather out) e

    module _ (x : Does N) where
      laid : Passed c j packet gather out a x → (l : Laid ℕ) → lay_both c.avc gather out (fed_by x).kept (fed_by x).handed ≡ l →
          step c j packet gather out ≡ laid_by c j d a.number (fed_by x).run l l.answer
      laid p l e =
          fed_as p.holds p.run p.checked (says x) p.fed
          ∙ ap (λ (m : Laid ℕ). laid_by c j d a.number (fed_by x).run m m.answer) e

      long : Passed c j packet gather out a x → (length gather < length (fed_by x).kept) ⊎ (16777215 < length (fed_by x).kept) →
          step c j packet gather out ≡ unchanged j gather out (refuse 6)
      long p h = laid p _ (both_long c.avc gather out (fed_by x).kept (fed_by x).handed h)

      small : Gathered c j packet gather out a x → length out < length (bytes_for c j packet gather out x) →
          step c j packet gather out ≡ unchanged j gather out (refuse 5)
      small g h =
          laid g.passed _
          (both_by c.avc gather out (fed_by x).kept (fed_by x).handed _ g.fits g.few (bytes_short out (bytes_for c j packet gather out x) h))

      accepts : Gathered c j packet gather out a x → length (bytes_for c j packet gather out x) ≤ length out →
          step c j packet gather out ≡ accepted_with c j packet gather out a x
      accepts g h =
          laid g.passed _
          (both_by c.avc gather out (fed_by x).kept (fed_by x).handed _ g.fits g.few (bytes_fit out (bytes_for c j packet gather out x) h))

  pub paper_step : Paragraph c j packet gather out (step c j packet gather out)
  paper_step =
      record {
        closed = step_closed c j packet gather out;
        outside = step_outside c j packet gather out;
        unread = λ o r e. came o (refused r) e;
        foreign = λ o a e other. came o (says a) e ∙ source_other c j gather out a other;
        behind = λ a o h. own a o ∙ distance_late c j gather out (d a) a.number a.known h;
        full = λ a o h g. own a o ∙ distance_full c j gather out (d a) a.number a.known h g;
        bad = λ a h r e. checked a h (refused r) e;
        unfit = λ a x run k r f. fed_as a x run k (refused r) f;
        long = long;
        small = small;
        accepts = accepts;
      }

pub paper_closing : {P C N : Type 0} (c : Choice P C N) (j : Kept N) (number : ℕ) → ClosingParagraph c j number (closing c j number)
paper_closing c j number =
    let d : ℕ = distance_of number j.awaited in
    record {
      closed = close_closed c j number;
      outside = close_outside c j number;
      far = λ e i h. close_open c j number e i ∙ close_far c j d h;
      full = λ e i h g. close_open c j number e i ∙ close_full c j d h g;
      ends = λ e i h g. close_open c j number e i ∙ close_shut c j d h g;
    }
