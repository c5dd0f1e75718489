-- This joiner is the joiner of the choice that it was opened with, and so one of those of any rule, reader and codec: its calls are that
-- joiner's, through the record. Assumes nothing.
use mathlib.Core.Path.{◌≡◌, refl, sym, ap, subst, ◌∙◌}
use mathlib.Core.Bool.{Bool, true}
use mathlib.Core.List.{List, []}
use Prim.Native.Nat.{ℕ}
use native.Mathlib.Omega.{arith}
use lib.ListN.{length}
use Rattle.error.specs.Refusal.{Refusal}
use Rattle.error.specs.Said.{Said, says, refused}
use Rattle.error.proofs.Refusing.{not_says}
use Rattle.sequence.specs.Rule.{plain}
use Rattle.sequence.specs.Joiner.{State, call, close, Shut, not_shut, shut}
use Rattle.joiner_step.specs.Run.{Units, Run}
use Rattle.joiner_step.specs.Step.{Accepted, step, closing}
use Rattle.joiner_step.specs.General as any
use Rattle.joiner_step.specs.General.{parts, closing_said}
use Rattle.joiner_step.proofs.Playing.{Stands}
use Rattle.joiner_step.proofs.Sayable.{closing_cases}
use Rattle.joiner_step.proofs.Main.{Ready}
use Rattle.joiner_step.proofs.Main as any-main
use Rattle.joiner_feed.specs.Content.{Note}
use Rattle.joiner.specs.declared.Joiner.{Joiner}
use Rattle.joiner.specs.Join.{kept_of, ClosingStepped, as_step, as_closing, Known, choice, avc_of, choice_of, join_step, close_step}

-- the state that a record and the gather buffer stand for
abbrev pub standing : Joiner → List ℕ → State ℕ (Run Note)
standing j gather = any.standing (kept_of j) gather

-- closing, as that of the other joiner is seen
abbrev pub closing_seen : ClosingStepped → Shut Refusal Units
closing_seen st = closing_said st.answer st.joiner.missed

module _ (avc : Bool) (source : ℕ) where
  -- a record between the calls: opened with this prefix for this source, and ready
  pub record Good (j : Joiner) (gather : List ℕ) : Type 0 where
    pub prefix : avc_of j ≡ avc
    pub ready : Ready (choice avc) source (kept_of j) gather

  -- a call of this joiner is a call of that one
  pub one_call : (j : Joiner) (packet gather out : List ℕ) → Good j gather →
      Stands (parts (choice avc) (plain Known) source) avc standing Good (length gather) (join_step j packet gather out)
      (call (parts (choice avc) (plain Known) source) (record { gather = length gather; out = length out }) (standing j gather) packet)
  unfolding join_step
  one_call j packet gather out good =
      let s = any-main.one_call (choice avc) source (kept_of j) gather out good.ready packet in
      subst
      (λ (b : Bool). Stands (parts (choice avc) (plain Known) source) avc standing Good (length gather) (as_step (step (choice b) (kept_of j) packet gather out)) (call (parts (choice avc) (plain Known) source) (record { gather = length gather; out = length out }) (standing j gather) packet))
      (sym good.prefix)
      (record {
        state = s.state;
        answer = s.answer;
        good = record { prefix = good.prefix; ready = s.good };
        same_length = s.same_length;
      })

  -- closing this joiner is closing that one
  pub one_close : (j : Joiner) (gather out : List ℕ) → Good j gather → (number : ℕ) →
      closing_seen (close_step j number)
      ≡ close (parts (choice avc) (plain Known) source) (record { gather = length gather; out = length out }) (standing j gather) number
  unfolding close_step
  one_close j gather out good number =
      ap (λ (b : Bool). closing_seen (as_closing (closing (choice b) (kept_of j) number))) good.prefix
      ∙ any-main.one_close (choice avc) source (kept_of j) gather out good.ready number

-- a joiner that was not refused its closing is closed
pub closed_after : (j : Joiner) (number : ℕ) (a : Accepted) → (close_step j number).answer ≡ says a → (close_step j number).joiner.closed ≡ true
unfolding close_step
closed_after j number a =
    closing_cases (choice_of j) (λ st. st.answer ≡ says a → st.joiner.closed ≡ true) (kept_of j) number
    not_closed not_closed not_closed not_closed (λ d e. refl)
  where
    not_closed : {r : Refusal} → ◌≡◌ {A = Said Accepted} (refused r) (says a) → j.closed ≡ true
    not_closed e = absurd (not_says e)

-- what is seen of a closing that was not refused
pub shut_is : (st : ClosingStepped) (count total : ℕ) (out : List Units) → closing_seen st ≡ shut count total out →
    (a : Accepted) × (st.answer ≡ says a) × (st.joiner.missed ≡ total) × (out ≡ [])
shut_is st count total out e = go st.answer refl e
  where
    not_shut_lem : (r : Refusal) → not_shut r ≡ shut count total out → ⊥
    not_shut_lem r q = let z : ◌≡◌ {A = ℕ} 0 1 = cc in omega arith

    go : (x : Said Accepted) → st.answer ≡ x → closing_said x st.joiner.missed ≡ shut count total out →
        (a : Accepted) × (st.answer ≡ says a) × (st.joiner.missed ≡ total) × (out ≡ [])
    go (refused r) is q = absurd (not_shut_lem r q)
    go (says a) is q =
        let same : st.joiner.missed ≡ total = cc in
        let none : [] ≡ out = cc in
        (a, is, same, sym none)
