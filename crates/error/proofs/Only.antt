-- No second answer: one law for each way in which the contracts are put. Every public call's own theorem cites one of them.
-- Assumes nothing.
use mathlib.Core.Path.{◌≡◌, refl, sym, ap, ◌∙◌}
use mathlib.Core.Bool.{Bool, true, false, cond}
use Prim.Native.Nat.{ℕ}
use Rattle.std.specs.Prelude.{Result}
use Rattle.error.specs.declared.Error.{Error}
use Rattle.error.specs.Refusal.{Refusal, number_of, refusal_of}
use Rattle.error.specs.Said.{Said, says, refused, said}
use Rattle.error.specs.Only.{Determined}
use Rattle.error.proofs.Inverse.{error_of, unsaid, unsaid_said}

-- the contract is an equation of the answer itself
pub by_value {ℓ} : {A : Type ℓ} (a : A) → Determined (λ (r : A). r ≡ a)
by_value a = record { answer = a; holds = refl; only = λ r e. e }

-- the contract is an equation of what the answer says, by a map that has an inverse
pub by_view {ℓ κ} : {A : Type ℓ} {S : Type κ} (view : A → S) (back : S → A) → ((a : A) → back (view a) ≡ a) →
    (a : A) (v : S) → view a ≡ v → Determined (λ (r : A). view r ≡ v)
by_view view back inverse a v e =
    record { answer = a; holds = e; only = λ r q. sym (inverse r) ∙ ap back (q ∙ sym e) ∙ inverse a }

-- the contract is one of the result beside one of a buffer at exit
pub by_both {ℓ κ ℓ' κ'} : {A : Type ℓ} {B : Type κ} {C : A → Type ℓ'} {D : B → Type κ'} → Determined C → Determined D →
    Determined (λ (r : A × B). C r.0 × D r.1)
by_both c d =
    record {
      answer = (c.answer, d.answer);
      holds = (c.holds, d.holds);
      only = λ r q i. (c.only r.0 q.0 i, d.only r.1 q.1 i);
    }

-- ---- what an answer can say

-- a refusal as `Error` has it
abbrev pub spoken : {A : Type 0} → Said A → Said A
spoken (says x) = says x
spoken (refused r) = refused (refusal_of (error_of r))

-- some answer says this: its refusal, if it is one, is one of `Error`
abbrev pub Sayable : {A : Type 0} → Said A → Type 0
Sayable x = spoken x ≡ x

pub either_sayable : {A : Type 0} {x y : Said A} (b : Bool) → Sayable x → Sayable y → Sayable (cond b x y)
either_sayable true p q = p
either_sayable false p q = q

pub known : {A : Type 0} {r : Refusal} → Sayable {A = A} (refused r) → refusal_of (error_of r) ≡ r
known e = cc

-- a refusal that is passed on
pub passed : {A B : Type 0} {r : Refusal} → Sayable {A = A} (refused r) → Sayable {A = B} (refused r)
passed {A} {B} {r} e = ap refused (known {A = A} {r = r} e)

-- a result says again what it was taken from
pub said_unsaid : {A : Type 0} (x : Said A) → said (unsaid x) ≡ spoken x
said_unsaid (says x) = refl
said_unsaid (refused r) = refl

-- the contract is an equation of what the result says
pub by_said : {A : Type 0} (x : Said A) → Sayable x → Determined (λ (r : Result A Error). said r ≡ x)
by_said x s = by_view said unsaid unsaid_said (unsaid x) x (said_unsaid x ∙ s)

-- the same of what two outcomes say
pub tested : {L A : Type 0} (said : L → Said A) (x y : L) (b : Bool) → Sayable (said x) → Sayable (said y) → Sayable (said (cond b x y))
tested said x y true p q = p
tested said x y false p q = q

-- ---- this crate's own call

pub number_only : (e : Error) → Determined (λ (n : ℕ). n ≡ number_of e)
number_only e = by_value (number_of e)
