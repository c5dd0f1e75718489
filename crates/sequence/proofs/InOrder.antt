-- Packets that arrive in order, each once, are within the window and all accepted, however many there are. Assumes nothing.
use Rattle.std.proofs.Common.{◌≡◌, ℕ, zero, suc, ◌+◌, ◌<◌, ◌≤◌, Bool, true, cond, ◌&&◌, ◌||◌, eqb, List, [], ◌∷◌, sym, refl, ap, ◌∙◌, subst, ap₂, lt_of_not-le, arith, eq-eqb, le-leb}
use mathlib.Core.Bool.{or-true}
use native.Mathlib.Decide.{dec_le}
use Rattle.sequence.specs.Arrival.{Arrival, ours, above_all, accepted_among, accepted, raised, Window, never}
use Rattle.sequence.proofs.Accepting.{Tops, tops_none, tops_ours}

-- n packets from index i on
abbrev pub in_order : {B : Type 0} → ℕ → ℕ → List (Arrival B)
in_order i zero = []
in_order i (suc n) = ours i ∷ in_order (suc i) n

module _ (B : Type 0) where
  raised_one : (i : ℕ) → raised i i ≡ suc i
  raised_one i = rw (le-leb i i (omega arith))

  within : (n i all : ℕ) → i + n ≡ all → Window {B = B} all i (in_order i n)
  within zero i all e = record { high = omega arith }
  within (suc n) i all e = (
    omega arith,
    record { low = omega arith; high = omega arith },
    subst (λ (m : ℕ). Window {B = B} all m (in_order (suc i) n)) (sym (raised_one i)) (within n (suc i) all (omega arith)),
  )

  pub in_order_within : (n : ℕ) → Window {B = B} n 0 (in_order 0 n)
  in_order_within n = within n 0 n (omega arith)

  all_accepted : (n i : ℕ) (before : List (Arrival B)) → Tops i before → (j : ℕ) → i ≤ j → j < i + n →
      accepted_among before (in_order i n) j ≡ true
  all_accepted zero i before tops j h k = absurd (omega arith)
  all_accepted (suc n) i before tops j h k =
      elim (dec_le j i) [
        | yes same ↦
            let here : i ≡ j = omega arith in
            ap₂ (λ (x y : Bool). (x && y) || accepted_among (ours i ∷ before) (in_order (suc i) n) j)
            (tops i ∙ le-leb i i (omega arith)) (eq-eqb i j here)
        | no more ↦
            ap (λ (b : Bool). (above_all i before && eqb i j) || b)
            (all_accepted n (suc i) (ours i ∷ before) (subst (λ (m : ℕ). Tops m (ours i ∷ before)) (raised_one i) (tops_ours i i before tops)) j
            (lt_of_not-le more) (omega arith))
            ∙ or-true (above_all i before && eqb i j)
      ]

none_never : (came : ℕ → Bool) (n i : ℕ) → ((j : ℕ) → i ≤ j → j < i + n → came j ≡ true) → never came i n ≡ 0
none_never came zero i h = refl
none_never came (suc n) i h =
    ap₂ (λ (b : Bool) (m : ℕ). cond b 0 1 + m) (h i (omega arith) (omega arith))
    (none_never came n (suc i) (λ j a b. h j (omega arith) (omega arith)))

pub in_order_accepted : (B : Type 0) (n : ℕ) → never (accepted {B = B} (in_order 0 n)) 0 n ≡ 0
in_order_accepted B n = none_never (accepted {B = B} (in_order 0 n)) n 0 (λ j a b. all_accepted B n 0 [] (tops_none B) j a b)
