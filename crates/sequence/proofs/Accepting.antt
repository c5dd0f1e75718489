-- What is above all indices so far is at or above one more than the largest of them, and what is not above them is not accepted
-- later either. Assumes nothing.
use Rattle.std.proofs.Common.{◌≡◌, ℕ, suc, ◌<◌, ◌≤◌, Bool, true, false, ◌&&◌, ◌||◌, eqb, ltb, leb, ◌⊎◌, ◌↔◌, List, [], ◌∷◌, sym, refl, ap, ◌∙◌, ap₂, inl, inr, lt_of_not-le, arith, ltb-true, le-ltb, lt-ltb, eqb-true, le-leb}
use mathlib.Core.Bool.{and-eq-true_iff}
use native.Mathlib.Decide.{dec_le}
use lib.Dec.{leb-zero}
use borrow.Author.Tests.{lt-leb}
use Rattle.sequence.specs.Arrival.{Arrival, ours, other, above_all, is_accepted, accepted_among, raised}

-- ---- the paper's sentence, as a statement on indices

module _ {B : Type 0} where
  -- the index j is among the arrivals
  abbrev pub Arrived : ℕ → List (Arrival B) → Type 0
  Arrived j [] = ⊥
  Arrived j (ours i ∷ before) = (j ≡ i) ⊎ Arrived j before
  Arrived j (other b ∷ before) = Arrived j before

  above_arrived : (i : ℕ) (before : List (Arrival B)) → above_all i before ≡ true → (j : ℕ) → Arrived j before → j < i
  above_arrived i [] e j there = elim there [ ]
  above_arrived i (ours k ∷ before) e j (inl same) =
      let k_below : k < i = ltb-true k i ((and-eq-true_iff (ltb k i) (above_all i before)).0 e).0 in omega arith
  above_arrived i (ours k ∷ before) e j (inr there) =
      above_arrived i before ((and-eq-true_iff (ltb k i) (above_all i before)).0 e).1 j there
  above_arrived i (other b ∷ before) e j there = above_arrived i before e j there

  arrived_above : (i : ℕ) (before : List (Arrival B)) → ((j : ℕ) → Arrived j before → j < i) → above_all i before ≡ true
  arrived_above i [] h = refl
  arrived_above i (ours k ∷ before) h =
      (and-eq-true_iff (ltb k i) (above_all i before)).1
      (lt-ltb k i (h k (inl refl)), arrived_above i before (λ j there. h j (inr there)))
  arrived_above i (other b ∷ before) h = arrived_above i before h

  -- "Under these premises a packet is accepted exactly when its index is above every index that arrived before it; this, read off the
  -- arrivals alone, is what demand 3 means by accepted." This is what the test says; that the joiner's calls go by it is part (a) of demand 3.
  pub accepted_sentence : (i : ℕ) (before : List (Arrival B)) →
      (is_accepted before (ours i) ≡ true) ↔ ((j : ℕ) → Arrived j before → j < i)
  accepted_sentence i before = (above_arrived i before, arrived_above i before)

-- ---- one more than the largest index so far

raised_same : (m i j : ℕ) → (ltb i j && leb m j) ≡ leb (raised m i) j
raised_same m i j = elim (dec_le m i) [ yes h ↦ up h | no h ↦ down (lt_of_not-le h) ]
  where
    up : m ≤ i → (ltb i j && leb m j) ≡ leb (raised m i) j
    up h =
        elim (dec_le (suc i) j) [
          | yes k ↦ rw (le-leb m i h, lt-ltb i j k, le-leb m j (omega arith))
          | no k ↦ rw (le-leb m i h, le-ltb i j (omega (arith, lt_of_not-le k)))
        ]

    down : i < m → (ltb i j && leb m j) ≡ leb (raised m i) j
    down h =
        elim (dec_le m j) [
          | yes k ↦ rw (lt-leb m i h, le-leb m j k, lt-ltb i j (omega arith))
          | no k ↦ rw (lt-leb m i h, lt-leb m j (lt_of_not-le k)) (and_no (ltb i j))
        ]
      where
        and_no : (t : Bool) → (t && false) ≡ false
        and_no true = refl
        and_no false = refl

pub tops_none : (B : Type 0) (i : ℕ) → above_all {B = B} i [] ≡ leb 0 i
tops_none B i = sym (leb-zero i)

module _ {B : Type 0} where
  -- m is "one more than the largest index arrived so far (0 at first)"
  abbrev pub Tops : ℕ → List (Arrival B) → Type 0
  Tops m before = (i : ℕ) → above_all i before ≡ leb m i

  pub tops_ours : (m i : ℕ) (before : List (Arrival B)) → Tops m before → Tops (raised m i) (ours i ∷ before)
  tops_ours m i before t j = ap (λ (b : Bool). ltb i j && b) (t j) ∙ raised_same m i j

  -- an index that is not above all so far is not accepted later
  pub not_later : (j : ℕ) (before later : List (Arrival B)) → above_all j before ≡ false → accepted_among before later j ≡ false
  not_later j before [] e = refl
  not_later j before (other b ∷ later) e = not_later j (other b ∷ before) later e
  not_later j before (ours i ∷ later) e =
      ap₂ (λ (x y : Bool). x || y) (not_this (eqb i j) refl) (not_later j (ours i ∷ before) later (still (ltb i j)))
    where
      still : (t : Bool) → (t && above_all j before) ≡ false
      still true = e
      still false = refl

      not_this : (t : Bool) → eqb i j ≡ t → (above_all i before && t) ≡ false
      not_this true same = ap (λ (k : ℕ). above_all k before && true) (eqb-true i j same) ∙ ap (λ (b : Bool). b && true) e
      not_this false same = no_and (above_all i before)
        where
          no_and : (b : Bool) → (b && false) ≡ false
          no_and true = refl
          no_and false = refl
