-- The paper's sentence on what is accepted, of the calls themselves: part (a) of demand 3 says which calls accept, and a call's place tells what
-- arrived before it. Assumes nothing.
use mathlib.Core.Path.{◌≡◌, refl, ap, sym, ◌∙◌}
use mathlib.Core.Bool.{Bool, true, false}
use mathlib.Core.List.{List, [], ◌∷◌, ◌++◌, map}
use mathlib.Core.Logic.{◌⊎◌, inl, inr, ◌↔◌}
use Prim.Native.Nat.{ℕ, ◌<◌}
use lib.ListN.{length, get_or}
use Rattle.sequence.specs.Arrival.{Arrival, ours, other, is_accepted, accepted_calls}
use Rattle.sequence.proofs.Accepting.{Arrived, accepted_sentence}
use Rattle.joiner_step.specs.Play as play
use Rattle.joiner.specs.Join.{Stepped}
use Rattle.delivery.specs.Show.{Show}
use Rattle.delivery.specs.Play.{Machine, played}
use Rattle.delivery.specs.Demand.{Delivered}

module _ {B : Type 0} where
  -- the arrivals `before`, the last of them first, in front of those that came earlier
  onto : List (Arrival B) → List (Arrival B) → List (Arrival B)
  onto [] earlier = earlier
  onto (a ∷ before) earlier = onto before (a ∷ earlier)

  call_at : (earlier before later : List (Arrival B)) (a : Arrival B) →
      get_or (accepted_calls earlier (before ++ (a ∷ later))) (length before) false ≡ is_accepted (onto before earlier) a
  unfolding onto
  call_at earlier [] later a = refl
  call_at earlier (b ∷ before) later a = call_at (b ∷ earlier) before later a

  arrived_onto : (j : ℕ) (before earlier : List (Arrival B)) → Arrived j before ⊎ Arrived j earlier → Arrived j (onto before earlier)
  unfolding onto
  arrived_onto j [] earlier (inl h) = elim h [ ]
  arrived_onto j [] earlier (inr h) = h
  arrived_onto j (ours i ∷ before) earlier (inl (inl e)) = arrived_onto j before (ours i ∷ earlier) (inr (inl e))
  arrived_onto j (ours i ∷ before) earlier (inl (inr h)) = arrived_onto j before (ours i ∷ earlier) (inl h)
  arrived_onto j (ours i ∷ before) earlier (inr h) = arrived_onto j before (ours i ∷ earlier) (inr (inr h))
  arrived_onto j (other b ∷ before) earlier (inl h) = arrived_onto j before (other b ∷ earlier) (inl h)
  arrived_onto j (other b ∷ before) earlier (inr h) = arrived_onto j before (other b ∷ earlier) (inr h)

  onto_arrived : (j : ℕ) (before earlier : List (Arrival B)) → Arrived j (onto before earlier) → Arrived j before ⊎ Arrived j earlier
  unfolding onto
  onto_arrived j [] earlier h = inr h
  onto_arrived j (ours i ∷ before) earlier h = by (onto_arrived j before (ours i ∷ earlier) h)
    where
      by : Arrived j before ⊎ ((j ≡ i) ⊎ Arrived j earlier) → ((j ≡ i) ⊎ Arrived j before) ⊎ Arrived j earlier
      by (inl h) = inl (inr h)
      by (inr (inl e)) = inl (inl e)
      by (inr (inr h)) = inr h
  onto_arrived j (other b ∷ before) earlier h = onto_arrived j before (other b ∷ earlier) h

-- the call for an arrival of ours accepts exactly when the index is above every index that arrived before
pub accepted_exactly : (avc : Bool) (m : Machine) (w : Show) → Delivered avc m w → (before later : List (Arrival (List ℕ))) (i : ℕ) → w.arrivals ≡ before ++ (ours i ∷ later) →
    (get_or (map (λ (st : Stepped). play.is_accepted st.answer) (played m w)) (length before) false ≡ true) ↔ ((j : ℕ) → Arrived j before → j < i)
accepted_exactly avc m w d before later i e = (above, accepts)
  where
    told : get_or (map (λ (st : Stepped). play.is_accepted st.answer) (played m w)) (length before) false ≡ is_accepted (onto before []) (ours i)
    told =
        ap (λ (l : List Bool). get_or l (length before) false) (d.accepts ∙ ap (accepted_calls []) e) ∙ call_at [] before later (ours i)

    before_only : (j : ℕ) → Arrived j before ⊎ ⊥ → Arrived j before
    before_only j (inl h) = h
    before_only j (inr none) = elim none [ ]

    above : get_or (map (λ (st : Stepped). play.is_accepted st.answer) (played m w)) (length before) false ≡ true → (j : ℕ) → Arrived j before → j < i
    above t j h = (accepted_sentence i (onto before [])).0 (sym told ∙ t) j (arrived_onto j before [] (inl h))

    accepts : ((j : ℕ) → Arrived j before → j < i) → get_or (map (λ (st : Stepped). play.is_accepted st.answer) (played m w)) (length before) false ≡ true
    accepts h = told ∙ (accepted_sentence i (onto before [])).1 (λ j g. h j (before_only j (onto_arrived j before [] g)))
