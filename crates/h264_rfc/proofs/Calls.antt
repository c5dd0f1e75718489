-- Calls one after the other: payloads behind payloads are calls behind calls, from the state that the first ones leave. Assumes nothing.
use mathlib.Core.Path.{◌≡◌, refl, sym, ap, ap₂, subst, ◌∙◌}
use mathlib.Core.Bool.{Bool}
use mathlib.Core.List.{List, [], ◌∷◌, ◌++◌, map, map-append}
use Prim.Native.Nat.{ℕ, suc}
use lib.ListN.{length}
use Rattle.nal.specs.Fed.{Laid}
use Rattle.nal.specs.Ran.{RanOn}
use Rattle.rfc6184.specs.Sending.{Each}
use Rattle.rfc6184.proofs.Each.{each_append}
use Rattle.h264_rfc.specs.Reading.{Reader, State, next, calls, behind, handed_by, Answered, Hears, lastly}

-- the outputs that are left after a call for each payload
abbrev pub later : List (List ℕ) → (ℕ → List ℕ) → ℕ → List ℕ
later [] outs = outs
later (p ∷ ps) outs = later ps (λ i. outs (suc i))

-- what holds of every output holds of those
pub later_all : (P : List ℕ → Type 0) (ps : List (List ℕ)) (outs : ℕ → List ℕ) → ((i : ℕ) → P (outs i)) → (i : ℕ) → P (later ps outs i)
later_all P [] outs h = h
later_all P (p ∷ ps) outs h = later_all P ps (λ i. outs (suc i)) (λ i. h (suc i))

module _ (read : Reader) (avc : Bool) where
  calls_append : (ps qs : List (List ℕ)) (s : State) (outs : ℕ → List ℕ) →
      calls read avc s outs (ps ++ qs) ≡ calls read avc s outs ps ++ calls read avc (behind read avc s outs ps) (later ps outs) qs
  calls_append [] qs s outs = refl
  calls_append (p ∷ ps) qs s outs =
      let l : Laid (RanOn ℕ) = read avc s.gathered p s.gather (outs 0) in
      ap (λ (ls : List (Laid (RanOn ℕ))). l ∷ ls) (calls_append ps qs (next s l) (λ i. outs (suc i)))

  behind_append : (ps qs : List (List ℕ)) (s : State) (outs : ℕ → List ℕ) →
      behind read avc s outs (ps ++ qs) ≡ behind read avc (behind read avc s outs ps) (later ps outs) qs
  behind_append [] qs s outs = refl
  behind_append (p ∷ ps) qs s outs =
      behind_append ps qs (next s (read avc s.gathered p s.gather (outs 0))) (λ i. outs (suc i))

  pub hears_append : (s : State) (outs : ℕ → List ℕ) (ps qs xs ys : List (List ℕ)) → Hears read avc s outs ps xs →
      Hears read avc (behind read avc s outs ps) (later ps outs) qs ys → Hears read avc s outs (ps ++ qs) (xs ++ ys)
  hears_append s outs ps qs xs ys one two =
      let first : List (Laid (RanOn ℕ)) = calls read avc s outs ps in
      let second : List (Laid (RanOn ℕ)) = calls read avc (behind read avc s outs ps) (later ps outs) qs in
      record {
        answered = subst (Each Answered) (sym (calls_append ps qs s outs)) (each_append Answered first second one.answered two.answered);
        handed =
            ap (map handed_by) (calls_append ps qs s outs)
            ∙ map-append handed_by first second
            ∙ ap₂ (λ (x y : List (List ℕ)). x ++ y) one.handed two.handed;
        no_run = ap (λ (t : State). t.gathered) (behind_append ps qs s outs) ∙ two.no_run;
        as_long = ap (λ (t : State). length t.gather) (behind_append ps qs s outs) ∙ two.as_long ∙ one.as_long;
      }

-- nothing with one payload more in front
pub lastly_more : (p : List ℕ) (ps : List (List ℕ)) (q : List ℕ) (bytes : List ℕ) →
    lastly (p ∷ (ps ++ (q ∷ []))) bytes ≡ [] ∷ lastly (ps ++ (q ∷ [])) bytes
lastly_more p [] q bytes = refl
lastly_more p (r ∷ ps) q bytes = refl
