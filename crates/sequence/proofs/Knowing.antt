-- Whatever is known of its packets, a group has as many of them and is handed out as the same. Assumes nothing.
use Rattle.std.proofs.Common.{◌≡◌, ℕ, zero, suc, ◌+◌, ◌<◌, Bool, ◌&&◌, List, [], ◌∷◌, ◌++◌, length, get_or, sym, refl, ap, ◌∙◌, ap₂, arith}
use Rattle.sequence.specs.Group.{Group, packets_in, packets_of, handed_of, map_from, map_groups, EachHanded, all_came, keep, whole_of}

module _ {P Q : Type 0} (f : ℕ → P → Q) where
  length_from : (i : ℕ) (ps : List P) → length (map_from f i ps) ≡ length ps
  length_from i [] = refl
  length_from i (p ∷ ps) = ap suc (length_from (suc i) ps)

  from_append : (i : ℕ) (ps qs : List P) → map_from f i (ps ++ qs) ≡ map_from f i ps ++ map_from f (i + length ps) qs
  from_append i [] qs = ap (λ (k : ℕ). map_from f k qs) (omega arith)
  from_append i (p ∷ ps) qs =
      ap (λ (l : List Q). f i p ∷ l)
      (from_append (suc i) ps qs ∙ ap (λ (k : ℕ). map_from f (suc i) ps ++ map_from f k qs) (omega arith))

  -- what is known of one of them
  pub from_at : (i k : ℕ) (ps : List P) (d : P) (e : Q) → k < length ps → get_or (map_from f i ps) k e ≡ f (i + k) (get_or ps k d)
  from_at i k [] d e h = absurd (omega arith)
  from_at i zero (p ∷ ps) d e h = ap (λ (n : ℕ). f n p) (omega arith)
  from_at i (suc k) (p ∷ ps) d e h = from_at (suc i) k ps d e (omega arith) ∙ ap (λ (n : ℕ). f n (get_or ps k d)) (omega arith)

  came_known : (came : ℕ → Bool) (k i : ℕ) (ps : List P) → all_came came k (map_from f i ps) ≡ all_came came k ps
  came_known came k i [] = refl
  came_known came k i (p ∷ ps) = ap (λ (b : Bool). came k && b) (came_known came (suc k) (suc i) ps)

  module _ {O : Type 0} where
    pub packets_known : (i : ℕ) (gs : List (Group P O)) → packets_of (map_groups f i gs) ≡ map_from f i (packets_of gs)
    packets_known i [] = refl
    packets_known i (g ∷ gs) =
        ap (λ (l : List Q). map_from f i (packets_in g) ++ l) (packets_known (i + length (packets_in g)) gs)
        ∙ sym (from_append i (packets_in g) (packets_of gs))

    pub count_known : (i : ℕ) (gs : List (Group P O)) → length (packets_of (map_groups f i gs)) ≡ length (packets_of gs)
    count_known i gs = ap length (packets_known i gs) ∙ length_from i (packets_of gs)

    pub handed_known : (i : ℕ) (gs : List (Group P O)) → handed_of (map_groups f i gs) ≡ handed_of gs
    handed_known i [] = refl
    handed_known i (g ∷ gs) = ap (λ (l : List O). g.handed ∷ l) (handed_known (i + length (packets_in g)) gs)

    pub whole_known : (came : ℕ → Bool) (k i : ℕ) (gs : List (Group P O)) → whole_of came k (map_groups f i gs) ≡ whole_of came k gs
    whole_known came k i [] = refl
    whole_known came k i (g ∷ gs) =
        ap₂ (λ (b : Bool) (l : List O). keep b g.handed l) (came_known came k i (packets_in g))
        (ap (λ (n : ℕ). whole_of came (k + n) (map_groups f (i + length (packets_in g)) gs)) (length_from i (packets_in g))
        ∙ whole_known came (k + length (packets_in g)) (i + length (packets_in g)) gs)

    pub each_known : (Ok : O → Type 0) (i : ℕ) (gs : List (Group P O)) → EachHanded Ok gs → EachHanded Ok (map_groups f i gs)
    each_known Ok i [] w = tt
    each_known Ok i (g ∷ gs) w = (w.0, each_known Ok (i + length (packets_in g)) gs w.1)
