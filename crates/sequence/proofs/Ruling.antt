-- Within the window the plain rule's events are the packets sent, in order, with a hole for each that was not accepted: what is
-- awaited is always the number of one more than the largest index so far. Assumes nothing.
use Rattle.std.proofs.Common.{◌≡◌, ℕ, zero, suc, ◌+◌, ◌-◌, ◌<◌, ◌≤◌, Bool, true, false, cond, ◌&&◌, ◌||◌, eqb, leb, List, [], ◌∷◌, ◌++◌, map, length, get_or, drop, sym, refl, ap, ◌∙◌, subst, ap₂, subst₂, not-suc-le-zero, lt_of_not-le, arith, length-drop, get_or-drop, drop-drop, eq-eqb, ne_eqb, le-leb}
use mathlib.Core.List.{map-append}
use native.Mathlib.Decide.{dec_le}
use borrow.Author.Tests.{lt-leb}
use Rattle.sequence.specs.Number.{number_of, distance_of, Near, Closable}
use Rattle.sequence.specs.Arrival.{Arrival, ours, other, above_all, accepted_calls, accepted_among, accepted, raised, Window}
use Rattle.sequence.specs.Event.{Event, lost, got, holes, got_in, event_of, seen, as_got}
use Rattle.sequence.specs.Rule.{Ruled, late, onward, Ended, ended, Rule, arrive_by, close_by, plain, state_after, events_of, is_onward, ended_events, is_ended, ruling, last_state, all_events, onward_calls, JoinsAtMost, Follows}
use Rattle.sequence.proofs.Numbers.{first_number, next_number, ahead, ahead_near, late_far, closing, closing_near}
use Rattle.sequence.proofs.Accepting.{Tops, tops_none, tops_ours, not_later}

-- ---- what is seen

module _ {P : Type 0} where
  pub seen_same : (came came' : ℕ → Bool) (i : ℕ) (ps : List P) → ((j : ℕ) → i ≤ j → came j ≡ came' j) → seen came i ps ≡ seen came' i ps
  seen_same came came' i [] h = refl
  seen_same came came' i (p ∷ ps) h =
      ap₂ (λ (b : Bool) (es : List (Event P)). event_of b p ∷ es) (h i (omega arith))
      (seen_same came came' (suc i) ps (λ j k. h j (omega arith)))

  seen_none : (i : ℕ) (ps : List P) → seen (λ (j : ℕ). false) i ps ≡ holes (length ps) []
  seen_none i [] = refl
  seen_none i (p ∷ ps) = ap (λ (es : List (Event P)). lost ∷ es) (seen_none (suc i) ps)

  as_got_holes : (d : ℕ) (es : List (Event P)) → map as_got (holes d es) ≡ holes d (map as_got es)
  as_got_holes zero es = refl
  as_got_holes (suc d) es = ap (λ (l : List (Event P)). lost ∷ l) (as_got_holes d es)

  -- holes join nothing
  got_behind : (d c : ℕ) (es : List (Event P)) → got_in es ≤ c → got_in (holes d es) ≤ c
  got_behind zero c es h = h
  got_behind (suc d) c es h = got_behind d c es h

  -- d packets did not come, and the next one did
  seen_jump : (came came' : ℕ → Bool) (d m i : ℕ) (ps : List P) (z : P) → m + d ≡ i → d < length ps →
      ((j : ℕ) → j < i → came j ≡ false) → came i ≡ true → ((j : ℕ) → i < j → came j ≡ came' j) →
      holes d (got (get_or ps d z) ∷ []) ++ seen came' (suc i) (drop (suc d) ps) ≡ seen came m ps
  seen_jump came came' d m i [] z e h none this after = absurd (not-suc-le-zero h)
  seen_jump came came' zero m i (p ∷ ps) z e h none this after =
      let here : m ≡ i = omega arith in
      rw (here, this) (ap (λ (es : List (Event P)). got p ∷ es) (sym (seen_same came came' (suc i) ps (λ j k. after j (omega arith)))))
  seen_jump came came' (suc d) m i (p ∷ ps) z e h none this after =
      ap₂ (λ (b : Bool) (es : List (Event P)). event_of b p ∷ es) (sym (none m (omega arith)))
      (seen_jump came came' d (suc m) i ps z (omega arith) (omega arith) none this after)

-- ---- one arrival more, for any rule

module _ {P : Type 0} (rule : Rule P) (number : ℕ → ℕ) (packet : ℕ → P) (n c : ℕ) {B : Type 0} (s : rule.State) (i : ℕ)
    (later : List (Arrival B)) (events : List (Event P)) (calls : List Bool) where
  follow_onward : (next : rule.State) (es : List (Event P)) → ruling rule number packet n s i ≡ onward next es → got_in es ≤ c →
      Follows rule number packet n c next later events calls →
      Follows rule number packet n c s (ours i ∷ later) (map as_got es ++ events) (true ∷ calls)
  follow_onward next es e few f =
      record {
        sees =
            ap (λ (r : Ruled rule.State P). map as_got (events_of r ++ all_events rule number packet n (state_after s r) later)) e
            ∙ map-append as_got es (all_events rule number packet n next later)
            ∙ ap (λ (l : List (Event P)). map as_got es ++ l) f.sees;
        goes =
            ap (λ (r : Ruled rule.State P). is_onward r ∷ onward_calls rule number packet n (state_after s r) later) e
            ∙ ap (λ (l : List Bool). true ∷ l) f.goes;
        ends =
            ap (λ (r : Ruled rule.State P). is_ended (rule.close (last_state rule number packet n (state_after s r) later) (number n))) e
            ∙ f.ends;
        joins =
            subst (λ (r : Ruled rule.State P). (got_in (events_of r) ≤ c) × JoinsAtMost rule number packet n c (state_after s r) later)
            (sym e) (few, f.joins);
      }

  follow_late : ruling rule number packet n s i ≡ late → Follows rule number packet n c s later events calls →
      Follows rule number packet n c s (ours i ∷ later) events (false ∷ calls)
  follow_late e f =
      record {
        sees =
            ap (λ (r : Ruled rule.State P). map as_got (events_of r ++ all_events rule number packet n (state_after s r) later)) e
            ∙ f.sees;
        goes =
            ap (λ (r : Ruled rule.State P). is_onward r ∷ onward_calls rule number packet n (state_after s r) later) e
            ∙ ap (λ (l : List Bool). false ∷ l) f.goes;
        ends =
            ap (λ (r : Ruled rule.State P). is_ended (rule.close (last_state rule number packet n (state_after s r) later) (number n))) e
            ∙ f.ends;
        joins =
            subst (λ (r : Ruled rule.State P). (got_in (events_of r) ≤ c) × JoinsAtMost rule number packet n c (state_after s r) later)
            (sym e) (omega arith, f.joins);
      }

-- ---- the plain rule

module _ {P : Type 0} (first : ℕ) (ps : List P) (z : P) (B : Type 0) where
  abbrev number : ℕ → ℕ
  number i = number_of first i

  abbrev packet : ℕ → P
  packet i = get_or ps i z

  -- from m on, behind the arrivals `before`
  abbrev Goal : ℕ → List (Arrival B) → List (Arrival B) → Type 0
  Goal m before later =
      Follows (plain P) number packet (length ps) 1 (number m) later
      (seen (accepted_among before later) m (drop m ps)) (accepted_calls before later)

  at_end_lem : (m : ℕ) (before : List (Arrival B)) → m ≤ length ps → Closable m (length ps) → Goal m before []
  at_end_lem m before h w =
      record {
        sees =
            ap (λ (x : Ended P). map as_got (ended_events x)) closed
            ∙ as_got_holes (length ps - m) []
            ∙ ap (λ (d : ℕ). holes d []) (sym (length-drop m ps))
            ∙ sym (seen_none m (drop m ps));
        goes = refl;
        ends = ap is_ended closed;
        joins = rw closed (got_behind (length ps - m) 1 [] (omega arith));
      }
    where
      closed : close_by {P = P} (distance_of (number (length ps)) (number m)) ≡ ended (holes (length ps - m) [])
      closed =
          ap (λ (d : ℕ). close_by {P = P} d) (closing first m (length ps) h w)
          ∙ rw (lt-leb 32768 (length ps - m) (closing_near m (length ps) h w))

  -- an index at or above m
  above : (m i : ℕ) (before later : List (Arrival B)) → m ≤ i → i < length ps → Near m i → Tops m before →
      Goal (suc i) (ours i ∷ before) later → Goal m before (ours i ∷ later)
  above m i before later h inside near tops f =
      subst₂ (λ (es : List (Event P)) (cs : List Bool). Follows (plain P) number packet (length ps) 1 (number m) (ours i ∷ later) es cs)
      (ap (λ (es : List (Event P)). es ++ seen (accepted_among (ours i ∷ before) later) (suc i) (drop (suc i) ps))
      (as_got_holes (i - m) (got (packet i) ∷ []))
      ∙ sees)
      (ap (λ (b : Bool). b ∷ accepted_calls (ours i ∷ before) later) (sym this))
      (follow_onward (plain P) number packet (length ps) 1 (number m) i later
      (seen (accepted_among (ours i ∷ before) later) (suc i) (drop (suc i) ps)) (accepted_calls (ours i ∷ before) later)
      (number (suc i)) (holes (i - m) (got (packet i) ∷ [])) ruled (got_behind (i - m) 1 (got (packet i) ∷ []) (omega arith)) f)
    where
      this : above_all i before ≡ true
      this = tops i ∙ le-leb m i h

      ruled : ruling (plain P) number packet (length ps) (number m) i ≡ onward (number (suc i)) (holes (i - m) (got (packet i) ∷ []))
      ruled =
          ap (λ (d : ℕ). arrive_by d (number i) (packet i)) (ahead first m i h near)
          ∙ rw (lt-leb 32768 (i - m) (ahead_near m i h near))
          (ap (λ (k : ℕ). onward k (holes (i - m) (got (packet i) ∷ []))) (next_number first i))

      came : ℕ → Bool
      came j = accepted_among before (ours i ∷ later) j

      not_this : (j : ℕ) → (i ≡ j → ⊥) → came j ≡ accepted_among (ours i ∷ before) later j
      not_this j ne = ap₂ (λ (x y : Bool). (x && y) || accepted_among (ours i ∷ before) later j) this (ne_eqb i j ne)

      not_above : (j : ℕ) → j < i → above_all j (ours i ∷ before) ≡ false
      not_above j k = tops_ours m i before tops j ∙ ap (λ (b : Bool). leb (cond b (suc i) m) j) (le-leb m i h) ∙ lt-leb (suc i) j (omega arith)

      sees : holes (i - m) (got (packet i) ∷ []) ++ seen (accepted_among (ours i ∷ before) later) (suc i) (drop (suc i) ps)
          ≡ seen came m (drop m ps)
      sees =
          let sum : m + (i - m) ≡ i = omega arith in
          let rest : m + suc (i - m) ≡ suc i = omega arith in
          let len : i - m < length (drop m ps) = rw (length-drop m ps) (omega arith) in
          ap₂ (λ (p : P) (qs : List P). holes (i - m) (got p ∷ []) ++ seen (accepted_among (ours i ∷ before) later) (suc i) qs)
          (sym (get_or-drop m ps (i - m) z ∙ ap (λ (k : ℕ). get_or ps k z) sum))
          (sym (drop-drop (suc (i - m)) m ps ∙ ap (λ (k : ℕ). drop k ps) rest))
          ∙ seen_jump came (accepted_among (ours i ∷ before) later) (i - m) m i (drop m ps) z sum len
          (λ j k. not_this j (λ e. omega arith) ∙ not_later j (ours i ∷ before) later (not_above j k))
          (ap₂ (λ (x y : Bool). (x && y) || accepted_among (ours i ∷ before) later i) this (eq-eqb i i refl))
          (λ j k. not_this j (λ e. omega arith))

  -- an index below m
  below : (m i : ℕ) (before later : List (Arrival B)) → i < m → Near m i → Tops m before →
      Goal m (ours i ∷ before) later → Goal m before (ours i ∷ later)
  below m i before later h near tops f =
      subst₂ (λ (es : List (Event P)) (cs : List Bool). Follows (plain P) number packet (length ps) 1 (number m) (ours i ∷ later) es cs)
      (sym (seen_same (accepted_among before (ours i ∷ later)) (accepted_among (ours i ∷ before) later) m (drop m ps)
      (λ j k. ap (λ (b : Bool). (b && eqb i j) || accepted_among (ours i ∷ before) later j) this)))
      (ap (λ (b : Bool). b ∷ accepted_calls (ours i ∷ before) later) (sym this))
      (follow_late (plain P) number packet (length ps) 1 (number m) i later
      (seen (accepted_among (ours i ∷ before) later) m (drop m ps)) (accepted_calls (ours i ∷ before) later)
      (rw (le-leb 32768 (distance_of (number i) (number m)) (late_far first m i h near))) f)
    where
      this : above_all i before ≡ false
      this = tops i ∙ lt-leb m i h

  follows : (m : ℕ) (before later : List (Arrival B)) → m ≤ length ps → Tops m before → Window (length ps) m later → Goal m before later
  follows m before [] h tops w = at_end_lem m before h w
  follows m before (other b ∷ later) h tops w =
      let f : Goal m (other b ∷ before) later = follows m (other b ∷ before) later h tops w in
      record { sees = f.sees; goes = ap (λ (cs : List Bool). false ∷ cs) f.goes; ends = f.ends; joins = f.joins }
  follows m before (ours i ∷ later) h tops w =
      elim (dec_le m i) [
        | yes up ↦
            let same : raised m i ≡ suc i = rw (le-leb m i up) in
            above m i before later up w.0 w.1 tops
            (follows (suc i) (ours i ∷ before) later w.0 (subst (λ (k : ℕ). Tops k (ours i ∷ before)) same (tops_ours m i before tops))
            (subst (λ (k : ℕ). Window (length ps) k later) same w.2))
        | no down ↦
            let same : raised m i ≡ m = rw (lt-leb m i (lt_of_not-le down)) in
            below m i before later (lt_of_not-le down) w.1 tops
            (follows m (ours i ∷ before) later h (subst (λ (k : ℕ). Tops k (ours i ∷ before)) same (tops_ours m i before tops))
            (subst (λ (k : ℕ). Window (length ps) k later) same w.2))
      ]

  -- the rule's events over the arrivals are the packets in order with holes
  pub plain_follows : (arrivals : List (Arrival B)) → first < 65536 → Window (length ps) 0 arrivals →
      Follows (plain P) number packet (length ps) 1 first arrivals (seen (accepted arrivals) 0 ps) (accepted_calls [] arrivals)
  plain_follows arrivals h w =
      subst (λ (s : ℕ). Follows (plain P) number packet (length ps) 1 s arrivals (seen (accepted arrivals) 0 ps) (accepted_calls [] arrivals))
      (first_number first h) (follows 0 [] arrivals (omega arith) (tops_none B) w)
