-- Our step tells what became of its unit and of the pair: the fate of a unit is its type's, a pair's and a unit's groups are those that their outcomes
-- name, and what one sees leaves one outcome. Assumes nothing.
use mathlib.Core.Path.{◌≡◌, refl, sym, ap, ap₂, subst, subst₂, ◌∙◌}
use mathlib.Core.List.{List, [], ◌∷◌, ◌++◌}
use mathlib.Core.Bool.{Bool, true, false, cond, ◌&&◌, ◌||◌, true≢false, and-eq-true_iff}
use mathlib.Core.Logic.{◌⊎◌, inl, inr, ⊎_elim}
use Prim.Native.Nat.{ℕ, ◌-◌, ◌%◌, ◌≤◌}
use native.Mathlib.Decide.{dec_le}
use native.Mathlib.Omega.{arith}
use lib.Dec.{eqb, leb, ltb}
use lib.ListN.{length}
use borrow.Author.Tests.{eqb-true, eqb-false, le-leb, lt-leb}
use Rattle.h264_put.specs.declared.fate.Fate.{Fate}
use Rattle.h264_put.specs.declared.fate.Fate.TheVariants.{Empty, Dropped, Sps, Pps, Coded}
use Rattle.h264_put.specs.declared.outcome.UnitOutcome.{UnitOutcome}
use Rattle.h264_put.specs.declared.outcome.UnitOutcome.TheVariants as of_unit
use Rattle.h264_put.specs.declared.outcome.PairOutcome.{PairOutcome}
use Rattle.h264_put.specs.declared.outcome.PairOutcome.TheVariants as of_pair
use Rattle.h264_put.specs.declared.outcome.Outcome.{Outcome}
use Rattle.h264_put.specs.Groups.{Saved, nothing_saved, both_saved, Group, pair, plain, fragments, fate_of, fate_of_type, keep, keep_by, stap_a, pair_for, fragments_of, unit_for, groups_by, groups_for, groups_of}
use Rattle.h264_put.specs.Outcomes.{unit_outcome, pair_outcome, outcome_by, outcome_for, outcomes_of}
use Rattle.h264_put.proofs.UnitFates.{fate_coded}
use Rattle.h264_put.proofs.Outcomes.{sent_alone, dropped_under, sent_divided}
use Rattle.h264.specs.Conformance.{units_in, carried_in}
use Rattle.h264.specs.Telling.{Typed, Other, pairs_in, ChangedTo, Gone, UnitSeen, PairSeen, sets_sent, unit_sent, Tells, said_sent, Step, TellsAlways, our_step, ForgetsUntold, DropsUntold, CountsUnasked}
use Rattle.h264.proofs.Accounts.{carried_append, unit_carried}
use Rattle.h264.proofs.LeftOut.{units_append, pair_carries, unit_carries}

-- ---- a fate is the type's

abbrev Means : Fate → List ℕ → Type 0
Means Empty u = u ≡ []
Means Dropped u = Typed 9 u ⊎ Typed 12 u
Means Sps u = Typed 7 u
Means Pps u = Typed 8 u
Means Coded u = Other u

fate_means : (u : List ℕ) → Means (fate_of u) u
fate_means [] = refl
fate_means (b ∷ s) = go (eqb t 9) (eqb t 12) (eqb t 7) (eqb t 8) refl refl refl refl
  where
    t : ℕ
    t = b % 32

    go : (a c p q : Bool) → eqb t 9 ≡ a → eqb t 12 ≡ c → eqb t 7 ≡ p → eqb t 8 ≡ q →
        Means (cond (a || c) Dropped (cond p Sps (cond q Pps Coded))) (b ∷ s)
    go true c p q ea ec ep eq = inl (eqb-true t 9 ea)
    go false true p q ea ec ep eq = inr (eqb-true t 12 ec)
    go false false true q ea ec ep eq = eqb-true t 7 ep
    go false false false true ea ec ep eq = eqb-true t 8 eq
    go false false false false ea ec ep eq = (eqb-false t 7 ep, eqb-false t 8 eq, eqb-false t 9 ea, eqb-false t 12 ec)

means_fate : (k : Fate) (u : List ℕ) → Means k u → fate_of u ≡ k
means_fate Empty u m = ap fate_of m
means_fate Dropped [] m = ⊎_elim (λ x. absurd x) (λ x. absurd x) m
means_fate Dropped (b ∷ s) m = ⊎_elim (λ e. ap fate_of_type e) (λ e. ap fate_of_type e) m
means_fate Sps [] m = absurd m
means_fate Sps (b ∷ s) m = ap fate_of_type m
means_fate Pps [] m = absurd m
means_fate Pps (b ∷ s) m = ap fate_of_type m
means_fate Coded [] m = absurd m
means_fate Coded (b ∷ s) m = fate_coded (b % 32) m.2 m.3 m.0 m.1

-- ---- what is sent of the pair and of the unit

-- the groups of a pair with this outcome
abbrev pair_group : PairOutcome → Saved → List Group
pair_group of_pair.NotDue v = []
pair_group of_pair.Sent v = pair v.sps v.pps ∷ []
pair_group of_pair.DroppedForMtu v = []

pair_named : (mtu : ℕ) (v : Saved) → pair_for mtu v ≡ pair_group (pair_outcome mtu v) v
unfolding pair_for pair_outcome
pair_named mtu v = go (both_saved v) (leb (length (stap_a v.sps v.pps)) mtu)
  where
    go : (both fits : Bool) →
        cond (both && fits) (pair v.sps v.pps ∷ []) [] ≡ pair_group (cond both (cond fits of_pair.Sent of_pair.DroppedForMtu) of_pair.NotDue) v
    go true true = refl
    go true false = refl
    go false fits = refl

-- a unit that is to be sent goes out where it fits or can be cut
pub by_room : (mtu : ℕ) (u : List ℕ) → unit_outcome mtu u ≡ cond (leb (length u) mtu || leb 3 mtu) of_unit.Sent of_unit.DroppedForMtu
by_room mtu u = go (dec_le (length u) mtu) (dec_le 3 mtu)
  where
    told : (a b : Bool) → leb (length u) mtu ≡ a → leb 3 mtu ≡ b →
        cond (a || b) of_unit.Sent of_unit.DroppedForMtu ≡ cond (leb (length u) mtu || leb 3 mtu) of_unit.Sent of_unit.DroppedForMtu
    told a b e q = sym (ap₂ (λ (x y : Bool). cond (x || y) of_unit.Sent of_unit.DroppedForMtu) e q)

    go : Dec (length u ≤ mtu) → Dec (3 ≤ mtu) → unit_outcome mtu u ≡ cond (leb (length u) mtu || leb 3 mtu) of_unit.Sent of_unit.DroppedForMtu
    go (yes h) d = sym (sent_alone mtu u h) ∙ told true (leb 3 mtu) (le-leb (length u) mtu h) refl
    go (no h) (no g) =
        sym (dropped_under mtu u (omega arith) (omega arith)) ∙ told false false (lt-leb (length u) mtu (omega arith)) (lt-leb 3 mtu (omega arith))
    go (no h) (yes g) = sym (sent_divided mtu u (omega arith) g) ∙ told false true (lt-leb (length u) mtu (omega arith)) (le-leb 3 mtu g)

unit_named : (mtu : ℕ) (u : List ℕ) → units_in (unit_for mtu u) ≡ unit_sent (unit_outcome mtu u) u
unit_named mtu u = unit_carries mtu u ∙ go (leb (length u) mtu || leb 3 mtu) ∙ sym (ap (λ (x : UnitOutcome). unit_sent x u) (by_room mtu u))
  where
    go : (t : Bool) → cond t (u ∷ []) [] ≡ unit_sent (cond t of_unit.Sent of_unit.DroppedForMtu) u
    go true = refl
    go false = refl

pairs_append : (a b : List Group) → pairs_in (a ++ b) ≡ pairs_in a ++ pairs_in b
pairs_append [] b = refl
pairs_append (pair sps pps ∷ a) b = ap (λ (l : List Group). pair sps pps ∷ l) (pairs_append a b)
pairs_append (plain u ∷ a) b = pairs_append a b
pairs_append (fragments head first middle last ∷ a) b = pairs_append a b

no_pair : (mtu : ℕ) (u : List ℕ) → pairs_in (unit_for mtu u) ≡ []
unfolding unit_for
no_pair mtu u = go (leb (length u) mtu) (ltb mtu 3) u
  where
    go : (a b : Bool) (w : List ℕ) → pairs_in (cond a (plain u ∷ []) (cond b [] (fragments_of (mtu - 2) w))) ≡ []
    go true b w = refl
    go false true w = refl
    go false false [] = refl
    go false false (x ∷ s) = refl

-- ---- our step

module _ (mtu : ℕ) (v : Saved) (u : List ℕ) where
  coded_pairs : (p : PairOutcome) → pair_outcome mtu v ≡ p → pairs_in (groups_by Coded mtu v u) ≡ pair_group p v
  coded_pairs p e =
      pairs_append (pair_for mtu v) (unit_for mtu u)
      ∙ ap₂ (λ (a b : List Group). a ++ b) (ap pairs_in (pair_named mtu v ∙ ap (λ (x : PairOutcome). pair_group x v) e)) (no_pair mtu u)
      ∙ go p
    where
      go : (x : PairOutcome) → pairs_in (pair_group x v) ++ [] ≡ pair_group x v
      go of_pair.NotDue = refl
      go of_pair.Sent = refl
      go of_pair.DroppedForMtu = refl

  coded_units : units_in (groups_by Coded mtu v u) ≡ unit_sent (unit_outcome mtu u) u
  coded_units =
      units_append (pair_for mtu v) (unit_for mtu u) ∙ ap₂ (λ (a b : List (List ℕ)). a ++ b) (pair_carries mtu v) (unit_named mtu u)

  -- what is said of the unit is seen
  unit_seen : UnitSeen (outcome_for mtu v u).unit v u (groups_for mtu v u) (keep v u)
  unfolding outcome_for groups_for keep
  unit_seen = go (fate_of u) (fate_means u)
    where
      sent_or_not : (x : UnitOutcome) → unit_outcome mtu u ≡ x → (t : Bool) → x ≡ cond t of_unit.Sent of_unit.DroppedForMtu → Other u →
          UnitSeen (cond t of_unit.Sent of_unit.DroppedForMtu) v u (groups_by Coded mtu v u) (keep_by Coded v u)
      sent_or_not x e true q m = coded_units ∙ ap (λ (y : UnitOutcome). unit_sent y u) (e ∙ q)
      sent_or_not x e false q m = (m, coded_units ∙ ap (λ (y : UnitOutcome). unit_sent y u) (e ∙ q))

      go : (k : Fate) → Means k u → UnitSeen (outcome_by k mtu v u).unit v u (groups_by k mtu v u) (keep_by k v u)
      go Empty m = m
      go Dropped m = m
      go Sps m = inl (m, refl)
      go Pps m = inr (m, refl)
      go Coded m =
          subst (λ (x : UnitOutcome). UnitSeen x v u (groups_by Coded mtu v u) (keep_by Coded v u)) (sym (by_room mtu u))
          (sent_or_not (unit_outcome mtu u) refl (leb (length u) mtu || leb 3 mtu) (by_room mtu u) m)

  by_tests : pair_outcome mtu v ≡
      cond (both_saved v) (cond (leb (length (stap_a v.sps v.pps)) mtu) of_pair.Sent of_pair.DroppedForMtu) of_pair.NotDue
  unfolding pair_outcome
  by_tests = refl

  -- what is said of the pair is seen
  pair_seen : PairSeen (outcome_for mtu v u).pair v (groups_for mtu v u) (keep v u)
  unfolding outcome_for groups_for keep
  pair_seen = go (fate_of u)
    where
      -- of two sets that waited, one that waits still
      sps_stays : (w : Saved) → w.sps ≡ v.sps → Gone v w → ⊥
      sps_stays w e g = true≢false (sym ((and-eq-true_iff (ltb 0 (length v.sps)) (ltb 0 (length v.pps))).0 g.0).0
          ∙ ap (λ (s : List ℕ). ltb 0 (length s)) (sym e ∙ ap (λ (x : Saved). x.sps) g.1))

      pps_stays : (w : Saved) → w.pps ≡ v.pps → Gone v w → ⊥
      pps_stays w e g = true≢false (sym ((and-eq-true_iff (ltb 0 (length v.sps)) (ltb 0 (length v.pps))).0 g.0).1
          ∙ ap (λ (s : List ℕ). ltb 0 (length s)) (sym e ∙ ap (λ (x : Saved). x.pps) g.1))

      coded : (both fits : Bool) → both_saved v ≡ both → pair_outcome mtu v ≡ cond both (cond fits of_pair.Sent of_pair.DroppedForMtu) of_pair.NotDue →
          PairSeen (cond both (cond fits of_pair.Sent of_pair.DroppedForMtu) of_pair.NotDue) v (groups_by Coded mtu v u) (cond both nothing_saved v)
      coded true true e q = coded_pairs of_pair.Sent q
      coded true false e q = ((e, refl), coded_pairs of_pair.DroppedForMtu q)
      coded false fits e q = (λ g. true≢false (sym g.0 ∙ e), coded_pairs of_pair.NotDue q)

      go : (k : Fate) → PairSeen (outcome_by k mtu v u).pair v (groups_by k mtu v u) (keep_by k v u)
      go Empty = (sps_stays v refl, refl)
      go Dropped = (sps_stays v refl, refl)
      go Sps = (pps_stays (keep_by Sps v u) refl, refl)
      go Pps = (sps_stays (keep_by Pps v u) refl, refl)
      go Coded =
          subst (λ (x : PairOutcome). PairSeen x v (groups_by Coded mtu v u) (keep_by Coded v u)) (sym by_tests)
          (coded (both_saved v) (leb (length (stap_a v.sps v.pps)) mtu) refl by_tests)

-- ---- one outcome

-- of a unit, by its fate and the units that went out
abbrev seen_of : Fate → List (List ℕ) → UnitOutcome
seen_of Empty us = of_unit.Empty
seen_of Dropped us = of_unit.DroppedByType
seen_of Sps us = of_unit.Saved
seen_of Pps us = of_unit.Saved
seen_of Coded [] = of_unit.DroppedForMtu
seen_of Coded (u ∷ us) = of_unit.Sent

one_unit : (x : UnitOutcome) (v : Saved) (u : List ℕ) (gs : List Group) (v' : Saved) → (units_in gs ≡ u ∷ [] → Other u) → UnitSeen x v u gs v' →
    seen_of (fate_of u) (units_in gs) ≡ x
one_unit of_unit.Empty v u gs v' f s = ap (λ (k : Fate). seen_of k (units_in gs)) (means_fate Empty u s)
one_unit of_unit.DroppedByType v u gs v' f s = ap (λ (k : Fate). seen_of k (units_in gs)) (means_fate Dropped u s)
one_unit of_unit.Saved v u gs v' f s =
    ⊎_elim (λ m. ap (λ (k : Fate). seen_of k (units_in gs)) (means_fate Sps u m.0))
    (λ m. ap (λ (k : Fate). seen_of k (units_in gs)) (means_fate Pps u m.0)) s
one_unit of_unit.Sent v u gs v' f s = ap₂ seen_of (means_fate Coded u (f s)) s
one_unit of_unit.DroppedForMtu v u gs v' f s = ap₂ seen_of (means_fate Coded u s.0) s.1

none_some : {g : Group} {gs : List Group} → gs ≡ g ∷ [] → gs ≡ [] → ⊥
none_some e q = absurd (omega (arith, ap length (sym e ∙ q)))

one_pair : (x y : PairOutcome) (v : Saved) (gs : List Group) (v' : Saved) → PairSeen x v gs v' → PairSeen y v gs v' → x ≡ y
one_pair of_pair.NotDue of_pair.NotDue v gs v' a b = refl
one_pair of_pair.NotDue of_pair.Sent v gs v' a b = absurd (none_some b a.1)
one_pair of_pair.NotDue of_pair.DroppedForMtu v gs v' a b = absurd (a.0 b.0)
one_pair of_pair.Sent of_pair.NotDue v gs v' a b = absurd (none_some a b.1)
one_pair of_pair.Sent of_pair.Sent v gs v' a b = refl
one_pair of_pair.Sent of_pair.DroppedForMtu v gs v' a b = absurd (none_some a b.1)
one_pair of_pair.DroppedForMtu of_pair.NotDue v gs v' a b = absurd (b.0 a.0)
one_pair of_pair.DroppedForMtu of_pair.Sent v gs v' a b = absurd (none_some b a.1)
one_pair of_pair.DroppedForMtu of_pair.DroppedForMtu v gs v' a b = refl

-- ---- our step tells

-- a unit of which something goes out is one that is to be sent
sent_other : (mtu : ℕ) (v : Saved) (u : List ℕ) → units_in (groups_for mtu v u) ≡ u ∷ [] → Other u
unfolding groups_for
sent_other mtu v u = go (fate_of u) (fate_means u)
  where
    nothing : [] ≡ u ∷ [] → Other u
    nothing e = absurd (omega (arith, ap length e))

    go : (k : Fate) → Means k u → units_in (groups_by k mtu v u) ≡ u ∷ [] → Other u
    go Empty m e = nothing e
    go Dropped m e = nothing e
    go Sps m e = nothing e
    go Pps m e = nothing e
    go Coded m e = m

nothing_else : (mtu : ℕ) (v : Saved) (u : List ℕ) →
    carried_in (groups_for mtu v u) ≡ sets_sent (outcome_for mtu v u).pair v ++ unit_sent (outcome_for mtu v u).unit u
unfolding groups_for outcome_for
nothing_else mtu v u = go (fate_of u)
  where
    of_the_pair : (x : PairOutcome) → carried_in (pair_group x v) ≡ sets_sent x v
    of_the_pair of_pair.NotDue = refl
    of_the_pair of_pair.Sent = refl
    of_the_pair of_pair.DroppedForMtu = refl

    go : (k : Fate) → carried_in (groups_by k mtu v u) ≡ sets_sent (outcome_by k mtu v u).pair v ++ unit_sent (outcome_by k mtu v u).unit u
    go Empty = refl
    go Dropped = refl
    go Sps = refl
    go Pps = refl
    go Coded =
        carried_append (pair_for mtu v) (unit_for mtu u)
        ∙ ap₂ (λ (a b : List (List ℕ)). a ++ b) (ap carried_in (pair_named mtu v) ∙ of_the_pair (pair_outcome mtu v))
        (unit_carried mtu u ∙ unit_named mtu u)

kept : (mtu : ℕ) (v : Saved) (u : List ℕ) → (keep v u ≡ v) ⊎ (ChangedTo u v (keep v u) ⊎ Gone v (keep v u))
unfolding keep
kept mtu v u = go (fate_of u) (fate_means u)
  where
    forgot : (b : Bool) → both_saved v ≡ b → (cond b nothing_saved v ≡ v) ⊎ (ChangedTo u v (cond b nothing_saved v) ⊎ Gone v (cond b nothing_saved v))
    forgot true e = inr (inr (e, refl))
    forgot false e = inl refl

    go : (k : Fate) → Means k u → (keep_by k v u ≡ v) ⊎ (ChangedTo u v (keep_by k v u) ⊎ Gone v (keep_by k v u))
    go Empty m = inl refl
    go Dropped m = inl refl
    go Sps m = inr (inl (inl (m, refl)))
    go Pps m = inr (inl (inr (m, refl)))
    go Coded m = forgot (both_saved v) refl

pub we_tell : TellsAlways our_step
we_tell mtu v u =
    let gs : List Group = groups_for mtu v u in
    let one : (x : UnitOutcome) → UnitSeen x v u gs (keep v u) → seen_of (fate_of u) (units_in gs) ≡ x =
    λ x. one_unit x v u gs (keep v u) (sent_other mtu v u) in
    record {
      unit_told = λ x. (
        λ e. subst (λ (y : UnitOutcome). UnitSeen y v u gs (keep v u)) e (unit_seen mtu v u),
        λ s. sym (one (outcome_for mtu v u).unit (unit_seen mtu v u)) ∙ one x s,
      );
      pair_told = λ x. (
        λ e. subst (λ (y : PairOutcome). PairSeen y v gs (keep v u)) e (pair_seen mtu v u),
        λ s. one_pair (outcome_for mtu v u).pair x v gs (keep v u) (pair_seen mtu v u) s,
      );
      nothing_else = nothing_else mtu v u;
      kept = kept mtu v u;
    }

-- ---- and no other account of the same step does

one_outcome : (v : Saved) (u : List ℕ) (o o' : Outcome) (gs : List Group) (v' : Saved) → Tells v u o gs v' → Tells v u o' gs v' → o ≡ o'
one_outcome v u o o' gs v' t t' =
    ap₂ (λ (x : UnitOutcome) (y : PairOutcome). record { unit = x; pair = y })
    ((t.unit_told o'.unit).1 ((t'.unit_told o'.unit).0 refl)) ((t.pair_told o'.pair).1 ((t'.pair_told o'.pair).0 refl))

pub one_account : (s : Step) → TellsAlways s → ((mtu : ℕ) (v : Saved) (u : List ℕ) → s.sends mtu v u ≡ groups_for mtu v u) →
    ((mtu : ℕ) (v : Saved) (u : List ℕ) → s.keeps mtu v u ≡ keep v u) → (mtu : ℕ) (v : Saved) (u : List ℕ) → s.says mtu v u ≡ outcome_for mtu v u
one_account s t same_groups same-sets mtu v u =
    one_outcome v u (s.says mtu v u) (outcome_for mtu v u) (groups_for mtu v u) (keep v u)
    (subst₂ (λ (gs : List Group) (w : Saved). Tells v u (s.says mtu v u) gs w) (same_groups mtu v u) (same-sets mtu v u) (t mtu v u)) (we_tell mtu v u)

-- ---- a list of units

-- what goes out is what the outcomes say is sent, in that order
pub sent_as_said : (mtu : ℕ) (v : Saved) (us : List (List ℕ)) → carried_in (groups_of mtu v us) ≡ said_sent v us (outcomes_of mtu v us)
sent_as_said mtu v [] = refl
sent_as_said mtu v (u ∷ us) =
    carried_append (groups_for mtu v u) (groups_of mtu (keep v u) us)
    ∙ ap₂ (λ (a b : List (List ℕ)). a ++ b) (nothing_else mtu v u) (sent_as_said mtu (keep v u) us)

-- ---- wrong steps

pub no_forgetting_untold : (s : Step) → ForgetsUntold s → TellsAlways s → ⊥
no_forgetting_untold s w t = w.untold (((t w.mtu w.saved w.unit).pair_told of_pair.DroppedForMtu).1 (w.gone, w.unsent))

pub no_dropping_untold : (s : Step) → DropsUntold s → TellsAlways s → ⊥
no_dropping_untold s w t = w.untold (((t w.mtu w.saved w.unit).unit_told of_unit.DroppedForMtu).1 (w.other, w.unsent))

pub no_counting_unasked : (s : Step) → CountsUnasked s → TellsAlways s → ⊥
no_counting_unasked s w t = w.never (((t w.mtu w.saved w.unit).unit_told of_unit.DroppedForMtu).0 w.told).0
