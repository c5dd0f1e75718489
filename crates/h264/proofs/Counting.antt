-- The counts, read off the units: each unit that cannot go and each pair that is due and does not fit is counted once, over one frame or many; so where
-- both counts are 0 nothing is left out for the mtu. Unit by unit, and stretch by stretch of a course. Assumes nothing.
use mathlib.Core.Path.{◌≡◌, refl, sym, ap, ap₂, ◌∙◌}
use mathlib.Core.List.{List, [], ◌∷◌, ◌++◌, append-nil}
use mathlib.Core.Bool.{Bool, true, false, cond, not, ◌&&◌, ◌||◌, or-true}
use Prim.Native.Nat.{ℕ, ◌+◌, ◌*◌, ◌≤◌}
use native.Mathlib.Decide.{dec_le}
use native.Mathlib.Omega.{arith}
use lib.Dec.{eqb, leb}
use lib.ListN.{length, length-append}
use borrow.Author.Tests.{le-leb, lt-leb}
use Rattle.annexb.specs.Units.{units, units_at}
use Rattle.h264_put.specs.declared.fate.Fate.{Fate}
use Rattle.h264_put.specs.declared.fate.Fate.TheVariants.{Empty, Dropped, Sps, Pps, Coded}
use Rattle.h264_put.specs.declared.outcome.UnitOutcome.TheVariants as of_unit
use Rattle.h264_put.specs.declared.outcome.PairOutcome.{PairOutcome}
use Rattle.h264_put.specs.declared.outcome.Outcome.{Outcome}
use Rattle.h264_put.specs.declared.outcome.Drops.{Drops}
use Rattle.h264_put.specs.Groups.{Saved, nothing_saved, both_saved, fate_of, keep, keep_all, groups_of}
use Rattle.h264_put.specs.Outcomes.{pair_outcome, outcome_by, outcome_for, outcomes_of, unit_dropped, pair_dropped, one, how_many, drops_in, together}
use Rattle.h264_put.proofs.Outcomes.{not_due, due_over, due_sent}
use Rattle.h264.specs.Conformance.{units_in, carried_in, is_coded, goes_out, those_that}
use Rattle.h264.specs.Course.{latest, NoPair, Course, quiet, due, units_of, Right, Coursed, sets_of, pair_fits, is_dropped, cannot_go, replaced, pairs_over, left_out, total, Same}
use Rattle.h264.specs.Frames.{drops_from, units_of_frames}
use Rattle.h264.proofs.LeftOut.{left_out_lem}
use Rattle.h264.proofs.Courses.{kept_one, kept_none, latest_kept}
use Rattle.h264.proofs.Accounts.{both_there, each_once}
use Rattle.h264.proofs.Telling.{by_room}

-- ---- units

-- a unit is dropped for the mtu where it is to be sent and cannot go
unit_over : (mtu : ℕ) (v : Saved) (u : List ℕ) → unit_dropped (outcome_for mtu v u).unit ≡ cannot_go mtu u
unfolding outcome_for
unit_over mtu v u = go (fate_of u)
  where
    dropped_or_not : (t : Bool) → unit_dropped (cond t of_unit.Sent of_unit.DroppedForMtu) ≡ not t
    dropped_or_not true = refl
    dropped_or_not false = refl

    go : (k : Fate) → unit_dropped (outcome_by k mtu v u).unit ≡ (is_coded k && not (leb (length u) mtu || leb 3 mtu))
    go Empty = refl
    go Dropped = refl
    go Sps = refl
    go Pps = refl
    go Coded = ap unit_dropped (by_room mtu u) ∙ dropped_or_not (leb (length u) mtu || leb 3 mtu)

pub units_counted : (mtu : ℕ) (v : Saved) (us : List (List ℕ)) → (drops_in (outcomes_of mtu v us)).units ≡ length (those_that (cannot_go mtu) us)
unfolding drops_in
units_counted mtu v [] = refl
units_counted mtu v (u ∷ us) =
    ap₂ (λ (b : Bool) (n : ℕ). one b + n) (unit_over mtu v u) (units_counted mtu (keep v u) us) ∙ go (cannot_go mtu u)
  where
    others : List (List ℕ)
    others = those_that (cannot_go mtu) us

    go : (t : Bool) → one t + length others ≡ length (cond t (u ∷ others) others)
    go true = omega arith
    go false = omega arith

-- a unit that is to be sent goes out or is counted
pub units_add_up : (mtu : ℕ) (v : Saved) (us : List (List ℕ)) →
    length (units_in (groups_of mtu v us)) + (drops_in (outcomes_of mtu v us)).units ≡ length (those_that (λ (u : List ℕ). is_coded (fate_of u)) us)
units_add_up mtu v us = ap₂ (λ (a b : ℕ). a + b) (ap length (left_out_lem mtu v us)) (units_counted mtu v us) ∙ all us
  where
    coded : List ℕ → Bool
    coded u = is_coded (fate_of u)

    those : (test : List ℕ → Bool) (u : List ℕ) (ws : List (List ℕ)) → length (those_that test (u ∷ ws)) ≡ one (test u) + length (those_that test ws)
    those test u ws = go (test u)
      where
        go : (t : Bool) → length (cond t (u ∷ those_that test ws) (those_that test ws)) ≡ one t + length (those_that test ws)
        go true = omega arith
        go false = omega arith

    either : (k fits : Bool) → one (k && fits) + one (k && not fits) ≡ one k
    either true true = refl
    either true false = refl
    either false fits = refl

    all : (ws : List (List ℕ)) → length (those_that (goes_out mtu) ws) + length (those_that (cannot_go mtu) ws) ≡ length (those_that coded ws)
    all [] = refl
    all (u ∷ ws) =
        omega (
          arith,
          all ws,
          those (goes_out mtu) u ws,
          those (cannot_go mtu) u ws,
          those coded u ws,
          either (is_coded (fate_of u)) (leb (length u) mtu || leb 3 mtu),
        )

-- from mtu 3 on a unit can be cut
pub no_unit_from_three : (mtu : ℕ) (v : Saved) (us : List (List ℕ)) → 3 ≤ mtu → (drops_in (outcomes_of mtu v us)).units ≡ 0
no_unit_from_three mtu v us h = units_counted mtu v us ∙ go us
  where
    fits : (k a : Bool) → (k && not (a || leb 3 mtu)) ≡ false
    fits k a = ap (λ (b : Bool). k && not (a || b)) (le-leb 3 mtu h) ∙ cut k a
      where
        cut : (k a : Bool) → (k && not (a || true)) ≡ false
        cut true true = refl
        cut true false = refl
        cut false a = refl

    go : (ws : List (List ℕ)) → length (those_that (cannot_go mtu) ws) ≡ 0
    go [] = refl
    go (u ∷ ws) =
        ap (λ (t : Bool). length (cond t (u ∷ those_that (cannot_go mtu) ws) (those_that (cannot_go mtu) ws))) (fits (is_coded (fate_of u)) (leb (length u) mtu))
        ∙ go ws

-- ---- one list behind the other

outcomes_append : (mtu : ℕ) (v : Saved) (a b : List (List ℕ)) → outcomes_of mtu v (a ++ b) ≡ outcomes_of mtu v a ++ outcomes_of mtu (keep_all v a) b
outcomes_append mtu v [] b = refl
outcomes_append mtu v (u ∷ a) b = ap (λ (os : List Outcome). outcome_for mtu v u ∷ os) (outcomes_append mtu (keep v u) a b)

many_append : (test : Outcome → Bool) (a b : List Outcome) → how_many test (a ++ b) ≡ how_many test a + how_many test b
many_append test [] b = omega arith
many_append test (o ∷ a) b = let rest = many_append test a b in omega arith

drops_append : (a b : List Outcome) → drops_in (a ++ b) ≡ together (drops_in a) (drops_in b)
unfolding drops_in
drops_append a b =
    ap₂ (λ (u p : ℕ). record { units = u; pairs = p }) (many_append (λ (o : Outcome). unit_dropped o.unit) a b)
    (many_append (λ (o : Outcome). pair_dropped o.pair) a b)

-- the counts of frames, added up, are those of all their units
pub frames_add_up : (mtu : ℕ) (v : Saved) (frames : List (List ℕ)) → drops_from mtu v frames ≡ drops_in (outcomes_of mtu v (units_of_frames mtu frames))
unfolding drops_in
frames_add_up mtu v [] = refl
frames_add_up mtu v (frame ∷ frames) =
    let us : List (List ℕ) = units_at mtu frame in
    ap (together (drops_in (outcomes_of mtu v us))) (frames_add_up mtu (keep_all v us) frames)
    ∙ sym (drops_append (outcomes_of mtu v us) (outcomes_of mtu (keep_all v us) (units_of_frames mtu frames)))
    ∙ sym (ap drops_in (outcomes_append mtu v us (units_of_frames mtu frames)))

-- ---- pairs

-- while no pair is due none is dropped
quiet_at : (mtu : ℕ) (v : Saved) (u : List ℕ) → (fate_of u ≡ Coded → both_saved v ≡ false) → pair_dropped (outcome_for mtu v u).pair ≡ false
unfolding outcome_for
quiet_at mtu v u h = go (fate_of u) h
  where
    go : (k : Fate) → (k ≡ Coded → both_saved v ≡ false) → pair_dropped (outcome_by k mtu v u).pair ≡ false
    go Empty h = refl
    go Dropped h = refl
    go Sps h = refl
    go Pps h = refl
    go Coded h = sym (ap pair_dropped (not_due mtu v (h refl)))

quiet_all : (mtu : ℕ) (v : Saved) (us : List (List ℕ)) → NoPair v us → (drops_in (outcomes_of mtu v us)).pairs ≡ 0
unfolding drops_in
quiet_all mtu v [] n = refl
quiet_all mtu v (u ∷ us) n =
    let rest = quiet_all mtu (latest v (u ∷ [])) us n.1 in
    ap₂ (λ (b : Bool) (w : Saved). one b + (drops_in (outcomes_of mtu w us)).pairs) (quiet_at mtu v u n.0) (kept_one v u n.0) ∙ omega arith

-- a pair that is due
due_at : (mtu : ℕ) (w : Saved) (u : List ℕ) → fate_of u ≡ Coded → both_saved w ≡ true →
    2 * one (pair_dropped (outcome_for mtu w u).pair) ≡ length (cond (pair_fits mtu w) [] (sets_of w))
unfolding outcome_for
due_at mtu w u k e =
    ap (λ (x : Fate). 2 * one (pair_dropped (outcome_by x mtu w u).pair)) k ∙ go (dec_le (5 + length w.sps + length w.pps) mtu)
  where
    go : Dec (5 + length w.sps + length w.pps ≤ mtu) → 2 * one (pair_dropped (pair_outcome mtu w)) ≡ length (cond (pair_fits mtu w) [] (sets_of w))
    go (yes h) =
        sym (ap (λ (x : PairOutcome). 2 * one (pair_dropped x)) (due_sent mtu w e h))
        ∙ sym (ap (λ (t : Bool). length (cond t [] (sets_of w))) (le-leb (5 + length w.sps + length w.pps) mtu h))
    go (no h) =
        sym (ap (λ (x : PairOutcome). 2 * one (pair_dropped x)) (due_over mtu w e (omega arith)))
        ∙ sym (ap length (both_there w e))
        ∙ sym (ap (λ (t : Bool). length (cond t [] (sets_of w))) (lt-leb (5 + length w.sps + length w.pps) mtu (omega arith)))

by_course : (mtu : ℕ) (v : Saved) (c : Course) → Right v c → 2 * (drops_in (outcomes_of mtu v (units_of c))).pairs ≡ length (pairs_over mtu v c)
unfolding drops_in
by_course mtu v (quiet us) r = let none = quiet_all mtu v us r in omega arith
by_course mtu v (due before u c) r =
    let w : Saved = latest v before in
    let over : List (List ℕ) = cond (pair_fits mtu w) [] (sets_of w) in
    let later : ℕ = (drops_in (outcomes_of mtu nothing_saved (units_of c))).pairs in
    let split = ap (λ (os : List Outcome). (drops_in os).pairs) (outcomes_append mtu v before (u ∷ units_of c))
    ∙ many_append (λ (o : Outcome). pair_dropped o.pair) (outcomes_of mtu v before) (outcomes_of mtu (keep_all v before) (u ∷ units_of c)) in
    let then = ap (λ (x : Saved). (drops_in (outcomes_of mtu x (u ∷ units_of c))).pairs) (latest_kept v before r.0)
    ∙ ap (λ (x : Saved). one (pair_dropped (outcome_for mtu w u).pair) + (drops_in (outcomes_of mtu x (units_of c))).pairs)
    (kept_none w u r.1 r.2) in
    omega (
      arith,
      split,
      then,
      quiet_all mtu v before r.0,
      due_at mtu w u r.1 r.2,
      by_course mtu nothing_saved c r.3,
      length-append over (pairs_over mtu nothing_saved c),
    )

-- two sets for each pair
pub pairs_counted : (mtu : ℕ) (v : Saved) (us : List (List ℕ)) (r : Coursed v us) →
    2 * (drops_in (outcomes_of mtu v us)).pairs ≡ length (pairs_over mtu v r.course)
pairs_counted mtu v us r = ap (λ (ws : List (List ℕ)). 2 * (drops_in (outcomes_of mtu v ws)).pairs) r.whole ∙ by_course mtu v r.course r.right

-- ---- none

no_length : (us : List (List ℕ)) → length us ≡ 0 → us ≡ []
no_length [] e = refl
no_length (u ∷ us) e = absurd (omega arith)

-- with both counts 0 nothing is left out but empty units, types 9 and 12, sets that were replaced, and sets that still wait
pub none_dropped : (mtu : ℕ) (v : Saved) (us : List (List ℕ)) (r : Coursed v us) → drops_in (outcomes_of mtu v us) ≡ record { units = 0; pairs = 0 } →
    Same (sets_of v ++ us)
    (carried_in (groups_of mtu v us)
    ++ ((those_that (λ (u : List ℕ). is_dropped (fate_of u)) us ++ replaced v r.course) ++ sets_of (keep_all v us)))
none_dropped mtu v us r e weight =
    each_once mtu v us r weight
    ∙ ap (λ (l : List (List ℕ)). total weight (carried_in (groups_of mtu v us) ++ (l ++ sets_of (keep_all v us)))) left
  where
    dropped : List (List ℕ) → List (List ℕ)
    dropped ws = those_that (λ (u : List ℕ). is_dropped (fate_of u)) ws

    units_none : those_that (cannot_go mtu) (units_of r.course) ≡ []
    units_none = ap (those_that (cannot_go mtu)) (sym r.whole) ∙ no_length _ (sym (units_counted mtu v us) ∙ ap (λ (d : Drops). d.units) e)

    pairs_none : pairs_over mtu v r.course ≡ []
    pairs_none = no_length _ (sym (pairs_counted mtu v us r) ∙ ap (λ (d : Drops). 2 * d.pairs) e)

    left : left_out mtu v r.course ≡ dropped us ++ replaced v r.course
    left =
        ap₂ (λ (a b : List (List ℕ)). dropped (units_of r.course) ++ (a ++ (replaced v r.course ++ b))) units_none pairs_none
        ∙ ap₂ (λ (ws l : List (List ℕ)). dropped ws ++ l) (sym r.whole) (append-nil (replaced v r.course))

-- "at mtu 0 both are 0", and of an empty frame
pub none_at_zero : (v : Saved) (frame : List ℕ) → drops_in (outcomes_of 0 v (units_at 0 frame)) ≡ record { units = 0; pairs = 0 }
unfolding drops_in units_at
none_at_zero v frame = ap (λ (b : Bool). drops_in (outcomes_of 0 v (cond b [] (units frame)))) (or-true (eqb (length frame) 0))

pub none_of_empty : (mtu : ℕ) (v : Saved) → drops_in (outcomes_of mtu v (units_at mtu [])) ≡ record { units = 0; pairs = 0 }
unfolding drops_in units_at
none_of_empty mtu v = refl
