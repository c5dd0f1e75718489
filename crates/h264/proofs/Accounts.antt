-- The units that our sender's groups carry are those that the course says, in its order; and of all units that came or waited each is once among
-- those sent, those left out and those that still wait. Each stretch of a course is balanced unit by unit. Assumes nothing.
use mathlib.Core.Path.{◌≡◌, refl, sym, ap, ap₂, subst, ◌∙◌}
use mathlib.Core.List.{List, [], ◌∷◌, ◌++◌, append_assoc}
use mathlib.Core.Bool.{Bool, true, false, cond, not, ◌&&◌, ◌||◌, true≢false, and-eq-true_iff}
use Prim.Native.Nat.{ℕ, ◌+◌, ◌-◌, ◌≤◌}
use native.Mathlib.Decide.{dec_le}
use native.Mathlib.Omega.{arith}
use lib.Dec.{leb, ltb}
use lib.ListN.{length}
use borrow.Author.Tests.{le-leb, lt-leb}
use Rattle.h264_put.specs.declared.fate.Fate.{Fate}
use Rattle.h264_put.specs.declared.fate.Fate.TheVariants.{Empty, Dropped, Sps, Pps, Coded}
use Rattle.h264_put.specs.Groups.{Saved, nothing_saved, both_saved, Group, plain, fate_of, pair_for, fragments_of, unit_for, keep_all, groups_of}
use Rattle.h264_put.proofs.Sizes.{pair_over, pair_sent}
use Rattle.h264.specs.Conformance.{units_in, carries, carried_in, is_coded, goes_out, those_that}
use Rattle.h264.specs.Course.{is_sps, is_pps, latest, Course, quiet, due, units_of, Right, Coursed, waiting_after, alone, groups_in, some, sets_of, pair_fits, sent, is_dropped, cannot_go, earlier, earlier_sets, replaced, pairs_over, left_out, total, Same}
use Rattle.h264.proofs.LeftOut.{unit_carries}
use Rattle.h264.proofs.Courses.{waits_by_course, groups_by_course}

-- ---- what goes out

pub carried_append : (a b : List Group) → carried_in (a ++ b) ≡ carried_in a ++ carried_in b
carried_append [] b = refl
carried_append (g ∷ a) b =
    ap (λ (l : List (List ℕ)). carries g ++ l) (carried_append a b) ∙ sym (append_assoc (carries g) (carried_in a) (carried_in b))

-- among a unit's own groups there is no pair
pub unit_carried : (mtu : ℕ) (u : List ℕ) → carried_in (unit_for mtu u) ≡ units_in (unit_for mtu u)
unfolding unit_for
unit_carried mtu u = go (leb (length u) mtu) (ltb mtu 3) u
  where
    go : (a b : Bool) (w : List ℕ) →
        carried_in (cond a (plain u ∷ []) (cond b [] (fragments_of (mtu - 2) w))) ≡ units_in (cond a (plain u ∷ []) (cond b [] (fragments_of (mtu - 2) w)))
    go true b w = refl
    go false true w = refl
    go false false [] = refl
    go false false (x ∷ s) = refl

those_alone : (mtu : ℕ) (us : List (List ℕ)) → carried_in (alone mtu (those_that (goes_out mtu) us)) ≡ those_that (goes_out mtu) us
those_alone mtu [] = refl
those_alone mtu (u ∷ us) = go (goes_out mtu u) refl (those_alone mtu us)
  where
    others : List (List ℕ)
    others = those_that (goes_out mtu) us

    go : (t : Bool) → goes_out mtu u ≡ t → carried_in (alone mtu others) ≡ others →
        carried_in (alone mtu (cond t (u ∷ others) others)) ≡ cond t (u ∷ others) others
    go false e rest = rest
    go true e rest =
        carried_append (unit_for mtu u) (alone mtu others)
        ∙ ap₂ (λ (a b : List (List ℕ)). a ++ b)
        (unit_carried mtu u ∙ unit_carries mtu u
        ∙ ap (λ (t : Bool). cond t (u ∷ []) []) ((and-eq-true_iff (is_coded (fate_of u)) (leb (length u) mtu || leb 3 mtu)).0 e).1)
        rest

some_there : (s : List ℕ) → ltb 0 (length s) ≡ true → some s ≡ s ∷ []
some_there [] e = absurd (true≢false (sym e))
some_there (b ∷ s) e = refl

pub both_there : (w : Saved) → both_saved w ≡ true → sets_of w ≡ w.sps ∷ w.pps ∷ []
both_there w e =
    let two = (and-eq-true_iff (ltb 0 (length w.sps)) (ltb 0 (length w.pps))).0 e in
    ap₂ (λ (a b : List (List ℕ)). a ++ b) (some_there w.sps two.0) (some_there w.pps two.1)

pair_carried : (mtu : ℕ) (w : Saved) → both_saved w ≡ true → carried_in (pair_for mtu w) ≡ cond (pair_fits mtu w) (sets_of w) []
pair_carried mtu w e = go (dec_le (5 + length w.sps + length w.pps) mtu)
  where
    go : Dec (5 + length w.sps + length w.pps ≤ mtu) → carried_in (pair_for mtu w) ≡ cond (pair_fits mtu w) (sets_of w) []
    go (yes h) =
        ap carried_in (pair_sent mtu w e h)
        ∙ sym (both_there w e)
        ∙ sym (ap (λ (t : Bool). cond t (sets_of w) []) (le-leb (5 + length w.sps + length w.pps) mtu h))
    go (no h) =
        ap carried_in (pair_over mtu w e (omega arith))
        ∙ sym (ap (λ (t : Bool). cond t (sets_of w) []) (lt-leb (5 + length w.sps + length w.pps) mtu (omega arith)))

groups_carry : (mtu : ℕ) (v : Saved) (c : Course) → Right v c → carried_in (groups_in mtu v c) ≡ sent mtu v c
groups_carry mtu v (quiet us) r = those_alone mtu us
groups_carry mtu v (due before unit c) r =
    let w : Saved = latest v before in
    let rest : List Group = groups_in mtu nothing_saved c in
    let one : carried_in (unit_for mtu unit) ≡ those_that (goes_out mtu) (unit ∷ []) =
    unit_carried mtu unit ∙ unit_carries mtu unit
    ∙ sym (ap (λ (k : Fate). cond (is_coded k && (leb (length unit) mtu || leb 3 mtu)) (unit ∷ []) []) r.1) in
    carried_append (alone mtu (those_that (goes_out mtu) before)) (pair_for mtu w ++ (unit_for mtu unit ++ rest))
    ∙ ap₂ (λ (a b : List (List ℕ)). a ++ b) (those_alone mtu before)
    (carried_append (pair_for mtu w) (unit_for mtu unit ++ rest)
    ∙ ap₂ (λ (a b : List (List ℕ)). a ++ b) (pair_carried mtu w r.2)
    (carried_append (unit_for mtu unit) rest
    ∙ ap₂ (λ (a b : List (List ℕ)). a ++ b) one (groups_carry mtu nothing_saved c r.3)))

pub sent_by_course : (mtu : ℕ) (v : Saved) (us : List (List ℕ)) (r : Coursed v us) → carried_in (groups_of mtu v us) ≡ sent mtu v r.course
sent_by_course mtu v us r = ap carried_in (groups_by_course v us r mtu) ∙ groups_carry mtu v r.course r.right

-- ---- each unit once

module _ (weight : List ℕ → ℕ) where
  total_append : (a b : List (List ℕ)) → total weight (a ++ b) ≡ total weight a + total weight b
  total_append [] b = omega arith
  total_append (u ∷ a) b = let rest = total_append a b in omega arith

  total_those : (test : List ℕ → Bool) (u : List ℕ) (us : List (List ℕ)) →
      total weight (those_that test (u ∷ us)) ≡ total weight (cond (test u) (u ∷ []) []) + total weight (those_that test us)
  total_those test u us = go (test u)
    where
      go : (t : Bool) → total weight (cond t (u ∷ those_that test us) (those_that test us)) ≡ total weight (cond t (u ∷ []) []) + total weight (those_that test us)
      go true = omega arith
      go false = omega arith

  total_sets : (v : Saved) → total weight (sets_of v) ≡ total weight (some v.sps) + total weight (some v.pps)
  total_sets v = total_append (some v.sps) (some v.pps)

  there : (u : List ℕ) → (fate_of u ≡ Empty → ⊥) → total weight (some u) ≡ weight u
  there [] n = absurd (n refl)
  there (b ∷ s) n = omega arith

  -- one unit, by its fate
  one_balanced : (v : Saved) (u : List ℕ) (k : Fate) (fits : Bool) → fate_of u ≡ k →
      total weight (sets_of v) + weight u ≡
      total weight (cond (is_coded k && fits) (u ∷ []) [])
      + (total weight (cond (is_dropped k) (u ∷ []) [])
      + (total weight (cond (is_coded k && not fits) (u ∷ []) [])
      + (total weight (cond (is_sps k) (some v.sps) [])
      + (total weight (cond (is_pps k) (some v.pps) [])
      + total weight (sets_of (record { sps = cond (is_sps k) u v.sps; pps = cond (is_pps k) u v.pps }))))))
  one_balanced v u Empty fits e = omega arith
  one_balanced v u Dropped fits e = omega arith
  one_balanced v u Sps fits e =
      let z : fate_of u ≡ Empty → ⊥ = λ q. let z : ◌≡◌ {A = ℕ} 0 1 = cc in omega arith in
      omega (arith, there u z, total_sets v, total_sets (record { sps = u; pps = v.pps }))
  one_balanced v u Pps fits e =
      let z : fate_of u ≡ Empty → ⊥ = λ q. let z : ◌≡◌ {A = ℕ} 0 1 = cc in omega arith in
      omega (arith, there u z, total_sets v, total_sets (record { sps = v.sps; pps = u }))
  one_balanced v u Coded true e = omega arith
  one_balanced v u Coded false e = omega arith

  balanced : (mtu : ℕ) (v : Saved) (us : List (List ℕ)) →
      total weight (sets_of v) + total weight us ≡
      total weight (those_that (goes_out mtu) us)
      + (total weight (those_that (λ (u : List ℕ). is_dropped (fate_of u)) us)
      + (total weight (those_that (cannot_go mtu) us) + (total weight (earlier_sets v us) + total weight (sets_of (latest v us)))))
  balanced mtu v [] = omega arith
  balanced mtu v (u ∷ us) =
      let rest = balanced mtu (latest v (u ∷ [])) us in
      let sps : List ℕ = cond (is_sps (fate_of u)) u v.sps in
      let pps : List ℕ = cond (is_pps (fate_of u)) u v.pps in
      omega (
        arith,
        one_balanced v u (fate_of u) (leb (length u) mtu || leb 3 mtu) refl,
        total_those (goes_out mtu) u us,
        total_those (λ (u : List ℕ). is_dropped (fate_of u)) u us,
        total_those (cannot_go mtu) u us,
        total_append (earlier is_sps v.sps (u ∷ us)) (earlier is_pps v.pps (u ∷ us)),
        total_append (earlier is_sps sps us) (earlier is_pps pps us),
        total_append (cond (is_sps (fate_of u)) (some v.sps) []) (earlier is_sps sps us),
        total_append (cond (is_pps (fate_of u)) (some v.pps) []) (earlier is_pps pps us),
      )

  total_those_append : (test : List ℕ → Bool) (a b : List (List ℕ)) →
      total weight (those_that test (a ++ b)) ≡ total weight (those_that test a) + total weight (those_that test b)
  total_those_append test [] b = omega arith
  total_those_append test (u ∷ a) b =
      let rest = total_those_append test a b in omega (arith, total_those test u (a ++ b), total_those test u a)

  -- a coded unit goes out or cannot
  coded_balanced : (mtu : ℕ) (u : List ℕ) → fate_of u ≡ Coded →
      weight u ≡ total weight (those_that (goes_out mtu) (u ∷ []))
      + (total weight (those_that (λ (u : List ℕ). is_dropped (fate_of u)) (u ∷ [])) + total weight (those_that (cannot_go mtu) (u ∷ [])))
  coded_balanced mtu u e = subst Balanced (sym e) (go (leb (length u) mtu || leb 3 mtu))
    where
      Balanced : Fate → Type 0
      Balanced k =
          weight u ≡ total weight (cond (is_coded k && (leb (length u) mtu || leb 3 mtu)) (u ∷ []) [])
          + (total weight (cond (is_dropped k) (u ∷ []) []) + total weight (cond (is_coded k && not (leb (length u) mtu || leb 3 mtu)) (u ∷ []) []))

      go : (fits : Bool) → weight u ≡ total weight (cond fits (u ∷ []) []) + (0 + total weight (cond (not fits) (u ∷ []) []))
      go true = omega arith
      go false = omega arith

  -- a pair goes out or is forgotten
  pair_balanced : (fits : Bool) (sets : List (List ℕ)) → total weight sets ≡ total weight (cond fits sets []) + total weight (cond fits [] sets)
  pair_balanced true sets = omega arith
  pair_balanced false sets = omega arith

  course_balanced : (mtu : ℕ) (v : Saved) (c : Course) → Right v c →
      total weight (sets_of v) + total weight (units_of c) ≡
      total weight (sent mtu v c)
      + (total weight (those_that (λ (u : List ℕ). is_dropped (fate_of u)) (units_of c))
      + (total weight (those_that (cannot_go mtu) (units_of c))
      + (total weight (replaced v c) + (total weight (pairs_over mtu v c) + total weight (sets_of (waiting_after v c))))))
  course_balanced mtu v (quiet us) r = omega (arith, balanced mtu v us)
  course_balanced mtu v (due before unit c) r =
      let w : Saved = latest v before in
      let rest = course_balanced mtu nothing_saved c r.3 in
      let goes : List (List ℕ) = those_that (goes_out mtu) (unit ∷ []) in
      let pair : List (List ℕ) = cond (pair_fits mtu w) (sets_of w) [] in
      let test : List ℕ → Bool = λ (u : List ℕ). is_dropped (fate_of u) in
      omega (
        arith,
        balanced mtu v before,
        pair_balanced (pair_fits mtu w) (sets_of w),
        coded_balanced mtu unit r.1,
        total_append before (unit ∷ units_of c),
        total_append (those_that (goes_out mtu) before) (pair ++ (goes ++ sent mtu nothing_saved c)),
        total_append pair (goes ++ sent mtu nothing_saved c),
        total_append goes (sent mtu nothing_saved c),
        total_those_append test before (unit ∷ units_of c),
        total_those_append test (unit ∷ []) (units_of c),
        total_those_append (cannot_go mtu) before (unit ∷ units_of c),
        total_those_append (cannot_go mtu) (unit ∷ []) (units_of c),
        total_append (earlier_sets v before) (replaced nothing_saved c),
        total_append (cond (pair_fits mtu w) [] (sets_of w)) (pairs_over mtu nothing_saved c),
      )

-- all that waited or came: sent, left out, or waiting still
pub accounted : (mtu : ℕ) (v : Saved) (us : List (List ℕ)) (r : Coursed v us) →
    Same (sets_of v ++ us) (sent mtu v r.course ++ (left_out mtu v r.course ++ sets_of (waiting_after v r.course)))
accounted mtu v us r weight =
    let c : Course = r.course in
    let dropped : List (List ℕ) = those_that (λ (u : List ℕ). is_dropped (fate_of u)) (units_of c) in
    let over : List (List ℕ) = those_that (cannot_go mtu) (units_of c) in
    ap (λ (l : List (List ℕ)). total weight (sets_of v ++ l)) r.whole
    ∙ omega (
      arith,
      course_balanced weight mtu v c r.right,
      total_append weight (sets_of v) (units_of c),
      total_append weight (sent mtu v c) (left_out mtu v c ++ sets_of (waiting_after v c)),
      total_append weight (left_out mtu v c) (sets_of (waiting_after v c)),
      total_append weight dropped (over ++ (replaced v c ++ pairs_over mtu v c)),
      total_append weight over (replaced v c ++ pairs_over mtu v c),
      total_append weight (replaced v c) (pairs_over mtu v c),
    )

-- the same of our sender's groups and of what it keeps
pub each_once : (mtu : ℕ) (v : Saved) (us : List (List ℕ)) (r : Coursed v us) →
    Same (sets_of v ++ us) (carried_in (groups_of mtu v us) ++ (left_out mtu v r.course ++ sets_of (keep_all v us)))
each_once mtu v us r weight =
    accounted mtu v us r weight
    ∙ sym (ap₂ (λ (l : List (List ℕ)) (w : Saved). total weight (l ++ (left_out mtu v r.course ++ sets_of w)))
    (sent_by_course mtu v us r) (waits_by_course v us r))
