-- Every list of units has a course, and our sender goes by it: while no pair is due, what is kept is the latest set of each kind, and what is
-- sent are the coded units, each by itself; where one is due, the pair goes before the unit and nothing is kept. Assumes nothing.
use mathlib.Core.Path.{◌≡◌, refl, sym, ap, ap₂, ◌∙◌}
use mathlib.Core.List.{List, [], ◌∷◌, ◌++◌, append_assoc}
use mathlib.Core.Bool.{Bool, true, false, cond, ◌&&◌, ◌||◌, true≢false, and-eq-true_iff}
use Prim.Native.Nat.{ℕ}
use lib.Dec.{leb}
use lib.ListN.{length}
use borrow.Author.Tests.{leb-false}
use Rattle.wire.proofs.Bools.{or_false_left, or_false_right}
use Rattle.h264_put.specs.declared.fate.Fate.{Fate}
use Rattle.h264_put.specs.declared.fate.Fate.TheVariants.{Empty, Dropped, Sps, Pps, Coded}
use Rattle.h264_put.specs.Groups.{Saved, nothing_saved, both_saved, Group, fate_of, keep, keep_by, keep_all, pair_for, unit_for, groups_by, groups_for, groups_of}
use Rattle.h264_put.proofs.Sizes.{pair_none, unit_dropped}
use Rattle.h264.specs.Conformance.{is_coded, goes_out, those_that}
use Rattle.h264.specs.Course.{is_sps, is_pps, latest, NoPair, Course, quiet, due, units_of, Right, Coursed, waiting_after, alone, groups_in}

-- ---- every list has a course

-- a unit in front, at which no pair is due
fronted : (v : Saved) (u : List ℕ) (us : List (List ℕ)) → (fate_of u ≡ Coded → both_saved v ≡ false) → Coursed (latest v (u ∷ [])) us → Coursed v (u ∷ us)
fronted v u us h r = go r.course r.whole r.right
  where
    go : (c : Course) → us ≡ units_of c → Right (latest v (u ∷ [])) c → Coursed v (u ∷ us)
    go (quiet ws) e q = record { course = quiet (u ∷ ws); whole = ap (λ (l : List (List ℕ)). u ∷ l) e; right = (h, q) }
    go (due before unit c) e q =
        record {
          course = due (u ∷ before) unit c;
          whole = ap (λ (l : List (List ℕ)). u ∷ l) e;
          right = ((h, q.0), q.1, q.2, q.3);
        }

is_coded_lem : (k : Fate) → is_coded k ≡ true → k ≡ Coded
is_coded_lem Empty e = absurd (true≢false (sym e))
is_coded_lem Dropped e = absurd (true≢false (sym e))
is_coded_lem Sps e = absurd (true≢false (sym e))
is_coded_lem Pps e = absurd (true≢false (sym e))
is_coded_lem Coded e = refl

pub has_course : (v : Saved) (us : List (List ℕ)) → Coursed v us
has_course v [] = record { course = quiet []; whole = refl; right = tt }
has_course v (u ∷ us) = go (is_coded (fate_of u) && both_saved v) refl (λ w. has_course w us)
  where
    go : (t : Bool) → (is_coded (fate_of u) && both_saved v) ≡ t → ((w : Saved) → Coursed w us) → Coursed v (u ∷ us)
    go true e again =
        let two = (and-eq-true_iff (is_coded (fate_of u)) (both_saved v)).0 e in
        let r = again nothing_saved in
        record {
          course = due [] u r.course;
          whole = ap (λ (l : List (List ℕ)). u ∷ l) r.whole;
          right = (tt, is_coded_lem (fate_of u) two.0, two.1, r.right);
        }
    go false e again =
        fronted v u us (λ k. sym (ap (λ (b : Bool). b && both_saved v) (ap is_coded k)) ∙ e) (again (latest v (u ∷ [])))

-- ---- one list behind the other

keep_append : (v : Saved) (a b : List (List ℕ)) → keep_all v (a ++ b) ≡ keep_all (keep_all v a) b
keep_append v [] b = refl
keep_append v (u ∷ a) b = keep_append (keep v u) a b

pub groups_append : (mtu : ℕ) (v : Saved) (a b : List (List ℕ)) → groups_of mtu v (a ++ b) ≡ groups_of mtu v a ++ groups_of mtu (keep_all v a) b
groups_append mtu v [] b = refl
groups_append mtu v (u ∷ a) b =
    ap (λ (gs : List Group). groups_for mtu v u ++ gs) (groups_append mtu (keep v u) a b)
    ∙ sym (append_assoc (groups_for mtu v u) (groups_of mtu (keep v u) a) (groups_of mtu (keep_all (keep v u) a) b))

-- ---- while no pair is due

pub kept_one : (v : Saved) (u : List ℕ) → (fate_of u ≡ Coded → both_saved v ≡ false) → keep v u ≡ latest v (u ∷ [])
unfolding keep
kept_one v u h = go (fate_of u) h
  where
    go : (k : Fate) → (k ≡ Coded → both_saved v ≡ false) →
        ◌≡◌ {A = Saved} (keep_by k v u) (record { sps = cond (is_sps k) u v.sps; pps = cond (is_pps k) u v.pps })
    go Empty h = refl
    go Dropped h = refl
    go Sps h = refl
    go Pps h = refl
    go Coded h = ap (λ (b : Bool). cond b nothing_saved v) (h refl)

-- the latest set of each kind is kept
pub latest_kept : (v : Saved) (us : List (List ℕ)) → NoPair v us → keep_all v us ≡ latest v us
latest_kept v [] n = refl
latest_kept v (u ∷ us) n =
    ap (λ (w : Saved). keep_all w us) (kept_one v u n.0) ∙ latest_kept (latest v (u ∷ [])) us n.1

unit_none : (mtu : ℕ) (u : List ℕ) → (leb (length u) mtu || leb 3 mtu) ≡ false → unit_for mtu u ≡ []
unit_none mtu u e =
    unit_dropped mtu u (leb-false (length u) mtu (or_false_left (leb (length u) mtu) (leb 3 mtu) e))
    (leb-false 3 mtu (or_false_right (leb (length u) mtu) (leb 3 mtu) e))

-- the coded units are sent, each by itself
sent_one : (mtu : ℕ) (v : Saved) (u : List ℕ) (us : List (List ℕ)) → (fate_of u ≡ Coded → both_saved v ≡ false) →
    groups_for mtu v u ++ alone mtu (those_that (goes_out mtu) us) ≡ alone mtu (those_that (goes_out mtu) (u ∷ us))
unfolding groups_for
sent_one mtu v u us h = go (fate_of u) h (leb (length u) mtu || leb 3 mtu) refl
  where
    others : List (List ℕ)
    others = those_that (goes_out mtu) us

    go : (k : Fate) → (k ≡ Coded → both_saved v ≡ false) → (t : Bool) → (leb (length u) mtu || leb 3 mtu) ≡ t →
        groups_by k mtu v u ++ alone mtu others ≡ alone mtu (cond (is_coded k && t) (u ∷ others) others)
    go Empty h t e = refl
    go Dropped h t e = refl
    go Sps h t e = refl
    go Pps h t e = refl
    go Coded h true e = ap (λ (gs : List Group). (gs ++ unit_for mtu u) ++ alone mtu others) (pair_none mtu v (h refl))
    go Coded h false e =
        ap₂ (λ (gs hs : List Group). (gs ++ hs) ++ alone mtu others) (pair_none mtu v (h refl)) (unit_none mtu u e)

pub no_pair_sent : (mtu : ℕ) (v : Saved) (us : List (List ℕ)) → NoPair v us → groups_of mtu v us ≡ alone mtu (those_that (goes_out mtu) us)
no_pair_sent mtu v [] n = refl
no_pair_sent mtu v (u ∷ us) n =
    ap (λ (w : Saved). groups_for mtu v u ++ groups_of mtu w us) (kept_one v u n.0)
    ∙ ap (λ (gs : List Group). groups_for mtu v u ++ gs) (no_pair_sent mtu (latest v (u ∷ [])) us n.1)
    ∙ sent_one mtu v u us n.0

-- ---- the whole course

-- at a coded unit with both sets before it
pub kept_none : (w : Saved) (u : List ℕ) → fate_of u ≡ Coded → both_saved w ≡ true → keep w u ≡ nothing_saved
unfolding keep
kept_none w u k e = ap (λ (x : Fate). keep_by x w u) k ∙ ap (λ (b : Bool). cond b nothing_saved w) e

kept_after : (v : Saved) (c : Course) → Right v c → keep_all v (units_of c) ≡ waiting_after v c
kept_after v (quiet us) r = latest_kept v us r
kept_after v (due before unit c) r =
    keep_append v before (unit ∷ units_of c)
    ∙ ap (λ (w : Saved). keep_all w (unit ∷ units_of c)) (latest_kept v before r.0)
    ∙ ap (λ (w : Saved). keep_all w (units_of c)) (kept_none (latest v before) unit r.1 r.2)
    ∙ kept_after nothing_saved c r.3

groups_sent : (mtu : ℕ) (v : Saved) (c : Course) → Right v c → groups_of mtu v (units_of c) ≡ groups_in mtu v c
unfolding groups_for
groups_sent mtu v (quiet us) r = no_pair_sent mtu v us r
groups_sent mtu v (due before unit c) r =
    let w : Saved = latest v before in
    groups_append mtu v before (unit ∷ units_of c)
    ∙ ap₂ (λ (gs : List Group) (x : Saved). gs ++ groups_of mtu x (unit ∷ units_of c)) (no_pair_sent mtu v before r.0) (latest_kept v before r.0)
    ∙ ap (λ (gs : List Group). alone mtu (those_that (goes_out mtu) before) ++ gs)
    (ap₂ (λ (k : Fate) (x : Saved). groups_by k mtu w unit ++ groups_of mtu x (units_of c)) r.1 (kept_none w unit r.1 r.2)
    ∙ append_assoc (pair_for mtu w) (unit_for mtu unit) (groups_of mtu nothing_saved (units_of c))
    ∙ ap (λ (gs : List Group). pair_for mtu w ++ (unit_for mtu unit ++ gs)) (groups_sent mtu nothing_saved c r.3))

module _ (v : Saved) (us : List (List ℕ)) (r : Coursed v us) where
  pub waits_by_course : keep_all v us ≡ waiting_after v r.course
  waits_by_course = ap (keep_all v) r.whole ∙ kept_after v r.course r.right

  pub groups_by_course : (mtu : ℕ) → groups_of mtu v us ≡ groups_in mtu v r.course
  groups_by_course mtu = ap (groups_of mtu v) r.whole ∙ groups_sent mtu v r.course r.right
