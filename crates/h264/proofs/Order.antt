-- The order and the time of parameter sets on the wire are not those in which they came: a set that waits for the other is passed by coded units, a
-- pair goes out with the sequence parameter set first, and the borders of frames are not looked at. Each is one step of the sender. Assumes nothing.
use mathlib.Core.Path.{◌≡◌, refl, sym, ap, ap₂, ◌∙◌}
use mathlib.Core.List.{List, [], ◌∷◌, ◌++◌}
use mathlib.Core.Bool.{Bool, false, cond, ◌&&◌, and-false}
use Prim.Native.Nat.{ℕ}
use lib.Dec.{ltb}
use lib.ListN.{length}
use Rattle.h264_put.specs.declared.fate.Fate.{Fate}
use Rattle.h264_put.specs.declared.fate.Fate.TheVariants.{Sps, Pps, Coded}
use Rattle.h264_put.specs.Groups.{Saved, nothing_saved, both_saved, Group, fate_of, keep, keep_by, keep_all, unit_for, groups_by, groups_for, groups_of}
use Rattle.h264_put.proofs.Sizes.{pair_none}
use Rattle.annexb.specs.Units.{units_at}
use Rattle.h264.specs.Frames.{groups_from, units_of_frames}
use Rattle.h264.proofs.Courses.{groups_append}

-- ---- one unit in front

module _ (mtu : ℕ) (v : Saved) (u : List ℕ) (us : List (List ℕ)) where
  by_fate : (k : Fate) → fate_of u ≡ k → groups_of mtu v (u ∷ us) ≡ groups_by k mtu v u ++ groups_of mtu (keep_by k v u) us
  unfolding groups_for keep
  by_fate k e = ap (λ (x : Fate). groups_by x mtu v u ++ groups_of mtu (keep_by x v u) us) e

  coded_first : fate_of u ≡ Coded → both_saved v ≡ false → groups_of mtu v (u ∷ us) ≡ unit_for mtu u ++ groups_of mtu v us
  coded_first k e =
      by_fate Coded k
      ∙ ap₂ (λ (gs : List Group) (w : Saved). (gs ++ unit_for mtu u) ++ groups_of mtu w us) (pair_none mtu v e) (ap (λ (b : Bool). cond b nothing_saved v) e)

-- ---- the order

-- a sequence parameter set that waits alone goes out as if it had come behind a coded unit that came behind it
pub sps_passed : (mtu : ℕ) (v : Saved) (set u : List ℕ) (us : List (List ℕ)) → fate_of set ≡ Sps → fate_of u ≡ Coded → v.pps ≡ [] →
    groups_of mtu v (set ∷ u ∷ us) ≡ groups_of mtu v (u ∷ set ∷ us)
sps_passed mtu v set u us s k e =
    let w : Saved = record { sps = set; pps = v.pps } in
    let none : (x : List ℕ) → (ltb 0 (length x) && ltb 0 (length v.pps)) ≡ false =
    λ x. ap (λ (l : List ℕ). ltb 0 (length x) && ltb 0 (length l)) e ∙ and-false (ltb 0 (length x)) in
    by_fate mtu v set (u ∷ us) Sps s
    ∙ coded_first mtu w u us k (none set)
    ∙ sym (ap (λ (gs : List Group). unit_for mtu u ++ gs) (by_fate mtu v set us Sps s))
    ∙ sym (coded_first mtu v u (set ∷ us) k (none v.sps))

-- a picture parameter set likewise
pub pps_passed : (mtu : ℕ) (v : Saved) (set u : List ℕ) (us : List (List ℕ)) → fate_of set ≡ Pps → fate_of u ≡ Coded → v.sps ≡ [] →
    groups_of mtu v (set ∷ u ∷ us) ≡ groups_of mtu v (u ∷ set ∷ us)
pps_passed mtu v set u us p k e =
    let w : Saved = record { sps = v.sps; pps = set } in
    let none : (x : List ℕ) → (ltb 0 (length v.sps) && ltb 0 (length x)) ≡ false =
    λ x. ap (λ (l : List ℕ). ltb 0 (length l) && ltb 0 (length x)) e in
    by_fate mtu v set (u ∷ us) Pps p
    ∙ coded_first mtu w u us k (none set)
    ∙ sym (ap (λ (gs : List Group). unit_for mtu u ++ gs) (by_fate mtu v set us Pps p))
    ∙ sym (coded_first mtu v u (set ∷ us) k (none v.pps))

-- which of the two came first makes no difference
pub either_order : (mtu : ℕ) (v : Saved) (sps pps : List ℕ) (us : List (List ℕ)) → fate_of sps ≡ Sps → fate_of pps ≡ Pps →
    groups_of mtu v (pps ∷ sps ∷ us) ≡ groups_of mtu v (sps ∷ pps ∷ us)
either_order mtu v sps pps us s p =
    by_fate mtu v pps (sps ∷ us) Pps p
    ∙ by_fate mtu (record { sps = v.sps; pps = pps }) sps us Sps s
    ∙ sym (by_fate mtu (record { sps = sps; pps = v.pps }) pps us Pps p)
    ∙ sym (by_fate mtu v sps (pps ∷ us) Sps s)

-- ---- the time

-- what is sent for frames is what is sent for their units, whatever frame each came in
pub borders_unseen : (mtu : ℕ) (v : Saved) (frames : List (List ℕ)) → groups_from mtu v frames ≡ groups_of mtu v (units_of_frames mtu frames)
borders_unseen mtu v [] = refl
borders_unseen mtu v (frame ∷ frames) =
    ap (λ (gs : List Group). groups_of mtu v (units_at mtu frame) ++ gs) (borders_unseen mtu (keep_all v (units_at mtu frame)) frames)
    ∙ sym (groups_append mtu v (units_at mtu frame) (units_of_frames mtu frames))
