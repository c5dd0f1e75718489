-- "Every packet fits the mtu." Every group that is sent is one that can be: a pair or a unit that fits, or a unit that does not, in
-- parts of which each fits with its two bytes. Assumes nothing.
use mathlib.Core.Path.{◌≡◌, refl, sym, ap, subst}
use mathlib.Core.List.{List, [], ◌∷◌, map}
use mathlib.Core.Bool.{Bool, true, false, cond, ◌&&◌, and-eq-true_iff}
use Prim.Native.Nat.{ℕ, ◌+◌, ◌-◌, ◌≤◌, ◌<◌}
use native.Mathlib.Decide.{dec_le}
use native.Mathlib.Omega.{arith}
use lib.Dec.{leb, ltb}
use lib.ListN.{length}
use borrow.Author.Tests.{ltb-true, leb-true}
use Rattle.rfc6184.specs.Sending.{Each}
use Rattle.rfc6184.proofs.Each.{each_append, each_by, each_map}
use Rattle.h264_put.specs.declared.fate.Fate.{Fate}
use Rattle.h264_put.specs.declared.fate.Fate.TheVariants.{Empty, Dropped, Sps, Pps, Coded}
use Rattle.h264_put.specs.Groups.{Saved, Group, pair, plain, fragments, both_saved, fate_of, keep, stap_a, fragment, pair_for, fragments_of, unit_for, groups_by, groups_for, groups_of, packets_of_group, packets_of}
use Rattle.h264.specs.Conformance.{Sendable}
use Rattle.h264_put.proofs.UnitFates.{coded_some}
use Rattle.h264_put.proofs.Sinks.{length_stap_a, length_fragment}
use Rattle.h264_put.proofs.Sizes.{unit_alone, unit_dropped, unit_divided}
use Rattle.h264.proofs.Parts.{unit_rebuilt, unit_divided_well}

-- ---- every group can be sent

pair_sendable : (mtu : ℕ) (v : Saved) → Each (Sendable mtu) (pair_for mtu v)
unfolding pair_for
pair_sendable mtu v = go (both_saved v && leb (length (stap_a v.sps v.pps)) mtu) refl
  where
    go : (t : Bool) → (both_saved v && leb (length (stap_a v.sps v.pps)) mtu) ≡ t →
        Each (Sendable mtu) (cond t (pair v.sps v.pps ∷ []) [])
    go false e = tt
    go true e =
        let two = (and-eq-true_iff (both_saved v) (leb (length (stap_a v.sps v.pps)) mtu)).0 e in
        let each = (and-eq-true_iff (ltb 0 (length v.sps)) (ltb 0 (length v.pps))).0 two.0 in
        let l : length (stap_a v.sps v.pps) ≡ 5 + length v.sps + length v.pps = length_stap_a v.sps v.pps in
        let f : length (stap_a v.sps v.pps) ≤ mtu = leb-true (length (stap_a v.sps v.pps)) mtu two.1 in
        ((ltb-true 0 (length v.sps) each.0, ltb-true 0 (length v.pps) each.1, omega arith), tt)

fragments_sendable : (mtu : ℕ) (u : List ℕ) → 3 ≤ mtu → mtu < length u → Each (Sendable mtu) (fragments_of (mtu - 2) u)
fragments_sendable mtu [] g h = tt
fragments_sendable mtu (b ∷ s) g h =
    let e = unit_rebuilt (mtu - 2) b s (omega arith) (omega arith) in
    ((g, rw (ap length e) h, unit_divided_well (mtu - 2) b s (omega arith) (omega arith)), tt)

pub unit_sendable : (mtu : ℕ) (u : List ℕ) → 0 < length u → Each (Sendable mtu) (unit_for mtu u)
unit_sendable mtu u some = go (dec_le (length u) mtu) (dec_le 3 mtu)
  where
    go : Dec (length u ≤ mtu) → Dec (3 ≤ mtu) → Each (Sendable mtu) (unit_for mtu u)
    go (yes h) d = subst (Each (Sendable mtu)) (sym (unit_alone mtu u h)) ((some, h), tt)
    go (no h) (no g) = subst (Each (Sendable mtu)) (sym (unit_dropped mtu u (omega arith) (omega arith))) tt
    go (no h) (yes g) = subst (Each (Sendable mtu)) (sym (unit_divided mtu u (omega arith) g)) (fragments_sendable mtu u g (omega arith))

one_sendable : (mtu : ℕ) (v : Saved) (u : List ℕ) → Each (Sendable mtu) (groups_for mtu v u)
unfolding groups_for
one_sendable mtu v u = go (fate_of u) refl
  where
    go : (k : Fate) → fate_of u ≡ k → Each (Sendable mtu) (groups_by k mtu v u)
    go Empty e = tt
    go Dropped e = tt
    go Sps e = tt
    go Pps e = tt
    go Coded e = each_append (Sendable mtu) (pair_for mtu v) (unit_for mtu u) (pair_sendable mtu v) (unit_sendable mtu u (coded_some u e))

pub sendable : (mtu : ℕ) (v : Saved) (us : List (List ℕ)) → Each (Sendable mtu) (groups_of mtu v us)
sendable mtu v [] = tt
sendable mtu v (u ∷ us) =
    each_append (Sendable mtu) (groups_for mtu v u) (groups_of mtu (keep v u) us) (one_sendable mtu v u) (sendable mtu (keep v u) us)

-- ---- so every packet fits

pub group_fits : (mtu : ℕ) (g : Group) → Sendable mtu g → Each (λ (p : List ℕ). length p ≤ mtu) (packets_of_group g)
group_fits mtu (pair sps pps) w = (rw (length_stap_a sps pps) w.2, tt)
group_fits mtu (plain u) w = (w.1, tt)
group_fits mtu (fragments head first middle last) w =
    let d = w.2 in
    let three : 3 ≤ mtu = w.0 in (
      rw (length_fragment head 128 first) (omega (arith, d.first_full)),
      each_append (λ (p : List ℕ). length p ≤ mtu) (map (fragment head 0) middle) (fragment head 64 last ∷ [])
          (each_map (λ (p : List ℕ). length p ≤ mtu) (fragment head 0) middle
          (each_by (λ (x : List ℕ). length (fragment head 0 x) ≤ mtu) (λ (x : List ℕ). length x ≡ mtu - 2)
          (λ x e. rw (length_fragment head 0 x) (omega arith)) middle d.middle_full))
          (rw (length_fragment head 64 last) (omega (arith, d.last_within)), tt),
    )

groups_fit : (mtu : ℕ) (gs : List Group) → Each (Sendable mtu) gs → Each (λ (p : List ℕ). length p ≤ mtu) (packets_of gs)
groups_fit mtu [] w = tt
groups_fit mtu (g ∷ gs) w =
    each_append (λ (p : List ℕ). length p ≤ mtu) (packets_of_group g) (packets_of gs) (group_fits mtu g w.0) (groups_fit mtu gs w.1)

pub fits : (mtu : ℕ) (v : Saved) (us : List (List ℕ)) → Each (λ (p : List ℕ). length p ≤ mtu) (packets_of (groups_of mtu v us))
fits mtu v us = groups_fit mtu (groups_of mtu v us) (sendable mtu v us)
