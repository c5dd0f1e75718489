-- Nothing but empty units, types 9 and 12, sets that are saved and what cannot fit is left out: the units that the groups carry are,
-- in order, exactly the others. And with both sets saved, a unit that goes out or not is preceded by the pair wherever that fits.
-- Assumes nothing.
use mathlib.Core.Path.{◌≡◌, refl, sym, ap, ap₂, ◌∙◌}
use mathlib.Core.List.{List, [], ◌∷◌, ◌++◌}
use mathlib.Core.Bool.{Bool, true, false, cond, ◌&&◌, ◌||◌}
use Prim.Native.Nat.{ℕ, ◌+◌, ◌-◌, ◌≤◌, ◌<◌}
use native.Mathlib.Decide.{dec_le}
use native.Mathlib.Omega.{arith}
use lib.Dec.{leb}
use lib.ListN.{length}
use borrow.Author.Tests.{le-leb, lt-leb}
use Rattle.h264_put.specs.declared.fate.Fate.{Fate}
use Rattle.h264_put.specs.declared.fate.Fate.TheVariants.{Empty, Dropped, Sps, Pps, Coded}
use Rattle.h264_put.specs.Groups.{Saved, Group, pair, plain, fragments, both_saved, fate_of, keep, stap_a, pair_for, fragments_of, unit_for, groups_by, groups_for, groups_of}
use Rattle.h264.specs.Conformance.{rebuilt, units_in, is_coded, goes_out, those_that}
use Rattle.h264_put.proofs.Sizes.{pair_sent, unit_alone, unit_dropped, unit_divided}
use Rattle.h264.proofs.Parts.{unit_rebuilt}

pub units_append : (a b : List Group) → units_in (a ++ b) ≡ units_in a ++ units_in b
units_append [] b = refl
units_append (pair sps pps ∷ a) b = units_append a b
units_append (plain u ∷ a) b = ap (λ (l : List (List ℕ)). u ∷ l) (units_append a b)
units_append (fragments head first middle last ∷ a) b = ap (λ (l : List (List ℕ)). rebuilt head first middle last ∷ l) (units_append a b)

pub pair_carries : (mtu : ℕ) (v : Saved) → units_in (pair_for mtu v) ≡ []
unfolding pair_for
pair_carries mtu v = go (both_saved v && leb (length (stap_a v.sps v.pps)) mtu)
  where
    go : (t : Bool) → units_in (cond t (pair v.sps v.pps ∷ []) []) ≡ []
    go true = refl
    go false = refl

fragments_carry : (mtu : ℕ) (u : List ℕ) → 3 ≤ mtu → mtu < length u → units_in (fragments_of (mtu - 2) u) ≡ u ∷ []
fragments_carry mtu [] g h = absurd (omega arith)
fragments_carry mtu (b ∷ s) g h = ap (λ (u : List ℕ). u ∷ []) (unit_rebuilt (mtu - 2) b s (omega arith) (omega arith))

pub unit_carries : (mtu : ℕ) (u : List ℕ) → units_in (unit_for mtu u) ≡ cond (leb (length u) mtu || leb 3 mtu) (u ∷ []) []
unit_carries mtu u = go (dec_le (length u) mtu) (dec_le 3 mtu)
  where
    said : (a b : Bool) → leb (length u) mtu ≡ a → leb 3 mtu ≡ b → cond (a || b) (u ∷ []) [] ≡ cond (leb (length u) mtu || leb 3 mtu) (u ∷ []) []
    said a b e q = sym (ap₂ (λ (x y : Bool). cond (x || y) (u ∷ []) []) e q)

    go : Dec (length u ≤ mtu) → Dec (3 ≤ mtu) → units_in (unit_for mtu u) ≡ cond (leb (length u) mtu || leb 3 mtu) (u ∷ []) []
    go (yes h) d = ap units_in (unit_alone mtu u h) ∙ said true (leb 3 mtu) (le-leb (length u) mtu h) refl
    go (no h) (no g) =
        ap units_in (unit_dropped mtu u (omega arith) (omega arith)) ∙ said false false (lt-leb (length u) mtu (omega arith)) (lt-leb 3 mtu (omega arith))
    go (no h) (yes g) =
        ap units_in (unit_divided mtu u (omega arith) g)
        ∙ fragments_carry mtu u g (omega arith)
        ∙ said false true (lt-leb (length u) mtu (omega arith)) (le-leb 3 mtu g)

one_carries : (mtu : ℕ) (v : Saved) (u : List ℕ) → units_in (groups_for mtu v u) ≡ cond (goes_out mtu u) (u ∷ []) []
unfolding groups_for
one_carries mtu v u = go (fate_of u)
  where
    go : (k : Fate) → units_in (groups_by k mtu v u) ≡ cond (is_coded k && (leb (length u) mtu || leb 3 mtu)) (u ∷ []) []
    go Empty = refl
    go Dropped = refl
    go Sps = refl
    go Pps = refl
    go Coded =
        units_append (pair_for mtu v) (unit_for mtu u)
        ∙ ap (λ (l : List (List ℕ)). l ++ units_in (unit_for mtu u)) (pair_carries mtu v)
        ∙ unit_carries mtu u

pub left_out_lem : (mtu : ℕ) (v : Saved) (us : List (List ℕ)) → units_in (groups_of mtu v us) ≡ those_that (goes_out mtu) us
left_out_lem mtu v [] = refl
left_out_lem mtu v (u ∷ us) =
    units_append (groups_for mtu v u) (groups_of mtu (keep v u) us)
    ∙ ap₂ (λ (a b : List (List ℕ)). a ++ b) (one_carries mtu v u) (left_out_lem mtu (keep v u) us)
    ∙ go (goes_out mtu u)
  where
    go : (t : Bool) → cond t (u ∷ []) [] ++ those_that (goes_out mtu) us ≡ cond t (u ∷ those_that (goes_out mtu) us) (those_that (goes_out mtu) us)
    go true = refl
    go false = refl

-- "Any other unit, with both saved, is preceded by a STAP-A (0x78) if that fits the mtu"
pub pair_first : (mtu : ℕ) (v : Saved) (u : List ℕ) → fate_of u ≡ Coded → both_saved v ≡ true → 5 + length v.sps + length v.pps ≤ mtu →
    groups_for mtu v u ≡ pair v.sps v.pps ∷ unit_for mtu u
unfolding groups_for
pair_first mtu v u k e h =
    ap (λ (x : Fate). groups_by x mtu v u) k ∙ ap (λ (gs : List Group). gs ++ unit_for mtu u) (pair_sent mtu v e h)
