-- The groups of a pair and of a unit, by the code's tests on their sizes. Assumes nothing.
use mathlib.Core.Path.{◌≡◌, refl, sym, ap, ap₂, ◌∙◌}
use mathlib.Core.List.{List, [], ◌∷◌, ◌++◌, append_assoc}
use mathlib.Core.Bool.{Bool, true, false, cond, ◌&&◌}
use Prim.Native.Nat.{ℕ, ◌+◌, ◌-◌, ◌≤◌, ◌<◌}
use lib.Dec.{leb, ltb}
use lib.ListN.{length}
use borrow.Author.Tests.{le-leb, lt-leb, lt-ltb, le-ltb}
use Rattle.h264_put.specs.Groups.{Saved, both_saved, Group, pair, plain, stap_a, pair_for, fragments_of, unit_for, packets_of, packets_of_group}
use Rattle.h264_put.proofs.Sinks.{length_stap_a}

pub packets_append : (a b : List Group) → packets_of (a ++ b) ≡ packets_of a ++ packets_of b
packets_append [] b = refl
packets_append (g ∷ a) b =
    ap (λ (l : List (List ℕ)). packets_of_group g ++ l) (packets_append a b) ∙ sym (append_assoc (packets_of_group g) (packets_of a) (packets_of b))

-- ---- the pair

pair_by : (mtu : ℕ) (v : Saved) (both fits : Bool) → both_saved v ≡ both → leb (length (stap_a v.sps v.pps)) mtu ≡ fits →
    pair_for mtu v ≡ cond (both && fits) (pair v.sps v.pps ∷ []) []
unfolding pair_for
pair_by mtu v both fits e q = ap₂ (λ (x y : Bool). cond (x && y) (pair v.sps v.pps ∷ []) []) e q

pub pair_none : (mtu : ℕ) (v : Saved) → both_saved v ≡ false → pair_for mtu v ≡ []
pair_none mtu v e = pair_by mtu v false (leb (length (stap_a v.sps v.pps)) mtu) e refl

pub pair_over : (mtu : ℕ) (v : Saved) → both_saved v ≡ true → mtu < 5 + length v.sps + length v.pps → pair_for mtu v ≡ []
pair_over mtu v e h = pair_by mtu v true false e (lt-leb (length (stap_a v.sps v.pps)) mtu (rw (length_stap_a v.sps v.pps) h))

pub pair_sent : (mtu : ℕ) (v : Saved) → both_saved v ≡ true → 5 + length v.sps + length v.pps ≤ mtu →
    pair_for mtu v ≡ pair v.sps v.pps ∷ []
pair_sent mtu v e h = pair_by mtu v true true e (le-leb (length (stap_a v.sps v.pps)) mtu (rw (length_stap_a v.sps v.pps) h))

-- ---- a unit, in the order of the code's tests

module _ (mtu : ℕ) (u : List ℕ) where
  by_tests : (fits under : Bool) → leb (length u) mtu ≡ fits → ltb mtu 3 ≡ under →
      unit_for mtu u ≡ cond fits (plain u ∷ []) (cond under [] (fragments_of (mtu - 2) u))
  unfolding unit_for
  by_tests fits under e q = ap₂ (λ (x y : Bool). cond x (plain u ∷ []) (cond y [] (fragments_of (mtu - 2) u))) e q

  pub unit_alone : length u ≤ mtu → unit_for mtu u ≡ plain u ∷ []
  unit_alone h = by_tests true (ltb mtu 3) (le-leb (length u) mtu h) refl

  pub unit_dropped : mtu < length u → mtu < 3 → unit_for mtu u ≡ []
  unit_dropped h g = by_tests false true (lt-leb (length u) mtu h) (lt-ltb mtu 3 g)

  pub unit_divided : mtu < length u → 3 ≤ mtu → unit_for mtu u ≡ fragments_of (mtu - 2) u
  unit_divided h g = by_tests false false (lt-leb (length u) mtu h) (le-ltb mtu 3 g)
