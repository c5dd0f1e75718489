-- What becomes of a unit and of the pair at it, by the code's tests on their sizes. Assumes nothing.
use mathlib.Core.Path.{◌≡◌, refl, sym, ap, ap₂, ◌∙◌}
use mathlib.Core.Logic.{◌⊎◌, inl, inr}
use mathlib.Core.List.{List, [], ◌∷◌}
use mathlib.Core.Bool.{Bool, true, false, cond, ◌&&◌, and-false}
use Prim.Native.Nat.{ℕ, ◌+◌, ◌≤◌, ◌<◌}
use native.Mathlib.Nat.{zero-add, add-zero, add_assoc}
use native.Mathlib.Omega.{arith}
use lib.Dec.{leb, ltb}
use lib.ListN.{length}
use borrow.Author.Tests.{le-leb, lt-leb, lt-ltb, le-ltb}
use Rattle.h264_put.specs.declared.outcome.UnitOutcome.TheVariants as of_unit
use Rattle.h264_put.specs.declared.outcome.PairOutcome.TheVariants as of_pair
use Rattle.h264_put.specs.declared.outcome.Outcome.{Outcome}
use Rattle.h264_put.specs.declared.outcome.Drops.{Drops}
use Rattle.h264_put.specs.Groups.{Saved, both_saved, stap_a}
use Rattle.h264_put.specs.Outcomes.{unit_outcome, pair_outcome, unit_dropped, pair_dropped, one, drops_in, counted, together}
use Rattle.h264_put.proofs.Sinks.{length_stap_a}

module _ (mtu : ℕ) (u : List ℕ) where
  by_tests : (fits under : Bool) → leb (length u) mtu ≡ fits → ltb mtu 3 ≡ under →
      cond fits of_unit.Sent (cond under of_unit.DroppedForMtu of_unit.Sent) ≡ unit_outcome mtu u
  unfolding unit_outcome
  by_tests fits under e q = sym (ap₂ (λ (x y : Bool). cond x of_unit.Sent (cond y of_unit.DroppedForMtu of_unit.Sent)) e q)

  pub sent_alone : length u ≤ mtu → of_unit.Sent ≡ unit_outcome mtu u
  sent_alone h = by_tests true (ltb mtu 3) (le-leb (length u) mtu h) refl

  pub dropped_under : mtu < length u → mtu < 3 → of_unit.DroppedForMtu ≡ unit_outcome mtu u
  dropped_under h g = by_tests false true (lt-leb (length u) mtu h) (lt-ltb mtu 3 g)

  pub sent_divided : mtu < length u → 3 ≤ mtu → of_unit.Sent ≡ unit_outcome mtu u
  sent_divided h g = by_tests false false (lt-leb (length u) mtu h) (le-ltb mtu 3 g)

module _ (mtu : ℕ) (v : Saved) where
  by_pair : (both fits : Bool) → both_saved v ≡ both → leb (length (stap_a v.sps v.pps)) mtu ≡ fits →
      cond both (cond fits of_pair.Sent of_pair.DroppedForMtu) of_pair.NotDue ≡ pair_outcome mtu v
  unfolding pair_outcome
  by_pair both fits e q = sym (ap₂ (λ (x y : Bool). cond x (cond y of_pair.Sent of_pair.DroppedForMtu) of_pair.NotDue) e q)

  pub not_due : both_saved v ≡ false → of_pair.NotDue ≡ pair_outcome mtu v
  not_due e = by_pair false (leb (length (stap_a v.sps v.pps)) mtu) e refl

  pub due_over : both_saved v ≡ true → mtu < 5 + length v.sps + length v.pps → of_pair.DroppedForMtu ≡ pair_outcome mtu v
  due_over e h = by_pair true false e (lt-leb (length (stap_a v.sps v.pps)) mtu (rw (length_stap_a v.sps v.pps) h))

  pub due_sent : both_saved v ≡ true → 5 + length v.sps + length v.pps ≤ mtu → of_pair.Sent ≡ pair_outcome mtu v
  due_sent e h = by_pair true true e (le-leb (length (stap_a v.sps v.pps)) mtu (rw (length_stap_a v.sps v.pps) h))

-- whether both sets are there, by their lengths
pub both_there : (s p : ℕ) → 0 < s → 0 < p → (ltb 0 s && ltb 0 p) ≡ true
both_there s p h g = ap₂ ◌&&◌ (lt-ltb 0 s h) (lt-ltb 0 p g)

pub one_missing : (s p : ℕ) → (s ≡ 0) ⊎ (p ≡ 0) → (ltb 0 s && ltb 0 p) ≡ false
one_missing s p (inl e) = ap (λ (n : ℕ). ltb 0 n && ltb 0 p) e
one_missing s p (inr e) = ap (λ (n : ℕ). ltb 0 s && ltb 0 n) e ∙ and-false (ltb 0 s)

-- ---- the counts

pub none_first : (e : Drops) → together (record { units = 0; pairs = 0 }) e ≡ e
none_first e = ap₂ (λ (u p : ℕ). record { units = u; pairs = p }) (zero-add e.units) (zero-add e.pairs)

pub none_behind : (d : Drops) → together d (drops_in []) ≡ d
unfolding drops_in
none_behind d = ap₂ (λ (u p : ℕ). record { units = u; pairs = p }) (add-zero d.units) (add-zero d.pairs)

pub one_more : (d : Drops) (o : Outcome) (os : List Outcome) → together (counted d o) (drops_in os) ≡ together d (drops_in (o ∷ os))
unfolding drops_in
one_more d o os =
    ap₂ (λ (u p : ℕ). record { units = u; pairs = p })
    (add_assoc d.units (one (unit_dropped o.unit)) (drops_in os).units)
    (add_assoc d.pairs (one (pair_dropped o.pair)) (drops_in os).pairs)

-- a count grows by one at most
pub one_at_most : (b : Bool) → one b ≤ 1
one_at_most true = omega arith
one_at_most false = omega arith

pub units_grow : (d d' : Drops) (o : Outcome) → d' ≡ counted d o → d'.units ≤ d.units + 1
units_grow d d' o e = omega (arith, ap (λ (x : Drops). x.units) e, one_at_most (unit_dropped o.unit))

pub pairs_grow : (d d' : Drops) (o : Outcome) → d' ≡ counted d o → d'.pairs ≤ d.pairs + 1
pairs_grow d d' o e = omega (arith, ap (λ (x : Drops). x.pairs) e, one_at_most (pair_dropped o.pair))
