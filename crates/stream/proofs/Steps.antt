-- The laws of a step through a file: a packet that is found lies within the bytes, and what is left stands behind it. Assumes nothing.
use Rattle.std.proofs.Common.{◌≡◌, ℕ, ◌+◌, ◌-◌, ◌≤◌, Bool, true, false, cond, ltb, leb, List, length, take, drop, sym, refl, ap, arith, length-take-le, ltb-false}
use mathlib.Core.Path.{subst⁻¹}
use native.Mathlib.Nat.{sub-zero}
use Rattle.wire.specs.Net.{u16_at}
use Rattle.stream.specs.declared.framing.Record.{Record}
use Rattle.stream.specs.declared.framing.Record.TheVariants.{Packet, Cut, End}
use Rattle.stream.specs.declared.records.Next.{Next}
use Rattle.stream.specs.declared.window.Window.{Window}
use Rattle.stream.specs.Framing.{record_at}
use Rattle.stream.specs.Records.{past_record, found_in}
use Rattle.stream.specs.Window.{nothing_read, Within}

-- ---- where a packet lies

module _ (s : List ℕ) (from at len : ℕ) where
  by_tests : (none short cut : Bool) (n : ℕ) → ltb (length s) (from + 2 + n) ≡ cut →
      cond none End (cond short Cut (cond cut Cut (Packet (from + 2) n))) ≡ Packet at len → (from ≤ at) × (at + len ≤ length s)
  by_tests true short cut n is e = let z : ◌≡◌ {A = ℕ} 0 1 = cc in absurd (omega arith)
  by_tests false true cut n is e = let z : ◌≡◌ {A = ℕ} 0 1 = cc in absurd (omega arith)
  by_tests false false true n is e = let z : ◌≡◌ {A = ℕ} 0 1 = cc in absurd (omega arith)
  by_tests false false false n is e =
      let place : from + 2 ≡ at = cc in
      let size : n ≡ len = cc in
      (omega arith, omega (arith, ltb-false (length s) (from + 2 + n) is))

  pub packet_inside : record_at s from ≡ Packet at len → (from ≤ at) × (at + len ≤ length s)
  unfolding record_at
  packet_inside e =
      by_tests (leb (length s) from) (ltb (length s) (from + 2)) (ltb (length s) (from + 2 + u16_at s from)) (u16_at s from) refl e

-- ---- a step

module _ (buf : List ℕ) (w : Window) where
  -- the step, by what was found
  pub found_so : (f : Record) → record_at (take w.end buf) w.at ≡ f →
      ◌≡◌ {A = Next Record} (record { window = past_record w f; found = f }) (found_in buf w)
  unfolding found_in
  found_so f e = sym (ap (λ (g : Record). record { window = past_record w g; found = g }) e)

  pub step_inside : Within w (length buf) → (r : Next Record) → r ≡ found_in buf w → Within r.window (length buf)
  unfolding found_in
  step_inside within r e =
      subst⁻¹ (λ (n : Next Record). Within n.window (length buf)) e (go (record_at (take w.end buf) w.at) refl)
    where
      go : (f : Record) → record_at (take w.end buf) w.at ≡ f → Within (past_record w f) (length buf)
      go (Packet at len) is =
          let l : length (take w.end buf) ≡ w.end = length-take-le w.end buf within.inside in
          let p = packet_inside (take w.end buf) w.at at len is in
          record { ordered = omega arith; inside = within.inside }
      go Cut is = within
      go End is = within

-- before the first read
pub new_inside : (w : Window) (size : ℕ) → w ≡ nothing_read → Within w size
new_inside w size e =
    subst⁻¹ (λ (x : Window). Within x size) e (record { ordered = omega arith; inside = omega arith })

-- a part from the first place on, as code lends it
pub front : (n : ℕ) (s : List ℕ) → take (n - 0) (drop 0 s) ≡ take n s
front n s = ap (λ (k : ℕ). take k s) (sub-zero n)
