-- What one unit adds to the measure, by its fate and by the code's tests. Assumes nothing.
use mathlib.Core.Path.{◌≡◌, refl, sym, ap, ap₂, ◌∙◌}
use mathlib.Core.List.{List, [], ◌∷◌, ◌++◌, append-nil}
use mathlib.Core.Bool.{Bool, true, false, cond, ◌&&◌, ◌||◌, or-false}
use Prim.Native.Nat.{ℕ, ◌+◌, ◌-◌, ◌*◌, ◌≤◌, ◌<◌}
use native.Mathlib.Nat.{add-zero}
use native.Mathlib.Omega.{arith}
use lib.Dec.{ltb}
use lib.ListN.{length, take, drop, length-append}
use Rattle.std.specs.Prelude.{Some, None}
use Rattle.wire.specs.Packets.{joined}
use Rattle.wire.proofs.Packets.{joined_append}
use Rattle.h264_put.specs.declared.fate.Fate.{Fate}
use Rattle.h264_put.specs.declared.fate.Fate.TheVariants.{Empty, Dropped, Sps, Pps, Coded}
use Rattle.annexb.specs.declared.Piece.{Piece}
use Rattle.h264_measure.specs.declared.Size.{Size}
use Rattle.h264_measure.specs.declared.Measure.{Measure}
use Rattle.annexb.specs.Units.{pieces, units, Pieced}
use Rattle.h264_put.specs.Groups.{Saved, Group, pair, nothing_saved, both_saved, fate_of, keep, keep_by, stap_a, pair_for, unit_for, groups_for, groups_by, packets_of}
use Rattle.h264_put.specs.Step.{is_saved}
use Rattle.h264_measure.specs.Measured.{size_of, Lengths, Grown, measured, measured_all, nothing_yet}
use Rattle.annexb.proofs.Pieces.{piece_length, piece_onward, piece_more, piece_end}
use Rattle.h264_put.proofs.Sinks.{length_stap_a}
use Rattle.h264_put.proofs.Sizes.{packets_append, pair_none, pair_over, pair_sent}

-- ---- the measure

measure_path : (r t : Measure) → r.packets ≡ t.packets → r.bytes ≡ t.bytes → r.sps ≡ t.sps → r.pps ≡ t.pps → r.long ≡ t.long → r ≡ t
measure_path r t a b s p l i = record { packets = a i; bytes = b i; sps = s i; pps = p i; long = l i }

module _ (m : Measure) (mtu : ℕ) (v : Saved) (u : List ℕ) where
  -- `measured`, by a unit's fate
  measured_by : Fate → Measure
  measured_by k =
      let packets : List (List ℕ) = packets_of (groups_by k mtu v u) in
      record {
        packets = m.packets + length packets;
        bytes = m.bytes + length (joined packets);
        sps = length (keep_by k v u).sps;
        pps = length (keep_by k v u).pps;
        long = m.long || (is_saved k && ltb 1024 (length u));
      }

  by_fate : (k : Fate) → fate_of u ≡ k → measured_by k ≡ measured m mtu v u
  unfolding measured_by measured groups_for keep
  by_fate k e = sym (ap measured_by e)

  module _ (l : Lengths v m.sps m.pps) where
    -- a unit for which nothing is sent and nothing saved
    passed_over : (k : Fate) → fate_of u ≡ k → groups_by k mtu v u ≡ [] → keep_by k v u ≡ v → is_saved k ≡ false → m ≡ measured m mtu v u
    unfolding measured_by
    passed_over k e none same free =
        measure_path m (measured_by k)
        (sym (ap (λ (gs : List Group). m.packets + length (packets_of gs)) none ∙ add-zero m.packets))
        (sym (ap (λ (gs : List Group). m.bytes + length (joined (packets_of gs))) none ∙ add-zero m.bytes))
        (sym (ap (λ (x : Saved). length x.sps) same ∙ l.of_sps))
        (sym (ap (λ (x : Saved). length x.pps) same ∙ l.of_pps))
        (sym (ap (λ (t : Bool). m.long || (t && ltb 1024 (length u))) free ∙ or-false m.long))
        ∙ by_fate k e

    pub measured_empty : fate_of u ≡ Empty → m ≡ measured m mtu v u
    measured_empty e = passed_over Empty e refl refl refl

    pub measured_dropped : fate_of u ≡ Dropped → m ≡ measured m mtu v u
    measured_dropped e = passed_over Dropped e refl refl refl

    -- a unit that is saved
    pub measured_sps : fate_of u ≡ Sps → (long : Bool) → long ≡ (m.long || ltb 1024 (length u)) →
        ◌≡◌ {A = Measure} (record { packets = m.packets; bytes = m.bytes; sps = length u; pps = m.pps; long = long }) (measured m mtu v u)
    unfolding measured_by
    measured_sps e long q =
        measure_path (record { packets = m.packets; bytes = m.bytes; sps = length u; pps = m.pps; long = long }) (measured_by Sps)
        (sym (add-zero m.packets)) (sym (add-zero m.bytes)) refl (sym l.of_pps) q
        ∙ by_fate Sps e

    pub measured_pps : fate_of u ≡ Pps → (long : Bool) → long ≡ (m.long || ltb 1024 (length u)) →
        ◌≡◌ {A = Measure} (record { packets = m.packets; bytes = m.bytes; sps = m.sps; pps = length u; long = long }) (measured m mtu v u)
    unfolding measured_by
    measured_pps e long q =
        measure_path (record { packets = m.packets; bytes = m.bytes; sps = m.sps; pps = length u; long = long }) (measured_by Pps)
        (sym (add-zero m.packets)) (sym (add-zero m.bytes)) (sym l.of_sps) refl q
        ∙ by_fate Pps e

    -- a unit that is sent, with a pair before it or not
    module _ (k : fate_of u ≡ Coded) (unit : Size) (e : unit ≡ size_of (packets_of (unit_for mtu u))) where
      counted : (before : List Group) → pair_for mtu v ≡ before → length (packets_of (pair_for mtu v ++ unit_for mtu u)) ≡ length (packets_of before) + unit.packets
      unfolding size_of
      counted before q =
          ap length (packets_append (pair_for mtu v) (unit_for mtu u))
          ∙ length-append (packets_of (pair_for mtu v)) (packets_of (unit_for mtu u))
          ∙ ap₂ (λ (gs : List Group) (z : Size). length (packets_of gs) + z.packets) q (sym e)

      summed : (before : List Group) → pair_for mtu v ≡ before →
          length (joined (packets_of (pair_for mtu v ++ unit_for mtu u))) ≡ length (joined (packets_of before)) + unit.bytes
      unfolding size_of
      summed before q =
          ap (λ (ps : List (List ℕ)). length (joined ps)) (packets_append (pair_for mtu v) (unit_for mtu u))
          ∙ ap length (joined_append (packets_of (pair_for mtu v)) (packets_of (unit_for mtu u)))
          ∙ length-append (joined (packets_of (pair_for mtu v))) (joined (packets_of (unit_for mtu u)))
          ∙ ap₂ (λ (gs : List Group) (z : Size). length (joined (packets_of gs)) + z.bytes) q (sym e)

      waits : both_saved v ≡ (ltb 0 m.sps && ltb 0 m.pps)
      waits = ap₂ (λ (s p : ℕ). ltb 0 s && ltb 0 p) l.of_sps l.of_pps

      -- the record that the code makes, and the definition
      sent_as : (before : List Group) → pair_for mtu v ≡ before → (both : Bool) → both_saved v ≡ both → (r : Measure) →
          r.packets ≡ m.packets + (length (packets_of before) + unit.packets) →
          r.bytes ≡ m.bytes + (length (joined (packets_of before)) + unit.bytes) →
          r.sps ≡ length (cond both nothing_saved v).sps → r.pps ≡ length (cond both nothing_saved v).pps → r.long ≡ m.long →
          r ≡ measured m mtu v u
      unfolding measured_by
      sent_as before q both w r a b s p g =
          measure_path r (measured_by Coded)
          (a ∙ sym (ap (λ (n : ℕ). m.packets + n) (counted before q)))
          (b ∙ sym (ap (λ (n : ℕ). m.bytes + n) (summed before q)))
          (s ∙ sym (ap (λ (t : Bool). length (cond t nothing_saved v).sps) w))
          (p ∙ sym (ap (λ (t : Bool). length (cond t nothing_saved v).pps) w))
          (g ∙ sym (or-false m.long))
          ∙ by_fate Coded k

      pub coded_none : (ltb 0 m.sps && ltb 0 m.pps) ≡ false →
          ◌≡◌ {A = Measure} (record { packets = m.packets + unit.packets; bytes = m.bytes + unit.bytes; sps = m.sps; pps = m.pps; long = m.long })
          (measured m mtu v u)
      coded_none w =
          sent_as [] (pair_none mtu v (waits ∙ w)) false (waits ∙ w)
          (record { packets = m.packets + unit.packets; bytes = m.bytes + unit.bytes; sps = m.sps; pps = m.pps; long = m.long })
          (omega arith) (omega arith) (sym l.of_sps) (sym l.of_pps) refl

      pub coded_over : (ltb 0 m.sps && ltb 0 m.pps) ≡ true → mtu < 5 + m.sps + m.pps →
          ◌≡◌ {A = Measure} (record { packets = m.packets + unit.packets; bytes = m.bytes + unit.bytes; sps = 0; pps = 0; long = m.long })
          (measured m mtu v u)
      coded_over w h =
          sent_as [] (pair_over mtu v (waits ∙ w) (omega (arith, l.of_sps, l.of_pps))) true (waits ∙ w)
          (record { packets = m.packets + unit.packets; bytes = m.bytes + unit.bytes; sps = 0; pps = 0; long = m.long })
          (omega arith) (omega arith) refl refl refl

      pub coded_sent : (ltb 0 m.sps && ltb 0 m.pps) ≡ true → 5 + m.sps + m.pps ≤ mtu →
          ◌≡◌ {A = Measure}
          (record {
            packets = m.packets + unit.packets + 1;
            bytes = m.bytes + unit.bytes + (5 + m.sps + m.pps);
            sps = 0;
            pps = 0;
            long = m.long;
          })
          (measured m mtu v u)
      coded_sent w h =
          let long : length (stap_a v.sps v.pps ++ []) ≡ 5 + length v.sps + length v.pps =
          ap length (append-nil (stap_a v.sps v.pps)) ∙ length_stap_a v.sps v.pps in
          sent_as (pair v.sps v.pps ∷ []) (pair_sent mtu v (waits ∙ w) (omega (arith, l.of_sps, l.of_pps))) true (waits ∙ w)
          (record {
            packets = m.packets + unit.packets + 1;
            bytes = m.bytes + unit.bytes + (5 + m.sps + m.pps);
            sps = 0;
            pps = 0;
            long = m.long;
          })
          (omega arith) (omega (arith, l.of_sps, l.of_pps)) refl refl refl

-- ---- the loop over a frame's units: what is still to be measured leads to the goal

-- m is what the units before the place `start` take, for whatever sets of the told lengths are saved
pub record Measuring (frame : List ℕ) (mtu sps pps : ℕ) (start : ℕ) (m : Measure) : Type 0 where
  pub within : start ≤ length frame
  pub packets : m.packets ≤ 70000 * start
  pub bytes : m.bytes ≤ 70000 * start
  pub of_sps : m.sps ≤ 16777216
  pub of_pps : m.pps ≤ 16777216
  pub saved : (v : Saved) → Lengths v sps pps → Saved
  pub lengths : (v : Saved) (l : Lengths v sps pps) → Lengths (saved v l) m.sps m.pps
  pub same : (v : Saved) (l : Lengths v sps pps) →
      measured_all m mtu (saved v l) (pieces (drop start frame)) ≡ measured_all (nothing_yet sps pps) mtu v (units frame)

pub measuring_first : (frame : List ℕ) (mtu sps pps start : ℕ) → sps ≤ 1024 → pps ≤ 1024 → start ≤ length frame → pieces (drop start frame) ≡ units frame →
    Measuring frame mtu sps pps start (nothing_yet sps pps)
measuring_first frame mtu sps pps start s p h e =
    record {
      within = h;
      packets = omega arith;
      bytes = omega arith;
      of_sps = omega arith;
      of_pps = omega arith;
      saved = λ v l. v;
      lengths = λ v l. l;
      same = λ v l. ap (measured_all (nothing_yet sps pps) mtu v) e;
    }

module _
    (frame : List ℕ) (mtu sps pps start : ℕ) (m : Measure) (g : Measuring frame mtu sps pps start m) (piece : Piece)
    (p : Pieced frame start piece) (r : Measure) (grown : Grown m (length (take (piece.end - start) (drop start frame))) r)
    (is : (v : Saved) → Lengths v m.sps m.pps → r ≡ measured m mtu v (take (piece.end - start) (drop start frame)))
  where
    unit : List ℕ
    unit = take (piece.end - start) (drop start frame)

    -- the unit, then the others
    turned : (v : Saved) (l : Lengths v sps pps) (rest : List (List ℕ)) → pieces (drop start frame) ≡ unit ∷ rest →
        measured_all r mtu (keep (g.saved v l) unit) rest ≡ measured_all (nothing_yet sps pps) mtu v (units frame)
    unfolding unit
    turned v l rest e =
        ap (λ (x : Measure). measured_all x mtu (keep (g.saved v l) unit) rest) (is (g.saved v l) (g.lengths v l))
        ∙ sym (ap (measured_all m mtu (g.saved v l)) e)
        ∙ g.same v l

    pub measuring_last : piece.next ≡ None → (v : Saved) → Lengths v sps pps → r ≡ measured_all (nothing_yet sps pps) mtu v (units frame)
    unfolding unit
    measuring_last e v l =
        turned v l [] (piece_end frame start piece p e)

    pub measuring_on : (next : ℕ) → piece.next ≡ Some next → Measuring frame mtu sps pps next r
    unfolding unit measured
    measuring_on next e =
        let onward = piece_onward frame start piece p next e in
        let len : length (take (piece.end - start) (drop start frame)) ≡ piece.end - start = piece_length frame start piece p in
        record {
          within = onward.1;
          packets = omega (arith, g.packets, grown.packets, p.from, onward.0);
          bytes = omega (arith, g.bytes, grown.bytes, p.from, onward.0);
          of_sps = grown.sps;
          of_pps = grown.pps;
          saved = λ v l. keep (g.saved v l) unit;
          lengths = λ v l.
              let q = is (g.saved v l) (g.lengths v l) in
              record { of_sps = sym (ap (λ (x : Measure). x.sps) q); of_pps = sym (ap (λ (x : Measure). x.pps) q) };
          same = λ v l. turned v l (pieces (drop next frame)) (piece_more frame start piece p next e);
        }
