-- What a call leaves, by the outcome of its tests. Assumes nothing.
use mathlib.Core.Path.{◌≡◌, refl, sym, ap, ap₂, ◌∙◌}
use mathlib.Core.List.{List, [], ◌∷◌}
use mathlib.Core.Bool.{Bool, true, false, cond, ◌||◌, or_assoc, or-false}
use Prim.Native.Nat.{ℕ, ◌+◌, ◌≤◌}
use native.Mathlib.Nat.{zero-add, add-zero, add_assoc}
use native.Mathlib.Omega.{arith}
use lib.Dec.{ltb}
use lib.ListN.{length, length-append}
use borrow.Author.Tests.{ltb-false, le-ltb}
use Rattle.error.specs.Said.{Said, said, says, refused}
use Rattle.wire.specs.Packets.{Sink, Room, whole, joined, put_all}
use Rattle.wire.proofs.Packets.{put_all_whole, joined_append}
use Rattle.h264_measure.specs.declared.Measure.{Measure}
use Rattle.h264_put.specs.declared.outcome.Drops.{Drops}
use Rattle.std.specs.Prelude.{Result}
use Rattle.error.specs.declared.Error.{Error}
use Rattle.h264.specs.declared.send.Written.{Written}
use Rattle.annexb.specs.Units.{units, no_units, units_at}
use Rattle.h264_put.specs.Groups.{Saved, keep, keep_all, groups_for, groups_of, packets_of}
use Rattle.h264_put.specs.Outcomes.{outcomes_of, drops_in}
use Rattle.h264_put.specs.Step.{empty_sink, too_long, over_limit}
use Rattle.h264.specs.Payload.{outside_by, too_small, LeftIn, left_with, refused_with, sent_as, left_by, call_of, sending_of}
use Rattle.h264.specs.Step.{state_by}
use Rattle.h264_measure.specs.Measured.{measured, measured_all, nothing_yet}
use Rattle.wire.proofs.Bools.{or_false_left, or_false_right}
use Rattle.h264_put.proofs.Sizes.{packets_append}

-- ---- what the measure says of all units

module _ (mtu : ℕ) where
  pub all_packets : (m : Measure) (v : Saved) (us : List (List ℕ)) → (measured_all m mtu v us).packets ≡ m.packets + length (packets_of (groups_of mtu v us))
  unfolding measured
  all_packets m v [] = sym (add-zero m.packets)
  all_packets m v (u ∷ us) =
      let now : List (List ℕ) = packets_of (groups_for mtu v u) in
      let then : List (List ℕ) = packets_of (groups_of mtu (keep v u) us) in
      all_packets (measured m mtu v u) (keep v u) us
      ∙ add_assoc m.packets (length now) (length then)
      ∙ sym (ap (λ (k : ℕ). m.packets + k)
      (ap length (packets_append (groups_for mtu v u) (groups_of mtu (keep v u) us)) ∙ length-append now then))

  pub all_bytes : (m : Measure) (v : Saved) (us : List (List ℕ)) →
      (measured_all m mtu v us).bytes ≡ m.bytes + length (joined (packets_of (groups_of mtu v us)))
  unfolding measured
  all_bytes m v [] = sym (add-zero m.bytes)
  all_bytes m v (u ∷ us) =
      let now : List (List ℕ) = packets_of (groups_for mtu v u) in
      let then : List (List ℕ) = packets_of (groups_of mtu (keep v u) us) in
      all_bytes (measured m mtu v u) (keep v u) us
      ∙ add_assoc m.bytes (length (joined now)) (length (joined then))
      ∙ sym (ap (λ (k : ℕ). m.bytes + k)
      (ap (λ (ps : List (List ℕ)). length (joined ps)) (packets_append (groups_for mtu v u) (groups_of mtu (keep v u) us))
      ∙ ap length (joined_append now then)
      ∙ length-append (joined now) (joined then)))

  pub all_long : (m : Measure) (v : Saved) (us : List (List ℕ)) → (measured_all m mtu v us).long ≡ (m.long || over_limit us)
  unfolding measured
  all_long m v [] = sym (or-false m.long)
  all_long m v (u ∷ us) = all_long (measured m mtu v u) (keep v u) us ∙ or_assoc m.long (too_long u) (over_limit us)

-- ---- the call

-- output and table as they stand, and what was dropped, beside the state
abbrev pub left_at : {S : Type 0} → S → Sink → Drops → LeftIn S
left_at state s d =
    record {
      sender = state;
      answer = says (record { packets = s.n; bytes = s.at; units_dropped = d.units; pairs_dropped = d.pairs });
      out = s.out;
      ends = s.ends;
    }

pub fits_small : (packets : List (List ℕ)) (out ends : List ℕ) → Room (empty_sink out ends) packets → too_small packets out ends ≡ false
fits_small packets out ends r =
    ap₂ (λ (x y : Bool). x || y)
    (le-ltb (length out) (length (joined packets)) (omega (arith, r.bytes)))
    (le-ltb (length ends) (length packets) (omega (arith, r.places)))

-- ---- a frame within the domain

module _ (v : Saved) (mtu : ℕ) (frame out ends : List ℕ) where
  answer : List (List ℕ) → LeftIn Saved
  answer us = sent_as (keep_all v us) (packets_of (groups_of mtu v us)) (drops_in (outcomes_of mtu v us)) out ends

  small : List (List ℕ) → Bool
  small us = too_small (packets_of (groups_of mtu v us)) out ends

  by_tests : (us : List (List ℕ)) (l t : Bool) → units_at mtu frame ≡ us → over_limit us ≡ l → small us ≡ t →
      left_by false l t (refused_with 8 v out ends) (refused_with 7 v out ends) (refused_with 5 v out ends) (answer us) ≡ sending_of false v mtu frame out ends
  unfolding sending_of answer small
  by_tests us l t e b c =
      let outcome : Bool → Bool → List (List ℕ) → LeftIn Saved =
      λ (y z : Bool) (ps : List (List ℕ)).
      left_by false y z (refused_with 8 v out ends) (refused_with 7 v out ends) (refused_with 5 v out ends) (answer ps) in
      sym (ap (λ (ps : List (List ℕ)). outcome (over_limit ps) (small ps) ps) e
      ∙ ap (λ (y : Bool). outcome y (small us) us) b
      ∙ ap (λ (z : Bool). outcome l z us) c)

  -- what is sent, as output and table have it
  finished : (us : List (List ℕ)) → units_at mtu frame ≡ us → over_limit us ≡ false → Room (empty_sink out ends) (packets_of (groups_of mtu v us)) →
      (v' : Saved) (s : Sink) (d : Drops) → v' ≡ keep_all v us → s ≡ put_all (empty_sink out ends) (packets_of (groups_of mtu v us)) →
      d ≡ drops_in (outcomes_of mtu v us) → left_at v' s d ≡ sending_of false v mtu frame out ends
  unfolding answer small
  finished us e limit room v' s d a b k =
      let packets : List (List ℕ) = packets_of (groups_of mtu v us) in
      ap₂ (λ (x : Saved) (y : Sink). left_at x y d) a (b ∙ put_all_whole (empty_sink out ends) packets room)
      ∙ ap (left_at (keep_all v us) (whole (empty_sink out ends) packets)) k
      ∙ by_tests us false false e limit (fits_small packets out ends room)

  -- "An empty frame or mtu 0 gives no packets and saves nothing."
  pub call_nothing : no_units mtu (length frame) ≡ true → left_at v (empty_sink out ends) (record { units = 0; pairs = 0 }) ≡ sending_of false v mtu frame out ends
  unfolding units_at drops_in
  call_nothing e =
      finished [] (ap (λ (b : Bool). cond b [] (units frame)) e) refl (record { bytes = omega arith; places = omega arith }) v (empty_sink out ends)
      (record { units = 0; pairs = 0 }) refl refl refl

-- a frame some unit of which counts, and its measure
pub record Judged (v : Saved) (mtu : ℕ) (frame : List ℕ) (m : Measure) : Type 0 where
  pub some : no_units mtu (length frame) ≡ false
  pub sps : ℕ
  pub pps : ℕ
  pub measure : m ≡ measured_all (nothing_yet sps pps) mtu v (units frame)

module _ {v : Saved} {mtu : ℕ} {frame : List ℕ} {m : Measure} (j : Judged v mtu frame m) (out ends : List ℕ) where
  units_are : units_at mtu frame ≡ units frame
  unfolding units_at
  units_are = ap (λ (x : Bool). cond x [] (units frame)) j.some

  long_is : m.long ≡ over_limit (units frame)
  long_is = ap (λ (x : Measure). x.long) j.measure ∙ all_long mtu (nothing_yet j.sps j.pps) v (units frame)

  bytes_are : m.bytes ≡ length (joined (packets_of (groups_of mtu v (units frame))))
  bytes_are = ap (λ (x : Measure). x.bytes) j.measure ∙ all_bytes mtu (nothing_yet j.sps j.pps) v (units frame) ∙ zero-add _

  packets_are : m.packets ≡ length (packets_of (groups_of mtu v (units frame)))
  packets_are = ap (λ (x : Measure). x.packets) j.measure ∙ all_packets mtu (nothing_yet j.sps j.pps) v (units frame) ∙ zero-add _

  small_is : (ltb (length out) m.bytes || ltb (length ends) m.packets) ≡ small v mtu frame out ends (units frame)
  unfolding small
  small_is = ap₂ (λ (x y : ℕ). ltb (length out) x || ltb (length ends) y) bytes_are packets_are

  pub call_long : m.long ≡ true → refused_with 7 v out ends ≡ sending_of false v mtu frame out ends
  call_long q = by_tests v mtu frame out ends (units frame) true (small v mtu frame out ends (units frame)) units_are (sym long_is ∙ q) refl

  module _ (short : m.long ≡ false) where
    pub call_small : (ltb (length out) m.bytes || ltb (length ends) m.packets) ≡ true → refused_with 5 v out ends ≡ sending_of false v mtu frame out ends
    call_small q = by_tests v mtu frame out ends (units frame) false true units_are (sym long_is ∙ short) (sym small_is ∙ q)

    pub call_limit : over_limit (units frame) ≡ false
    call_limit = sym long_is ∙ short

    module _ (fits : (ltb (length out) m.bytes || ltb (length ends) m.packets) ≡ false) where
      pub call_room : Room (empty_sink out ends) (packets_of (groups_of mtu v (units frame)))
      call_room =
          let x : m.bytes ≤ length out = ltb-false (length out) m.bytes (or_false_left (ltb (length out) m.bytes) _ fits) in
          let y : m.packets ≤ length ends = ltb-false (length ends) m.packets (or_false_right (ltb (length out) m.bytes) _ fits) in
          record { bytes = omega (arith, bytes_are); places = omega (arith, packets_are) }

      pub call_sent : (v' : Saved) (s : Sink) (d : Drops) → v' ≡ keep_all v (units frame) →
          s ≡ put_all (empty_sink out ends) (packets_of (groups_of mtu v (units frame))) → d ≡ drops_in (outcomes_of mtu v (units frame)) →
          left_at v' s d ≡ sending_of false v mtu frame out ends
      call_sent v' s d state put counts = finished v mtu frame out ends (units frame) units_are call_limit call_room v' s d state put counts

-- ---- the domain, and the state

-- of lengths within the domain
module _ (n k mtu : ℕ) (frame : List ℕ) (inside : outside_by n k mtu frame ≡ false) where
  past_sps : (ltb 1024 k || (ltb 65535 mtu || ltb 16777216 (length frame))) ≡ false
  past_sps = or_false_right (ltb 1024 n) _ inside

  past_pps : (ltb 65535 mtu || ltb 16777216 (length frame)) ≡ false
  past_pps = or_false_right (ltb 1024 k) _ past_sps

  pub inside_sps : n ≤ 1024
  inside_sps = ltb-false 1024 n (or_false_left (ltb 1024 n) _ inside)

  pub inside_pps : k ≤ 1024
  inside_pps = ltb-false 1024 k (or_false_left (ltb 1024 k) _ past_sps)

  pub inside_mtu : mtu ≤ 65535
  inside_mtu = ltb-false 65535 mtu (or_false_left (ltb 65535 mtu) _ past_pps)

  pub inside_frame : length frame ≤ 16777216
  inside_frame = ltb-false 16777216 (length frame) (or_false_right (ltb 65535 mtu) (ltb 16777216 (length frame)) past_pps)

-- outside it is refused, whatever the frame
pub call_outside : (v : Saved) (mtu : ℕ) (frame out ends : List ℕ) → refused_with 8 v out ends ≡ sending_of true v mtu frame out ends
unfolding sending_of
call_outside v mtu frame out ends = refl

-- a call, by the outcome of its first test
pub call_by : (o b : Bool) → o ≡ b → (v : Saved) (mtu : ℕ) (frame out ends : List ℕ) (x : LeftIn Saved) → x ≡ sending_of b v mtu frame out ends →
    x ≡ sending_of o v mtu frame out ends
call_by o b e v mtu frame out ends x q = q ∙ sym (ap (λ (t : Bool). sending_of t v mtu frame out ends) e)

-- what a frame leaves, where the state is said otherwise
abbrev restated : {S : Type 0} → S → (Saved → S) → LeftIn Saved → LeftIn S
restated state laid x =
    record { sender = state_by x.answer state (laid x.sender); answer = x.answer; out = x.out; ends = x.ends }

module _ {S : Type 0} (state : S) (laid : Saved → S) (v : Saved) (mtu : ℕ) (frame out ends : List ℕ) where
  by_outcome : (o l t : Bool) (kept : Saved) (packets : List (List ℕ)) (d : Drops) →
      restated state laid (left_by o l t (refused_with 8 v out ends) (refused_with 7 v out ends) (refused_with 5 v out ends) (sent_as kept packets d out ends)) ≡
      left_by o l t (refused_with 8 state out ends) (refused_with 7 state out ends) (refused_with 5 state out ends) (sent_as (laid kept) packets d out ends)
  by_outcome true l t kept packets d = refl
  by_outcome false true t kept packets d = refl
  by_outcome false false true kept packets d = refl
  by_outcome false false false kept packets d = refl

  as_stated : (o : Bool) → restated state laid (sending_of o v mtu frame out ends) ≡ call_of o state laid v mtu frame out ends
  unfolding sending_of
  as_stated o =
      let us : List (List ℕ) = units_at mtu frame in
      let packets : List (List ℕ) = packets_of (groups_of mtu v us) in
      by_outcome o (over_limit us) (too_small packets out ends) (keep_all v us) packets (drops_in (outcomes_of mtu v us))

-- a state that is kept beside a refusal is so too where it is said otherwise
same_state : {S : Type 0} (state : S) (laid : Saved → S) (v v' : Saved) (a : Said Written) → state_by a state (laid v') ≡ state_by a state (laid (state_by a v v'))
same_state state laid v v' (says c) = refl
same_state state laid v v' (refused r) = refl

-- a call leaves the state that the answer asks for
pub call_stated : {S : Type 0} (state : S) (laid : Saved → S) (o : Bool) (v : Saved) (mtu : ℕ) (frame out ends : List ℕ) (v' : Saved) (a : Result Written Error) (out' ends' : List ℕ) →
    left_with (state_by (said a) v v') a out' ends' ≡ sending_of o v mtu frame out ends → (after : S) → after ≡ state_by (said a) state (laid v') →
    left_with after a out' ends' ≡ call_of o state laid v mtu frame out ends
call_stated {S} state laid o v mtu frame out ends v' a out' ends' e after q =
    ap (λ (x : S). left_with x a out' ends') (q ∙ same_state state laid v v' (said a))
    ∙ ap (restated state laid) e
    ∙ as_stated state laid v mtu frame out ends o
