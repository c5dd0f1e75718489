-- From the calls to the show: a call that is not refused leaves its packets one behind the other and their ends in the table, so that cutting gives
-- them back; the packet writer does with each what the show says; and a packet that arrives is one of those. Assumes nothing.
use mathlib.Core.Path.{◌≡◌, refl, sym, ap, ap₂, subst, ◌∙◌}
use mathlib.Core.Bool.{Bool, true, false, ◌||◌}
use mathlib.Core.List.{List, [], ◌∷◌, ◌++◌, map}
use Prim.Native.Nat.{ℕ, suc, ◌+◌, ◌≤◌, ◌<◌}
use native.Mathlib.Omega.{arith}
use lib.Dec.{ltb}
use lib.ListN.{length, take, get_or}
use borrow.Author.Tests.{ltb-false, le-ltb}
use Rattle.error.specs.Said.{says}
use Rattle.wire.specs.Each.{Each}
use Rattle.wire.specs.Packets.{joined, cut, Sink, whole, Room}
use Rattle.wire.proofs.Each.{each_by}
use Rattle.wire.proofs.Packets.{cut_whole}
use Rattle.packet.proofs.Plain.{plain_written}
use Rattle.h264.specs.declared.send.H264Payloader.{H264Payloader}
use Rattle.annexb.specs.Units.{units_at}
use Rattle.h264_put.specs.Groups.{Saved, nothing_saved, keep, keep_all, groups_of, packets_of}
use Rattle.h264_put.specs.declared.outcome.Drops.{Drops}
use Rattle.h264_put.specs.Outcomes.{outcomes_of, drops_in}
use Rattle.h264_put.specs.Step.{empty_sink, too_long, over_limit}
use Rattle.h264.specs.declared.send.Written.{Written}
use Rattle.h264.specs.Payload.{Left, lay_out, saved_in, outside, too_small, refused_with, sent_as, left_by, payload_of}
use Rattle.h264.specs.Frames.{groups_from, groups_sent}
use Rattle.wire.proofs.Bools.{or_false_left, or_false_right}
use Rattle.h264_put.proofs.Sizes.{packets_append}
use Rattle.h264.proofs.Calls.{fits_small}
use Rattle.h264.proofs.State.{saved_laid, Short, short_keep}
use Rattle.error.proofs.Refusing.{not_says, same_answer}
use Rattle.sequence.specs.Number.{number_of}
use Rattle.sequence.specs.Arrival.{Arrival, ours, other, raised, Window}
use Rattle.sequence.specs.Joiner.{bytes_of}
use Rattle.joiner.specs.Join.{avc_of, opened}
use Rattle.delivery.specs.Show.{payloads, count, payload, packet}
use Rattle.delivery.specs.Play.{our_joiner, arriving}
use Rattle.delivery.specs.Demand.{DeliveredOn}
use Rattle.delivery.specs.Frames.{Sending, show_of, FrameOk, SendingPremises}
use Rattle.delivery.specs.Calls.{Lent, sending, NoneRefused, calls_for, LentEnough, cut_by, written, writing, Wrote, FromTheCalls}
use Rattle.delivery.proofs.Delivering.{short_at, all_delivered}
use Rattle.delivery.proofs.Sending.{same_packets, short_payloads, sent_show}

-- ---- one call

-- a call that is not refused has passed its tests
not_refused : (outside long small : Bool) (h : H264Payloader) (out ends : List ℕ) (answer : Left) →
    (c : Written) × ((left_by outside long small (refused_with 8 h out ends) (refused_with 7 h out ends) (refused_with 5 h out ends) answer).answer ≡ says c) →
    (left_by outside long small (refused_with 8 h out ends) (refused_with 7 h out ends) (refused_with 5 h out ends) answer ≡ answer) × (small ≡ false)
not_refused true long small h out ends answer w = absurd (not_says w.1)
not_refused false true small h out ends answer w = absurd (not_says w.1)
not_refused false false true h out ends answer w = absurd (not_says w.1)
not_refused false false false h out ends answer w = (refl, refl)

-- there was room
room_of : (ps : List (List ℕ)) (out ends : List ℕ) → too_small ps out ends ≡ false → Room (empty_sink out ends) ps
room_of ps out ends e =
    let bytes : length (joined ps) ≤ length out =
    ltb-false (length out) (length (joined ps)) (or_false_left (ltb (length out) (length (joined ps))) (ltb (length ends) (length ps)) e) in
    let places : length ps ≤ length ends =
    ltb-false (length ends) (length ps) (or_false_right (ltb (length out) (length (joined ps))) (ltb (length ends) (length ps)) e) in
    record { bytes = omega arith; places = omega arith }

-- what such a call leaves, cut at the ends that it wrote
cut_sent : (v : Saved) (ps : List (List ℕ)) (d : Drops) (out ends : List ℕ) → Room (empty_sink out ends) ps →
    let l : Left = sent_as (lay_out v) ps d out ends in cut_by l.answer l.out l.ends ≡ ps
unfolding whole
cut_sent v ps d out ends r =
    let n : 0 + length ps ≡ length ps = omega arith in
    let sink : Sink = whole (empty_sink out ends) ps in
    ap (λ (k : ℕ). cut sink.out 0 (take k sink.ends)) n ∙ cut_whole (empty_sink out ends) ps r

-- a call that passes its tests answers
answers : (outside long small : Bool) (e8 e7 e5 answer : Left) → outside ≡ false → long ≡ false → small ≡ false →
    left_by outside long small e8 e7 e5 answer ≡ answer
answers outside long small e8 e7 e5 answer a b c = λ i. left_by (a i) (b i) (c i) e8 e7 e5 answer

inside : (v : Saved) (mtu : ℕ) (frame : List ℕ) → Short v → mtu ≤ 65535 → length frame ≤ 16777216 → outside (lay_out v) mtu frame ≡ false
inside v mtu frame short m f =
    rw (
      le-ltb 1024 (length v.sps) short.sps,
      le-ltb 1024 (length v.pps) short.pps,
      le-ltb 65535 mtu m,
      le-ltb 16777216 (length frame) f,
    )

none_long : (us : List (List ℕ)) → Each (λ (u : List ℕ). too_long u ≡ false) us → over_limit us ≡ false
none_long [] w = refl
none_long (u ∷ us) w = ap₂ (λ (x y : Bool). x || y) w.0 (none_long us w.1)

short_all : (v : Saved) (us : List (List ℕ)) → Short v → Each (λ (u : List ℕ). too_long u ≡ false) us → Short (keep_all v us)
short_all v [] s w = s
short_all v (u ∷ us) s w = short_all (keep v u) us (short_keep v u s w.0) w.1

-- ---- all calls

module _ (mtu : ℕ) where
  abbrev sent : Saved → List ℕ → List (List ℕ)
  sent v frame = packets_of (groups_of mtu v (units_at mtu frame))

  abbrev dropped : Saved → List ℕ → Drops
  dropped v frame = drops_in (outcomes_of mtu v (units_at mtu frame))

  -- what a call that answers leaves
  abbrev answered : Saved → (frame out ends : List ℕ) → Left
  answered v frame out ends = sent_as (lay_out (keep_all v (units_at mtu frame))) (sent v frame) (dropped v frame) out ends

  record Passed (v : Saved) (frame out ends : List ℕ) : Type 0 where
    leaves : payload_of (lay_out v) mtu frame out ends ≡ answered v frame out ends
    room : Room (empty_sink out ends) (sent v frame)

  passed : (v : Saved) (frame out ends : List ℕ) → (c : Written) × ((payload_of (lay_out v) mtu frame out ends).answer ≡ says c) → Passed v frame out ends
  unfolding payload_of
  passed v frame out ends w =
      let t =
      not_refused (outside (lay_out v) mtu frame) (over_limit (units_at mtu frame)) (too_small (sent (saved_in (lay_out v)) frame) out ends) (lay_out v) out ends
      (as_saved (saved_in (lay_out v))) w in
      record {
        leaves = t.0 ∙ ap as_saved (saved_laid v);
        room = room_of (sent v frame) out ends (sym (ap (λ (x : Saved). too_small (sent x frame) out ends) (saved_laid v)) ∙ t.1);
      }
    where
      as_saved : Saved → Left
      as_saved x = answered x frame out ends

  calls_cut : (v : Saved) (lent : ℕ → Lent) (frames : List (List ℕ)) → NoneRefused (sending (lay_out v) mtu lent frames) →
      written (sending (lay_out v) mtu lent frames) ≡ packets_of (groups_from mtu v frames)
  calls_cut v lent [] w = refl
  calls_cut v lent (frame ∷ frames) w =
      let after : Saved = keep_all v (units_at mtu frame) in
      let later : ℕ → Lent = λ i. lent (suc i) in
      let t : Passed v frame (lent 0).out (lent 0).ends = passed v frame (lent 0).out (lent 0).ends w.0 in
      let next : (payload_of (lay_out v) mtu frame (lent 0).out (lent 0).ends).sender ≡ lay_out after = ap (λ (l : Left). l.sender) t.leaves in
      ap₂ (λ (ps qs : List (List ℕ)). ps ++ qs)
      (ap (λ (l : Left). cut_by l.answer l.out l.ends) t.leaves ∙ cut_sent after (sent v frame) (dropped v frame) (lent 0).out (lent 0).ends t.room)
      (ap (λ (h : H264Payloader). written (sending h mtu later frames)) next
      ∙ calls_cut after later frames (subst (λ (h : H264Payloader). NoneRefused (sending h mtu later frames)) next w.1))
      ∙ sym (packets_append (groups_of mtu v (units_at mtu frame)) (groups_from mtu after frames))

  module _ (m : mtu ≤ 65535) where
    one_answers : (v : Saved) (frame out ends : List ℕ) → Short v → length frame ≤ 16777216 → Each (λ (u : List ℕ). too_long u ≡ false) (units_at mtu frame) →
        Room (empty_sink out ends) (sent v frame) →
        payload_of (lay_out v) mtu frame out ends ≡ answered v frame out ends
    unfolding payload_of
    one_answers v frame out ends short f sets room =
        answers (outside (lay_out v) mtu frame) (over_limit (units_at mtu frame)) (too_small (sent (saved_in (lay_out v)) frame) out ends)
        (refused_with 8 (lay_out v) out ends) (refused_with 7 (lay_out v) out ends) (refused_with 5 (lay_out v) out ends) (as_saved (saved_in (lay_out v)))
        (inside v mtu frame short m f) (none_long (units_at mtu frame) sets)
        (ap (λ (x : Saved). too_small (sent x frame) out ends) (saved_laid v) ∙ fits_small (sent v frame) out ends room)
        ∙ ap as_saved (saved_laid v)
      where
        as_saved : Saved → Left
        as_saved x = answered x frame out ends

    all_answer : (v : Saved) (lent : ℕ → Lent) (frames : List (List ℕ)) → Short v → Each (λ (f : List ℕ). length f ≤ 16777216) frames →
        LentEnough mtu v lent frames → NoneRefused (sending (lay_out v) mtu lent frames)
    all_answer v lent [] short f w = tt
    all_answer v lent (frame ∷ frames) short f w =
        let us : List (List ℕ) = units_at mtu frame in
        let e = one_answers v frame (lent 0).out (lent 0).ends short f.0 w.0 w.1 in (
          (_, ap (λ (l : Left). l.answer) e),
          subst (λ (h : H264Payloader). NoneRefused (sending h mtu (λ i. lent (suc i)) frames)) (sym (ap (λ (l : Left). l.sender) e))
              (all_answer (keep_all v us) (λ i. lent (suc i)) frames (short_all v us short w.0) f.1 w.2),
        )

-- ---- the packets

-- packets of ours that are the same, and whatever else comes
same_arrivals : (sent on_wire : ℕ → List ℕ) (n m : ℕ) → ((i : ℕ) → i < n → on_wire i ≡ sent i) → (later : List (Arrival (List ℕ))) → Window n m later →
    map (bytes_of on_wire) later ≡ map (bytes_of sent) later
same_arrivals sent on_wire n m e [] w = refl
same_arrivals sent on_wire n m e (ours i ∷ later) w =
    ap₂ (λ (b : List ℕ) (bs : List (List ℕ)). b ∷ bs) (e i w.0) (same_arrivals sent on_wire n (raised m i) e later w.2)
same_arrivals sent on_wire n m e (other b ∷ later) w =
    ap (λ (bs : List (List ℕ)). b ∷ bs) (same_arrivals sent on_wire n m e later w)

pub calls_answer : (avc : Bool) (x : Sending) → SendingPremises avc x → (lent : ℕ → Lent) → LentEnough x.mtu nothing_saved lent x.frames → NoneRefused (calls_for x lent)
calls_answer avc x p lent w =
    all_answer x.mtu (omega (arith, p.mtu_high)) nothing_saved lent x.frames (record { sps = omega arith; pps = omega arith })
    (each_by (λ (f : List ℕ). length f ≤ 16777216) (FrameOk x.mtu) (λ f ok. ok.short) x.frames p.frames) w

module _ (avc : Bool) (x : Sending) (p : SendingPremises avc x) (lent : ℕ → Lent) (none : NoneRefused (calls_for x lent)) where
  wrote_payloads : written (calls_for x lent) ≡ payloads (show_of x)
  wrote_payloads =
      calls_cut x.mtu nothing_saved lent x.frames none ∙ sym (same_packets (groups_sent x.mtu x.frames))

  -- payload i is the show's
  same_payload : (i : ℕ) → get_or (written (calls_for x lent)) i [] ≡ payload (show_of x) i
  same_payload i = ap (λ (ps : List (List ℕ)). get_or ps i []) wrote_payloads

  writes_packets : (i room : ℕ) → i < count (show_of x) → 12 + length (get_or (written (calls_for x lent)) i []) ≤ room →
      writing x i (get_or (written (calls_for x lent)) i []) room ≡ says (packet (show_of x) i)
  writes_packets i room h enough =
      ap (λ (s : List ℕ). writing x i s room) (same_payload i)
      ∙ plain_written (x.stamps i) (number_of x.first i) x.source (payload (show_of x) i) (p.received.stamps i) (omega arith)
      p.received.source room (short_at (payloads (show_of x)) i (short_payloads avc x p)) (omega (arith, enough, ap length (same_payload i)))

  -- what the packet writer wrote is the show's packets
  arrives : (on_wire : ℕ → List ℕ) → ((i : ℕ) → i < count (show_of x) → Wrote x lent on_wire i) → map (bytes_of on_wire) x.arrivals ≡ arriving (show_of x)
  arrives on_wire wrote =
      same_arrivals (packet (show_of x)) on_wire (count (show_of x)) 0
      (λ i h. let k : Wrote x lent on_wire i = wrote i h in same_answer _ (on_wire i) (packet (show_of x) i) k.wrote (writes_packets i k.room h k.enough))
      x.arrivals p.received.window

  pub from_the_calls : avc_of (opened x.source x.first) ≡ avc → FromTheCalls avc x lent
  from_the_calls prefix =
      record {
        wrote_payloads = wrote_payloads;
        writes_packets = writes_packets;
        delivered =
            λ on_wire wrote. subst (DeliveredOn avc our_joiner (show_of x)) (sym (arrives on_wire wrote)) (all_delivered avc (show_of x) prefix p.received (sent_show avc x p));
      }
