-- The sender's cases: outside the domain, nothing to send, too little room, and sent. Assumes nothing.
use mathlib.Core.Path.{◌≡◌, refl, sym, ap, ap₂, subst, subst₂, ◌∙◌}
use mathlib.Core.Bool.{Bool, true, false, cond}
use mathlib.Core.List.{List, [], ◌∷◌}
use Prim.Native.Nat.{ℕ, ◌+◌, ◌-◌, ◌*◌, ◌/◌, ◌≤◌, ◌<◌}
use native.Mathlib.Nat.{div-le_self, mul-le-mul, not-suc-le-zero}
use native.Mathlib.Omega.{arith}
use lib.ListN.{length}
use borrow.Author.Tests.{lt-ltb, le-ltb, le-leb, lt-leb}
use Rattle.error.specs.Said.{says}
use Rattle.wire.specs.Packets.{joined, Sink, whole, Room}
use Rattle.wire.proofs.Part.{splice_nothing}
use Rattle.vp8_send.specs.declared.Vp8Payloader.{Vp8Payloader}
use Rattle.vp8_send.specs.Send.{header_size, parts_of, headed, packets_of, advanced, after_packets, from0, refusing, sent_all, delivered, payloaded}
use Rattle.vp8_send.specs.declared.Vp8Payloaded.{Vp8Payloaded}
use Rattle.vp8_send.specs.SendAnswer.{sent_by, sending}
use Rattle.vp8_send.proofs.Header.{header_bounds}
use Rattle.vp8_send.proofs.Parts.{parts_none, joined_parts, count_parts, length_headed, bytes_headed}

-- ---- the domain

module _ (v : Vp8Payloader) (mtu : ℕ) (frame out ends : List ℕ) where
  pub long_frame : 16777216 < length frame → payloaded v mtu frame out ends ≡ refusing 8 v out ends
  unfolding payloaded
  long_frame h = rw (lt-ltb 16777216 (length frame) h)

  pub large_mtu : length frame ≤ 16777216 → 65535 < mtu → payloaded v mtu frame out ends ≡ refusing 8 v out ends
  unfolding payloaded
  large_mtu h m = rw (le-ltb 16777216 (length frame) h, lt-ltb 65535 mtu m)

  pub large_id : length frame ≤ 16777216 → mtu ≤ 65535 → 32767 < v.picture_id →
      payloaded v mtu frame out ends ≡ refusing 8 v out ends
  unfolding payloaded
  large_id h m i = rw (le-ltb 16777216 (length frame) h, le-ltb 65535 mtu m, lt-ltb 32767 v.picture_id i)

  pub in_domain : length frame ≤ 16777216 → mtu ≤ 65535 → v.picture_id ≤ 32767 →
      payloaded v mtu frame out ends ≡ delivered v (packets_of v mtu frame) out ends
  unfolding payloaded
  in_domain h m i = rw (le-ltb 16777216 (length frame) h, le-ltb 65535 mtu m, le-ltb 32767 v.picture_id i)

-- ---- no packets

pub empty_frame : (v : Vp8Payloader) (mtu : ℕ) (frame : List ℕ) → length frame ≡ 0 → packets_of v mtu frame ≡ []
unfolding packets_of headed
empty_frame v mtu frame h =
    ap (λ (ps : List (List ℕ)). cond (lib.Dec.leb mtu (header_size v)) [] (headed v true ps))
    (parts_none (length frame) (mtu - header_size v) frame (omega arith))
    ∙ nothing_both (lib.Dec.leb mtu (header_size v))
  where
    nothing_both : (b : Bool) → cond {A = List (List ℕ)} b [] [] ≡ []
    nothing_both true = refl
    nothing_both false = refl

pub small_mtu : (v : Vp8Payloader) (mtu : ℕ) (frame : List ℕ) → mtu ≤ header_size v → packets_of v mtu frame ≡ []
unfolding packets_of
small_mtu v mtu frame h =
    ap (λ (b : Bool). cond b [] (headed v true (parts_of (mtu - header_size v) frame))) (le-leb mtu (header_size v) h)

pub deliver_none : (v : Vp8Payloader) (out ends : List ℕ) →
    delivered v [] out ends ≡ record { payloader = v; said = says (record { packets = 0; bytes = 0 }); out = out; ends = ends }
unfolding delivered whole
deliver_none v out ends =
    rw (le-ltb (length out) 0 (omega arith), le-ltb (length ends) 0 (omega arith))
    (λ i. record {
      payloader = v;
      said = says (record { packets = 0; bytes = 0 });
      out = splice_nothing out 0 i;
      ends = splice_nothing ends 0 i;
    })

-- ---- packets

module _ (v : Vp8Payloader) (ps : List (List ℕ)) (out ends : List ℕ) where
  pub no_room_out : length out < length (joined ps) → delivered v ps out ends ≡ refusing 5 v out ends
  unfolding delivered
  no_room_out h = rw (lt-ltb (length out) (length (joined ps)) h)

  pub no_room_ends : length (joined ps) ≤ length out → length ends < length ps → delivered v ps out ends ≡ refusing 5 v out ends
  unfolding delivered
  no_room_ends h g = rw (le-ltb (length out) (length (joined ps)) h, lt-ltb (length ends) (length ps) g)

  pub has_room : length (joined ps) ≤ length out → length ps ≤ length ends → delivered v ps out ends ≡ sent_all v ps out ends
  unfolding delivered
  has_room h g = rw (le-ltb (length out) (length (joined ps)) h, le-ltb (length ends) (length ps) g)

module _ (v : Vp8Payloader) (mtu : ℕ) (frame : List ℕ) (above : header_size v < mtu) where
  pub packets_are : packets_of v mtu frame ≡ headed v true (parts_of (mtu - header_size v) frame)
  unfolding packets_of
  packets_are =
      ap (λ (b : Bool). cond b [] (headed v true (parts_of (mtu - header_size v) frame))) (lt-leb mtu (header_size v) above)

  pub packets_count : 0 < length frame → length (packets_of v mtu frame) ≡ (length frame - 1) / (mtu - header_size v) + 1
  packets_count h =
      ap length packets_are ∙ length_headed v true (parts_of (mtu - header_size v) frame)
      ∙ count_parts (length frame) (mtu - header_size v) frame (omega arith) h (omega arith)

  pub packets_bytes : 0 < length frame →
      length (joined (packets_of v mtu frame)) ≡ length frame + ((length frame - 1) / (mtu - header_size v) + 1) * header_size v
  packets_bytes h =
      ap (λ (ps : List (List ℕ)). length (joined ps)) packets_are
      ∙ bytes_headed v true (parts_of (mtu - header_size v) frame)
      ∙ ap₂ (λ (a b : ℕ). a + b * header_size v)
      (ap length (joined_parts (length frame) (mtu - header_size v) frame (omega arith) (omega arith)))
      (count_parts (length frame) (mtu - header_size v) frame (omega arith) h (omega arith))

-- what is known of the packets, by their number and the header's size, before any of them is written
pub record Measured (v : Vp8Payloader) (mtu : ℕ) (frame : List ℕ) (header packets : ℕ) : Type 0 where
  pub are : packets_of v mtu frame ≡ headed v true (parts_of (mtu - header) frame)
  pub count : length (packets_of v mtu frame) ≡ packets
  pub bytes : length (joined (packets_of v mtu frame)) ≡ length frame + packets * header
  pub small : packets * header ≤ 67108864

at_header : (v : Vp8Payloader) (mtu : ℕ) (frame : List ℕ) → header_size v < mtu → 0 < length frame → length frame ≤ 16777216 →
    Measured v mtu frame (header_size v) ((length frame - 1) / (mtu - header_size v) + 1)
at_header v mtu frame above some limit =
    let d : (length frame - 1) / (mtu - header_size v) ≤ length frame - 1 = div-le_self (length frame - 1) (mtu - header_size v) in
    let c : (length frame - 1) / (mtu - header_size v) + 1 ≤ 16777216 = omega arith in
    record {
      are = packets_are v mtu frame above;
      count = packets_count v mtu frame above some;
      bytes = packets_bytes v mtu frame above some;
      small = mul-le-mul c (header_bounds v).1;
    }

pub measured : (v : Vp8Payloader) (mtu : ℕ) (frame : List ℕ) (header packets : ℕ) → header ≡ header_size v →
    packets ≡ (length frame - 1) / (mtu - header) + 1 → header < mtu → 0 < length frame → length frame ≤ 16777216 →
    Measured v mtu frame header packets
measured v mtu frame header packets e n above some limit =
    subst₂ (Measured v mtu frame) (sym e) (ap (λ (h : ℕ). (length frame - 1) / (mtu - h) + 1) (sym e) ∙ sym n)
    (at_header v mtu frame (omega arith) some limit)

-- there is a first packet, so the id advances
pub some_packets : (v : Vp8Payloader) (ps : List (List ℕ)) → 0 < length ps → after_packets v ps ≡ advanced v
some_packets v [] h = absurd (not-suc-le-zero h)
some_packets v (p ∷ ps) h = refl

pub room : (v : Vp8Payloader) (mtu : ℕ) (frame : List ℕ) (header packets : ℕ) (out ends : List ℕ) → Measured v mtu frame header packets →
    length frame + packets * header ≤ length out → packets ≤ length ends → Room (from0 out ends) (headed v true (parts_of (mtu - header) frame))
room v mtu frame header packets out ends m bytes places =
    subst (Room (from0 out ends)) m.are (record { bytes = omega (arith, m.bytes); places = omega (arith, m.count) })

-- written: where the loop ended is what the definition says, and so is the answer
pub all_sent : (v next : Vp8Payloader) (ps : List (List ℕ)) (out ends : List ℕ) (s : Sink) (r : Vp8Payloaded) → s ≡ whole (from0 out ends) ps →
    0 < length ps → next ≡ advanced v → r ≡ sent_by next s.n s.at → sending r s.out s.ends ≡ sent_all v ps out ends
unfolding whole
all_sent v next ps out ends s r w some e q =
    let count : s.n ≡ length ps = ap (λ (x : Sink). x.n) w ∙ omega arith in
    let bytes : s.at ≡ length (joined ps) = ap (λ (x : Sink). x.at) w ∙ omega arith in
    ap (λ (r' : Vp8Payloaded). sending r' s.out s.ends) q
    ∙ (λ i. record {
      payloader = (e ∙ sym (some_packets v ps some)) i;
      said = says (record { packets = count i; bytes = bytes i });
      out = (w i).out;
      ends = (w i).ends;
    })
