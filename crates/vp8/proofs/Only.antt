-- "that no second answer satisfies it is proved": each public call's contract is met by one answer, and by no other. For the sender an
-- answer is the result with both buffers as they are left. Assumes nothing.
use mathlib.Core.Path.{◌≡◌, refl}
use mathlib.Core.Bool.{Bool, true, false, cond}
use mathlib.Core.List.{List}
use Prim.Native.Nat.{ℕ}
use lib.Dec.{ltb}
use lib.ListN.{length}
use Rattle.std.specs.Prelude.{Result, Ok, Err}
use Rattle.error.specs.declared.Error.TheVariants.{ErrShortPacket, ErrBufferTooSmall, OutsideDomain}
use Rattle.error.specs.declared.Error.{Error}
use Rattle.error.specs.Refusal.{refusal_of}
use Rattle.error.specs.Said.{refused, said}
use Rattle.wire.specs.Packets.{joined, whole}
use Rattle.error.specs.Only.{Determined}
use Rattle.error.proofs.Only.{by_value, by_view, by_said, Sayable, either_sayable}
use Rattle.vp8_read.specs.declared.Vp8Packet.{Vp8Packet}
use Rattle.vp8_read.specs.declared.Vp8Depacketized.{Vp8Depacketized}
use Rattle.vp8_send.specs.declared.Vp8Payloader.{Vp8Payloader}
use Rattle.vp8_read.specs.Read.{Stage, Reading, or_short, third, second, read_on, with_tl0, with_layers, depacketized}
use Rattle.vp8_read.specs.ReadAnswer.{reading}
use Rattle.vp8_read.specs.Partition.{partition_head}
use Rattle.vp8_send.specs.Send.{packets_of, after_packets, from0, sent_all, delivered, payloaded}
use Rattle.vp8_send.specs.SendAnswer.{refused_by, sent_by}
use Rattle.vp8.proofs.Inverse.{depacketized_of, depacketized_of_reading, Left, sending_of, left_of, left_of_sending_of}

-- some answer is seen as this value; where both cases of a test are seen so, the test is
module _ {A S : Type 0} (view : A → S) where
  abbrev Seen : S → Type 0
  Seen s = (a : A) × (view a ≡ s)

  seen_test : {x y : S} (b : Bool) → Seen x → Seen y → Seen (cond b x y)
  seen_test true x y = x
  seen_test false x y = y

-- ---- depacketize

test_seen : (go : Stage → Reading) → ((c : Stage) → Seen reading (go c)) → (c : Stage) → Seen reading (or_short c go)
unfolding or_short
test_seen go h c = seen_test reading (ltb 0 (length c.rest)) (h c) (record { packet = c.packet; read = Err ErrShortPacket }, refl)

read_seen : (p : Vp8Packet) (s : List ℕ) → Seen reading (depacketized p s)
unfolding depacketized read_on second third
read_seen p s =
    seen_test reading (ltb 65535 (length s)) (record { packet = p; read = Err OutsideDomain }, refl)
    (seen_test reading (ltb 32767 p.picture_id) (record { packet = p; read = Err OutsideDomain }, refl)
    (seen_test reading (ltb (length s) 4) (record { packet = p; read = Err ErrShortPacket }, refl)
    (test_seen _
    (λ c. test_seen _ (λ c₁. test_seen _ (λ c₂. (record { packet = c₂.packet; read = Ok c₂.at }, refl)) (with_layers c₁)) (with_tl0 c)) _)))

pub depacketize_only : (p : Vp8Packet) (s : List ℕ) → Determined (λ (r : Vp8Depacketized). reading r ≡ depacketized p s)
depacketize_only p s =
    let a = read_seen p s in
    by_view reading depacketized_of depacketized_of_reading a.0 (depacketized p s) a.1

-- ---- the partition tests

head_sayable : (s : List ℕ) → Sayable (partition_head s)
unfolding partition_head
head_sayable s = either_sayable (ltb 65535 (length s)) refl refl

pub is_partition_head_only : (s : List ℕ) → Determined (λ (r : Result Bool Error). said r ≡ partition_head s)
is_partition_head_only s = by_said (partition_head s) (head_sayable s)

pub is_partition_tail_only : (marker : Bool) → Determined (λ (r : Bool). r ≡ marker)
is_partition_tail_only marker = by_value marker

-- ---- payload

refused_seen : (e : Error) (v : Vp8Payloader) (out ends : List ℕ) →
    Seen sending_of (record { payloader = v; said = refused (refusal_of e); out = out; ends = ends })
refused_seen e v out ends = ((refused_by v e, out, ends), refl)

sent_seen : (v : Vp8Payloader) (ps : List (List ℕ)) (out ends : List ℕ) → Seen sending_of (sent_all v ps out ends)
sent_seen v ps out ends = (
  (sent_by (after_packets v ps) (length ps) (length (joined ps)), (whole (from0 out ends) ps).out, (whole (from0 out ends) ps).ends),
  refl,
)

payload_seen : (v : Vp8Payloader) (mtu : ℕ) (frame out ends : List ℕ) → Seen sending_of (payloaded v mtu frame out ends)
unfolding payloaded delivered
payload_seen v mtu frame out ends =
    let ps : List (List ℕ) = packets_of v mtu frame in
    seen_test sending_of (ltb 16777216 (length frame)) (refused_seen OutsideDomain v out ends)
    (seen_test sending_of (ltb 65535 mtu) (refused_seen OutsideDomain v out ends)
    (seen_test sending_of (ltb 32767 v.picture_id) (refused_seen OutsideDomain v out ends)
    (seen_test sending_of (ltb (length out) (length (joined ps))) (refused_seen ErrBufferTooSmall v out ends)
    (seen_test sending_of (ltb (length ends) (length ps)) (refused_seen ErrBufferTooSmall v out ends) (sent_seen v ps out ends)))))

pub payload_only : (v : Vp8Payloader) (mtu : ℕ) (frame out ends : List ℕ) →
    Determined (λ (a : Left). sending_of a ≡ payloaded v mtu frame out ends)
payload_only v mtu frame out ends =
    let a = payload_seen v mtu frame out ends in
    by_view sending_of left_of left_of_sending_of a.0 (payloaded v mtu frame out ends) a.1
