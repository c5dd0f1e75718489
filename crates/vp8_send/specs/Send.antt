-- "VP8 (003, RFC 7741)", sending: a frame's packets, and what a call leaves. Assumes nothing.
use Rattle.std.specs.Prelude.{Bool, true, false, cond, List, [], ◌∷◌, ◌++◌, ℕ, zero, suc, ◌+◌, ◌-◌, ◌%◌, ltb, leb, length, take, drop}
use Rattle.error.specs.Said.{Said, says, refuse}
use Rattle.wire.specs.Net.{be16}
use Rattle.wire.specs.Packets.{joined, Sink, whole}
use Rattle.vp8_send.specs.declared.Vp8Payloader.{Vp8Payloader}
use Rattle.vp8_send.specs.declared.Vp8Sent.{Vp8Sent}

-- "No picture id: 1 header byte. Ids under 128: 3, else 4"
unfoldable pub header_size : Vp8Payloader → ℕ
header_size v = cond v.enable_picture_id (cond (ltb v.picture_id 128) 3 4) 1

-- S, on the first packet of a frame
abbrev pub start_octet : Bool → ℕ
start_octet true = 16
start_octet false = 0

-- the id in 7 bits, or in 15 behind M
abbrev pub id_bytes : ℕ → List ℕ
id_bytes id = cond (ltb id 128) (id ∷ []) (be16 (32768 + id))

-- the header's bytes: X and S, then I, then the id
unfoldable pub descriptor_of : Vp8Payloader → Bool → List ℕ
descriptor_of v start =
    cond v.enable_picture_id ((128 + start_octet start) ∷ 128 ∷ id_bytes v.picture_id) (start_octet start ∷ [])

-- s in parts of `size` bytes, the last perhaps shorter; fuel for one part a byte is enough
unfoldable pub parts_by : ℕ → ℕ → List ℕ → List (List ℕ)
parts_by zero size s = []
parts_by (suc fuel) size [] = []
parts_by (suc fuel) size (b ∷ s) = take size (b ∷ s) ∷ parts_by fuel size (drop size (b ∷ s))

abbrev pub parts_of : ℕ → List ℕ → List (List ℕ)
parts_of size s = parts_by (length s) size s

-- each part behind a header; S on the first alone
unfoldable pub headed : Vp8Payloader → Bool → List (List ℕ) → List (List ℕ)
headed v start [] = []
headed v start (p ∷ ps) = (descriptor_of v start ++ p) ∷ headed v false ps

-- "An empty frame or an mtu not above the header gives no packets"
unfoldable pub packets_of : Vp8Payloader → ℕ → List ℕ → List (List ℕ)
packets_of v mtu frame = cond (leb mtu (header_size v)) [] (headed v true (parts_of (mtu - header_size v) frame))

-- "after 0x7FFF comes 0"
unfoldable pub advanced : Vp8Payloader → Vp8Payloader
advanced v = record { enable_picture_id = v.enable_picture_id; picture_id = (v.picture_id + 1) % 32768 }

-- ".. and no new id" where there are no packets
abbrev pub after_packets : Vp8Payloader → List (List ℕ) → Vp8Payloader
after_packets v [] = v
after_packets v (p ∷ ps) = advanced v

-- the payloader for the next frame, the answer, and both buffers as they are left
pub record Sending : Type 0 where
  pub payloader : Vp8Payloader
  pub said : Said Vp8Sent
  pub out : List ℕ
  pub ends : List ℕ

-- a refusal changes nothing
abbrev pub refusing : ℕ → Vp8Payloader → List ℕ → List ℕ → Sending
refusing number v out ends = record { payloader = v; said = refuse number; out = out; ends = ends }

abbrev pub from0 : List ℕ → List ℕ → Sink
from0 out ends = record { out = out; at = 0; ends = ends; n = 0 }

abbrev pub sent_all : Vp8Payloader → List (List ℕ) → List ℕ → List ℕ → Sending
sent_all v ps out ends =
    record {
      payloader = after_packets v ps;
      said = says (record { packets = length ps; bytes = length (joined ps) });
      out = (whole (from0 out ends) ps).out;
      ends = (whole (from0 out ends) ps).ends;
    }

-- 5: "output buffer, or table of packet ends, too small"
unfoldable pub delivered : Vp8Payloader → List (List ℕ) → List ℕ → List ℕ → Sending
delivered v ps out ends =
    cond (ltb (length out) (length (joined ps))) (refusing 5 v out ends)
    (cond (ltb (length ends) (length ps)) (refusing 5 v out ends) (sent_all v ps out ends))

-- "frames up to 16,777,216; mtu 0 to 65,535"; "a VP8 picture id up to 32,767": else 8
unfoldable pub payloaded : Vp8Payloader → ℕ → List ℕ → List ℕ → List ℕ → Sending
payloaded v mtu frame out ends =
    cond (ltb 16777216 (length frame)) (refusing 8 v out ends)
    (cond (ltb 65535 mtu) (refusing 8 v out ends)
    (cond (ltb 32767 v.picture_id) (refusing 8 v out ends) (delivered v (packets_of v mtu frame) out ends)))
