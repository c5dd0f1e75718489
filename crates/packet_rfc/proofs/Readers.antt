-- Readers that COMPLETE shuts out: lawful packets that differ in one field, in the payload or in the padding must all be read, and be read
-- differently. Assumes nothing.
use mathlib.Core.Path.{◌≡◌, refl, sym, ap, ◌∙◌}
use mathlib.Core.List.{List, [], ◌∷◌}
use mathlib.Core.Option.{Option, none, some}
use Prim.Native.Nat.{ℕ, ◌+◌, ◌<◌}
use native.Mathlib.Omega.{arith}
use lib.ListN.{length}
use Rattle.error.specs.Refusal.{Refusal}
use Rattle.error.specs.Said.{Said, says, refused}
use Rattle.wire.specs.Net.{be16, be32}
use Rattle.header.specs.Fields.{Fields}
use Rattle.rfc3550.specs.Rfc3550.{fixed_octets, present}
use Rattle.rfc3550.specs.Rfc3550 as rtp
use Rattle.rfc3550.specs.Packet.{Padding, Packet, LawfulEnd, packet_octets}
use Rattle.header_rfc.specs.Says.{fields_with, Fits}
use Rattle.header_rfc.proofs.Readers.{shortest, shortest_lawful}
use Rattle.packet.specs.Read.{Payload, PacketReading}
use Rattle.packet_rfc.specs.Says.{reading_said, payload_in, Complete}
use Rattle.packet_rfc.proofs.Complete.{payload_bytes}

-- a packet with the shortest header
abbrev small : ℕ → List ℕ → Option Padding → Packet
small type payload e = record { header = shortest (present e) type; payload = payload; padding = e }

module _ (read : List ℕ → Said PacketReading) (c : Complete read) where
  read_small : (type : ℕ) (payload : List ℕ) (e : Option Padding) → type < 128 → LawfulEnd e → Fits (packet_octets (small type payload e)) →
      read (packet_octets (small type payload e)) ≡ says (reading_said (small type payload e))
  read_small type payload e h l fits =
      c.within (small type payload e) (record { header = shortest_lawful (present e) type h; bit = refl; padding = l }) tt fits
      (record { few = omega arith; small = omega arith })

  read_type : (type : ℕ) → type < 128 → read (packet_octets (small type [] none)) ≡ says (reading_said (small type [] none))
  unfolding packet_octets rtp.octets fixed_octets be16 be32
  read_type type h = read_small type [] none h tt (omega arith)

  read_byte : (byte : ℕ) → read (packet_octets (small 0 (byte ∷ []) none)) ≡ says (reading_said (small 0 (byte ∷ []) none))
  unfolding packet_octets rtp.octets fixed_octets be16 be32
  read_byte byte = read_small 0 (byte ∷ []) none (omega arith) tt (omega arith)

  -- one octet of padding
  abbrev one : Option Padding
  one = some (record { before = [] })

  read_one : read (packet_octets (small 0 [] one)) ≡ says (reading_said (small 0 [] one))
  unfolding packet_octets rtp.octets fixed_octets be16 be32
  read_one = read_small 0 [] one (omega arith) (omega arith) (omega arith)

-- "a reader that refuses all"
pub no_refuser : (why : List ℕ → Refusal) → Complete (λ (s : List ℕ). refused (why s)) → ⊥
no_refuser why c =
    let e : refused (why (packet_octets (small 0 [] none))) ≡ says (reading_said (small 0 [] none)) = read_type (λ s. refused (why s)) c 0 (omega arith) in
    let z : ◌≡◌ {A = ℕ} 0 1 = cc in
    omega arith

-- "one fixed record for every packet"
pub no_fixed_record : (f : Fields) (read : List ℕ → Said PacketReading) → ((s : List ℕ) (r : PacketReading) → read s ≡ says r → r.fields ≡ f) →
    Complete read → ⊥
unfolding fields_with
no_fixed_record f read always c =
    let zero_type : 0 ≡ f.type =
    ap (λ (g : Fields). g.type) (always (packet_octets (small 0 [] none)) (reading_said (small 0 [] none)) (read_type read c 0 (omega arith))) in
    let one_type : 1 ≡ f.type =
    ap (λ (g : Fields). g.type) (always (packet_octets (small 1 [] none)) (reading_said (small 1 [] none)) (read_type read c 1 (omega arith))) in
    omega arith

-- one fixed place and length of the payload
pub no_fixed_place : (p : Payload) (read : List ℕ → Said PacketReading) → ((s : List ℕ) (r : PacketReading) → read s ≡ says r → r.payload ≡ p) →
    Complete read → ⊥
no_fixed_place p read always c =
    let zero_bytes : 0 ≡ p.len =
    ap (λ (q : Payload). q.len) (always (packet_octets (small 0 [] none)) (reading_said (small 0 [] none)) (read_type read c 0 (omega arith))) in
    let one_byte : 1 ≡ p.len =
    ap (λ (q : Payload). q.len) (always (packet_octets (small 0 (0 ∷ []) none)) (reading_said (small 0 (0 ∷ []) none)) (read_byte read c 0)) in
    omega arith

-- one fixed payload, by its bytes
pub no_fixed_payload : (bytes : List ℕ) (read : List ℕ → Said PacketReading) →
    ((s : List ℕ) (r : PacketReading) → read s ≡ says r → payload_in s r ≡ bytes) → Complete read → ⊥
no_fixed_payload bytes read always c =
    let zero_byte : 0 ∷ [] ≡ bytes =
    sym (payload_bytes (small 0 (0 ∷ []) none)) ∙ always (packet_octets (small 0 (0 ∷ []) none)) (reading_said (small 0 (0 ∷ []) none)) (read_byte read c 0) in
    let one_byte : 1 ∷ [] ≡ bytes =
    sym (payload_bytes (small 0 (1 ∷ []) none)) ∙ always (packet_octets (small 0 (1 ∷ []) none)) (reading_said (small 0 (1 ∷ []) none)) (read_byte read c 1) in
    let z : ◌≡◌ {A = ℕ} 0 1 = cc in
    omega arith

-- a payload that always goes to the packet's end
pub no_keeper : (read : List ℕ → Said PacketReading) →
    ((s : List ℕ) (r : PacketReading) → read s ≡ says r → r.payload.place + r.payload.len ≡ length s) → Complete read → ⊥
unfolding packet_octets rtp.octets fixed_octets be16 be32
no_keeper read always c =
    let end : 12 + 0 ≡ 13 = always (packet_octets (small 0 [] (some (record { before = [] })))) (reading_said (small 0 [] (some (record { before = [] })))) (read_one read c) in
    omega arith
