-- What the reader's answer comes to when it is shrunk, and what is known of a packet that arrived. Assumes nothing.
use mathlib.Core.Path.{◌≡◌, refl, sym, ap, subst⁻¹, ◌∙◌}
use mathlib.Core.List.{List}
use Prim.Native.Nat.{ℕ, ◌+◌, ◌-◌, ◌/◌, ◌%◌, ◌≤◌}
use native.Mathlib.Decide.{dec_le}
use native.Mathlib.Nat.{lt_of_not-le}
use native.Mathlib.Omega.{arith}
use lib.ListN.{length, drop, get_or, length-drop}
use borrow.Author.Tests.{ne_eqb}
use Rattle.error.specs.Refusal.{Refusal}
use Rattle.error.specs.Said.{Said, says, refused}
use Rattle.error.proofs.Refusing.{not_says}
use Rattle.wire.specs.Net.{u16_at, u32_at}
use Rattle.header_write.specs.declared.Fixed.{Fixed}
use Rattle.header.specs.Fields.{lay_out}
use Rattle.header.specs.Read.{Reading, fields_at, count_of, fixed_length}
use Rattle.header.proofs.Reading.{header_plain, header_long}
use Rattle.packet.specs.Fronts.{FrontHeard, front_heard}
use Rattle.packet.specs.Read.{Payload, PacketReading, behind, read_packet}
use Rattle.packet.specs.Said.{reading_heard}
use Rattle.packet.proofs.Reading.{payload_inside}
use Rattle.joiner_read.specs.Arrive.{Arrived, arrived_by, arrival_of}

-- the reader's answer, shrunk to what the joiner needs
abbrev pub shrunk : FrontHeard → Said Arrived
shrunk h = shrink h.answer h.front.fixed
  where
    shrink : Said Payload → Fixed → Said Arrived
    shrink (says p) f = says (record { source = f.ssrc; number = f.sequence_number; time = f.timestamp; place = p.place; len = p.len })
    shrink (refused e) f = refused e

pub shrunk_is : (x : Said PacketReading) → shrunk (front_heard (reading_heard x)) ≡ arrival_of x
unfolding lay_out
shrunk_is (says r) = refl
shrunk_is (refused r) = refl

-- a packet whose padding and extension bits are clear
pub arrival_plain : (s : List ℕ) → 12 ≤ length s → length s ≤ 65535 → fixed_length (count_of s) ≤ length s → get_or s 0 0 / 16 % 4 ≡ 0 →
    arrival_of (read_packet s)
    ≡ says (record { source = u32_at s 8; number = u16_at s 2; time = u32_at s 4; place = fixed_length (count_of s); len = length s - fixed_length (count_of s) })
unfolding read_packet fields_at
arrival_plain s long within fits flags =
    let n : ℕ = fixed_length (count_of s) in
    let no_x : get_or s 0 0 / 16 % 2 ≡ 1 → ⊥ = λ e. omega arith in
    let no_p : get_or s 0 0 / 32 % 2 ≡ 1 → ⊥ = λ e. omega arith in
    let place : length s - length (drop n s) ≡ n = rw (length-drop n s) (omega arith) in
    ap (λ (r : _). arrival_of (behind s r)) (header_plain s within (omega arith) fits no_x)
    ∙ rw (ne_eqb (get_or s 0 0 / 32 % 2) 1 no_p)
    (ap (λ (k : ℕ). says (record { source = u32_at s 8; number = u16_at s 2; time = u32_at s 4; place = k; len = length s - k })) place)

-- what was read of a packet, had back from what arrived
module _ (x : Said PacketReading) where
  pub came_from : (a : Arrived) → arrival_of x ≡ says a →
      (r : PacketReading) × (x ≡ says r) × (a ≡ arrived_by r)
  came_from a e = go x refl
    where
      go : (y : Said PacketReading) → x ≡ y →
          (r : PacketReading) × (x ≡ says r) × (a ≡ arrived_by r)
      go (says r) is =
          let q : says a ≡ says (arrived_by r) = sym e ∙ ap arrival_of is in
          let same : a ≡ arrived_by r = cc in
          (r, is, same)
      go (refused n) is = absurd (not_says (sym (ap arrival_of is) ∙ e))

  pub came_refused : (n : Refusal) → arrival_of x ≡ refused n → x ≡ refused n
  came_refused n e = go x refl
    where
      go : (y : Said PacketReading) → x ≡ y → x ≡ refused n
      go (says r) is = absurd (not_says (sym e ∙ ap arrival_of is))
      go (refused m) is =
          let q : refused n ≡ refused m = sym e ∙ ap arrival_of is in
          let same : m ≡ n = cc in
          is ∙ ap refused same

-- what arrived lies within the packet
pub arrived_inside : (s : List ℕ) (a : Arrived) → arrival_of (read_packet s) ≡ says a → a.place + a.len ≤ length s
arrived_inside s a e =
    let c = came_from (read_packet s) a e in
    let fits : c.0.payload.place + c.0.payload.len ≤ length s = payload_inside s c.0 c.1 in
    subst⁻¹ (λ (b : Arrived). b.place + b.len ≤ length s) c.2 fits

-- and the packet is one of the domain
pub arrived_short : (s : List ℕ) (a : Arrived) → arrival_of (read_packet s) ≡ says a → length s ≤ 65535
unfolding read_packet
arrived_short s a e =
    elim (dec_le (length s) 65535) [
      | yes h ↦ h
      | no h ↦
          absurd (not_says (sym (ap (λ (r : Said Reading). arrival_of (behind s r)) (header_long s (lt_of_not-le h))) ∙ e))
    ]
