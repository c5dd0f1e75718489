-- How the payload comes out of the octets behind a header that was read: without the P bit all of them; with it those before the padding that
-- the last octet counts, or 4. Assumes nothing.
use mathlib.Core.Path.{◌≡◌, refl, sym, ap, ◌∙◌, subst}
use mathlib.Core.Bool.{Bool, true, false, cond}
use mathlib.Core.List.{List, [], ◌∷◌, ◌++◌}
use mathlib.Core.Logic.{◌⊎◌, inl, inr}
use Prim.Native.Nat.{ℕ, ◌+◌, ◌-◌, ◌<◌, ◌≤◌}
use native.Mathlib.Omega.{arith}
use lib.ListN.{length, drop, get_or, length-append, length-drop}
use lib.Seq.{get_or-drop}
use borrow.Author.Tests.{eq-eqb, ne_eqb, lt-ltb, le-ltb}
use Rattle.error.specs.Said.{Said, says, refused, refuse}
use Rattle.header.specs.Fields.{Fields}
use Rattle.header.specs.Read.{Reading, read_header}
use Rattle.rfc3550.specs.Rfc3550.{Octets}
use Rattle.rfc3550.specs.Packet.{Padding, count_in, padding_octets, Padded, Uncounted, last_octet, Short, nothing_there, over_counted}
use Rattle.rfc3550.proofs.Octets.{below_drop}
use Rattle.rfc3550.proofs.Packets.{last_at, count_last, length_padded, padded_or_not}
use Rattle.error.proofs.Refusing.{same_answer}
use Rattle.header_rfc.proofs.Sound.{not_refused}
use Rattle.packet.specs.Read.{stripped, PacketReading, with_fields, behind, read_packet}
use Rattle.packet_rfc.specs.Says.{header_of, Measured, all, without_padding, uncounted}

-- what is said of a packet, from its parts
abbrev pub reading_at : Fields → ℕ → ℕ → PacketReading
reading_at f place len = record { fields = f; payload = record { place = place; len = len } }

-- ---- the octets `rest` from `place` on

module _ (s rest : List ℕ) (place : ℕ) (cut : drop place s ≡ rest) where
  left : length s - place ≡ length rest
  left = sym (length-drop place s) ∙ ap length cut

  -- the packet's last octet is theirs
  last : 1 ≤ length rest → get_or s (length s - 1) 0 ≡ last_octet rest
  last h =
      let end : length s - 1 ≡ place + (length rest - 1) = omega (arith, left) in
      ap (λ (i : ℕ). get_or s i 0) end ∙ sym (get_or-drop place s (length rest - 1) 0) ∙ ap (λ (t : List ℕ). get_or t (length rest - 1) 0) cut

  strip_counted : 1 ≤ length rest → last_octet rest ≤ length rest →
      stripped s place ≡ says (record { place = place; len = length rest - last_octet rest })
  unfolding stripped
  strip_counted h fits =
      rw (left, last h, ne_eqb (length rest) 0 (λ z. omega arith), le-ltb (length rest) (last_octet rest) fits)

  strip_short : Short rest → stripped s place ≡ refuse 4
  unfolding stripped
  strip_short (nothing_there e) = rw (left, eq-eqb (length rest) 0 e)
  strip_short (over_counted h) =
      rw (left, last (some_there rest h), ne_eqb (length rest) 0 (λ z. omega (arith, some_there rest h)), lt-ltb (length rest) (last_octet rest) h)
    where
      some_there : (t : List ℕ) → length t < last_octet t → 1 ≤ length t
      some_there [] h = absurd (omega arith)
      some_there (x ∷ t) h = omega arith

  -- ---- behind a header that was read

  module _ (f : Fields) (read : read_header s ≡ says (record { fields = f; place = place })) where
    unfolded : (b : Bool) → f.padding ≡ b →
        read_packet s ≡ with_fields f (cond b (stripped s place) (says (record { place = place; len = length s - place })))
    unfolding read_packet
    unfolded b e =
        ap (behind s) read
        ∙ ap (λ (t : Bool). with_fields f (cond t (stripped s place) (says (record { place = place; len = length s - place })))) e

    pub read_all : f.padding ≡ false → read_packet s ≡ says (reading_at f place (length rest))
    read_all e = unfolded false e ∙ ap (λ (n : ℕ). says (reading_at f place n)) left

    module _ (bit : f.padding ≡ true) where
      pub read_counted : 1 ≤ length rest → last_octet rest ≤ length rest → read_packet s ≡ says (reading_at f place (length rest - last_octet rest))
      read_counted h fits = unfolded true bit ∙ ap (with_fields f) (strip_counted h fits)

      pub read_padded : (payload : List ℕ) (p : Padding) → payload ++ padding_octets p ≡ rest → read_packet s ≡ says (reading_at f place (length payload))
      read_padded payload p same =
          let many : length rest ≡ length payload + count_in p = sym (ap length same) ∙ length_padded payload p in
          let count : last_octet rest ≡ count_in p = sym (ap last_octet same) ∙ count_last payload p in
          let len : length rest - last_octet rest ≡ length payload = omega arith in
          read_counted (omega arith) (omega arith) ∙ ap (λ (n : ℕ). says (reading_at f place n)) len

      pub read_uncounted : (before : List ℕ) → before ++ (0 ∷ []) ≡ rest → read_packet s ≡ says (reading_at f place (length rest))
      read_uncounted before same =
          let many : length rest ≡ length before + 1 = sym (ap length same) ∙ length-append before (0 ∷ []) in
          let count : last_octet rest ≡ 0 = sym (ap last_octet same) ∙ last_at before 0 in
          let len : length rest - last_octet rest ≡ length rest = omega arith in
          read_counted (omega arith) (omega arith) ∙ ap (λ (n : ℕ). says (reading_at f place n)) len

      pub read_short : Short rest → read_packet s ≡ refuse 4
      read_short short = unfolded true bit ∙ ap (with_fields f) (strip_short short)

-- ---- a packet that was accepted

pub record Accepted (s : List ℕ) (r : PacketReading) : Type 0 where
  pub header : read_header s ≡ says (header_of r)
  pub payload : Measured r.fields.padding (drop r.payload.place s) r.payload.len

pub accepted : (s : List ℕ) (r : PacketReading) → Octets s → read_packet s ≡ says r → Accepted s r
unfolding read_packet
accepted s r o e = go (read_header s) refl
  where
    -- what was said is what is known to be said
    told : (h : Reading) → read_header s ≡ says h → (len : ℕ) → read_packet s ≡ says (reading_at h.fields h.place len) →
        Measured h.fields.padding (drop h.place s) len → Accepted s r
    told h is len said m =
        subst (Accepted s) (sym (same_answer (read_packet s) r (reading_at h.fields h.place len) e said)) (record { header = is; payload = m })

    padded : (h : Reading) → read_header s ≡ says h → h.fields.padding ≡ true →
        Padded (drop h.place s) ⊎ (Uncounted (drop h.place s) ⊎ Short (drop h.place s)) → Accepted s r
    padded h is bit (inl p) =
        told h is (length p.payload)
        (read_padded s (drop h.place s) h.place refl h.fields is bit p.payload p.padding p.same)
        (without_padding bit p refl)
    padded h is bit (inr (inl u)) =
        told h is (length (drop h.place s))
        (read_uncounted s (drop h.place s) h.place refl h.fields is bit u.before u.same)
        (uncounted bit u refl)
    padded h is bit (inr (inr short)) =
        absurd (not_refused (read_packet s) 4 r (read_short s (drop h.place s) h.place refl h.fields is bit short) e)

    by_bit : (h : Reading) → read_header s ≡ says h → (b : Bool) → h.fields.padding ≡ b → Accepted s r
    by_bit h is false off =
        told h is (length (drop h.place s)) (read_all s (drop h.place s) h.place refl h.fields is off) (all off refl)
    by_bit h is true bit = padded h is bit (padded_or_not (drop h.place s) (below_drop 256 h.place s o))

    go : (x : Said Reading) → read_header s ≡ x → Accepted s r
    go (says h) is = by_bit h is h.fields.padding refl
    go (refused w) is =
        let no_answer : read_packet s ≡ refused w = ap (behind s) is in
        absurd (let z : ◌≡◌ {A = ℕ} 0 1 = cc in omega arith)
