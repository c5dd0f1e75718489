-- What the packet reader does where a packet leaves RFC 3550, one theorem for each way: a padding count of 0, padding alone, which the writer makes
-- too, and a header that strays, behind which the payload is measured from wherever its reading ended. Assumes nothing.
use mathlib.Core.Path.{◌≡◌, refl, sym, ap, ◌∙◌, subst}
use mathlib.Core.Bool.{Bool, true, false}
use mathlib.Core.List.{List, [], ◌∷◌, ◌++◌}
use mathlib.Core.Option.{Option, none, some}
use Prim.Native.Nat.{ℕ, ◌+◌, ◌≤◌}
use native.Mathlib.Omega.{arith}
use lib.ListN.{length, take, length-append}
use lib.Seq.{take_at, take-length, drop_at}
use Rattle.error.specs.Said.{says, refuse}
use Rattle.elements.specs.Elements.{Element}
use Rattle.header.specs.declared.Header.{Header}
use Rattle.header.specs.Fields.{fields_of}
use Rattle.header.specs.Write.{octets_of, in_writing_domain}
use Rattle.rfc3550.specs.Rfc3550.{Fixed, present}
use Rattle.rfc3550.specs.Rfc3550 as rtp
use Rattle.rfc3550.specs.Rfc8285.{profile_of, Plan, Lawful, octets}
use Rattle.rfc3550.specs.Packet.{Padding, LawfulPadding, padding_octets, Packet, LawfulPacket, LawfulEnd, end_octets, packet_octets, Padded, last_octet, Short}
use Rattle.rfc3550.proofs.Blocks.{unambiguous_elements}
use Rattle.rfc3550.proofs.Packets.{count_last, length_padding, padded_counted}
use Rattle.header_rfc.specs.Says.{elements_among, pads_among, elements_said, whole_element, fields_said, fields_with, Within, Plain, AppBits, Fits}
use Rattle.header_rfc.specs.Taken.{fifteen, header_with, Taken, LawfulTaken, packet_taken}
use Rattle.header_rfc.specs.Accepted.{ReadAs}
use Rattle.header_rfc.specs.RoundTrip.{ReadsBack}
use Rattle.header_rfc.proofs.Complete as header
use Rattle.header_rfc.proofs.Deviations as header-strays
use Rattle.packet.specs.Read.{read_packet}
use Rattle.packet.specs.Write as written
use Rattle.packet_rfc.specs.Says.{PacketReadAs}
use Rattle.packet_rfc.proofs.Behind.{reading_at, read_all, read_padded, read_uncounted, read_short}
use Rattle.packet_rfc.proofs.Complete.{read_end, part_end, complete}
use Rattle.packet_rfc.proofs.Calls.{writes}

-- ---- RFC 3550 5.1, a padding count of 0

-- "n = 0 strips nothing": all that is behind the header is payload, the 0 with it
pub zero_kept : (p : Plan) (before : List ℕ) → Lawful p → Plain p.content → p.fixed.padding ≡ true → Fits (octets p ++ (before ++ (0 ∷ []))) →
    Within (elements_said p.content) →
    read_packet (octets p ++ (before ++ (0 ∷ []))) ≡ says (reading_at (fields_said p) (length (octets p)) (length before + 1))
unfolding fields_with
zero_kept p before l plain bit fits w =
    read_uncounted (octets p ++ (before ++ (0 ∷ []))) (before ++ (0 ∷ [])) (length (octets p))
    (drop_at (octets p) (before ++ (0 ∷ [])) (length (octets p)) refl) (fields_said p)
    ((header.complete).within p (before ++ (0 ∷ [])) l plain fits w) bit before refl
    ∙ ap (λ (n : ℕ). says (reading_at (fields_said p) (length (octets p)) n)) (length-append before (0 ∷ []))

-- and these are the octets of no packet of the RFC
pub zero_no_packet : (p : Plan) (before : List ℕ) → Lawful p → p.fixed.padding ≡ true → (q : Packet) → LawfulPacket q →
    packet_octets q ≡ octets p ++ (before ++ (0 ∷ [])) → ⊥
unfolding packet_octets
zero_no_packet p before l bit q m e = go q.padding m.padding (sym m.bit ∙ ap (λ (h : Plan). h.fixed.padding) told.0 ∙ bit) told.1
  where
    told : (q.header ≡ p) × (q.payload ++ end_octets q.padding ≡ before ++ (0 ∷ []))
    told = unambiguous_elements q.header p (q.payload ++ end_octets q.padding) (before ++ (0 ∷ [])) m.header l e

    go : (end : Option Padding) → LawfulEnd end → present end ≡ true → q.payload ++ end_octets end ≡ before ++ (0 ∷ []) → ⊥
    go none k set same = let z : ◌≡◌ {A = ℕ} 0 1 = cc in omega arith
    go (some x) k set same =
        padded_counted (before ++ (0 ∷ [])) (record { payload = q.payload; padding = x; lawful = k; same = same }) (record { before = before; same = refl })

-- ---- RFC 3550 A.1, a padding count that leaves no payload

-- section 5.1 does not forbid it, and the check of A.1 asks for a count less than the octets behind the header; it is taken, with an empty payload
pub only_padding : (p : Plan) (q : Padding) → Lawful p → LawfulPadding q → Plain p.content → p.fixed.padding ≡ true →
    Fits (octets p ++ padding_octets q) → Within (elements_said p.content) →
    (read_packet (octets p ++ padding_octets q) ≡ says (reading_at (fields_said p) (length (octets p)) 0))
    × (last_octet (padding_octets q) ≡ length (padding_octets q))
unfolding packet_octets
only_padding p q l k plain bit fits w = (
  complete.within (record { header = p; payload = []; padding = some q }) (record { header = l; bit = bit; padding = k }) plain fits w,
  count_last [] q ∙ sym (length_padding q),
)

-- and an empty payload with the padding bit is written so
pub empty_written : (h : Header) → in_writing_domain h ≡ true → ReadsBack (fields_of h) → h.padding ≡ true → (room : ℕ) →
    written.packet_size (fields_of h) [] ≤ room → written.write_packet h [] room ≡ says (octets_of (fields_of h) ++ (0 ∷ 0 ∷ 0 ∷ 4 ∷ []))
unfolding fields_of written.packet_octets written.payload_octets
empty_written h d r bit room fits =
    writes h [] d r (omega arith) room fits
    ∙ ap (λ (b : Bool). says (octets_of (fields_of h) ++ written.padding_octets (written.padding_length b 0))) bit

-- ---- headers that stray: `ReadAs` is what the header's theorems say of each way, with the octets from the payload's place on

module _ (s : List ℕ) (f : Fixed) (profile : ℕ) (es : List Element) (pads : ℕ) where
  -- without the P bit they are the payload
  pub stray_plain : (payload : List ℕ) → f.padding ≡ false → ReadAs s f profile es pads payload → PacketReadAs s f profile es pads payload
  unfolding fields_with
  stray_plain payload off r =
      record {
        place = r.place;
        read = read_all s payload r.place r.rest (fields_with f true profile es pads) r.read off;
        bytes = ap (take (length payload)) r.rest ∙ take-length payload;
      }

  -- with it those before the padding, wherever the padding stands: the count may be an octet of the block
  pub stray_padded : (payload : List ℕ) (p : Padding) → f.padding ≡ true → ReadAs s f profile es pads (payload ++ padding_octets p) →
      PacketReadAs s f profile es pads payload
  unfolding fields_with
  stray_padded payload p on r =
      record {
        place = r.place;
        read = read_padded s (payload ++ padding_octets p) r.place r.rest (fields_with f true profile es pads) r.read on payload p refl;
        bytes = ap (take (length payload)) r.rest ∙ take_at payload (padding_octets p) (length payload) refl;
      }

  -- all, where the count is 0
  pub stray_zero : (before : List ℕ) → f.padding ≡ true → ReadAs s f profile es pads (before ++ (0 ∷ [])) →
      PacketReadAs s f profile es pads (before ++ (0 ∷ []))
  unfolding fields_with
  stray_zero before on r =
      record {
        place = r.place;
        read = read_uncounted s (before ++ (0 ∷ [])) r.place r.rest (fields_with f true profile es pads) r.read on before refl;
        bytes = ap (take (length (before ++ (0 ∷ [])))) r.rest ∙ take-length (before ++ (0 ∷ []));
      }

  -- and 4 where there are none, or fewer than the last counts
  pub stray_short : (rest : List ℕ) → f.padding ≡ true → Short rest → ReadAs s f profile es pads rest → read_packet s ≡ refuse 4
  unfolding fields_with
  stray_short rest on short r = read_short s rest r.place r.rest (fields_with f true profile es pads) r.read on short

-- RFC 8285 4.2, id 15, and RFC 3550 5.1: the rest of the block is payload, and the padding may stand in it
pub reserved_padded : (t : Taken) → LawfulTaken t → (len : ℕ) (rest after : List ℕ) → t.ending ≡ fifteen len rest → t.fixed.padding ≡ true →
    Fits (packet_taken t after) → Within (elements_among t.items) → (p : Padded (rest ++ after)) →
    PacketReadAs (packet_taken t after) t.fixed (profile_of t.form) (elements_among t.items) (pads_among t.items) p.payload
reserved_padded t l len rest after q on fits w p =
    stray_padded (packet_taken t after) t.fixed (profile_of t.form) (elements_among t.items) (pads_among t.items) p.payload p.padding on
    (subst (ReadAs (packet_taken t after) t.fixed (profile_of t.form) (elements_among t.items) (pads_among t.items)) (sym p.same)
    (header-strays.reserved_read t l after fits len rest q w))

-- RFC 8285 4.3, application bits not 0: the elements are told otherwise, and the payload is that of the packet
pub appbits_packet : (f : Fixed) (profile : ℕ) → AppBits profile → (words payload : List ℕ) (e : Option Padding) → f.padding ≡ present e →
    rtp.Lawful (header_with f profile words) → Fits (rtp.octets (header_with f profile words) ++ (payload ++ end_octets e)) → Within (whole_element words ∷ []) →
    PacketReadAs (rtp.octets (header_with f profile words) ++ (payload ++ end_octets e)) f profile (whole_element words ∷ []) 0 payload
unfolding fields_with
appbits_packet f profile a words payload e bit l fits w =
    let front : List ℕ = rtp.octets (header_with f profile words) in
    record {
      place = length front;
      read = read_end front payload e (fields_with f true profile (whole_element words ∷ []) 0) bit
          (header-strays.appbits_read f profile a words (payload ++ end_octets e) l fits w);
      bytes = part_end front payload (end_octets e);
    }
