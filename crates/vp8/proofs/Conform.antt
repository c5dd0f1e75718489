-- RFC 7741, section 4.2, and the reader and the sender of this crate: every formed descriptor with X set is read as its fields and its
-- payload; what is sent for a frame carries it. Assumes nothing.
use mathlib.Core.Path.{◌≡◌, refl, sym, ap, subst, ◌∙◌}
use mathlib.Core.Bool.{Bool, true, false}
use mathlib.Core.List.{List, [], ◌∷◌, ◌++◌, map}
use Prim.Native.Nat.{ℕ, ◌+◌, ◌≤◌, ◌<◌}
use native.Mathlib.Omega.{arith}
use lib.Dec.{eqb, ltb, lit<, lit≤}
use lib.ListN.{length, get_or, drop, length-append}
use lib.Seq.{drop-append_seam}
use borrow.Author.Tests.{le-ltb, ltb-true}
use Rattle.error.specs.Refusal.{Refusal}
use Rattle.error.specs.Said.{says, refused}
use Rattle.wire.specs.Packets.{joined}
use Rattle.rfc7741.specs.Descriptor.{Required, PictureId, absent, short, long, Extension, Descriptor, plain, extended, flag_i, flag_l, flag_t, flag_k, first_octet, extension_octet, octets, Formed, FormedId, Lawful}
use Rattle.rfc7741.specs.Frame.{Piece, packet_of, required, Sends, StartsOnce, parts}
use Rattle.rfc7741.proofs.Fields.{firsts}
use Rattle.vp8_read.specs.declared.Vp8Packet.{Vp8Packet}
use Rattle.vp8_send.specs.declared.Vp8Payloader.{Vp8Payloader}
use Rattle.vp8_read.specs.Read.{blank, Reading, depacketized}
use Rattle.vp8_send.specs.Send.{header_size, descriptor_of, parts_by, headed, packets_of, sent_all, payloaded}
use Rattle.vp8_read.specs.Partition.{partition_head}
use Rattle.vp8.specs.Conform.{TellsId, Tells, Readable, Complete, fields, shown_id, SendsFrames, with_more_behind, Own}
use Rattle.vp8_read.proofs.Stages.{four_or_more}
use Rattle.vp8_send.proofs.Header.{length_descriptor, shown_length}
use Rattle.vp8_send.proofs.Deliver.{in_domain, has_room}
use Rattle.vp8.proofs.ReadBack.{Head, fields_head, fields_id_lem, fields_tl0_lem, fields_layers, reads}
use Rattle.vp8.proofs.Carried.{required_by, id_alone, plan_by, octets_of, formed_required, formed_alone, carried}

-- ---- reading

-- "every well-formed descriptor with X set, in a packet of 4 bytes or more with payload behind it, is read as its fields and payload":
-- the fields are exactly the descriptor's, and the old ones where it leaves a field out
pub exactly : (old : Vp8Packet) (d : Required) (e : Extension) (payload : List ℕ) → Readable Formed old d e payload →
    depacketized old (octets (extended d e) ++ payload)
    ≡ record { packet = fields d e old; said = says (length (octets (extended d e))) }
exactly old d e payload h =
    four_or_more old (octets (extended d e) ++ payload) h.most h.id h.least
    ∙ reads old d e h.descriptor.0 h.descriptor.1 payload h.some

-- the payload is all from the place that is said
pub behind : (d : Descriptor) (payload : List ℕ) → drop (length (octets d)) (octets d ++ payload) ≡ payload
behind d payload = drop-append_seam (octets d) payload

-- of all that are formed: of one with L and without T, too
pub complete : Complete Formed depacketized
complete old d e payload h =
    let all = exactly old d e payload h in
    let head = fields_head d e old in
    let told : Tells d e (fields d e old) =
    record {
      x = ap (λ (q : Head). q.x) head;
      n = ap (λ (q : Head). q.n) head;
      s = ap (λ (q : Head). q.s) head;
      pid = ap (λ (q : Head). q.pid) head;
      i = ap (λ (q : Head). q.i) head;
      l = ap (λ (q : Head). q.l) head;
      t = ap (λ (q : Head). q.t) head;
      k = ap (λ (q : Head). q.k) head;
      picture_id = fields_id_lem d e old;
      tl0 = fields_tl0_lem d e old;
      layers = fields_layers d e old;
    } in
    (subst (Tells d e) (sym (ap (λ (r : Reading). r.packet) all)) told, ap (λ (r : Reading). r.said) all)

pub as_formed : {Such : Descriptor → Type 0} {old : Vp8Packet} {d : Required} {e : Extension} {payload : List ℕ} →
    (Such (extended d e) → Formed (extended d e)) → Readable Such old d e payload → Readable Formed old d e payload
as_formed formed h =
    record { descriptor = formed h.descriptor; some = h.some; least = h.least; most = h.most; id = h.id }

-- and so every one that the RFC has
pub complete_lawful : Complete Lawful depacketized
complete_lawful old d e payload h = complete old d e payload (as_formed (λ l. l.formed) h)

-- ---- readers that are not complete

plainly : ℕ → Required
plainly n = record { r = 0; n = n; s = 1; r2 = 0; pid = 0 }

abbrev bare : Extension
bare = id_alone absent

-- two packets of four bytes, alike but for N
sample : (n : ℕ) → n < 2 → Readable Lawful blank (plainly n) bare (170 ∷ 187 ∷ [])
unfolding plainly
sample n h =
    record {
      descriptor =
          record {
            formed = (record { r = lit< tt; n = h; s = lit< tt; r2 = lit< tt; pid = lit< tt }, formed_alone absent tt);
            rules = lit≤ tt;
          };
      some = lit< tt;
      least = lit≤ tt;
      most = lit≤ tt;
      id = lit≤ tt;
    }

says_not_refused : (at : ℕ) (r : Refusal) → says at ≡ refused r → ⊥
says_not_refused at r e = let z : ◌≡◌ {A = ℕ} 0 1 = cc in omega arith

-- a reader that refuses everything
pub no_refuser : (read : Vp8Packet → List ℕ → Reading) →
    ((p : Vp8Packet) (s : List ℕ) → (r : Refusal) × ((read p s).said ≡ refused r)) → Complete Lawful read → ⊥
no_refuser read always c =
    let told = (c blank (plainly 0) bare (170 ∷ 187 ∷ []) (sample 0 (lit< tt))).1 in
    let no' = always blank (octets (extended (plainly 0) bare) ++ (170 ∷ 187 ∷ [])) in
    says_not_refused _ no'.0 (sym told ∙ no'.1)

-- a reader with one fixed record
pub no_fixed_record : (read : Vp8Packet → List ℕ → Reading) (q : Vp8Packet) →
    ((p : Vp8Packet) (s : List ℕ) → (read p s).packet ≡ q) → Complete Lawful read → ⊥
unfolding plainly
no_fixed_record read q fixed c =
    let zero' : q.n ≡ 0 =
    sym (ap (λ (p : Vp8Packet). p.n) (fixed blank _)) ∙ (c blank (plainly 0) bare (170 ∷ 187 ∷ []) (sample 0 (lit< tt))).0.n in
    let one : q.n ≡ 1 =
    sym (ap (λ (p : Vp8Packet). p.n) (fixed blank _)) ∙ (c blank (plainly 1) bare (170 ∷ 187 ∷ []) (sample 1 (lit< tt))).0.n in
    omega arith

-- ---- sending

-- "what the sender writes is a well-formed descriptor, S on the first packet alone, one id for all packets of a frame, and the payloads
-- concatenate to the frame"; and every packet fits the mtu
pub sends : SendsFrames packets_of
sends = carried

-- a sender that emits nothing
pub no_silent_sender : (send : Vp8Payloader → ℕ → List ℕ → List (List ℕ)) →
    ((v : Vp8Payloader) (mtu : ℕ) (frame : List ℕ) → send v mtu frame ≡ []) → SendsFrames send → ⊥
no_silent_sender send silent s =
    let v : Vp8Payloader = record { enable_picture_id = false; picture_id = 0 } in
    let c = (s v 2 (170 ∷ []) (record { some = lit< tt; above = unfold header_size in lit< tt; id = lit≤ tt })).0 in
    no_pieces c.pieces (sym c.are ∙ silent v 2 (170 ∷ [])) c.whole
  where
    no_pieces : (ps : List Piece) → map packet_of ps ≡ [] → parts ps ≡ 170 ∷ [] → ⊥
    no_pieces [] e w = let z : ◌≡◌ {A = ℕ} 0 1 = ap length w in omega arith
    no_pieces (p ∷ ps) e w = let z = ap length e in omega arith

-- a sender that is ours but for the first octet of the packets behind a frame's first
pub no_more_behind : (k : ℕ) → 0 < k → SendsFrames (λ v mtu frame. with_more_behind k (packets_of v mtu frame)) → ⊥
unfolding packets_of header_size headed parts_by descriptor_of shown_id
no_more_behind k more s =
    let v : Vp8Payloader = record { enable_picture_id = false; picture_id = 0 } in
    let c = (s v 2 (170 ∷ 187 ∷ []) (record { some = lit< tt; above = lit< tt; id = lit≤ tt })).0 in
    two_pieces c.pieces c.started c.are
  where
    no_piece : (d : Descriptor) (part : List ℕ) → Sends absent 0 (record { descriptor = d; part = part }) →
        (0 + k) ∷ 187 ∷ [] ≡ octets d ++ part → ⊥
    no_piece (plain d) part h e = let first : 0 + k ≡ first_octet 0 d = ap (λ l. get_or l 0 0) e in omega arith
    no_piece (extended d x) part h e =
        let flags : 187 ≡ extension_octet x = ap (λ l. get_or l 1 0) e in
        let i = ap flag_i h.picture_id in
        let l = ap flag_l h.layers.0 in
        let t = ap flag_t h.layers.1 in
        let k' = ap flag_k h.layers.1 in
        omega arith

    two_pieces : (ps : List Piece) → StartsOnce absent ps → (16 ∷ 170 ∷ []) ∷ ((0 + k) ∷ 187 ∷ []) ∷ [] ≡ map packet_of ps → ⊥
    two_pieces [] h e = let z = ap length e in omega arith
    two_pieces (p ∷ []) h e = let z = ap length e in omega arith
    two_pieces (p ∷ q ∷ ps) h e = no_piece q.descriptor q.part h.1.0 (ap (λ l. get_or l 1 []) e)

-- so one with PID 1 on each of them, and one with S on each of them
pub no_pid_behind_the_first : SendsFrames (λ v mtu frame. with_more_behind 1 (packets_of v mtu frame)) → ⊥
no_pid_behind_the_first = no_more_behind 1 (lit< tt)

pub no_s_on_every_packet : SendsFrames (λ v mtu frame. with_more_behind 16 (packets_of v mtu frame)) → ⊥
no_s_on_every_packet = no_more_behind 16 (lit< tt)

-- within the limits and with room, these packets stand in the output, their ends in the table, and the id has advanced
pub sent : (v : Vp8Payloader) (mtu : ℕ) (frame out ends : List ℕ) → length frame ≤ 16777216 → mtu ≤ 65535 → v.picture_id ≤ 32767 →
    length (joined (packets_of v mtu frame)) ≤ length out → length (packets_of v mtu frame) ≤ length ends →
    payloaded v mtu frame out ends ≡ sent_all v (packets_of v mtu frame) out ends
sent v mtu frame out ends f m i o e = in_domain v mtu frame out ends f m i ∙ has_room v (packets_of v mtu frame) out ends o e

module _ (v : Vp8Payloader) (start : Bool) (part : List ℕ) (old : Vp8Packet) (shown : v.enable_picture_id ≡ true)
    (id : v.picture_id ≤ 32767) (oldid : old.picture_id ≤ 32767) (there : 0 < length part)
    (most : length (descriptor_of v start ++ part) ≤ 65535) where
  of_id : (i : PictureId) → octets (extended (required_by start) (id_alone i)) ≡ descriptor_of v start →
      FormedId i → ((x : ℕ) → TellsId i x → x ≡ v.picture_id) → Own v start (depacketized old (descriptor_of v start ++ part))
  of_id i o h told =
      let size : 3 ≤ length (descriptor_of v start) = shown_length v start shown in
      let same : octets (extended (required_by start) (id_alone i)) ++ part ≡ descriptor_of v start ++ part = ap (λ (l : List ℕ). l ++ part) o in
      let least : 4 ≤ length (descriptor_of v start ++ part) = rw length-append (omega arith) in
      let c =
      complete old (required_by start) (id_alone i) part
      (record {
        descriptor = (formed_required start, formed_alone i h);
        some = there;
        least = subst (λ (l : List ℕ). 4 ≤ length l) (sym same) least;
        most = subst (λ (l : List ℕ). length l ≤ 65535) (sym same) most;
        id = oldid;
      }) in
      subst (λ (l : List ℕ). Own v start (depacketized old l)) same
      (c.1 ∙ ap says (ap length o ∙ length_descriptor v start), told _ c.0.picture_id, c.0.s)

  pub own : Own v start (depacketized old (descriptor_of v start ++ part))
  unfolding plan_by shown_id
  own = by_width (ltb v.picture_id 128) refl
    where
      by_width : (seven : Bool) → ltb v.picture_id 128 ≡ seven → Own v start (depacketized old (descriptor_of v start ++ part))
      by_width true e =
          let i : shown_id v ≡ short v.picture_id = rw (shown, e) in
          of_id (short v.picture_id) (ap (λ (j : PictureId). octets (plan_by j start)) (sym i) ∙ octets_of v start id)
          (ltb-true v.picture_id 128 e) (λ x q. q)
      by_width false e =
          let i : shown_id v ≡ long v.picture_id = rw (shown, e) in
          of_id (long v.picture_id) (ap (λ (j : PictureId). octets (plan_by j start)) (sym i) ∙ octets_of v start id)
          (omega arith) (λ x q. q)

-- ---- partitions

-- a packet's S is what `is_partition_head` says of it
pub head_is_s : (d : Descriptor) (payload : List ℕ) → Formed d → length (octets d ++ payload) ≤ 65535 →
    partition_head (octets d ++ payload) ≡ says (eqb (required d).s 1)
unfolding partition_head
head_is_s (plain d) payload h most = rw (le-ltb 65535 (length (octets (plain d) ++ payload)) most, (firsts 0 d (lit< tt) h).s)
head_is_s (extended d e) payload h most =
    rw (le-ltb 65535 (length (octets (extended d e) ++ payload)) most, (firsts 1 d (lit< tt) h.0).s)
