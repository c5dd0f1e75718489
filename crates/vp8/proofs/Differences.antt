-- Where this crate leaves RFC 7741, section 4.2, or narrows it: one theorem for each row, which says exactly what it does there, and
-- after it the smallest input, computed. Assumes nothing.
use mathlib.Core.Path.{◌≡◌, refl, sym, ap, ◌∙◌}
use mathlib.Core.Bool.{true}
use mathlib.Core.Logic.{◌⊎◌, ⊎_elim}
use mathlib.Core.List.{List, [], ◌∷◌, ◌++◌, append-nil}
use mathlib.Core.Option.{some}
use Prim.Native.Nat.{ℕ, ◌+◌, ◌/◌, ◌%◌, ◌≤◌, ◌<◌}
use native.Mathlib.Omega.{arith}
use lib.Dec.{lit<}
use lib.ListN.{length, length-append}
use borrow.Author.Tests.{lt-ltb, le-ltb}
use Rattle.error.specs.Said.{says, refuse}
use Rattle.wire.specs.Net.{u16_at, be16}
use Rattle.wire.specs.Packets.{joined}
use Rattle.rfc7741.specs.Descriptor.{Required, absent, short, long, neither, Extension, plain, extended, first_octet, extension_octet, id_octets, tl0_octets, octets, FormedRequired, FormedExtension, Formed, Strays}
use Rattle.rfc7741.proofs.Fields.{firsts, id_size, tl0_size}
use Rattle.vp8_read.specs.declared.Vp8Packet.{Vp8Packet}
use Rattle.vp8_send.specs.declared.Vp8Payloader.{Vp8Payloader}
use Rattle.vp8_read.specs.Read.{blank, Stage, Reading, put_required, put_flags, put_picture_id, put_tl0, put_tid, put_key, set_required, set_flags, set_tid, set_key, with_flags, with_picture_id, with_tl0, with_layers, or_short, third, second, read_on, depacketized}
use Rattle.vp8_send.specs.Send.{header_size, descriptor_of, parts_by, headed, packets_of, advanced, Sending, delivered, payloaded}
use Rattle.vp8.specs.Conform.{Readable, Deviates, fields, shown_id, Sendable, fields_id, fields_tl0}
use Rattle.vp8.specs.Differences.{flags_octet, without_x, further, showing}
use Rattle.vp8_read.proofs.Stages.{left_over, flags_no, id_no, tl0_no, layers_no, flags_yes, under_four, four_or_more, begun}
use Rattle.vp8_send.proofs.Deliver.{in_domain, empty_frame, small_mtu, deliver_none, packets_count, some_packets}
use Rattle.vp8.proofs.ReadBack.{cut_first, cut_second, reads_empty}
use Rattle.vp8.proofs.Conform.{exactly, as_formed, sent}
use Rattle.vp8.proofs.Stale.{along, on, on_r, along_on, clear, clear_r, along_clear}

-- ---- X clear: the flags of an earlier packet count

module _ (old : Vp8Packet) (b : ℕ) (rest : List ℕ) (h : b < 128) (id : old.picture_id ≤ 32767) (least : 4 ≤ length (b ∷ rest))
    (most : length (b ∷ rest) < 65535) where
  -- what both are read from
  both : Stage
  both = record { packet = put_required 1 (b / 32 % 2) (b / 16 % 2) (b % 8) old; at = 1; rest = rest }

  as_it_is : depacketized old (b ∷ rest) ≡ clear_r (read_on (with_picture_id both))
  unfolding both put_required
  as_it_is =
      let x : b / 128 ≡ 0 = omega arith in
      four_or_more old (b ∷ rest) (omega arith) id least
      ∙ ap (λ (c : Stage). read_on (with_picture_id c))
      (flags_no (record { packet = set_required b old; at = 1; rest = rest }) (λ (one : b / 128 ≡ 1). omega arith)
      ∙ ap (λ (n : ℕ). record { packet = put_required n (b / 32 % 2) (b / 16 % 2) (b % 8) old; at = 1; rest = rest }) x)
      ∙ along clear clear_r along_clear both

  module _ (hi : old.i < 2) (hl : old.l < 2) (ht : old.t < 2) (hk : old.k < 2) where
    same_fields : set_flags (flags_octet old) (set_required (128 + b) old) ≡ put_required 1 (b / 32 % 2) (b / 16 % 2) (b % 8) old
    unfolding put_required put_flags
    same_fields =
        let x : (128 + b) / 128 ≡ 1 = omega arith in
        let n : (128 + b) / 32 % 2 ≡ b / 32 % 2 = omega arith in
        let s : (128 + b) / 16 % 2 ≡ b / 16 % 2 = omega arith in
        let pid : (128 + b) % 8 ≡ b % 8 = omega arith in
        let i : flags_octet old / 128 ≡ old.i = omega arith in
        let l : flags_octet old / 64 % 2 ≡ old.l = omega arith in
        let t : flags_octet old / 32 % 2 ≡ old.t = omega arith in
        let k : flags_octet old / 16 % 2 ≡ old.k = omega arith in
        λ j. put_flags (i j) (l j) (t j) (k j) (put_required (x j) (n j) (s j) (pid j) old)

    with_flags_lem : depacketized old ((128 + b) ∷ flags_octet old ∷ rest) ≡ on_r (read_on (with_picture_id both))
    unfolding both put_required
    with_flags_lem =
        let x : (128 + b) / 128 ≡ 1 = omega arith in
        four_or_more old ((128 + b) ∷ flags_octet old ∷ rest) (omega arith) id (omega arith)
        ∙ ap (λ (c : Stage). read_on (with_picture_id c))
        (flags_yes (record { packet = set_required (128 + b) old; at = 1; rest = flags_octet old ∷ rest }) x
        ∙ ap (λ (q : Vp8Packet). record { packet = q; at = 2; rest = rest }) same_fields)
        ∙ along on on_r along_on both

    -- a packet with X clear is read as though the extension octet with the old flags stood in it: the fields are the same but for X,
    -- and the payload stands one place nearer
    pub stale :
        ((depacketized old (b ∷ rest)).packet ≡ without_x (depacketized old ((128 + b) ∷ flags_octet old ∷ rest)).packet)
        × ((depacketized old ((128 + b) ∷ flags_octet old ∷ rest)).said ≡ further (depacketized old (b ∷ rest)).said)
    stale = (
      ap (λ (r : Reading). r.packet) as_it_is ∙ sym (ap (λ (r : Reading). without_x r.packet) with_flags_lem),
      ap (λ (r : Reading). r.said) with_flags_lem ∙ sym (ap (λ (r : Reading). further r.said) as_it_is),
    )

-- `908005AA`, then `1007AABB`: id 7, payload AABB
pub stale_id : ((depacketized (depacketized blank (144 ∷ 128 ∷ 5 ∷ 170 ∷ [])).packet (16 ∷ 7 ∷ 170 ∷ 187 ∷ [])).said ≡ says 2)
    × ((depacketized (depacketized blank (144 ∷ 128 ∷ 5 ∷ 170 ∷ [])).packet (16 ∷ 7 ∷ 170 ∷ 187 ∷ [])).packet.picture_id ≡ 7)
unfolding depacketized put_required put_flags with_flags with_picture_id put_picture_id with_tl0 with_layers or_short read_on second third
stale_id = (refl, refl)

-- where no old flag is 1, X clear is read as the RFC has it: no optional field, and the payload behind the first octet
pub plain_fresh : (old : Vp8Packet) (d : Required) (payload : List ℕ) → FormedRequired d → (old.i ≡ 1 → ⊥) → (old.l ≡ 1 → ⊥) →
    (old.t ≡ 1 → ⊥) → (old.k ≡ 1 → ⊥) → old.picture_id ≤ 32767 → 4 ≤ length (octets (plain d) ++ payload) →
    length (octets (plain d) ++ payload) ≤ 65535 →
    depacketized old (octets (plain d) ++ payload) ≡ record { packet = put_required 0 d.n d.s d.pid old; said = says 1 }
unfolding put_required read_on second third
plain_fresh old d payload h ni nl nt nk id least most =
    let b : ℕ = first_octet 0 d in
    let f = firsts 0 d (lit< tt) h in
    let q : Vp8Packet = set_required b old in
    let c : Stage = record { packet = q; at = 1; rest = payload } in
    let there : 0 < length payload = omega arith in
    four_or_more old (b ∷ payload) most id least
    ∙ ap (λ (c' : Stage). read_on (with_picture_id c')) (flags_no c (λ (one : b / 128 ≡ 1). omega (arith, f.x)))
    ∙ ap read_on (id_no c ni)
    ∙ left_over c (λ c'. second (with_tl0 c')) there
    ∙ ap second (tl0_no c nl)
    ∙ left_over c (λ c'. third (with_layers c')) there
    ∙ ap third (layers_no c nt nk)
    ∙ left_over c (λ c'. record { packet = c'.packet; said = says c'.at }) there
    ∙ (λ i. record { packet = put_required (f.x i) (f.n i) (f.s i) (f.pid i) old; said = says 1 })

-- ---- L without T: read all the same

pub l_without_t : (old : Vp8Packet) (d : Required) (e : Extension) (payload : List ℕ) → Readable Strays old d e payload →
    depacketized old (octets (extended d e) ++ payload)
    ≡ record { packet = fields d e old; said = says (length (octets (extended d e))) }
l_without_t old d e payload h = exactly old d e payload (as_formed (λ w. w.formed) h)

-- `804005AA`: TL0PICIDX 5, payload AA
pub l_alone : Deviates (128 ∷ 64 ∷ 5 ∷ 170 ∷ []) 3
    × ((depacketized blank (128 ∷ 64 ∷ 5 ∷ 170 ∷ [])).said ≡ says 3)
    × ((depacketized blank (128 ∷ 64 ∷ 5 ∷ 170 ∷ [])).packet.tl0_pic_idx ≡ 5)
unfolding depacketized put_required put_flags with_flags with_picture_id with_tl0 put_tl0 with_layers or_short read_on second third
l_alone = (
  record {
    required = record { r = 0; n = 0; s = 0; r2 = 0; pid = 0 };
    extension = record { picture_id = absent; tl0picidx = some 5; layers = neither; rsv = 0 };
    payload = 170 ∷ [];
    descriptor =
        record {
          formed = (
            record { r = lit< tt; n = lit< tt; s = lit< tt; r2 = lit< tt; pid = lit< tt },
            record { picture_id = tt; tl0picidx = lit< tt; layers = tt; rsv = lit< tt },
          );
          broken = record { l = refl; t = refl };
        };
    laid = refl;
    some = lit< tt;
    place = refl;
  },
  refl,
  refl,
)

-- ---- under 4 bytes: refused, though 2 bytes are a packet by the RFC

pub under_four_refused : (old : Vp8Packet) (s : List ℕ) → old.picture_id ≤ 32767 → length s < 4 →
    depacketized old s ≡ record { packet = old; said = refuse 4 }
under_four_refused = under_four

-- `10AABB`: S, and a payload of two octets
pub own_short : depacketized blank (octets (plain (record { r = 0; n = 0; s = 1; r2 = 0; pid = 0 })) ++ (170 ∷ 187 ∷ []))
    ≡ record { packet = blank; said = refuse 4 }
unfolding depacketized
own_short = refl

-- ---- a descriptor that is cut, or has no payload behind it: refused, and the fields read so far are kept

-- cut behind the picture id, the first of the three late refusals
pub cut_behind_id : (old : Vp8Packet) (d : Required) (e : Extension) → FormedRequired d → FormedExtension e → old.picture_id ≤ 32767 →
    2 ≤ length (id_octets e.picture_id) →
    depacketized old (first_octet 1 d ∷ extension_octet e ∷ (id_octets e.picture_id ++ [])) ≡ record { packet = fields_id d e old; said = refuse 4 }
cut_behind_id old d e h h' id least =
    let l = append-nil (id_octets e.picture_id) in
    let n : length (id_octets e.picture_id ++ []) ≡ length (id_octets e.picture_id) = ap length l in
    let m = id_size e.picture_id in
    four_or_more old _ (omega arith) id (omega arith) ∙ cut_first old d e h h'

-- cut behind TL0PICIDX, the second
pub cut_behind_tl0 : (old : Vp8Packet) (d : Required) (e : Extension) → FormedRequired d → FormedExtension e → old.picture_id ≤ 32767 →
    0 < length (tl0_octets e.tl0picidx) → 0 < length (id_octets e.picture_id) →
    depacketized old (first_octet 1 d ∷ extension_octet e ∷ (id_octets e.picture_id ++ (tl0_octets e.tl0picidx ++ [])))
    ≡ record { packet = fields_tl0 d e old; said = refuse 4 }
cut_behind_tl0 old d e h h' id tl0 least =
    let n : length (id_octets e.picture_id ++ (tl0_octets e.tl0picidx ++ [])) ≡ length (id_octets e.picture_id) + length (tl0_octets e.tl0picidx) =
    length-append (id_octets e.picture_id) (tl0_octets e.tl0picidx ++ [])
    ∙ ap (λ (k : List ℕ). length (id_octets e.picture_id) + length k) (append-nil (tl0_octets e.tl0picidx)) in
    let m = id_size e.picture_id in
    let m' = tl0_size e.tl0picidx in
    four_or_more old _ (omega arith) id (omega arith) ∙ cut_second old d e h h' tl0

-- `80E08102`: 4, with the id 258 and the old TL0PICIDX
pub cut_kept : ((depacketized blank (128 ∷ 224 ∷ 129 ∷ 2 ∷ [])).said ≡ refuse 4)
    × ((depacketized blank (128 ∷ 224 ∷ 129 ∷ 2 ∷ [])).packet.picture_id ≡ 258)
    × ((depacketized blank (128 ∷ 224 ∷ 129 ∷ 2 ∷ [])).packet.tl0_pic_idx ≡ 0)
unfolding depacketized put_required put_flags with_flags with_picture_id put_picture_id with_tl0 with_layers or_short read_on second third u16_at
cut_kept = (refl, refl, refl)

-- no payload: the third

pub empty_refused : (old : Vp8Packet) (d : Required) (e : Extension) → FormedRequired d → FormedExtension e → old.picture_id ≤ 32767 →
    4 ≤ length (octets (extended d e)) → length (octets (extended d e)) ≤ 65535 →
    depacketized old (octets (extended d e)) ≡ record { packet = fields d e old; said = refuse 4 }
empty_refused old d e h h' id least most =
    four_or_more old (octets (extended d e)) most id least
    ∙ ap (λ (s : List ℕ). read_on (begun old s)) (sym (append-nil (octets (extended d e))))
    ∙ reads_empty old d e h h'

-- `80F00102FF`: 4, with the id 1, TL0PICIDX 2, TID 3, Y 1, KEYIDX 31
pub empty_kept : ((depacketized blank (128 ∷ 240 ∷ 1 ∷ 2 ∷ 255 ∷ [])).said ≡ refuse 4)
    × ((depacketized blank (128 ∷ 240 ∷ 1 ∷ 2 ∷ 255 ∷ [])).packet.tl0_pic_idx ≡ 2)
    × ((depacketized blank (128 ∷ 240 ∷ 1 ∷ 2 ∷ 255 ∷ [])).packet.key_idx ≡ 31)
unfolding depacketized put_required put_flags with_flags with_picture_id put_picture_id with_tl0 put_tl0 with_layers set_tid put_tid set_key put_key or_short read_on second third
empty_kept = (refl, refl, refl)

-- ---- the reserved bits, and the parts of the octet of T and K whose flag is clear: ignored

pub reserved_ignored : (old : Vp8Packet) (d : Required) (e : Extension) (payload : List ℕ) (r r2 rsv : ℕ) → Readable Formed old d e payload →
    r < 2 → r2 < 2 → rsv < 16 →
    depacketized old
    (octets (extended (record { r = r; n = d.n; s = d.s; r2 = r2; pid = d.pid })
    (record { picture_id = e.picture_id; tl0picidx = e.tl0picidx; layers = e.layers; rsv = rsv })) ++ payload)
    ≡ depacketized old (octets (extended d e) ++ payload)
reserved_ignored old d e payload r r2 rsv h hr hr2 hrsv =
    let f = h.descriptor.0 in
    let g = h.descriptor.1 in
    exactly old (record { r = r; n = d.n; s = d.s; r2 = r2; pid = d.pid })
    (record { picture_id = e.picture_id; tl0picidx = e.tl0picidx; layers = e.layers; rsv = rsv }) payload
    (record {
      descriptor = (
        record { r = hr; n = f.n; s = f.s; r2 = hr2; pid = f.pid },
        record { picture_id = g.picture_id; tl0picidx = g.tl0picidx; layers = g.layers; rsv = hrsv },
      );
      some = h.some;
      least = h.least;
      most = h.most;
      id = h.id;
    })
    ∙ sym (exactly old d e payload h)

-- ---- the id's width changes within a stream

pub seven : (v : Vp8Payloader) → v.enable_picture_id ≡ true → v.picture_id < 128 → shown_id v ≡ short v.picture_id
unfolding shown_id
seven v e h = rw (e, lt-ltb v.picture_id 128 h)

pub fifteen : (v : Vp8Payloader) → v.enable_picture_id ≡ true → 128 ≤ v.picture_id → shown_id v ≡ long v.picture_id
unfolding shown_id
fifteen v e h = rw (e, le-ltb v.picture_id 128 h)

-- 127 in 7 bits and then 128 in 15; 32,767 in 15 bits and then 0 in 7
pub width_changes : (shown_id (showing 127) ≡ short 127)
    × (shown_id (advanced (showing 127)) ≡ long 128)
    × (shown_id (showing 32767) ≡ long 32767)
    × (shown_id (advanced (showing 32767)) ≡ short 0)
unfolding shown_id advanced
width_changes = (refl, refl, refl, refl)

-- id 127, AABB at mtu 4: `90807FAA`, `80807FBB`; then id 128 gives none at 4, and `90808080AA`, `80808080BB` at 5
pub on_the_wire : (packets_of (showing 127) 4 (170 ∷ 187 ∷ []) ≡ (144 ∷ 128 ∷ 127 ∷ 170 ∷ []) ∷ (128 ∷ 128 ∷ 127 ∷ 187 ∷ []) ∷ [])
    × (packets_of (showing 128) 4 (170 ∷ 187 ∷ []) ≡ [])
    × (packets_of (showing 128) 5 (170 ∷ 187 ∷ []) ≡ (144 ∷ 128 ∷ 128 ∷ 128 ∷ 170 ∷ []) ∷ (128 ∷ 128 ∷ 128 ∷ 128 ∷ 187 ∷ []) ∷ [])
unfolding packets_of header_size headed parts_by descriptor_of be16
on_the_wire = (refl, refl, refl)

-- ---- the id advances also where it is not shown, and only where packets were made

pub advances : (v : Vp8Payloader) (mtu : ℕ) (frame out ends : List ℕ) → Sendable v mtu frame → length frame ≤ 16777216 → mtu ≤ 65535 →
    length (joined (packets_of v mtu frame)) ≤ length out → length (packets_of v mtu frame) ≤ length ends →
    (payloaded v mtu frame out ends).payloader
    ≡ record { enable_picture_id = v.enable_picture_id; picture_id = (v.picture_id + 1) % 32768 }
unfolding advanced
advances v mtu frame out ends h f m o e =
    let some' = packets_count v mtu frame h.above h.some in
    ap (λ (r : Sending). r.payloader) (sent v mtu frame out ends f m h.id o e)
    ∙ some_packets v (packets_of v mtu frame) (omega (arith, some'))

pub no_new_id : (v : Vp8Payloader) (mtu : ℕ) (frame out ends : List ℕ) → length frame ≤ 16777216 → mtu ≤ 65535 → v.picture_id ≤ 32767 →
    (length frame ≡ 0) ⊎ (mtu ≤ header_size v) →
    payloaded v mtu frame out ends ≡ record { payloader = v; said = says (record { packets = 0; bytes = 0 }); out = out; ends = ends }
no_new_id v mtu frame out ends f m i none' =
    in_domain v mtu frame out ends f m i
    ∙ ap (λ (ps : List (List ℕ)). delivered v ps out ends) (⊎_elim (empty_frame v mtu frame) (small_mtu v mtu frame) none')
    ∙ deliver_none v out ends
