-- "that no second answer satisfies it is proved": each exported call's contract is met by one answer, and by no other. Where buffers are
-- lent an answer is the result with them as they are left. Assumes nothing.
use mathlib.Core.Path.{◌≡◌}
use mathlib.Core.Bool.{Bool}
use mathlib.Core.List.{List}
use Prim.Native.Nat.{ℕ}
use lib.ListN.{length}
use Rattle.error.specs.Only.{Determined}
use Rattle.error.proofs.Only.{by_value, by_both}
use Rattle.elements.specs.declared.Extensions.{Extensions}
use Rattle.header_write.specs.declared.Fixed.{Fixed}
use Rattle.header.specs.declared.Header.{Header}
use Rattle.header.specs.Fields.{blank}
use Rattle.header.specs.Read.{read_header}
use Rattle.header.specs.Size.{size_asked, length_asked}
use Rattle.header.specs.Write.{write_header}
use Rattle.header.specs.Extension.{set_extension, del_extension, get_extension, get_extension_ids}
use Rattle.header.specs.Said.{Written, written, change_heard, ids_heard, reading_heard as header_heard}
use Rattle.header.specs.Parts.{together, bare, Lent as Arrays, front_heard as header_front, lent_read as header_lent}
use Rattle.packet.specs.Read.{read_packet}
use Rattle.packet.specs.Write.{packet_size_asked, write_packet}
use Rattle.packet.specs.Said.{reading_heard as packet_heard}
use Rattle.packet.specs.Fronts.{front_heard as packet_front, lent_read as packet_lent}
use Rattle.vp8_send.specs.declared.Vp8Payloader.{Vp8Payloader}
use Rattle.vp8_read.specs.declared.Vp8Packet.{Vp8Packet}
use Rattle.vp8_send.specs.Send.{Sending, payloaded}
use Rattle.vp8_read.specs.Read.{depacketized}
use Rattle.vp8_read.specs.Partition.{partition_head}
use Rattle.h264.specs.declared.send.H264Payloader.{H264Payloader}
use Rattle.h264_put.specs.Groups.{nothing_saved}
use Rattle.h264.specs.Payload.{Lent, LeftIn, Left, lay_out, payload_of, lent_of}
use Rattle.h264_packet.specs.declared.H264Packet.{H264Packet}
use Rattle.h264_packet.specs.Depacketize.{head_test}
use Rattle.h264_packet.specs.Depacketize.{depacketized as depacketized_by}
use Rattle.h264_packet.specs.Said.{Heard, depacketized_heard}
use Rattle.joiner.specs.declared.Joiner.{Joiner}
use Rattle.joiner.specs.Join.{Stepped, opened, join_step, close_step}
use Rattle.gateway.specs.declared.refused.RtpTest.{RtpTest}
use Rattle.gateway.specs.declared.rtp_header.RtpHeaderRead.{RtpHeaderRead}
use Rattle.gateway.specs.declared.rtp_header.RtpLength.{RtpLength}
use Rattle.gateway.specs.declared.rtp_extension.RtpHeaderChanged.{RtpHeaderChanged}
use Rattle.gateway.specs.declared.rtp_extension.RtpElement.{RtpElement}
use Rattle.gateway.specs.declared.rtp_extension.RtpIds.{RtpIds}
use Rattle.gateway.specs.declared.rtp_packet.RtpPacketRead.{RtpPacketRead}
use Rattle.gateway.specs.declared.rtp_parts.RtpBytes.{RtpBytes}
use Rattle.gateway.specs.declared.rtp_parts.RtpHeaderFront.{RtpHeaderFront}
use Rattle.gateway.specs.declared.rtp_parts.RtpPacketFront.{RtpPacketFront}
use Rattle.gateway.specs.declared.rtp_h264.RtpH264Sent.{RtpH264Sent}
use Rattle.gateway.specs.declared.rtp_h264.RtpH264LentSent.{RtpH264LentSent}
use Rattle.gateway.specs.declared.rtp_h264.RtpH264Read.{RtpH264Read}
use Rattle.gateway.specs.declared.rtp_vp8.RtpVp8Sent.{RtpVp8Sent}
use Rattle.gateway.specs.declared.rtp_vp8.RtpVp8Read.{RtpVp8Read}
use Rattle.gateway.specs.declared.rtp_joiner.RtpJoined.{RtpJoined}
use Rattle.gateway.specs.declared.rtp_joiner.RtpClosed.{RtpClosed}
use Rattle.gateway.specs.declared.rtp_sizes.RtpSizes.{RtpSizes}
use Rattle.gateway.specs.Refused.{test_as}
use Rattle.gateway.specs.HeaderAnswers.{header_read_as, length_as, header_changed_as, element_as, ids_as}
use Rattle.gateway.specs.PacketAnswers.{packet_read_as}
use Rattle.gateway.specs.PartsAnswers.{bytes_as, header_front_as, packet_front_as}
use Rattle.gateway.specs.H264Answers.{h264_sent_as, h264_lent_sent_as, h264_read_as}
use Rattle.gateway.specs.Vp8Answers.{vp8_sent_as, vp8_read_as}
use Rattle.gateway.specs.JoinerAnswers.{joined_as, closed_as}
use Rattle.gateway.specs.Sizes.{sizes}

-- the contract is an equation of the result, and one of each of two buffers
by_three : {A B C : Type 0} (a : A) (b : B) (c : C) → Determined (λ (r : A × (B × C)). (r.0 ≡ a) × ((r.1.0 ≡ b) × (r.1.1 ≡ c)))
by_three a b c = by_both (by_value a) (by_both (by_value b) (by_value c))

-- ---- the header

pub header_default_only : Determined (λ (r : Header). r ≡ blank)
header_default_only = by_value blank

pub header_unmarshal_only : (s : List ℕ) → Determined (λ (r : RtpHeaderRead). r ≡ header_read_as (header_heard (read_header s)))
header_unmarshal_only s = by_value (header_read_as (header_heard (read_header s)))

pub header_marshal_size_only : (h : Header) → Determined (λ (r : RtpLength). r ≡ length_as (size_asked h))
header_marshal_size_only h = by_value (length_as (size_asked h))

pub header_marshal_to_only : (h : Header) (buf : List ℕ) →
    let w = written buf (write_header h (length buf)) in
    Determined (λ (r : RtpLength × List ℕ). (r.0 ≡ length_as w.answer) × (r.1 ≡ w.buffer))
header_marshal_to_only h buf =
    let w : Written = written buf (write_header h (length buf)) in
    by_both (by_value (length_as w.answer)) (by_value w.buffer)

pub header_payload_len_only : (h : Header) → Determined (λ (r : RtpLength). r ≡ length_as (length_asked h))
header_payload_len_only h = by_value (length_as (length_asked h))

pub header_set_extension_only : (h : Header) (id : ℕ) (s : List ℕ) →
    Determined (λ (r : RtpHeaderChanged). r ≡ header_changed_as (change_heard h (set_extension h id s)))
header_set_extension_only h id s = by_value (header_changed_as (change_heard h (set_extension h id s)))

pub header_del_extension_only : (h : Header) (id : ℕ) →
    Determined (λ (r : RtpHeaderChanged). r ≡ header_changed_as (change_heard h (del_extension h id)))
header_del_extension_only h id = by_value (header_changed_as (change_heard h (del_extension h id)))

pub header_get_extension_only : (h : Header) (id : ℕ) → Determined (λ (r : RtpElement). r ≡ element_as (get_extension h id))
header_get_extension_only h id = by_value (element_as (get_extension h id))

pub header_get_extension_ids_only : (h : Header) → Determined (λ (r : RtpIds). r ≡ ids_as (ids_heard (get_extension_ids h)))
header_get_extension_ids_only h = by_value (ids_as (ids_heard (get_extension_ids h)))

-- ---- the packet

pub packet_unmarshal_only : (s : List ℕ) → Determined (λ (r : RtpPacketRead). r ≡ packet_read_as (packet_heard (read_packet s)))
packet_unmarshal_only s = by_value (packet_read_as (packet_heard (read_packet s)))

pub packet_marshal_size_only : (h : Header) (payload : List ℕ) → Determined (λ (r : RtpLength). r ≡ length_as (packet_size_asked h payload))
packet_marshal_size_only h payload = by_value (length_as (packet_size_asked h payload))

pub packet_marshal_to_only : (h : Header) (payload buf : List ℕ) →
    let w = written buf (write_packet h payload (length buf)) in
    Determined (λ (r : RtpLength × List ℕ). (r.0 ≡ length_as w.answer) × (r.1 ≡ w.buffer))
packet_marshal_to_only h payload buf =
    let w : Written = written buf (write_packet h payload (length buf)) in
    by_both (by_value (length_as w.answer)) (by_value w.buffer)

-- ---- headers and packets in parts: of every header that has these parts

-- the bytes counted, and the buffer
wrote_only : (w : Written) → Determined (λ (r : RtpBytes × List ℕ). (r.0 ≡ bytes_as w.answer) × (r.1 ≡ w.buffer))
wrote_only w = by_both (by_value (bytes_as w.answer)) (by_value w.buffer)

module _ (f : Fixed) (sources : ℕ) (csrc : List ℕ) (profile : ℕ) (x : Extensions) (pads : ℕ) where
  abbrev whole : Header
  whole = together f sources csrc profile x pads

  pub header_marshal_size_parts_only : Determined (λ (r : RtpBytes). r ≡ bytes_as (size_asked whole))
  header_marshal_size_parts_only = by_value (bytes_as (size_asked whole))

  pub header_payload_len_parts_only : Determined (λ (r : RtpBytes). r ≡ bytes_as (length_asked whole))
  header_payload_len_parts_only = by_value (bytes_as (length_asked whole))

  pub header_get_extension_parts_only : (id : ℕ) → Determined (λ (r : RtpElement). r ≡ element_as (get_extension whole id))
  header_get_extension_parts_only id = by_value (element_as (get_extension whole id))

  pub header_get_extension_ids_parts_only : Determined (λ (r : RtpIds). r ≡ ids_as (ids_heard (get_extension_ids whole)))
  header_get_extension_ids_parts_only = by_value (ids_as (ids_heard (get_extension_ids whole)))

  pub packet_marshal_size_parts_only : (s : List ℕ) → Determined (λ (r : RtpBytes). r ≡ bytes_as (packet_size_asked whole s))
  packet_marshal_size_parts_only s = by_value (bytes_as (packet_size_asked whole s))

  pub header_marshal_parts_only : (buf : List ℕ) →
      let w = written buf (write_header whole (length buf)) in
      Determined (λ (r : RtpBytes × List ℕ). (r.0 ≡ bytes_as w.answer) × (r.1 ≡ w.buffer))
  header_marshal_parts_only buf = wrote_only (written buf (write_header whole (length buf)))

  pub packet_marshal_parts_only : (s buf : List ℕ) →
      let w = written buf (write_packet whole s (length buf)) in
      Determined (λ (r : RtpBytes × List ℕ). (r.0 ≡ bytes_as w.answer) × (r.1 ≡ w.buffer))
  packet_marshal_parts_only s buf = wrote_only (written buf (write_packet whole s (length buf)))

pub header_marshal_bare_only : (f : Fixed) (profile pads : ℕ) (buf : List ℕ) →
    let w = written buf (write_header (bare f profile pads) (length buf)) in
    Determined (λ (r : RtpBytes × List ℕ). (r.0 ≡ bytes_as w.answer) × (r.1 ≡ w.buffer))
header_marshal_bare_only f profile pads buf = wrote_only (written buf (write_header (bare f profile pads) (length buf)))

pub packet_marshal_bare_only : (f : Fixed) (profile pads : ℕ) (s buf : List ℕ) →
    let w = written buf (write_packet (bare f profile pads) s (length buf)) in
    Determined (λ (r : RtpBytes × List ℕ). (r.0 ≡ bytes_as w.answer) × (r.1 ≡ w.buffer))
packet_marshal_bare_only f profile pads s buf = wrote_only (written buf (write_packet (bare f profile pads) s (length buf)))

pub header_unmarshal_front_only : (s : List ℕ) →
    Determined (λ (r : RtpHeaderFront). r ≡ header_front_as (header_front (header_heard (read_header s))))
header_unmarshal_front_only s = by_value (header_front_as (header_front (header_heard (read_header s))))

pub header_unmarshal_parts_only : (s : List ℕ) (old : Arrays) →
    Determined (λ (r : RtpHeaderFront × Arrays).
    (r.0 ≡ header_front_as (header_front (header_heard (read_header s)))) × (r.1 ≡ header_lent old (read_header s)))
header_unmarshal_parts_only s old = by_both (header_unmarshal_front_only s) (by_value (header_lent old (read_header s)))

pub packet_unmarshal_front_only : (s : List ℕ) →
    Determined (λ (r : RtpPacketFront). r ≡ packet_front_as (packet_front (packet_heard (read_packet s))))
packet_unmarshal_front_only s = by_value (packet_front_as (packet_front (packet_heard (read_packet s))))

pub packet_unmarshal_parts_only : (s : List ℕ) (old : Arrays) →
    Determined (λ (r : RtpPacketFront × Arrays).
    (r.0 ≡ packet_front_as (packet_front (packet_heard (read_packet s)))) × (r.1 ≡ packet_lent old (read_packet s)))
packet_unmarshal_parts_only s old = by_both (packet_unmarshal_front_only s) (by_value (packet_lent old (read_packet s)))

-- ---- H.264

pub h264_payloader_new_only : Determined (λ (r : H264Payloader). r ≡ lay_out nothing_saved)
h264_payloader_new_only = by_value (lay_out nothing_saved)

pub h264_payload_only : (k : H264Payloader) (mtu : ℕ) (frame out ends : List ℕ) →
    let l = payload_of k mtu frame out ends in
    Determined (λ (r : RtpH264Sent × (List ℕ × List ℕ)). (r.0 ≡ h264_sent_as l) × ((r.1.0 ≡ l.out) × (r.1.1 ≡ l.ends)))
h264_payload_only k mtu frame out ends =
    let l : Left = payload_of k mtu frame out ends in
    by_three (h264_sent_as l) l.out l.ends

pub h264_lent_payload_only : (k : Lent) (mtu : ℕ) (frame out ends : List ℕ) →
    let l = lent_of k mtu frame out ends in
    Determined (λ (r : RtpH264LentSent × (List ℕ × (List ℕ × (List ℕ × List ℕ)))).
    (r.0 ≡ h264_lent_sent_as l) × ((r.1.0 ≡ l.sender.sps) × ((r.1.1.0 ≡ l.sender.pps) × ((r.1.1.1.0 ≡ l.out) × (r.1.1.1.1 ≡ l.ends)))))
h264_lent_payload_only k mtu frame out ends =
    let l : LeftIn Lent = lent_of k mtu frame out ends in
    by_both (by_value (h264_lent_sent_as l)) (by_both (by_value l.sender.sps) (by_three l.sender.pps l.out l.ends))

pub h264_depacketize_only : (k : H264Packet) (payload gather out : List ℕ) →
    let h = depacketized_heard k payload (depacketized_by k.is_avc k.gathered payload gather out) in
    Determined (λ (r : RtpH264Read × (List ℕ × List ℕ)). (r.0 ≡ h264_read_as h (length payload) (length gather)) × ((r.1.0 ≡ h.gather) × (r.1.1 ≡ h.out)))
h264_depacketize_only k payload gather out =
    let h : Heard = depacketized_heard k payload (depacketized_by k.is_avc k.gathered payload gather out) in
    by_three (h264_read_as h (length payload) (length gather)) h.gather h.out

pub h264_partition_head_only : (s : List ℕ) → Determined (λ (r : RtpTest). r ≡ test_as (head_test s))
h264_partition_head_only s = by_value (test_as (head_test s))

-- ---- VP8

pub vp8_payload_only : (k : Vp8Payloader) (mtu : ℕ) (frame out ends : List ℕ) →
    let s = payloaded k mtu frame out ends in
    Determined (λ (r : RtpVp8Sent × (List ℕ × List ℕ)). (r.0 ≡ vp8_sent_as s) × ((r.1.0 ≡ s.out) × (r.1.1 ≡ s.ends)))
vp8_payload_only k mtu frame out ends =
    let s : Sending = payloaded k mtu frame out ends in
    by_three (vp8_sent_as s) s.out s.ends

pub vp8_depacketize_only : (k : Vp8Packet) (s : List ℕ) → Determined (λ (r : RtpVp8Read). r ≡ vp8_read_as (depacketized k s))
vp8_depacketize_only k s = by_value (vp8_read_as (depacketized k s))

pub vp8_partition_head_only : (s : List ℕ) → Determined (λ (r : RtpTest). r ≡ test_as (partition_head s))
vp8_partition_head_only s = by_value (test_as (partition_head s))

-- the partition tails of both: the marker
pub partition_tail_only : (marker : Bool) → Determined (λ (r : Bool). r ≡ marker)
partition_tail_only marker = by_value marker

-- ---- the joiner

pub joiner_open_only : (source first : ℕ) → Determined (λ (r : Joiner). r ≡ opened source first)
joiner_open_only source first = by_value (opened source first)

pub joiner_join_only : (j : Joiner) (packet gather out : List ℕ) →
    let s = join_step j packet gather out in
    Determined (λ (r : RtpJoined × (Joiner × (List ℕ × List ℕ))).
    (r.0 ≡ joined_as s.answer) × ((r.1.0 ≡ s.joiner) × ((r.1.1.0 ≡ s.gather) × (r.1.1.1 ≡ s.out))))
joiner_join_only j packet gather out =
    let s : Stepped = join_step j packet gather out in
    by_both (by_value (joined_as s.answer)) (by_three s.joiner s.gather s.out)

pub joiner_close_only : (j : Joiner) (number : ℕ) → Determined (λ (r : RtpClosed). r ≡ closed_as (close_step j number))
joiner_close_only j number = by_value (closed_as (close_step j number))

-- ---- the sizes

pub sizes_only : Determined (λ (r : RtpSizes). r ≡ sizes)
sizes_only = by_value sizes
