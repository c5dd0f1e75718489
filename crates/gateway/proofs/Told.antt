-- Nothing is lost in the records: a caller who looks at `refused` first hears what the call's definition says, and finds the body that
-- `h264_packet::body` shows. No refusal passes for an answer, since none has the number 0. Assumes nothing.
use Rattle.std.specs.Prelude.{Result, Option, Ok, Err, Some, None}
use mathlib.Core.Path.{◌≡◌, refl, sym, ap, ◌∙◌}
use mathlib.Core.Bool.{Bool, false, cond}
use mathlib.Core.List.{List, [], ◌∷◌}
use Prim.Native.Nat.{ℕ, ◌-◌, ◌≤◌}
use native.Mathlib.Omega.{arith}
use native.Mathlib.Decide.{dec_le}
use lib.Dec.{eqb}
use lib.Seq.{take_all}
use lib.ListN.{length, take, drop, length-drop}
use borrow.Author.Tests.{le-leb, lt-leb, lt-ltb, le-ltb, ne_eqb}
use Rattle.header.specs.declared.Data.{Data}
use Rattle.error.specs.declared.Error.{Error}
use Rattle.error.specs.declared.Error.TheVariants.{ErrHeaderSizeInsufficient, ErrHeaderSizeInsufficientForExtension, ElementPastPacket, ErrShortPacket, ErrBufferTooSmall, GatherTooSmall, OverLimits, OutsideDomain, HeaderExtensionPayloadNot32BitWords, ErrRfc3550headerIdrange, ErrRfc8285oneByteHeaderIdrange, ErrRfc8285oneByteHeaderSize, ErrRfc8285twoByteHeaderIdrange, ErrRfc8285twoByteHeaderSize, ErrHeaderExtensionNotFound, ErrHeaderExtensionsNotEnabled, StapASizeLargerThanBuffer, StapASizeCut, NaluTypeIsNotHandled, OtherSource, StartAndEnd, AlreadyClosed, ClosingTooFar, MissedTotalFull, OtherTime}
use Rattle.error.specs.Refusal.{refusal_of}
use Rattle.error.specs.Said.{says, refused, said}
use Rattle.elements.specs.Named.{absent}
use Rattle.header.specs.declared.Front.{Front}
use Rattle.header.specs.declared.Header.{Header}
use Rattle.header.specs.Said as header
use Rattle.packet.specs.declared.Payload as whole
use Rattle.packet.specs.Said as packet
use Rattle.vp8_send.specs.declared.Vp8Payloader.{Vp8Payloader}
use Rattle.vp8_send.specs.declared.Vp8Sent.{Vp8Sent}
use Rattle.vp8_read.specs.declared.Vp8Packet.{Vp8Packet}
use Rattle.h264.specs.declared.send.H264Payloader.{H264Payloader}
use Rattle.h264.specs.declared.send.Written.{Written}
use Rattle.h264.specs.Payload as h264
use Rattle.h264_packet.specs.declared.H264Packet.{H264Packet}
use Rattle.h264_packet.specs.Depacketize.{Showing, nowhere, in_packet, in_gather, body_of}
use Rattle.joiner.specs.declared.Joiner.{Joiner}
use Rattle.joiner.specs.declared.Joined.{Joined}
use Rattle.joiner.specs.declared.Joined.TheVariants as joined
use Rattle.joiner.specs.declared.Closed.{Closed}
use Rattle.joiner_step.specs.Step.{accepted}
use Rattle.joiner.specs.Said.{said_joined, said_closed}
use Rattle.gateway.specs.Refused.{carried_as, refused_as, carries, said_by, test_as}
use Rattle.gateway.specs.HeaderAnswers.{header_read_as, length_as, header_changed_as, element_as, found_by, ids_as}
use Rattle.gateway.specs.PacketAnswers.{packet_read_as}
use Rattle.gateway.specs.PartsAnswers.{said_with, bytes_as, header_front_as, packet_front_as}
use Rattle.gateway.specs.H264Answers.{counted_as, h264_sent_as, h264_lent_sent_as, counts_by, body_as, body_by, h264_read_as}
use Rattle.gateway.specs.Vp8Answers.{vp8_sent_as, vp8_read_as}
use Rattle.gateway.specs.JoinerAnswers.{joined_as, answer_by, closed_as}

-- ---- a refusal

-- its number and what it carries are read back, and it is never read as an answer
pub refusal_told : {A : Type 0} (e : Error) (x : A) → said_by (refused_as (refusal_of e)) x ≡ refused (refusal_of e)
refusal_told ErrHeaderSizeInsufficient x = refl
refusal_told ErrHeaderSizeInsufficientForExtension x = refl
refusal_told ElementPastPacket x = refl
refusal_told ErrShortPacket x = refl
refusal_told ErrBufferTooSmall x = refl
refusal_told GatherTooSmall x = refl
refusal_told OverLimits x = refl
refusal_told OutsideDomain x = refl
refusal_told HeaderExtensionPayloadNot32BitWords x = refl
refusal_told ErrRfc3550headerIdrange x = refl
refusal_told ErrRfc8285oneByteHeaderIdrange x = refl
refusal_told ErrRfc8285oneByteHeaderSize x = refl
refusal_told ErrRfc8285twoByteHeaderIdrange x = refl
refusal_told ErrRfc8285twoByteHeaderSize x = refl
refusal_told ErrHeaderExtensionNotFound x = refl
refusal_told ErrHeaderExtensionsNotEnabled x = refl
refusal_told (StapASizeLargerThanBuffer size left) x = refl
refusal_told StapASizeCut x = refl
refusal_told (NaluTypeIsNotHandled type) x = refl
refusal_told OtherSource x = refl
refusal_told StartAndEnd x = refl
refusal_told AlreadyClosed x = refl
refusal_told ClosingTooFar x = refl
refusal_told MissedTotalFull x = refl
refusal_told OtherTime x = refl

-- a number other than 17 and 19 tells the refusal whole
number_told : {A : Type 0} (e : Error) (x : A) → carries (refusal_of e).number ≡ 0 → said_with (refusal_of e).number x ≡ refused (refusal_of e)
number_told e x c =
    ap (λ (k : ℕ). cond (eqb (refusal_of e).number 0) (says x) (refused (record { number = (refusal_of e).number; carried = take k (carried_as (refusal_of e).carried) })))
    (sym c)
    ∙ refusal_told e x

-- ---- the answers

pub header_read_told : (a : Result ℕ Error) (h : Header) →
    let r = header_read_as (record { answer = said a; header = h }) in said_by r.refused r.at ≡ said a
header_read_told (Ok at) h = refl
header_read_told (Err e) h = refusal_told e 0

pub length_told : (a : Result ℕ Error) → let r = length_as (said a) in said_by r.refused r.bytes ≡ said a
length_told (Ok n) = refl
length_told (Err e) = refusal_told e 0

pub changed_told : (a : Result Unit Error) (h : Header) →
    let r = header_changed_as (record { answer = said a; header = h }) in said_by r.refused tt ≡ said a
changed_told (Ok u) h = refl
changed_told (Err e) h = refusal_told e tt

pub element_told : (a : Result (Option Data) Error) → let r = element_as (header.said_got a) in said_by r.refused (found_by r) ≡ header.said_got a
element_told (Ok (Some d)) = refl
element_told (Ok None) = refl
element_told (Err e) = refusal_told e absent

pub ids_told : (a : Result ℕ Error) (l : List ℕ) →
    let r = ids_as (record { answer = said a; ids = l }) in said_by r.refused r.count ≡ said a
ids_told (Ok n) l = refl
ids_told (Err e) l = refusal_told e 0

pub packet_read_told : (a : Result whole.Payload Error) (h : Header) →
    let r = packet_read_as (record { answer = packet.said_read a; header = h }) in
    said_by r.refused (record { place = r.at; len = r.len }) ≡ packet.said_read a
packet_read_told (Ok p) h = refl
packet_read_told (Err e) h = refusal_told e (record { place = 0; len = 0 })

-- in parts: whoever sees another number than 17 and 19 has heard all
pub bytes_told : (a : Result ℕ Error) →
    let r = bytes_as (said a) in carries r.number ≡ 0 → said_with r.number r.bytes ≡ said a
bytes_told (Ok n) c = refl
bytes_told (Err e) c = number_told e 0 c

pub header_front_told : (a : Result ℕ Error) (f : Front) →
    let r = header_front_as (record { answer = said a; front = f }) in
    carries r.number ≡ 0 → said_with r.number r.at ≡ said a
header_front_told (Ok at) f c = refl
header_front_told (Err e) f c = number_told e 0 c

pub packet_front_told : (a : Result whole.Payload Error) (f : Front) →
    let r = packet_front_as (record { answer = packet.said_read a; front = f }) in
    carries r.number ≡ 0 → said_with r.number (record { place = r.at; len = r.len }) ≡ packet.said_read a
packet_front_told (Ok p) f c = refl
packet_front_told (Err e) f c = number_told e (record { place = 0; len = 0 }) c

-- with the sets in the record or in lent buffers
counted_told : (a : Result Written Error) →
    let c = counted_as (said a) in
    said_by c.refused (counts_by c.packets c.bytes c.units_dropped c.pairs_dropped) ≡ said a
counted_told (Ok w) = refl
counted_told (Err e) = refusal_told e (counts_by 0 0 0 0)

pub h264_sent_told : (a : Result Written Error) (s : H264Payloader) →
    let r = h264_sent_as (h264.left_with s a [] []) in
    said_by r.refused (counts_by r.packets r.bytes r.units_dropped r.pairs_dropped) ≡ said a
h264_sent_told a s = counted_told a

pub h264_lent_sent_told : (a : Result Written Error) (l : h264.Lent) →
    let r = h264_lent_sent_as (h264.left_with l a [] []) in
    said_by r.refused (counts_by r.packets r.bytes r.units_dropped r.pairs_dropped) ≡ said a
h264_lent_sent_told a l = counted_told a

pub h264_read_told : (a : Result ℕ Error) (s : Showing) (k : H264Packet) (p g : ℕ) →
    let r = h264_read_as (record { packet = k; answer = said a; showing = s; gather = []; out = [] }) p g in
    said_by r.refused r.bytes ≡ said a
h264_read_told (Ok n) s k p g = refl
h264_read_told (Err e) s k p g = refusal_told e 0

pub vp8_sent_told : (a : Result Vp8Sent Error) (v : Vp8Payloader) →
    let r = vp8_sent_as (record { payloader = v; said = said a; out = []; ends = [] }) in
    said_by r.refused (record { packets = r.packets; bytes = r.bytes }) ≡ said a
vp8_sent_told (Ok s) v = refl
vp8_sent_told (Err e) v = refusal_told e (record { packets = 0; bytes = 0 })

pub vp8_read_told : (a : Result ℕ Error) (k : Vp8Packet) →
    let r = vp8_read_as (record { packet = k; said = said a }) in said_by r.refused r.at ≡ said a
vp8_read_told (Ok at) k = refl
vp8_read_told (Err e) k = refusal_told e 0

pub h264_head_told : (a : Result Bool Error) → let r = test_as (said a) in said_by r.refused r.holds ≡ said a
h264_head_told (Ok b) = refl
h264_head_told (Err e) = refusal_told e false

pub vp8_head_told : (a : Result Bool Error) → let r = test_as (said a) in said_by r.refused r.holds ≡ said a
vp8_head_told (Ok b) = refl
vp8_head_told (Err e) = refusal_told e false

pub joined_told : (a : Result Joined Error) → let r = joined_as (said_joined a) in said_by r.refused (answer_by r) ≡ said_joined a
joined_told (Ok (joined.Accepted first count bytes)) = refl
joined_told (Ok joined.Late) = refl
joined_told (Err e) = refusal_told e (accepted (record { first = 0; count = 0; bytes = 0 }))

-- closing hands out no bytes
pub closed_told : (a : Result Closed Error) (j : Joiner) →
    let r = closed_as (record { joiner = j; answer = said_closed a }) in
    said_by r.refused (record { first = r.first; count = r.count; bytes = 0 }) ≡ said_closed a
closed_told (Ok c) j = refl
closed_told (Err e) j = refusal_told e (record { first = 0; count = 0; bytes = 0 })

-- ---- the body

in_front : (len : ℕ) (payload gather : List ℕ) → Dec (len ≤ length gather) →
    body_by (body_as (in_gather len) (length payload) (length gather)) payload gather ≡ body_of (in_gather len) payload gather
unfolding body_of
in_front len payload gather (yes within) = rw (le-ltb (length gather) len within, le-leb len (length gather) within)
in_front len payload gather (no over) = rw (lt-ltb (length gather) len (omega arith), lt-leb len (length gather) (omega arith))

in_rest : (payload gather : List ℕ) → (length payload ≡ 0 → ⊥) →
    body_by (body_as in_packet (length payload) (length gather)) payload gather ≡ drop 1 payload
in_rest payload gather some =
    rw (ne_eqb (length payload) 0 some) (take_all (length payload - 1) (drop 1 payload) (rw (length-drop 1 payload) (omega arith)))

-- "The body is all after the unit's first byte": the place in the record is where `h264_packet::body` shows it
pub body_told : (s : Showing) (payload gather : List ℕ) →
    body_by (body_as s (length payload) (length gather)) payload gather ≡ body_of s payload gather
unfolding body_of
body_told nowhere payload gather = refl
body_told in_packet [] gather = refl
body_told in_packet (b ∷ payload) gather = in_rest (b ∷ payload) gather (λ e. omega arith)
body_told (in_gather len) payload gather = in_front len payload gather (dec_le len (length gather))
