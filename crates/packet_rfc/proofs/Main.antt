-- The packet's reader and writer against RFC 3550: the theorems, each cited from the file that proves it.
--
-- The words. A packet of RFC 3550 is a plan: a header's plan (RFC 3550 and RFC 8285, as crate `header_rfc` has it), a payload, and padding exactly
-- where the P bit is set. `packet_octets p` are the plan's octets; they are defined in crate `rfc3550` from the RFC alone. A plan is `LawfulPacket`
-- where its header is lawful, P says whether there is padding, and the padding's last octet counts 1 to 255 octets, itself included.
-- `read_packet s` is the paper's reading of the bytes s, and `written.write_packet h payload room` its answer for the record h, a payload and a buffer of
-- `room` bytes, the octets written or a refusal: the code of crate `packet` is proved equal to both. `written.packet_octets f payload` are the octets that
-- the paper has for the fields f and a payload. `reading_said p` is what the plan says, in the reader's own terms: the header's fields, elements and count of
-- padding in the extension, and the payload's place and length; `refuse n` is the paper's refusal n.
--
-- The paper's limits are `Fits` (65,535 bytes) and `Within` (32 elements, 1,024 data bytes). Of the crate's deviations COMPLETE has to leave one out:
-- `Plain`, of the two-byte form's profiles 0x1000 to 0x100F only 0x1000 is read as such.
use Rattle.std.specs.Prelude.{Result, Ok}
use mathlib.Core.Path.{◌≡◌, ap, ◌∙◌}
use mathlib.Core.Bool.{true}
use mathlib.Core.List.{List}
use mathlib.Core.Logic.{◌⊎◌}
use Prim.Native.Nat.{ℕ, ◌+◌, ◌≤◌}
use lib.ListN.{length}
use Rattle.error.specs.declared.Error.{Error}
use Rattle.error.specs.Refusal.{Refusal}
use Rattle.error.specs.Said.{Said, says, refused, refuse}
use Rattle.wire.specs.Part.{splice}
use Rattle.header.specs.declared.Header.{Header}
use Rattle.header.specs.Fields.{Fields, fields_of, lay_out}
use Rattle.header.specs.Write.{in_writing_domain}
use Rattle.header.specs.Read.{read_header}
use Rattle.header.specs.Said as answers
use Rattle.rfc3550.specs.Rfc3550.{Octets}
use Rattle.rfc3550.specs.Packet.{Packet, LawfulPacket, packet_octets, IsRtpPacket, Padded, Uncounted, Short}
use Rattle.rfc3550.proofs.Packets as packets
use Rattle.header_rfc.specs.Says.{elements_said, fields_said, Within, Plain, AppBits, Fits}
use Rattle.header_rfc.specs.RoundTrip.{AsTyped, ReadsBack, Trailing}
use Rattle.packet.specs.declared.Unmarshalled.{Unmarshalled}
use Rattle.packet.specs.Read.{Payload, PacketReading, read_packet}
use Rattle.packet.specs.Write as written
use Rattle.packet.specs.Said.{heard, reading_heard}
use Rattle.packet_rfc.specs.Says.{reading_said, payload_in, Complete, Conforming, ZeroCount, Straying, Told, Sound, CodeTold, CutInPadding}
use Rattle.packet_rfc.specs.RoundTrip.{Chosen, FillingEnd, WrittenAs, Writes, WrittenAndRead, CodeWrittenAndRead, ReadsAgain}
use Rattle.packet_rfc.proofs.Complete as complete
use Rattle.packet_rfc.proofs.Readers as readers
use Rattle.packet_rfc.proofs.Sound as sound
use Rattle.packet_rfc.proofs.Refusals as refusals
use Rattle.packet_rfc.proofs.RoundTrip as round_trip
use Rattle.packet_rfc.proofs.Calls as calls

-- ---- reading

-- COMPLETE. Every well-formed packet within the limits is read as exactly what its plan says: its header's fields, elements and count of padding, and
-- the payload at its place with its length, whatever the octets of padding are. Over 32 elements or 1,024 data bytes it is 7.
pub COMPLETE : Complete read_packet
COMPLETE = complete.complete

-- The bytes at that place are the payload.
pub PAYLOAD : (p : Packet) → payload_in (packet_octets p) (reading_said p) ≡ p.payload
PAYLOAD = complete.payload_bytes

-- The same of the code: whatever `unmarshal` answers under its contract
pub CODE_COMPLETE : (u : Unmarshalled) (p : Packet) → heard u ≡ reading_heard (read_packet (packet_octets p)) →
    LawfulPacket p → Plain p.header.content → Fits (packet_octets p) → Within (elements_said p.header.content) →
    heard u ≡ record { answer = says (reading_said p).payload; header = lay_out (fields_said p.header) }
CODE_COMPLETE u p contract l plain fits w = contract ∙ ap reading_heard (COMPLETE.within p l plain fits w)

-- COMPLETE shuts out "a reader that refuses all" ..
pub NO_REFUSER : (why : List ℕ → Refusal) → Complete (λ (s : List ℕ). refused (why s)) → ⊥
NO_REFUSER = readers.no_refuser

-- .. "one fixed record for every packet" ..
pub NO_FIXED_RECORD : (f : Fields) (read : List ℕ → Said PacketReading) → ((s : List ℕ) (r : PacketReading) → read s ≡ says r → r.fields ≡ f) →
    Complete read → ⊥
NO_FIXED_RECORD = readers.no_fixed_record

-- .. one fixed payload for every packet, by its place and length or by its bytes ..
pub NO_FIXED_PLACE : (p : Payload) (read : List ℕ → Said PacketReading) → ((s : List ℕ) (r : PacketReading) → read s ≡ says r → r.payload ≡ p) →
    Complete read → ⊥
NO_FIXED_PLACE = readers.no_fixed_place

pub NO_FIXED_PAYLOAD : (bytes : List ℕ) (read : List ℕ → Said PacketReading) →
    ((s : List ℕ) (r : PacketReading) → read s ≡ says r → payload_in s r ≡ bytes) → Complete read → ⊥
NO_FIXED_PAYLOAD = readers.no_fixed_payload

-- .. and a payload that always goes to the packet's end.
pub NO_KEEPER : (read : List ℕ → Said PacketReading) →
    ((s : List ℕ) (r : PacketReading) → read s ≡ says r → r.payload.place + r.payload.len ≡ length s) → Complete read → ⊥
NO_KEEPER = readers.no_keeper

-- SOUND. Whatever is accepted, of whatever version, is a well-formed packet and says what its plan says; or it is a lawful header with the P bit before
-- octets of which the last is 0, and all those octets are the payload; or its header leaves RFC 8285, with fields, elements and count of padding as the
-- header's SOUND tells them, and the payload is measured by the same rule in the octets that the header leaves to it ..
pub SOUND : Sound read_packet
SOUND = sound.sound

-- .. and so is whatever `unmarshal` accepts under its contract ..
pub CODE_SOUND : (u : Unmarshalled) (s : List ℕ) → Octets s → heard u ≡ reading_heard (read_packet s) → (place len : ℕ) → u.read ≡ Ok (record { at = place; len = len }) →
    CodeTold s u place len
CODE_SOUND = sound.code_sound

-- .. one of the three alone ..
pub WELL_FORMED_ALONE : (s : List ℕ) (r t : PacketReading) → Conforming s r → ZeroCount s t ⊎ Straying s t → ⊥
WELL_FORMED_ALONE = sound.well_formed_alone

pub ZERO_ALONE : (s : List ℕ) (r t : PacketReading) → ZeroCount s r → Straying s t → ⊥
ZERO_ALONE = sound.zero_alone

-- .. what is told so is determined by the octets alone ..
pub TOLD_ONCE : (s : List ℕ) (r t : PacketReading) → Told s r → Told s t → r ≡ t
TOLD_ONCE = sound.told_once

-- .. and it is what is read, within the limits ..
pub EXACT : (s : List ℕ) (r : PacketReading) → Fits s → Within r.fields.elements → Told s r → read_packet s ≡ says r
EXACT = sound.exact

-- .. where whatever is read stands.
pub LIMITS : (s : List ℕ) (r : PacketReading) → Octets s → read_packet s ≡ says r → Fits s × Within r.fields.elements
LIMITS = sound.limits

-- A well-formed packet is a packet of the RFC exactly where its version is 2, which the reader leaves to its caller.
pub VERSION_2 : (s : List ℕ) (r : PacketReading) → Conforming s r → (r.fields.version ≡ 2 → IsRtpPacket s) × (IsRtpPacket s → r.fields.version ≡ 2)
VERSION_2 = sound.of_version_2

-- 4 is given where a header with the P bit was read, and behind it are no octets, or fewer than the last of them counts ..
pub SHORT : (s : List ℕ) → CutInPadding s → read_packet s ≡ refuse 4
SHORT = refusals.short

-- .. and nowhere else ..
pub ONLY_SHORT : (s : List ℕ) → read_packet s ≡ refuse 4 → CutInPadding s
ONLY_SHORT = refusals.only_short

-- .. so that no packet of the RFC gets it, within the limits or not.
pub NEVER_SHORT : (p : Packet) → LawfulPacket p → read_packet (packet_octets p) ≡ refuse 4 → ⊥
NEVER_SHORT = refusals.never_short

-- Every other number is the header's, so that 1, 2, 3 and 7 are given where the header's theorems say, and nowhere else.
pub HEADER_REFUSED : (s : List ℕ) (w : Refusal) → read_header s ≡ refused w → read_packet s ≡ refused w
HEADER_REFUSED = refusals.header_refused

pub ONLY_HEADER_REFUSED : (s : List ℕ) (n : ℕ) → (n ≡ 4 → ⊥) → read_packet s ≡ refuse n → read_header s ≡ refuse n
ONLY_HEADER_REFUSED = refusals.only_header_refused

-- ---- the octets alone, without reader and writer

-- UNAMBIGUOUS. Two lawful packets with the same octets are the same packet: header, payload and padding.
pub UNAMBIGUOUS : (p q : Packet) → LawfulPacket p → LawfulPacket q → packet_octets p ≡ packet_octets q → p ≡ q
UNAMBIGUOUS = packets.unambiguous_packets

-- All octets behind a header with the P bit are a payload with lawful padding behind it, end in a count of 0, or are short ..
pub PADDED_OR_NOT : (s : List ℕ) → Octets s → Padded s ⊎ (Uncounted s ⊎ Short s)
PADDED_OR_NOT = packets.padded_or_not

-- .. and never two of these.
pub PADDED_COUNTED : (s : List ℕ) → Padded s → Uncounted s → ⊥
PADDED_COUNTED = packets.padded_counted

pub PADDED_ROOM : (s : List ℕ) → Padded s → Short s → ⊥
PADDED_ROOM = packets.padded_room

pub UNCOUNTED_ROOM : (s : List ℕ) → Uncounted s → Short s → ⊥
UNCOUNTED_ROOM = packets.uncounted_room

-- ---- writing

-- WRITES. Every record in the writing domain that meets the paper's conditions for the round trip is written with any payload of the domain, wherever there is
-- room for both and the padding, and as the octets that the paper has for them.
pub WRITES : Writes written.write_packet
WRITES = calls.writes

-- WRITES shuts out a writer that refuses every record with extensions.
pub NO_REFUSING_WRITER : (write : Header → List ℕ → ℕ → Said (List ℕ)) (why : Header → List ℕ → ℕ → Refusal) →
    ((h : Header) (payload : List ℕ) (room : ℕ) → h.extension ≡ true → write h payload room ≡ refused (why h payload room)) → Writes write → ⊥
NO_REFUSING_WRITER = calls.no_refusing_writer

-- WRITER. What is written so is the octets of a lawful packet, which says the record and has the payload. (A profile 0x1001 to 0x100F is RFC 8285's
-- two-byte form; the crate writes any words there.)
pub WRITER : (h : Header) (payload : List ℕ) → AsTyped h → in_writing_domain h ≡ true → ReadsBack (fields_of h) → (AppBits (fields_of h).profile → ⊥) →
    length payload ≤ 65535 → (room : ℕ) → written.packet_size (fields_of h) payload ≤ room → WrittenAs (fields_of h) payload (written.write_packet h payload room)
WRITER = calls.written_as

-- What the writer chooses, behind n bytes of payload, is lawful padding: zeros and a count of 1 to 4, up to a multiple of 4; "an aligned payload gets 4".
pub WRITER_PADDING : (n : ℕ) → Chosen n (written.padding_octets (written.padding_length true n))
WRITER_PADDING = round_trip.padding_chosen

-- ROUND TRIP. The call writes, and "A whole packet reads back so too, where at most 65,535 bytes were written": the fields as in the header's round trip,
-- the payload at its place with its length, and the bytes there.
pub ROUND_TRIP : (h : Header) (payload : List ℕ) → AsTyped h → in_writing_domain h ≡ true → ReadsBack (fields_of h) → length payload ≤ 65535 →
    (room : ℕ) → written.packet_size (fields_of h) payload ≤ room → WrittenAndRead (fields_of h) payload (written.write_packet h payload room)
ROUND_TRIP = calls.round_trip

-- The same of the code: under these conditions `marshal_to` answers how many bytes it wrote, whatever the buffer held ..
pub CODE_WRITES : (h : Header) (payload buf exit : List ℕ) (a : Result ℕ Error) →
    answers.heard_written a exit ≡ answers.written buf (written.write_packet h payload (length buf)) →
    in_writing_domain h ≡ true → ReadsBack (fields_of h) → length payload ≤ 65535 → written.packet_size (fields_of h) payload ≤ length buf →
    (a ≡ Ok (length (written.packet_octets (fields_of h) payload))) × (exit ≡ splice buf 0 (written.packet_octets (fields_of h) payload))
CODE_WRITES = calls.code_writes

-- .. and whatever `unmarshal` answers of these bytes is what reads back.
pub CODE_ROUND_TRIP : (h : Header) → AsTyped h → (payload buf exit : List ℕ) (a : Result ℕ Error) →
    answers.heard_written a exit ≡ answers.written buf (written.write_packet h payload (length buf)) →
    in_writing_domain h ≡ true → ReadsBack (fields_of h) → length payload ≤ 65535 → written.packet_size (fields_of h) payload ≤ length buf →
    CodeWrittenAndRead h payload exit a
CODE_ROUND_TRIP = calls.code_round_trip

-- The other way round: the record that was read from any octets, written again with its own padding bit and payload, is written and reads back with the
-- same payload ..
pub READ_WRITE_READ : (s : List ℕ) → Octets s → (r : PacketReading) → read_packet s ≡ says r → (room : ℕ) →
    written.packet_size r.fields (payload_in s r) ≤ room → ReadsAgain s r room
READ_WRITE_READ = calls.reads_again

-- .. and that of a well-formed packet whose header and padding are laid out as the writer lays them out is written as the octets that were read.
pub SAME_OCTETS : (p : Packet) → LawfulPacket p → Plain p.header.content → Trailing p.header.content →
    FillingEnd (length p.payload) p.padding → Within (elements_said p.header.content) → length p.payload ≤ 65535 → (room : ℕ) →
    written.packet_size (fields_said p.header) p.payload ≤ room →
    written.write_packet (lay_out (fields_said p.header)) p.payload room ≡ says (packet_octets p)
SAME_OCTETS = calls.same_octets

-- ---- where the crate leaves the RFC, each with the theorem that says exactly what it does; those of the header stand in header_rfc/proofs/Main.antt
--
-- RFC 3550 5.1, a padding count of 0              nothing is stripped: Deviations.zero-kept; no packet of the RFC: .zero-no-packet
-- RFC 3550 5.1, padding of 1 to 255 octets        read whatever they are: COMPLETE; written 1 to 4, zeros and the count: WRITER-PADDING
-- RFC 3550 A.1, a count that leaves no payload    taken, the payload is empty: Deviations.only-padding; written for an empty payload: .empty-written
-- RFC 3550 5.3.1, a header that strays            the octets that it leaves to the payload are judged by the same rule: EXACT and SHORT; by parts
--                                                 Deviations.stray-plain, .stray-padded, .stray-zero, .stray-short
-- RFC 8285 4.2, id 15, with the P bit             the padding may stand in the rest of the block: Deviations.reserved-padded
-- RFC 8285 4.3, application bits not 0            the payload is that of the packet: Deviations.appbits-packet
