-- The header's reader and writer against RFC 3550 and RFC 8285: the theorems, each cited from the file that proves it.
--
-- The words. A plan is what a header says: the fields of RFC 3550 5.1, and for an extension its items, each an element or an octet of padding
-- (RFC 8285), or the words of another profile. `octets p` are the plan's octets; they are defined in crate `rfc3550` from the RFCs alone. A plan is
-- `Lawful` where each field is in the RFCs' range. `read_header s` is the paper's reading of the bytes s, and `write_header h room` its answer for the
-- record h and a buffer of `room` bytes, the octets written or a refusal: the code of crate `header` is proved equal to both. `octets_of f` are the
-- octets that the paper has for the fields f. `reading_said p` is what the plan says, in the header's own fields, with the payload's place behind the
-- header; `refuse n` is the paper's refusal n.
--
-- The paper's limits are `Fits` (65,535 bytes) and `Within` (32 elements, 1,024 data bytes). The crate's deviations are told in `Deviations`,
-- `Rewritten` and `Yields`, one theorem for each row of docs/DIFFERENCES.md; the one that COMPLETE has to leave out is `Plain`: of the two-byte
-- form's profiles 0x1000 to 0x100F only 0x1000 is read as such.
use Rattle.std.specs.Prelude.{Result, Ok}
use mathlib.Core.Path.{◌≡◌, ap, ◌∙◌}
use mathlib.Core.Bool.{true, false}
use mathlib.Core.List.{List, ◌++◌}
use mathlib.Core.Logic.{◌⊎◌}
use Prim.Native.Nat.{ℕ, ◌+◌, ◌%◌, ◌≤◌}
use lib.ListN.{length, drop}
use Rattle.error.specs.declared.Error.{Error}
use Rattle.error.specs.Refusal.{Refusal}
use Rattle.error.specs.Said.{Said, says, refused, refuse}
use Rattle.wire.specs.Part.{splice}
use Rattle.elements.specs.Elements.{data_of}
use Rattle.block.specs.Form.{form_of, length_for, first_profile}
use Rattle.block.specs.declared.Form.TheVariants as forms
use Rattle.header.specs.declared.Header.{Header}
use Rattle.header.specs.declared.Unmarshalled.{Unmarshalled}
use Rattle.header.specs.Fields.{Fields, fields_of, lay_out, in_domain}
use Rattle.header.specs.Read.{Reading, read_header}
use Rattle.header.specs.Size.{header_size}
use Rattle.header.specs.Write.{octets_of, in_writing_domain, write_header}
use Rattle.header.specs.Extension.{set_extension, del_extension}
use Rattle.header.specs.Said.{heard, reading_heard, heard_written, written}
use Rattle.rfc3550.specs.Rfc3550.{Octets, Extension, LawfulExtension, Begins, IsRtp, CutShort}
use Rattle.rfc3550.specs.Rfc3550 as rtp
use Rattle.rfc3550.specs.Rfc8285.{Plan, Lawful, octets, Conforms, Strays}
use Rattle.rfc3550.proofs.Parse as parse
use Rattle.rfc3550.proofs.Blocks as blocks
use Rattle.header_rfc.specs.Says.{elements_said, fields_said, Within, Plain, AppBits, Fits, Complete, Conforming}
use Rattle.header_rfc.specs.Taken.{TakenIn, Course, elements_in, answer_in, payload_in, Follows, PastPacket, OverLimits}
use Rattle.header_rfc.specs.Accepted.{Strayed, Unformed, Deviating, Told, Sound, CodeTold}
use Rattle.header_rfc.specs.RoundTrip.{InRange, AsTyped, ReadsBack, WrittenAs, Writes, WrittenAndRead, CodeWrittenAndRead, Trailing, beyond}
use Rattle.header_rfc.proofs.Complete as complete
use Rattle.header_rfc.proofs.Readers as readers
use Rattle.header_rfc.proofs.Courses as courses
use Rattle.header_rfc.proofs.OneCourse as one_course
use Rattle.header_rfc.proofs.Follows as follows
use Rattle.header_rfc.proofs.Sound as sound
use Rattle.header_rfc.proofs.Refusals as refusals
use Rattle.header_rfc.proofs.Ranges as ranges
use Rattle.header_rfc.proofs.Writers as writers
use Rattle.header_rfc.proofs.Padding as padding

-- ---- reading

-- COMPLETE. Every well-formed header within the limits is read as exactly what its plan says: fields, elements, count of padding and payload place,
-- wherever its padding stands. Over 32 elements or 1,024 data bytes it is 7.
pub COMPLETE : Complete read_header
COMPLETE = complete.complete

-- The same of the code: whatever `unmarshal` answers under its contract
pub CODE_COMPLETE : (u : Unmarshalled) (p : Plan) (payload : List ℕ) → heard u ≡ reading_heard (read_header (octets p ++ payload)) →
    Lawful p → Plain p.content → Fits (octets p ++ payload) → Within (elements_said p.content) →
    heard u ≡ record { answer = says (length (octets p)); header = lay_out (fields_said p) }
CODE_COMPLETE u p payload contract l plain fits w = contract ∙ ap reading_heard (COMPLETE.within p payload l plain fits w)

-- COMPLETE shuts out "a reader that refuses all" ..
pub NO_REFUSER : (why : List ℕ → Refusal) → Complete (λ (s : List ℕ). refused (why s)) → ⊥
NO_REFUSER = readers.no_refuser

-- .. and "one fixed record for every packet"
pub NO_FIXED_RECORD : (f : Fields) (read : List ℕ → Said Reading) → ((s : List ℕ) (r : Reading) → read s ≡ says r → r.fields ≡ f) → Complete read → ⊥
NO_FIXED_RECORD = readers.no_fixed_record

-- COURSE. Every list of octets is cut short, or goes one of four ways: a header without an extension; items that the reader takes, which are the RFC's
-- lawful ones and ids 0 with a length, up to the block's end, a reserved id 15, an element that leaves the block for the payload, or an id alone at the
-- block's end; such items before an element that the packet does not hold; or words of another profile ..
pub COURSE : (s : List ℕ) → Octets s → Course s ⊎ CutShort s
COURSE = courses.every_course

-- .. never both ..
pub COURSE_NOT_CUT : (s : List ℕ) → Course s → CutShort s → ⊥
COURSE_NOT_CUT = one_course.course_not_cut

-- .. and one way alone: two of them say the same elements, the same answer and the same payload.
pub ONE_COURSE : {s : List ℕ} (c d : Course s) → (elements_in c ≡ elements_in d) × (answer_in c ≡ answer_in d) × (payload_in c ≡ payload_in d)
ONE_COURSE = one_course.one_course

-- Where items are taken, the octets tell them, and how the block goes on behind them.
pub ONE_TAKEN : {s : List ℕ} (x y : TakenIn s) → (x.taken ≡ y.taken) × (x.after ≡ y.after)
ONE_TAKEN = one_course.one_taken_way

-- FOLLOWS. The reader answers what that way says: fields, elements, count of padding and the payload's place, or 3; and 7 where the elements pass the limits ..
pub FOLLOWS : Follows read_header
FOLLOWS = follows.follows

-- .. the octets from that place on are the payload that the way says ..
pub PAYLOAD : (s : List ℕ) (c : Course s) (r : Reading) → answer_in c ≡ says r → drop r.place s ≡ payload_in c
PAYLOAD = follows.payload_told

-- .. whoever follows answers as ours, wherever the octets are not cut short ..
pub ONE_READER : (read : List ℕ → Said Reading) → Follows read → (s : List ℕ) → Octets s → Fits s → (CutShort s → ⊥) → read s ≡ read_header s
ONE_READER = readers.one_reader

-- .. and "A reader that skips to the block's end at id 15" does not, nor any other whose payload always begins where RFC 3550 has it.
pub NO_SKIPPER : (read : List ℕ → Said Reading) → ((s : List ℕ) (b : Begins s) (r : Reading) → read s ≡ says r → r.place ≡ length (rtp.octets b.plan)) →
    Follows read → ⊥
NO_SKIPPER = readers.no_skipper

-- SOUND. Whatever is accepted, of whatever version, is a well-formed header and says what its plan says; or it is a header of RFC 3550 whose extension
-- strays from RFC 8285, with the place and the reason, and says what the items that are taken and the block's way on from them say; or its profile is
-- 0x1001 to 0x100F, and it says one element of id 0, the whole block ..
pub SOUND : Sound read_header
SOUND = sound.sound

-- .. and so is whatever `unmarshal` accepts under its contract ..
pub CODE_SOUND : (u : Unmarshalled) (s : List ℕ) → Octets s → heard u ≡ reading_heard (read_header s) → (place : ℕ) → u.read ≡ Ok place → CodeTold s u place
CODE_SOUND = sound.code_sound

-- .. one of the three alone ..
pub WELL_FORMED_ALONE : (s : List ℕ) (r t : Reading) → Conforming s r → Deviating s t → ⊥
WELL_FORMED_ALONE = sound.well_formed_alone

pub STRAYED_ALONE : (s : List ℕ) (r t : Reading) → Strayed s r → Unformed s t → ⊥
STRAYED_ALONE = sound.strayed_alone

-- .. what is told so is determined by the octets alone ..
pub TOLD_ONCE : (s : List ℕ) (r t : Reading) → Told s r → Told s t → r ≡ t
TOLD_ONCE = sound.told_once

-- .. and it is what is read, within the limits ..
pub EXACT : (s : List ℕ) (r : Reading) → Fits s → Within r.fields.elements → Told s r → read_header s ≡ says r
EXACT = sound.exact

-- .. where whatever is read stands.
pub LIMITS : (s : List ℕ) (r : Reading) → Octets s → read_header s ≡ says r → Fits s × Within r.fields.elements
LIMITS = sound.limits

-- What is accepted begins with a header of RFC 3550 exactly where its version is 2, which the reader leaves to its caller.
pub VERSION_2 : (s : List ℕ) (r : Reading) → Octets s → read_header s ≡ says r → (r.fields.version ≡ 2 → IsRtp s) × (IsRtp s → r.fields.version ≡ 2)
VERSION_2 = sound.of_version_2

-- 1 and 2 are given where the octets end before the header that they begin ..
pub CUT_SHORT : (s : List ℕ) → Fits s → CutShort s → (read_header s ≡ refuse 1) ⊎ (read_header s ≡ refuse 2)
CUT_SHORT = refusals.cut_short

-- .. and nowhere else
pub ONLY_CUT_SHORT : (s : List ℕ) → Octets s → Fits s → (read_header s ≡ refuse 1) ⊎ (read_header s ≡ refuse 2) → CutShort s
ONLY_CUT_SHORT = refusals.only_cut

-- 3 is given where an element begins in the block, the packet does not hold it, and the elements before it are within the limits ..
pub PAST : (s : List ℕ) → Fits s → PastPacket s → read_header s ≡ refuse 3
PAST = refusals.past

-- .. and nowhere else.
pub ONLY_PAST : (s : List ℕ) → Octets s → read_header s ≡ refuse 3 → PastPacket s
ONLY_PAST = refusals.only_past

-- 7 is given where the elements on the octets' way pass 32 or 1,024 data bytes ..
pub OVER : (s : List ℕ) → Fits s → OverLimits s → read_header s ≡ refuse 7
OVER = refusals.over

-- .. and nowhere else.
pub ONLY_OVER : (s : List ℕ) → Octets s → read_header s ≡ refuse 7 → OverLimits s
ONLY_OVER = refusals.only_over

-- ---- the octets alone, without reader and writer

-- UNAMBIGUOUS. Two lawful plans whose octets, each with a payload behind it, are the same octets are the same plan, with the same payload.
pub UNAMBIGUOUS : (p q : Plan) (a b : List ℕ) → Lawful p → Lawful q → octets p ++ a ≡ octets q ++ b → (p ≡ q) × (a ≡ b)
UNAMBIGUOUS = blocks.unambiguous_elements

-- Every list of octets begins with a lawful header of RFC 3550 or is cut short ..
pub BEGINS_OR_CUT : (s : List ℕ) → Octets s → Begins s ⊎ CutShort s
BEGINS_OR_CUT = parse.begins_or_cut

-- .. and never both.
pub BEGINS_NOT_CUT : (s : List ℕ) → Begins s → CutShort s → ⊥
BEGINS_NOT_CUT = parse.begins_not_cut

-- Every extension is laid out as its profile asks or strays, with no third case ..
pub LAID_OR_STRAYS : (x : Extension) → LawfulExtension x → Octets x.content → Conforms x ⊎ Strays x
LAID_OR_STRAYS = blocks.conforms_or_strays

-- .. and never both.
pub NEVER_BOTH : (x : Extension) → Conforms x → Strays x → ⊥
NEVER_BOTH = blocks.not_both

-- ---- writing

-- WRITES. Every record in the writing domain that meets the paper's conditions for the round trip is written, wherever there is room for its size, and
-- as the octets that the paper has for its fields.
pub WRITES : Writes write_header
WRITES = writers.writes

-- WRITES shuts out a writer that refuses every record with extensions.
pub NO_REFUSING_WRITER : (write : Header → ℕ → Said (List ℕ)) (why : Header → ℕ → Refusal) →
    ((h : Header) (room : ℕ) → h.extension ≡ true → write h room ≡ refused (why h room)) → Writes write → ⊥
NO_REFUSING_WRITER = writers.no_refusing_writer

-- Those conditions ask no more of ids and lengths than the writing domain does ..
pub IN_DOMAIN : (h : Header) → in_domain h ≡ true → h.version ≤ 3 → h.payload_type ≤ 127 → ReadsBack (fields_of h) → in_writing_domain h ≡ true
IN_DOMAIN = writers.kept_in_domain

-- .. and in that domain the fields are in the ranges of the paper and of the RFC: the widths are those of the record's own types, which every record has
-- (`typed` of src/lib.rt).
pub IN_RANGE : (h : Header) → AsTyped h → in_writing_domain h ≡ true → InRange (fields_of h)
IN_RANGE = ranges.only_in_range

-- WRITER. What is written so is the octets of a lawful plan, which says the record. (A profile 0x1001 to 0x100F is RFC 8285's two-byte form; the crate
-- writes any words there.)
pub WRITER : (h : Header) → AsTyped h → in_writing_domain h ≡ true → ReadsBack (fields_of h) → (AppBits (fields_of h).profile → ⊥) → (room : ℕ) →
    header_size (fields_of h) ≤ room → WrittenAs (fields_of h) (write_header h room)
WRITER = writers.written_as

-- ROUND TRIP. The call writes, and of what it wrote: "Fields and elements read back equal; extensions_padding reads back as the zeros written."
pub ROUND_TRIP : (h : Header) → AsTyped h → in_writing_domain h ≡ true → ReadsBack (fields_of h) → (room : ℕ) → header_size (fields_of h) ≤ room →
    WrittenAndRead (fields_of h) (write_header h room)
ROUND_TRIP = writers.round_trip

-- The same of the code: under these conditions `marshal_to` answers how many bytes it wrote, whatever the buffer held ..
pub CODE_WRITES : (h : Header) (buf exit : List ℕ) (a : Result ℕ Error) → heard_written a exit ≡ written buf (write_header h (length buf)) →
    in_writing_domain h ≡ true → ReadsBack (fields_of h) → header_size (fields_of h) ≤ length buf →
    (a ≡ Ok (length (octets_of (fields_of h)))) × (exit ≡ splice buf 0 (octets_of (fields_of h)))
CODE_WRITES = writers.code_writes

-- .. and whatever `unmarshal` answers of these bytes, with any payload behind them, is what reads back.
pub CODE_ROUND_TRIP : (h : Header) → AsTyped h → (buf exit : List ℕ) (a : Result ℕ Error) → heard_written a exit ≡ written buf (write_header h (length buf)) →
    in_writing_domain h ≡ true → ReadsBack (fields_of h) → header_size (fields_of h) ≤ length buf → CodeWrittenAndRead h exit a
CODE_ROUND_TRIP = writers.code_round_trip

-- The other way round: the record that was read from any octets is written, and reads back ..
pub READ_WRITE_READ : (s : List ℕ) → Octets s → (r : Reading) → read_header s ≡ says r → (room : ℕ) → header_size r.fields ≤ room →
    WrittenAndRead r.fields (write_header (lay_out r.fields) room)
READ_WRITE_READ = writers.reads_again

-- .. and that of a well-formed header whose padding stands behind its elements, and only fills the last word, is written as the octets that were
-- read.
pub SAME_OCTETS : (p : Plan) → Lawful p → Plain p.content → Trailing p.content → Within (elements_said p.content) → (room : ℕ) →
    header_size (fields_said p) ≤ room → write_header (lay_out (fields_said p)) room ≡ says (octets p)
SAME_OCTETS = writers.same_octets

-- ---- setting and deleting

-- A later set and a delete leave elements and padding together as far from whole words as they were, so that a block of whole words stays one ..
pub SET_KEEPS_WORDS : (h : Header) (id : ℕ) (bytes : List ℕ) (h' : Header) → h.extension ≡ true → set_extension h id bytes ≡ says h' →
    beyond (fields_of h') ≡ beyond (fields_of h)
SET_KEEPS_WORDS = padding.set_keeps

pub DELETE_KEEPS_WORDS : (h : Header) (id : ℕ) (h' : Header) → del_extension h id ≡ says h' → beyond (fields_of h') ≡ beyond (fields_of h)
DELETE_KEEPS_WORDS = padding.delete_keeps

-- .. and so does a first set, with the elements that stood there counted in the profile that it picks: none on an empty header. (Over 255 bytes it keeps
-- the profile and counts no head, so that this is so of other profiles alone.)
pub FIRST_SET_KEEPS_WORDS : (h : Header) (id : ℕ) (bytes : List ℕ) (h' : Header) → h.extension ≡ false →
    (length bytes ≤ 255) ⊎ (form_of h.extension_profile ≡ forms.Other) → set_extension h id bytes ≡ says h' →
    beyond (fields_of h')
    ≡ (length_for (first_profile h.extension_profile (length bytes)) (length (fields_of h).elements) (length (data_of (fields_of h).elements))
    + h.extensions_padding) % 4
FIRST_SET_KEEPS_WORDS = padding.first_set_keeps

-- ---- where the crate leaves the RFCs, each with the theorem that says exactly what it does
--
-- RFC 3550 5.1, a version that is not 2           read as it is: Deviations.version-kept; written: Rewritten.version-written
-- RFC 3550 5.3.1, an element leaves the block     read whole, into the payload: Deviations.leaves-read; past the packet 3: .lacking-past
-- RFC 8285 4.1.2, id 0 with a length              an element of id 0, as often as it comes: Deviations.zero-id-read, and in each of the others
-- RFC 8285 4.1.2, two elements of one id          both kept, in order: Deviations.duplicates-kept
-- RFC 8285 4.2, id 15                             the rest of the block is payload: Deviations.reserved-read
-- RFC 8285 4.3, an id as the block's last octet   length and data from the payload: Deviations.alone-read; past the packet 3: .lacking-past
-- RFC 8285 4.3, application bits not 0            one element of id 0, the whole block: Deviations.appbits-read; over 1,024 bytes 7: .appbits-over
-- each of these over the limits                   7: Deviations.taken-over; before an element past the packet: .lacking-over
-- RFC 8285 4.2, 4.3, ids 15 and 0                 written, as everything in the domain: Writers.form-written
-- RFC 8285 4.2, id 15 written                     what is written from there on is payload: Rewritten.fifteen-written; never read: Yields.fifteen-never
-- RFC 8285 4.2, id 0 written, one byte            as the octets of padding and that byte: Rewritten.zero-octets; never read: Yields.zero-never
-- RFC 8285 4.2, id 0 written, 2 to 16 bytes       reads back as id 0: Rewritten.zero-reads-back
-- RFC 8285 4.3, id 0 written                      as the octets of padding, length, data: Rewritten.two-byte-zero-octets; never read:
--                                                 Yields.two-byte-zero-never
