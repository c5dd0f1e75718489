-- The calls write: where the header's call writes, the packet's does, and what `marshal_to` left in front of the buffer is what was written; so what is
-- shown of the octets is shown of the calls. Assumes nothing.
use Rattle.std.specs.Prelude.{Result, Ok}
use mathlib.Core.Path.{◌≡◌, sym, ap, ◌∙◌}
use mathlib.Core.Bool.{true}
use mathlib.Core.List.{List, []}
use Prim.Native.Nat.{ℕ, ◌+◌, ◌≤◌}
use native.Mathlib.Omega.{arith}
use lib.ListN.{length, take}
use borrow.Author.Tests.{le-leb}
use Rattle.error.specs.declared.Error.{Error}
use Rattle.error.specs.Refusal.{Refusal}
use Rattle.error.specs.Said.{Said, says, refused}
use Rattle.wire.specs.Part.{splice}
use Rattle.wire.proofs.Part.{length_part}
use Rattle.header.specs.declared.Header.{Header}
use Rattle.header.specs.Fields.{Fields, fields_of, lay_out}
use Rattle.header.specs.Read.{read_header}
use Rattle.header.specs.Write.{octets_of, in_writing_domain, write_header}
use Rattle.header.specs.Said.{heard_written, written}
use Rattle.header.proofs.Sizes.{never}
use Rattle.rfc3550.specs.Rfc3550.{Octets}
use Rattle.rfc3550.specs.Packet.{Packet, LawfulPacket, packet_octets}
use Rattle.header_rfc.specs.Says.{elements_said, fields_said, Within, Plain, AppBits}
use Rattle.header_rfc.specs.RoundTrip.{AsTyped, ReadsBack, Trailing}
use Rattle.header_rfc.proofs.Ranges.{only_in_range}
use Rattle.header_rfc.proofs.Sound.{fits_accepted}
use Rattle.header_rfc.proofs.Yields.{YieldedAs, as_yielded}
use Rattle.header_rfc.proofs.Writers as header
use Rattle.packet.specs.Read.{PacketReading, read_packet}
use Rattle.packet.specs.Write.{packet_size, write_packet}
use Rattle.packet.specs.Write as paper
use Rattle.packet.specs.Said.{reading_heard}
use Rattle.packet.proofs.Reading.{payload_inside}
use Rattle.packet.proofs.Writing.{header_fits, header_says}
use Rattle.packet_rfc.specs.Says.{header_of, payload_in}
use Rattle.packet_rfc.specs.RoundTrip.{FillingEnd, Writes, WrittenAs, WrittenAndRead, CodeWrittenAndRead, ReadsAgain}
use Rattle.packet_rfc.proofs.Behind.{accepted}
use Rattle.packet_rfc.proofs.RoundTrip.{writer, back, written_again}

-- ---- the call writes

module _ (h : Header) (payload : List ℕ) (room : ℕ) (short : length payload ≤ 65535) (fits : packet_size (fields_of h) payload ≤ room)
    (d : in_writing_domain h ≡ true) where
  -- where the header's call does
  as_header : write_header h room ≡ says (octets_of (fields_of h)) → write_packet h payload room ≡ says (paper.packet_octets (fields_of h) payload)
  as_header e = (header_says h payload room d (le-leb (length payload) 65535 short) fits (octets_of (fields_of h)) e).1

pub writes : Writes write_packet
writes h payload d r short room fits =
    as_header h payload room short fits d (header.writes h d r room (header_fits h payload room d (le-leb (length payload) 65535 short) fits))

pub written_as : (h : Header) (payload : List ℕ) → AsTyped h → in_writing_domain h ≡ true → ReadsBack (fields_of h) →
    (AppBits (fields_of h).profile → ⊥) → length payload ≤ 65535 → (room : ℕ) → packet_size (fields_of h) payload ≤ room →
    WrittenAs (fields_of h) payload (write_packet h payload room)
written_as h payload t d r bits short room fits =
    writer (fields_of h) payload (only_in_range h t d) r bits (write_packet h payload room) (writes h payload d r short room fits)

-- "A whole packet reads back so too"
pub round_trip : (h : Header) (payload : List ℕ) → AsTyped h → in_writing_domain h ≡ true → ReadsBack (fields_of h) → length payload ≤ 65535 →
    (room : ℕ) → packet_size (fields_of h) payload ≤ room → WrittenAndRead (fields_of h) payload (write_packet h payload room)
round_trip h payload t d r short room fits =
    back (fields_of h) payload (only_in_range h t d) (header.kept_taken (fields_of h) r) (write_packet h payload room) (writes h payload d r short room fits)

-- ---- a record that was read

lay_out_written : (f : Fields) (payload : List ℕ) → YieldedAs f → length payload ≤ 65535 → (room : ℕ) → packet_size f payload ≤ room →
    write_packet (lay_out f) payload room ≡ says (paper.packet_octets f payload)
lay_out_written f payload y short room fits =
    let same : fields_of (lay_out f) ≡ f = header.fields_of_lay_out f in
    let allowed : in_writing_domain (lay_out f) ≡ true = header.lay_out_in_domain f y in
    let room_too : packet_size (fields_of (lay_out f)) payload ≤ room = rw same fits in
    as_header (lay_out f) payload room short room_too allowed
    (header.lay_out_written f y room (rw same at (header_fits (lay_out f) payload room allowed (le-leb (length payload) 65535 short) room_too))
    ∙ ap (λ (g : Fields). says (octets_of g)) (sym same))
    ∙ ap (λ (g : Fields). says (paper.packet_octets g payload)) same

pub reads_again : (s : List ℕ) → Octets s → (r : PacketReading) → read_packet s ≡ says r → (room : ℕ) → packet_size r.fields (payload_in s r) ≤ room →
    ReadsAgain s r room
reads_again s o r e room fits =
    let read : read_header s ≡ says (header_of r) = (accepted s r o e).header in
    let y : YieldedAs r.fields = as_yielded s o (header_of r) read in
    let inside : r.payload.place + r.payload.len ≤ length s = payload_inside s r e in
    let long : length (payload_in s r) ≡ r.payload.len = length_part s r.payload.place r.payload.len inside in
    record {
      back = back r.fields (payload_in s r) y.range y.way (write_packet (lay_out r.fields) (payload_in s r) room)
          (lay_out_written r.fields (payload_in s r) y (omega (arith, fits_accepted s (header_of r) read)) room fits);
      len = long;
    }

-- a packet whose header and padding are laid out as the writer lays them out is written as the octets that were read
pub same_octets : (p : Packet) → LawfulPacket p → Plain p.header.content → Trailing p.header.content → FillingEnd (length p.payload) p.padding →
    Within (elements_said p.header.content) → length p.payload ≤ 65535 → (room : ℕ) → packet_size (fields_said p.header) p.payload ≤ room →
    write_packet (lay_out (fields_said p.header)) p.payload room ≡ says (packet_octets p)
same_octets p l plain t fill w short room fits =
    lay_out_written (fields_said p.header) p.payload (header.plan_yielded p.header l.header plain w) short room fits
    ∙ ap says (written_again p l plain t fill)

-- ---- the code

pub code_writes : (h : Header) (payload buf exit : List ℕ) (a : Result ℕ Error) → heard_written a exit ≡ written buf (write_packet h payload (length buf)) →
    in_writing_domain h ≡ true → ReadsBack (fields_of h) → length payload ≤ 65535 → packet_size (fields_of h) payload ≤ length buf →
    (a ≡ Ok (length (paper.packet_octets (fields_of h) payload))) × (exit ≡ splice buf 0 (paper.packet_octets (fields_of h) payload))
code_writes h payload buf exit a contract d r short fits =
    header.left_by a buf exit (paper.packet_octets (fields_of h) payload) (contract ∙ ap (written buf) (writes h payload d r short (length buf) fits))

pub code_round_trip : (h : Header) → AsTyped h → (payload buf exit : List ℕ) (a : Result ℕ Error) →
    heard_written a exit ≡ written buf (write_packet h payload (length buf)) → in_writing_domain h ≡ true → ReadsBack (fields_of h) →
    length payload ≤ 65535 → packet_size (fields_of h) payload ≤ length buf → CodeWrittenAndRead h payload exit a
code_round_trip h t payload buf exit a contract d r short fits =
    let whole : WrittenAndRead (fields_of h) payload (write_packet h payload (length buf)) = round_trip h payload t d r short (length buf) fits in
    let octets : List ℕ = whole.octets in
    let left : (a ≡ Ok (length octets)) × (exit ≡ splice buf 0 octets) = header.left_by a buf exit octets (contract ∙ ap (written buf) whole.written) in
    let front : take (length octets) exit ≡ octets = header.front_left buf exit octets left.1 in
    record {
      count = length octets;
      answer = left.0;
      back = λ few u read. read ∙ ap (λ (s : List ℕ). reading_heard (read_packet s)) front ∙ ap reading_heard (whole.back few);
    }

-- ---- writers that are shut out

-- a writer that refuses every record with extensions
pub no_refusing_writer : (write : Header → List ℕ → ℕ → Said (List ℕ)) (why : Header → List ℕ → ℕ → Refusal) →
    ((h : Header) (payload : List ℕ) (room : ℕ) → h.extension ≡ true → write h payload room ≡ refused (why h payload room)) → Writes write → ⊥
no_refusing_writer write why refuses w =
    let x : header.WithExtension = header.one_element in
    let room : ℕ = packet_size (fields_of x.header) [] in
    never (sym (w x.header [] x.domain x.kept (omega arith) room (omega arith)) ∙ refuses x.header [] room x.on)
