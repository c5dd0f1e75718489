-- The round trip of a whole packet: "A whole packet reads back so too, where at most 65,535 bytes were written." Assumes nothing.
use Rattle.std.specs.Prelude.{◌≡◌, true, List, ℕ, ◌+◌, ◌%◌, ◌≤◌, length, take, replicate, Result, Ok}
use Rattle.std.proofs.Math.Option.{Option, none, some}
use Rattle.error.specs.declared.Error.{Error}
use Rattle.error.specs.Said.{Said, says}
use Rattle.header.specs.declared.Header.{Header}
use Rattle.header.specs.Fields.{Fields, fields_of, lay_out}
use Rattle.header.specs.Write.{octets_of, in_writing_domain}
use Rattle.rfc3550.specs.Packet.{Padding, count_in, LawfulPadding, padding_octets, Packet, LawfulPacket, packet_octets}
use Rattle.header_rfc.specs.Says.{fields_said, Fits}
use Rattle.header_rfc.specs.RoundTrip.{ReadsBack, read_back}
use Rattle.packet.specs.declared.Unmarshalled.{Unmarshalled}
use Rattle.packet.specs.Read.{PacketReading, read_packet}
use Rattle.packet.specs.Write as written
use Rattle.packet.specs.Said.{heard, reading_heard}
use Rattle.packet_rfc.specs.Says.{payload_in}

-- ---- what the writer chooses

-- "zeros and a count up to a multiple of 4 of the payload", behind a payload of n bytes
pub record Filling (n : ℕ) (p : Padding) : Type 0 where
  pub zeros : p.before ≡ replicate (length p.before) 0
  pub most : count_in p ≤ 4
  pub multiple : (n + count_in p) % 4 ≡ 0

-- s is lawful padding of that kind; "an aligned payload gets 4"
pub record Chosen (n : ℕ) (s : List ℕ) : Type 0 where
  pub padding : Padding
  pub lawful : LawfulPadding padding
  pub same : s ≡ padding_octets padding
  pub filling : Filling n padding
  pub aligned : n % 4 ≡ 0 → count_in padding ≡ 4

-- an end as the writer makes one
abbrev pub FillingEnd : ℕ → Option Padding → Type 0
FillingEnd n none = Unit
FillingEnd n (some p) = Filling n p

-- ---- what is asked of a writer

-- the fields as the header's round trip has them, the payload "directly behind the header's last byte"
abbrev pub packet_back : Fields → List ℕ → PacketReading
packet_back f payload = record { fields = read_back f; payload = record { place = length (octets_of f); len = length payload } }

-- every record in the writing domain that meets the conditions of the round trip is written with any payload of the domain, wherever there is room for
-- both and the padding
abbrev pub Writes : (Header → List ℕ → ℕ → Said (List ℕ)) → Type 0
Writes write =
    (h : Header) (payload : List ℕ) → in_writing_domain h ≡ true → ReadsBack (fields_of h) → length payload ≤ 65535 → (room : ℕ) →
    written.packet_size (fields_of h) payload ≤ room → write h payload room ≡ says (written.packet_octets (fields_of h) payload)

-- the answer is that the octets of a lawful packet were written, which says what reads back of f, and has that payload
pub record WrittenAs (f : Fields) (payload : List ℕ) (answer : Said (List ℕ)) : Type 0 where
  pub plan : Packet
  pub lawful : LawfulPacket plan
  pub same : answer ≡ says (packet_octets plan)
  pub said : fields_said plan.header ≡ read_back f
  pub payload_said : plan.payload ≡ payload

-- the answer is that octets were written; where they are "at most 65,535 bytes" they read back as f and the payload do, and the bytes at the payload's
-- place are the payload
pub record WrittenAndRead (f : Fields) (payload : List ℕ) (answer : Said (List ℕ)) : Type 0 where
  pub octets : List ℕ
  pub written : answer ≡ says octets
  pub back : Fits octets → read_packet octets ≡ says (packet_back f payload)
  pub bytes : payload_in octets (packet_back f payload) ≡ payload

-- the code's two calls: `marshal_to` of h and a payload answered a and left exit, and whatever `unmarshal` answers of what was written is what reads back
pub record CodeWrittenAndRead (h : Header) (payload exit : List ℕ) (a : Result ℕ Error) : Type 0 where
  pub count : ℕ
  pub answer : a ≡ Ok count
  pub back : count ≤ 65535 → (u : Unmarshalled) → heard u ≡ reading_heard (read_packet (take count exit)) →
      heard u ≡ record { answer = says (packet_back (fields_of h) payload).payload; header = lay_out (read_back (fields_of h)) }

-- ---- the other way round

-- what was read from s is written again with its own payload, which is as long as it was, and reads back
pub record ReadsAgain (s : List ℕ) (r : PacketReading) (room : ℕ) : Type 0 where
  pub back : WrittenAndRead r.fields (payload_in s r) (written.write_packet (lay_out r.fields) (payload_in s r) room)
  pub len : length (payload_in s r) ≡ r.payload.len
