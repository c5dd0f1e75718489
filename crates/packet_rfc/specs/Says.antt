-- What a packet of RFC 3550 says, in the packet reader's own terms, and what it is for a reader of packets to be complete and sound.
-- Assumes nothing.
use Rattle.std.specs.Prelude.{◌≡◌, Bool, true, false, List, [], ◌∷◌, ◌++◌, ◌⊎◌, ℕ, ◌+◌, length, drop}
use Rattle.error.specs.Said.{Said, says, refuse}
use Rattle.wire.specs.Part.{part}
use Rattle.elements.specs.Elements.{Element}
use Rattle.header.specs.Fields.{lay_out}
use Rattle.header.specs.Read.{Reading, read_header}
use Rattle.rfc3550.specs.Rfc3550.{Octets, Fixed}
use Rattle.rfc3550.specs.Rfc8285.{Plan, Lawful, octets}
use Rattle.rfc3550.specs.Packet.{Packet, LawfulPacket, packet_octets, Padded, Uncounted, Short}
use Rattle.header_rfc.specs.Says.{elements_said, fields_said, fields_with, Within, Over, Plain, Fits}
use Rattle.header_rfc.specs.Accepted.{Deviating, payload_left}
use Rattle.packet.specs.declared.Unmarshalled.{Unmarshalled}
use Rattle.packet.specs.Read.{PacketReading, read_packet}

-- ---- what a plan says

-- the header's fields; the payload stands behind the header, and is as long as the plan has it, without the padding
abbrev pub reading_said : Packet → PacketReading
reading_said p =
    record {
      fields = fields_said p.header;
      payload = record { place = length (octets p.header); len = length p.payload };
    }

-- what was read of the header
abbrev pub header_of : PacketReading → Reading
header_of r = record { fields = r.fields; place = r.payload.place }

-- the bytes that were read as payload
abbrev pub payload_in : List ℕ → PacketReading → List ℕ
payload_in s r = part s r.payload.place r.payload.len

-- ---- what is asked of a reader

-- every well-formed packet within the limits is read as what its plan says; over the header's limits it is 7
pub record Complete (read : List ℕ → Said PacketReading) : Type 0 where
  pub within : (p : Packet) → LawfulPacket p → Plain p.header.content → Fits (packet_octets p) → Within (elements_said p.header.content) →
      read (packet_octets p) ≡ says (reading_said p)
  pub over : (p : Packet) → LawfulPacket p → Plain p.header.content → Fits (packet_octets p) → Over (elements_said p.header.content) →
      read (packet_octets p) ≡ refuse 7

-- s is a well-formed packet, whatever its version, its header in a form that is read as such, and r is what it says
pub record Conforming (s : List ℕ) (r : PacketReading) : Type 0 where
  pub plan : Packet
  pub lawful : LawfulPacket plan
  pub plain : Plain plan.header.content
  pub same : packet_octets plan ≡ s
  pub said : r ≡ reading_said plan

-- s is a lawful header with the P bit, and octets of which the last is 0: r has the header's fields, and all those octets as payload
pub record ZeroCount (s : List ℕ) (r : PacketReading) : Type 0 where
  pub plan : Plan
  pub lawful : Lawful plan
  pub plain : Plain plan.content
  pub bit : plan.fixed.padding ≡ true
  pub before : List ℕ
  pub same : octets plan ++ (before ++ (0 ∷ [])) ≡ s
  pub said : r ≡ record { fields = fields_said plan; payload = record { place = length (octets plan); len = length before + 1 } }

-- what becomes of the octets behind what was read of the header: `len` of them are payload
pub data Measured (padding : Bool) (rest : List ℕ) (len : ℕ) : Type 0 where
  -- without the P bit all
  all : padding ≡ false → len ≡ length rest → Measured padding rest len
  -- with it those before the padding ..
  without_padding : padding ≡ true → (p : Padded rest) → len ≡ length p.payload → Measured padding rest len
  -- .. or all, where the count is 0
  uncounted : padding ≡ true → Uncounted rest → len ≡ length rest → Measured padding rest len

-- the header leaves RFC 8285, and r's fields are those that are told of it; the payload is measured in the octets that it leaves to it
pub record Straying (s : List ℕ) (r : PacketReading) : Type 0 where
  pub header : Deviating s (header_of r)
  pub payload : Measured r.fields.padding (payload_left header) r.payload.len

-- a well-formed packet that says r, one with a padding count of 0, or one whose header leaves RFC 8285
abbrev pub Told : List ℕ → PacketReading → Type 0
Told s r = Conforming s r ⊎ (ZeroCount s r ⊎ Straying s r)

-- whatever is accepted is told so
abbrev pub Sound : (List ℕ → Said PacketReading) → Type 0
Sound read = (s : List ℕ) (r : PacketReading) → Octets s → read s ≡ says r → Told s r

-- the code accepted s, with `len` bytes of payload at `place`, and its record is laid out from what is told
pub record CodeTold (s : List ℕ) (u : Unmarshalled) (place len : ℕ) : Type 0 where
  pub reading : PacketReading
  pub told : Told s reading
  pub payload : reading.payload ≡ record { place = place; len = len }
  pub header : u.header ≡ lay_out reading.fields

-- ---- 4

-- the header was read, with the P bit, and behind it are no octets, or fewer than the last of them counts
pub record CutInPadding (s : List ℕ) : Type 0 where
  pub reading : Reading
  pub read : read_header s ≡ says reading
  pub bit : reading.fields.padding ≡ true
  pub short : Short (drop reading.place s)

-- ---- headers that stray

-- s is read with these fields, and its payload is `payload`
pub record PacketReadAs (s : List ℕ) (f : Fixed) (profile : ℕ) (es : List Element) (pads : ℕ) (payload : List ℕ) : Type 0 where
  pub place : ℕ
  pub read : read_packet s
      ≡ says (record { fields = fields_with f true profile es pads; payload = record { place = place; len = length payload } })
  pub bytes : part s place (length payload) ≡ payload
