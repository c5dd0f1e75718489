-- Reading a packet: "The packet reader takes the header's answer apart first. With the padding bit, the last byte n strips n
-- bytes; n = 0 strips nothing; an empty payload or n too large is 4." Assumes nothing.
use Rattle.std.specs.Prelude.{cond, List, ℕ, ◌-◌, ltb, eqb, length, get_or}
use Rattle.error.specs.Said.{Said, says, refused, refuse}
use Rattle.header.specs.Fields.{Fields}
use Rattle.header.specs.Read.{Reading, read_header}

-- the payload: `len` bytes of the packet from `place` on
pub record Payload : Type 0 where
  pub place : ℕ
  pub len : ℕ

-- the payload from `at` on, without its padding
unfoldable pub stripped : List ℕ → ℕ → Said Payload
stripped s at =
    cond (eqb (length s - at) 0) (refuse 4)
    (cond (ltb (length s - at) (get_or s (length s - 1) 0)) (refuse 4)
    (says (record { place = at; len = length s - at - get_or s (length s - 1) 0 })))

-- with and without the padding bit
abbrev pub payload_at : List ℕ → Reading → Said Payload
payload_at s r =
    cond r.fields.padding (stripped s r.place) (says (record { place = r.place; len = length s - r.place }))

pub record PacketReading : Type 0 where
  pub fields : Fields
  pub payload : Payload

abbrev pub with_fields : Fields → Said Payload → Said PacketReading
with_fields f (says p) = says (record { fields = f; payload = p })
with_fields f (refused r) = refused r

abbrev pub behind : List ℕ → Said Reading → Said PacketReading
behind s (says r) = with_fields r.fields (payload_at s r)
behind s (refused r) = refused r

-- "The packet reader takes the header's answer apart first."
unfoldable pub read_packet : List ℕ → Said PacketReading
read_packet s = behind s (read_header s)
