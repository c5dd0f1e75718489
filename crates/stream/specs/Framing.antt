-- Packets in a file by RFC 4571, section 2: each behind its length in 16 bits, in network order. Assumes nothing.
use Rattle.std.specs.Prelude.{ℕ, zero, suc, ◌+◌, cond, List, [], ◌∷◌, ◌++◌, length, drop, nat_le, nat_lt}
use Rattle.wire.specs.Net.{be16, u16_at}
use Rattle.wire.specs.Part.{part}
use Rattle.stream.specs.declared.framing.Record.{Record}
use Rattle.stream.specs.declared.framing.Record.TheVariants.{Packet, Cut, End}

-- a packet's record: its length, then the packet
unfoldable pub framed : List ℕ → List ℕ
framed packet = be16 (length packet) ++ packet

-- the record at a place whose length is `len`
abbrev pub record_of : List ℕ → ℕ → ℕ → Record
record_of s from len = cond (nat_lt (length s) (from + 2 + len)) Cut (Packet (from + 2) len)

-- the record at a place: none where no byte is left, cut where the bytes end within its length or its packet
unfoldable pub record_at : List ℕ → ℕ → Record
record_at s from =
    cond (nat_le (length s) from) End (cond (nat_lt (length s) (from + 2)) Cut (record_of s from (u16_at s from)))

-- the records of packets, one behind the other
abbrev pub file : List (List ℕ) → List ℕ
file [] = []
file (p ∷ ps) = framed p ++ file ps

-- the packet of a record, before those read behind it
abbrev pub before : List ℕ → Record → (List ℕ → List (List ℕ)) → List (List ℕ)
before s (Packet at len) rest = part s at len ∷ rest (drop (at + len) s)
before s Cut rest = []
before s End rest = []

-- the packets read from bytes, one behind the other, `fuel` of them at most
abbrev pub packets_in : ℕ → List ℕ → List (List ℕ)
packets_in zero s = []
packets_in (suc fuel) s = before s (record_at s 0) (packets_in fuel)
