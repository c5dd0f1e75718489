-- RFC 3550, section 5.1: the whole packet. A packet is a plan: a header, a payload and, with the P bit, padding behind it; its octets are a
-- function of the plan. Assumes nothing.
use Rattle.std.specs.Prelude.{◌≡◌, List, [], ◌∷◌, ◌++◌, ℕ, ◌+◌, ◌-◌, ◌<◌, length, get_or}
use Rattle.std.proofs.Math.Option.{Option, none, some}
use Rattle.rfc3550.specs.Rfc3550.{present}
use Rattle.rfc3550.specs.Rfc8285.{Plan, Lawful, octets}

-- ---- padding
--
--   +-+-+-+-+-+-+-+-+-+-   -+-+-+-+-+-+-+-+-+-+-+-+
--   |          any octets           |     count     |
--   +-+-+-+-+-+-+-+-+-+-   -+-+-+-+-+-+-+-+-+-+-+-+

pub record Padding : Type 0 where
  -- the octets of padding before the last one, which may have any value
  pub before : List ℕ

-- the last octet of the padding is the count of its octets, itself included
abbrev pub count_in : Padding → ℕ
count_in p = length p.before + 1

-- the count is one octet, so that there are 1 to 255 octets of padding
abbrev pub LawfulPadding : Padding → Type 0
LawfulPadding p = count_in p < 256

-- the count stands at the padding's end
abbrev pub padding_octets : Padding → List ℕ
padding_octets p = p.before ++ (count_in p ∷ [])

-- ---- the packet

-- the payload may be empty (the check of appendix A.1 asks for a payload before padding, section 5.1 does not)
pub record Packet : Type 0 where
  pub header : Plan
  pub payload : List ℕ
  pub padding : Option Padding

-- a packet may end without padding
abbrev pub LawfulEnd : Option Padding → Type 0
LawfulEnd none = Unit
LawfulEnd (some p) = LawfulPadding p

-- a lawful header, and lawful padding where its P bit says that there is some
pub record LawfulPacket (p : Packet) : Type 0 where
  pub header : Lawful p.header
  -- P is set exactly where there is padding
  pub bit : p.header.fixed.padding ≡ present p.padding
  pub padding : LawfulEnd p.padding

-- nothing follows the payload of a packet without padding
abbrev pub end_octets : Option Padding → List ℕ
end_octets none = []
end_octets (some p) = padding_octets p

-- the padding stands at the end of the packet, and is no part of the payload
unfoldable pub packet_octets : Packet → List ℕ
packet_octets p = octets p.header ++ (p.payload ++ end_octets p.padding)

-- s is a packet of RTP as the RFC defines it: the version is two
pub record IsRtpPacket (s : List ℕ) : Type 0 where
  pub plan : Packet
  pub lawful : LawfulPacket plan
  pub version : plan.header.fixed.version ≡ 2
  pub same : packet_octets plan ≡ s

-- ---- the octets behind a header with the P bit

-- s is a payload with lawful padding behind it
pub record Padded (s : List ℕ) : Type 0 where
  pub payload : List ℕ
  pub padding : Padding
  pub lawful : LawfulPadding padding
  pub same : payload ++ padding_octets padding ≡ s

-- s ends in a count of 0, which does not count itself
pub record Uncounted (s : List ℕ) : Type 0 where
  pub before : List ℕ
  pub same : before ++ (0 ∷ []) ≡ s

-- where the count stands
abbrev pub last_octet : List ℕ → ℕ
last_octet s = get_or s (length s - 1) 0

-- s has no room for the padding that it ends in
pub data Short (s : List ℕ) : Type 0 where
  -- there is no count
  nothing_there : length s ≡ 0 → Short s
  -- the count is of more octets than there are
  over_counted : length s < last_octet s → Short s
