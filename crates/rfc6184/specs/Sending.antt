-- RFC 6184, sections 5.6, 5.7.1 and 5.8: the RTP payloads by which NAL units are sent. A sending is one single NAL unit packet, one
-- STAP-A, or the FU-As of one NAL unit; its payloads, and the units that they carry, are functions of it. Assumes nothing.
use Rattle.std.specs.Prelude.{◌≡◌, List, [], ◌∷◌, ◌++◌, map, ℕ, ◌+◌, ◌*◌, ◌/◌, ◌%◌, ◌<◌, ◌≤◌, max, length}
pub use Rattle.wire.specs.Each.{Each}
use Rattle.wire.specs.Net.{be16}
use Rattle.wire.specs.Packets.{joined}

-- a NAL unit: the three fields of its first octet, and the octets after it
pub record Nal : Type 0 where
  pub f : ℕ
  pub nri : ℕ
  pub type : ℕ
  pub payload : List ℕ

-- The NAL unit type octet (5.3), and likewise the first octet of an STAP-A and the FU indicator of an FU-A:
--
--     +---------------+
--     |0|1|2|3|4|5|6|7|
--     +-+-+-+-+-+-+-+-+
--     |F|NRI|  Type   |
--     +---------------+
unfoldable pub octet : ℕ → ℕ → ℕ → ℕ
octet f nri type = f * 128 + nri * 32 + type

-- a NAL unit's octets
unfoldable pub octets_of : Nal → List ℕ
octets_of u = octet u.f u.nri u.type ∷ u.payload

-- the NAL unit whose octets are b and s
abbrev pub nal_of : ℕ → List ℕ → Nal
nal_of b s = record { f = b / 128; nri = b / 32 % 4; type = b % 32; payload = s }

-- one fragment: its Reserved bit, and its octets of the unit's payload
pub record Part : Type 0 where
  pub reserved : ℕ
  pub octets : List ℕ

-- a NAL unit in fragments: one F, NRI and type for all of them, and the first part, those between, and the last
pub record Fragmented : Type 0 where
  pub f : ℕ
  pub nri : ℕ
  pub type : ℕ
  pub first : Part
  pub middle : List Part
  pub last : Part

pub data Sending : Type 0 where
  -- 5.6: one NAL unit, whose own first octet is the payload's header
  single : Nal → Sending
  -- 5.7.1: F and NRI of the first octet, and the aggregated units
  stap_a : (f nri : ℕ) → List Nal → Sending
  -- 5.8
  fu_a : Fragmented → Sending

-- 5.7.1: single-time aggregation units, each a size of two octets in network order and the NAL unit itself
--
--      0                   1                   2                   3
--      0 1 2 3 4 5 6 7 8 9 0 1 2 3 4 5 6 7 8 9 0 1 2 3 4 5 6 7 8 9 0 1
--                     +-+-+-+-+-+-+-+-+-+-+-+-+-+-+-+-+-+-+-+-+-+-+-+-+
--                     :        NAL unit size          |               |
--     +-+-+-+-+-+-+-+-+-+-+-+-+-+-+-+-+-+-+-+-+-+-+-+-+               |
--     |                                                               |
--     |                           NAL unit                            |
--     |                                                               |
--     |                               +-+-+-+-+-+-+-+-+-+-+-+-+-+-+-+-+
--     |                               :
--     +-+-+-+-+-+-+-+-+-+-+-+-+-+-+-+-+
abbrev pub aggregated : List Nal → List ℕ
aggregated [] = []
aggregated (u ∷ us) = be16 (length (octets_of u)) ++ (octets_of u ++ aggregated us)

-- 5.8: the FU header, with Start, End and Reserved bit
abbrev pub fu_header : ℕ → ℕ → ℕ → ℕ → ℕ
fu_header s e r type = s * 128 + e * 64 + r * 32 + type

-- 5.8: one FU-A, with Start bit s and End bit e
--
--     +---------------+---------------+
--     |0|1|2|3|4|5|6|7|0|1|2|3|4|5|6|7|
--     +-+-+-+-+-+-+-+-+-+-+-+-+-+-+-+-+
--     |F|NRI|  Type   |S|E|R|  Type   |  FU payload
--     +---------------+---------------+
--       FU indicator      FU header
unfoldable pub fragment : Fragmented → ℕ → ℕ → Part → List ℕ
fragment g s e p = octet g.f g.nri 28 ∷ fu_header s e p.reserved g.type ∷ p.octets

-- the payloads, in the order in which they are sent
abbrev pub payloads_of : Sending → List (List ℕ)
payloads_of (single u) = octets_of u ∷ []
payloads_of (stap_a f nri us) = (octet f nri 24 ∷ aggregated us) ∷ []
payloads_of (fu_a g) = fragment g 1 0 g.first ∷ (map (fragment g 0 0) g.middle ++ (fragment g 0 1 g.last ∷ []))

-- the parts' octets, one part behind the other
abbrev pub body_of : Fragmented → List ℕ
body_of g = g.first.octets ++ (joined (map (λ (p : Part). p.octets) g.middle) ++ g.last.octets)

-- the NAL units that a sending carries; those of a fragmented one are what its parts say together
abbrev pub units_of : Sending → List Nal
units_of (single u) = u ∷ []
units_of (stap_a f nri us) = us
units_of (fu_a g) = record { f = g.f; nri = g.nri; type = g.type; payload = body_of g } ∷ []

-- ---- what is formed: the fields fit into their bits

pub record Formed (f nri type : ℕ) : Type 0 where
  pub f_bit : f < 2
  pub nri_bits : nri < 4
  pub type_bits : type < 32

abbrev pub FormedNal : Nal → Type 0
FormedNal u = Formed u.f u.nri u.type

abbrev pub FormedPart : Part → Type 0
FormedPart p = p.reserved < 2

-- a unit to be aggregated has a size of 16 bits
pub record Sized (u : Nal) : Type 0 where
  pub formed : FormedNal u
  pub size : length (octets_of u) < 65536

abbrev pub FormedSending : Sending → Type 0
FormedSending (single u) = FormedNal u
FormedSending (stap_a f nri us) = Formed f nri 24 × (0 < length us) × Each Sized us
FormedSending (fu_a g) = Formed g.f g.nri g.type × FormedPart g.first × Each FormedPart g.middle × FormedPart g.last

-- 5.2: the type of a payload's first octet says its structure. No single unit has the type of an STAP-A or of an FU-A.
abbrev pub OwnType : Sending → Type 0
OwnType (single u) = (u.type ≡ 24 → ⊥) × (u.type ≡ 28 → ⊥)
OwnType (stap_a f nri us) = Unit {0}
OwnType (fu_a g) = Unit {0}

-- formed, and of a kind that its first octet tells
pub record Told (s : Sending) : Type 0 where
  pub formed : FormedSending s
  pub own_type : OwnType s

-- ---- what is lawful: the rules on the fields

-- Table 1: the types of NAL units that are sent as such, in an STAP-A or in fragments
pub record UnitType (type : ℕ) : Type 0 where
  pub low : 1 ≤ type
  pub high : type ≤ 23

-- 5.7: F of an aggregation packet is cleared if all F bits of its units are zero, and set otherwise
abbrev pub largest_f : List Nal → ℕ
largest_f [] = 0
largest_f (u ∷ us) = max u.f (largest_f us)

-- 5.7: NRI of an aggregation packet is the largest NRI of its units
abbrev pub largest_nri : List Nal → ℕ
largest_nri [] = 0
largest_nri (u ∷ us) = max u.nri (largest_nri us)

abbrev pub Rules : Sending → Type 0
Rules (single u) = UnitType u.type
Rules (stap_a f nri us) = (f ≡ largest_f us) × (nri ≡ largest_nri us) × Each (λ (u : Nal). UnitType u.type) us
Rules (fu_a g) =
    UnitType g.type × (g.first.reserved ≡ 0) × Each (λ (p : Part). p.reserved ≡ 0) g.middle × (g.last.reserved ≡ 0)

pub record Lawful (s : Sending) : Type 0 where
  pub formed : FormedSending s
  pub rules : Rules s

-- ---- packetizations

abbrev pub payloads_of_all : List Sending → List (List ℕ)
payloads_of_all [] = []
payloads_of_all (s ∷ ss) = payloads_of s ++ payloads_of_all ss

abbrev pub units_of_all : List Sending → List Nal
units_of_all [] = []
units_of_all (s ∷ ss) = units_of s ++ units_of_all ss

-- payloads ps are a packetization of the units us: lawful sendings, one after the other, whose payloads are ps and which carry us
pub record Packetization (ps : List (List ℕ)) (us : List Nal) : Type 0 where
  pub sendings : List Sending
  pub lawful : Each Lawful sendings
  pub payloads : ps ≡ payloads_of_all sendings
  pub units : us ≡ units_of_all sendings
