-- The terms in which the sender's theorems are put: each group as a sending of RFC 6184, and what holds of every group that is
-- sent. Assumes nothing.
use Rattle.std.specs.Prelude.{◌≡◌, List, [], ◌∷◌, ◌++◌, map, Bool, true, false, cond, ◌&&◌, ◌||◌, ℕ, ◌+◌, ◌-◌, ◌/◌, ◌%◌, ◌<◌, ◌≤◌, max, leb, length, get_or}
use Rattle.wire.specs.Packets.{joined}
use Rattle.rfc6184.specs.Sending.{Each, Nal, nal_of, Part, Fragmented, Sending, single, stap_a, fu_a, payloads_of_all, units_of_all, FormedSending, UnitType}
use Rattle.h264_put.specs.declared.fate.Fate.{Fate}
use Rattle.h264_put.specs.declared.fate.Fate.TheVariants.{Empty, Dropped, Sps, Pps, Coded}
use Rattle.h264_put.specs.Groups.{Saved, Group, pair, plain, fragments, fate_of}

-- bytes are octets
abbrev pub Octets : List ℕ → Type 0
Octets s = Each (λ (b : ℕ). b < 256) s

-- what is saved is octets
pub record SavedOctets (v : Saved) : Type 0 where
  pub sps : Octets v.sps
  pub pps : Octets v.pps

-- ---- groups as sendings

-- the NAL unit that a unit's bytes are
abbrev pub nal : List ℕ → Nal
nal [] = nal_of 0 []
nal (b ∷ s) = nal_of b s

-- a fragment of ours: its Reserved bit is 0
abbrev pub part : List ℕ → Part
part s = record { reserved = 0; octets = s }

-- the FU-As of a unit whose first byte is `head`: F is 0, whatever the unit's is
abbrev pub fragmented : ℕ → List ℕ → List (List ℕ) → List ℕ → Fragmented
fragmented head first middle last =
    record { f = 0; nri = head / 32 % 4; type = head % 32; first = part first; middle = map part middle; last = part last }

-- the sending by which a group goes out; a pair's STAP-A has F 0 and NRI 3, whatever the sets' are
abbrev pub sending_of : Group → Sending
sending_of (pair sps pps) = stap_a 0 3 (nal sps ∷ nal pps ∷ [])
sending_of (plain u) = single (nal u)
sending_of (fragments head first middle last) = fu_a (fragmented head first middle last)

-- a NAL unit with F cleared
abbrev pub cleared : Nal → Nal
cleared u = record { f = 0; nri = u.nri; type = u.type; payload = u.payload }

-- a unit put together from its first byte and its parts
abbrev pub rebuilt : ℕ → List ℕ → List (List ℕ) → List ℕ → List ℕ
rebuilt head first middle last = head ∷ (first ++ (joined middle ++ last))

-- the NAL units that a group hands over: "all fragments of one unit (handed out with its top bit clear)"
abbrev pub nals_of : Group → List Nal
nals_of (pair sps pps) = nal sps ∷ nal pps ∷ []
nals_of (plain u) = nal u ∷ []
nals_of (fragments head first middle last) = cleared (nal (rebuilt head first middle last)) ∷ []

abbrev pub nals_of_all : List Group → List Nal
nals_of_all [] = []
nals_of_all (g ∷ gs) = nals_of g ++ nals_of_all gs

-- Where our sender keeps RFC 6184's rules on the fields. It leaves them: with a pair of which a set has F set or none has NRI 3,
-- since the STAP-A's first byte is 0x78 always (5.7); and with a unit of type 0 or 24 to 31, which is sent as it is (5.6, 5.8).
abbrev pub Regular : Group → Type 0
Regular (pair sps pps) =
    ((nal sps).f ≡ 0) × ((nal pps).f ≡ 0) × (max (nal sps).nri (nal pps).nri ≡ 3) × UnitType (nal sps).type × UnitType (nal pps).type
Regular (plain u) = UnitType (nal u).type
Regular (fragments head first middle last) = UnitType (head % 32)

-- payloads ps are those of formed sendings, one after the other, which carry us: a `Packetization` but for the rules on the fields
pub record LaidOut (ps : List (List ℕ)) (us : List Nal) : Type 0 where
  pub sendings : List Sending
  pub formed : Each FormedSending sendings
  pub payloads : ps ≡ payloads_of_all sendings
  pub units : us ≡ units_of_all sendings

-- ---- what holds of every group that is sent

-- a unit's body in parts of `size` bytes, the last of what is left: none is empty, and together they are the body
pub record Divided (size : ℕ) (first : List ℕ) (middle : List (List ℕ)) (last : List ℕ) : Type 0 where
  pub first_full : length first ≡ size
  pub middle_full : Each (λ (p : List ℕ). length p ≡ size) middle
  pub last_some : 0 < length last
  pub last_within : length last ≤ size

-- "Every packet fits the mtu."
abbrev pub Sendable : ℕ → Group → Type 0
Sendable mtu (pair sps pps) = (0 < length sps) × (0 < length pps) × (5 + length sps + length pps ≤ mtu)
Sendable mtu (plain u) = (0 < length u) × (length u ≤ mtu)
Sendable mtu (fragments head first middle last) =
    (3 ≤ mtu) × (mtu < length (rebuilt head first middle last)) × Divided (mtu - 2) first middle last

-- the units that groups carry, a pair's sets aside
abbrev pub units_in : List Group → List (List ℕ)
units_in [] = []
units_in (pair sps pps ∷ gs) = units_in gs
units_in (plain u ∷ gs) = u ∷ units_in gs
units_in (fragments head first middle last ∷ gs) = rebuilt head first middle last ∷ units_in gs

-- all units that groups carry, in the order of sending
abbrev pub carries : Group → List (List ℕ)
carries (pair sps pps) = sps ∷ pps ∷ []
carries (plain u) = u ∷ []
carries (fragments head first middle last) = rebuilt head first middle last ∷ []

abbrev pub carried_in : List Group → List (List ℕ)
carried_in [] = []
carried_in (g ∷ gs) = carries g ++ carried_in gs

abbrev pub is_coded : Fate → Bool
is_coded Empty = false
is_coded Dropped = false
is_coded Sps = false
is_coded Pps = false
is_coded Coded = true

-- a unit goes out: it is not empty, not of types 9 and 12, no set to be saved, and it fits or can be cut
abbrev pub goes_out : ℕ → List ℕ → Bool
goes_out mtu u = is_coded (fate_of u) && (leb (length u) mtu || leb 3 mtu)

abbrev pub those_that : (List ℕ → Bool) → List (List ℕ) → List (List ℕ)
those_that test [] = []
those_that test (u ∷ us) = cond (test u) (u ∷ those_that test us) (those_that test us)

-- a fragment's two bits
abbrev pub start_bit : List ℕ → ℕ
start_bit p = get_or p 1 0 / 128 % 2

abbrev pub end_bit : List ℕ → ℕ
end_bit p = get_or p 1 0 / 64 % 2
