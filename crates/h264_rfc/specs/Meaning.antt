-- What an accepted payload is by RFC 6184, kind by kind, and what its answer then means. Assumes nothing.
use Rattle.std.specs.Prelude.{◌≡◌, Bool, List, [], ◌∷◌, ◌++◌, map, ◌⊎◌, ℕ, ◌%◌, ◌<◌, length, take, get_or}
use Rattle.nal.specs.Fed.{prefixed, Laid}
use Rattle.nal.specs.Ran.{RanOn}
use Rattle.nal.specs.Unpack.{sized_units}
use Rattle.rfc6184.specs.Sending.{Each, Nal, octet, octets_of, Fragmented, Sending, single, stap_a, fu_a, payloads_of, UnitType, Formed, Sized, FormedSending, Lawful}
use Rattle.h264_rfc.specs.Reading.{gathered_then, handed_by, TakenUnit}
use Rattle.h264_rfc.specs.Loose.{Loose, loose_octets, loose_of, LooseFormed, head_from, unreserved}

-- 5.6: a single NAL unit packet
pub record SingleUnit (payload : List ℕ) : Type 0 where
  pub unit : Nal
  pub lawful : Lawful (single unit)
  pub taken : TakenUnit unit
  pub octets : payload ≡ octets_of unit

-- The two deviations inside an aggregation: no octet at all, where a size counts the unit's first (5.7.1); and an aggregation, a fragment or a
-- type that no unit has (5.7)
abbrev pub Stray : List ℕ → Type 0
Stray u = (u ≡ []) ⊎ (UnitType (get_or u 0 0 % 32) → ⊥)

-- 5.7.1: a unit behind a size, of type 1 to 23
pub record InnerUnit (u : List ℕ) : Type 0 where
  pub unit : Nal
  pub sized : Sized unit
  pub type : UnitType unit.type
  pub octets : u ≡ octets_of unit

-- what stands behind a size
pub data Inner (u : List ℕ) : Type 0 where
  a_unit : InnerUnit u → Inner u
  -- a deviation
  stray : Stray u → Inner u

-- somewhere in a list
abbrev pub Somewhere : {A : Type 0} → (A → Type 0) → List A → Type 0
Somewhere P [] = ⊥
Somewhere P (x ∷ xs) = P x ⊎ Somewhere P xs

-- 5.7.1: an STAP-A of these units
pub record Aggregation (payload : List ℕ) (units : List (List ℕ)) : Type 0 where
  pub f : ℕ
  pub nri : ℕ
  pub formed : Formed f nri 24
  pub some : 0 < length units
  pub inner : Each Inner units
  pub octets : payload ≡ octet f nri 24 ∷ sized_units units

-- the same as a sending of the RFC, but for the rules on F and NRI
pub record AsSent (payload : List ℕ) (units : List (List ℕ)) : Type 0 where
  pub f : ℕ
  pub nri : ℕ
  pub nals : List Nal
  pub formed : FormedSending (stap_a f nri nals)
  pub types : Each (λ (u : Nal). UnitType u.type) nals
  pub same : units ≡ map octets_of nals
  pub payloads : payload ∷ [] ≡ payloads_of (stap_a f nri nals)

-- 5.8: one of the FU-As of a unit of type 1 to 23, lawful but for Reserved bits
pub record OneFuA (payload : List ℕ) : Type 0 where
  pub unit : Fragmented
  pub formed : FormedSending (fu_a unit)
  pub lawful : Lawful (fu_a (unreserved unit))
  pub among : Somewhere (λ (q : List ℕ). payload ≡ q) (payloads_of (fu_a unit))

-- an FU-A by itself, with End bit e
pub data Fragment (e : ℕ) (x : Loose) : Type 0 where
  one_of : OneFuA (loose_octets e x) → Fragment e x
  -- the two deviations: Start and End both set; a type that no unit has
  both_set : x.start ≡ 1 → e ≡ 1 → Fragment e x
  no_unit : (UnitType x.of.type → ⊥) → Fragment e x

-- no lawful sending has this payload
abbrev pub Unsendable : List ℕ → Type 0
Unsendable payload = (s : Sending) → Lawful s → Each (λ (p : List ℕ). p ≡ payload → ⊥) (payloads_of s)

-- the run is as it was
pub record RunKept (n : ℕ) (gather : List ℕ) (l : Laid (RanOn ℕ)) : Type 0 where
  pub count : gathered_then n l.answer ≡ n
  pub bytes : l.gather ≡ gather

-- what the payload is, and what the call then did; the first n bytes of the gather buffer are the run before it
pub data Means (avc : Bool) (n : ℕ) (gather payload : List ℕ) (l : Laid (RanOn ℕ)) : Type 0 where
  -- it is handed out
  unit_alone : SingleUnit payload → RunKept n gather l → handed_by l ≡ prefixed avc (payload ∷ []) → Means avc n gather payload l
  -- its units are handed out
  units_together : (units : List (List ℕ)) → Aggregation payload units → RunKept n gather l → handed_by l ≡ prefixed avc units →
      Means avc n gather payload l
  -- 5.8, an FU-A with E clear: nothing is handed out, and its part is gathered
  part_gathered : LooseFormed (loose_of payload) → payload ≡ loose_octets 0 (loose_of payload) → Fragment 0 (loose_of payload) → handed_by l ≡ [] →
      take (gathered_then n l.answer) l.gather ≡ take n gather ++ (loose_of payload).part.octets → Means avc n gather payload l
  -- 5.8, an FU-A with E set: the run and its part are handed out behind its NRI and type, and no run is open
  unit_joined : LooseFormed (loose_of payload) → payload ≡ loose_octets 1 (loose_of payload) → Fragment 1 (loose_of payload) →
      handed_by l ≡ prefixed avc ((head_from (loose_of payload) ∷ (take n gather ++ (loose_of payload).part.octets)) ∷ []) →
      gathered_then n l.answer ≡ 0 → Means avc n gather payload l
