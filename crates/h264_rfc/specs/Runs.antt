-- Runs of fragments: what came since the last unit was joined, whether it is the FU-As of one unit by RFC 6184, and what it is for a reader to be
-- sound. Assumes nothing.
use Rattle.std.specs.Prelude.{◌≡◌, Bool, true, false, List, [], ◌∷◌, ◌++◌, map, ◌⊎◌, ℕ, suc, ◌/◌, ◌%◌, eqb, drop, get_or}
use Rattle.error.specs.Said.{Said, says, refused}
use Rattle.nal.specs.Fed.{prefixed, Laid}
use Rattle.nal.specs.Ran.{RanOn}
use Rattle.rfc6184.specs.Sending.{Each, octets_of, Fragmented, fu_a, payloads_of, units_of, UnitType, FormedSending, Lawful}
use Rattle.h264.specs.Conformance.{Octets}
use Rattle.h264_rfc.specs.Reading.{Reader, State, fresh, next, behind, handed_by}
use Rattle.h264_rfc.specs.Loose.{Loose, loose_of, loose_all, loose_unit, unreserved}
use Rattle.h264_rfc.specs.Meaning.{Somewhere, Means}

-- ---- what came

pub data Came : Type 0 where
  -- an FU-A without End bit, which was accepted
  piece : Loose → Came
  -- another payload: a single unit, an STAP-A, or one that was refused
  passing : List ℕ → Came

-- the fragments
abbrev pub pieces_of : List Came → List Loose
pieces_of [] = []
pieces_of (piece x ∷ cs) = x ∷ pieces_of cs
pieces_of (passing p ∷ cs) = pieces_of cs

-- what came from the first fragment on
abbrev pub from_first : List Came → List Came
from_first [] = []
from_first (piece x ∷ cs) = piece x ∷ cs
from_first (passing p ∷ cs) = from_first cs

abbrev pub is_fu_a : List ℕ → Bool
is_fu_a p = eqb (get_or p 0 0 % 32) 28

abbrev pub has_end : List ℕ → Bool
has_end p = eqb (get_or p 1 0 / 64 % 2) 1

-- with the End bit a unit is joined, and nothing has come since
abbrev pub came_by : (fu end : Bool) → List Came → List ℕ → List Came
came_by false end cs p = cs ++ (passing p ∷ [])
came_by true false cs p = cs ++ (piece (loose_of p) ∷ [])
came_by true true cs p = []

abbrev pub came_then : List Came → List ℕ → Said (RanOn ℕ) → List Came
came_then cs p (says r) = came_by (is_fu_a p) (has_end p) cs p
came_then cs p (refused r) = cs ++ (passing p ∷ [])

-- what came since the last unit was joined, behind cs
abbrev pub since : Reader → Bool → State → (ℕ → List ℕ) → List Came → List (List ℕ) → List Came
since read avc s outs cs [] = cs
since read avc s outs cs (p ∷ ps) =
    since read avc (next s (read avc s.gathered p s.gather (outs 0))) (λ i. outs (suc i))
    (came_then cs p (read avc s.gathered p s.gather (outs 0)).answer) ps

-- ---- what it is by 5.8

abbrev pub SameUnit : Loose → Loose → Type 0
SameUnit x l = (x.of.f ≡ l.of.f) × (x.of.nri ≡ l.of.nri) × (x.of.type ≡ l.of.type)

abbrev pub IsPassing : Came → Type 0
IsPassing (piece x) = ⊥
IsPassing (passing p) = Unit {0}

-- the first fragment, where l is the one with the End bit
abbrev pub first_of : List Loose → Loose → Loose
first_of [] l = l
first_of (x ∷ xs) l = x

-- the FU-As of one unit of type 1 to 23 with F clear, lawful but for Reserved bits, with nothing between them; and this unit is what is joined of
-- them
pub record OneUnit (cs : List Came) (l : Loose) : Type 0 where
  pub unit : Fragmented
  pub formed : FormedSending (fu_a unit)
  pub lawful : Lawful (fu_a (unreserved unit))
  pub f_clear : unit.f ≡ 0
  pub payloads : loose_all (pieces_of cs) l ≡ payloads_of (fu_a unit)
  pub adjacent : from_first cs ≡ map piece (pieces_of cs)
  pub joined : loose_unit (pieces_of cs) l ∷ [] ≡ map octets_of (units_of (fu_a unit))

-- The ways in which what came is not that, each a row of docs/DIFFERENCES.md. A lost fragment that was neither the first nor the last of its unit
-- is not among them: the others are the FU-As of a shorter unit.
pub data Deviates (cs : List Came) (l : Loose) : Type 0 where
  -- F is set, and is not handed out
  f_set : l.of.f ≡ 1 → Deviates cs l
  -- Start and End are both set
  both_set : l.start ≡ 1 → Deviates cs l
  -- the first fragment has no Start bit: the unit's first is missing
  no_start : (first_of (pieces_of cs) l).start ≡ 0 → Deviates cs l
  -- a later one has it: the unit's last is missing, and another unit began
  starts_again : Somewhere (λ (x : Loose). x.start ≡ 1) (drop 1 (pieces_of cs)) → Deviates cs l
  -- another packet came between them
  not_adjacent : Somewhere IsPassing (from_first cs) → Deviates cs l
  -- F, NRI or type of one is not that of the last, whose NRI and type are handed out
  differs : Somewhere (λ (x : Loose). SameUnit x l → ⊥) (pieces_of cs) → Deviates cs l
  -- the type is that of no unit
  no_unit : (UnitType l.of.type → ⊥) → Deviates cs l

-- a call that joined a unit: what it handed out, and of what it was made
pub record Joined (avc : Bool) (cs : List Came) (l : Loose) (handed : List ℕ) : Type 0 where
  -- all parts in order, behind the last one's NRI and type
  pub unit : handed ≡ prefixed avc (loose_unit (pieces_of cs) l ∷ [])
  pub kind : OneUnit cs l ⊎ Deviates cs l

-- ---- what is asked of a reader

-- Whatever is accepted is a payload of RFC 6184, but for the deviations, and is answered as its kind says.
pub record Sound (read : Reader) : Type 0 where
  -- a payload, whatever record and buffers come with it
  pub one : (avc : Bool) (n : ℕ) (payload gather out : List ℕ) (r : RanOn ℕ) → Octets payload →
      (read avc n payload gather out).answer ≡ says r → Means avc n gather payload (read avc n payload gather out)
  -- an FU-A with End bit, behind whatever payloads ps came from a record without a run on, some of them perhaps refused
  pub run : (avc : Bool) (gather : List ℕ) (outs : ℕ → List ℕ) (ps : List (List ℕ)) (p out : List ℕ) (r : RanOn ℕ) → Each Octets ps → Octets p →
      is_fu_a p ≡ true → has_end p ≡ true →
      let s : State = behind read avc (fresh gather) outs ps in
      let l : Laid (RanOn ℕ) = read avc s.gathered p s.gather out in
      l.answer ≡ says r → Joined avc (since read avc (fresh gather) outs [] ps) (loose_of p) (handed_by l)
