-- Payloads through a reader, call after call, and what it is for a reader to be complete. Assumes nothing.
use Rattle.std.specs.Prelude.{◌≡◌, Bool, List, [], ◌∷◌, ◌++◌, map, ◌⊎◌, ℕ, suc, ◌≤◌, ◌<◌, length, take}
use Rattle.error.specs.Said.{Said, says, refused}
use Rattle.nal.specs.Fed.{prefixed, Laid}
use Rattle.nal.specs.Ran.{RanOn}
use Rattle.rfc6184.specs.Sending.{Each, Nal, octets_of, Part, Fragmented, Sending, single, stap_a, fu_a, payloads_of, payloads_of_all, body_of, units_of, UnitType, FormedSending}

-- ---- the calls

-- a reader's call: `is_avc`, how many bytes are gathered, the payload, the gather buffer and the output; its answer and both buffers
abbrev pub Reader : Type 0
Reader = Bool → ℕ → List ℕ → List ℕ → List ℕ → Laid (RanOn ℕ)

-- what goes from call to call: how many bytes are gathered, and the gather buffer
pub record State : Type 0 where
  pub gathered : ℕ
  pub gather : List ℕ

-- a record without a run
abbrev pub fresh : List ℕ → State
fresh gather = record { gathered = 0; gather = gather }

-- a refusal "changes no buffer and no state"
abbrev pub gathered_then : ℕ → Said (RanOn ℕ) → ℕ
gathered_then n (says r) = r.run
gathered_then n (refused r) = n

-- the state that a call leaves
abbrev pub next : State → Laid (RanOn ℕ) → State
next s l = record { gathered = gathered_then s.gathered l.answer; gather = l.gather }

-- what each call leaves; each brings an output of its own
abbrev pub calls : Reader → Bool → State → (ℕ → List ℕ) → List (List ℕ) → List (Laid (RanOn ℕ))
calls read avc s outs [] = []
calls read avc s outs (p ∷ ps) =
    read avc s.gathered p s.gather (outs 0)
    ∷ calls read avc (next s (read avc s.gathered p s.gather (outs 0))) (λ i. outs (suc i)) ps

-- the state behind the last call
abbrev pub behind : Reader → Bool → State → (ℕ → List ℕ) → List (List ℕ) → State
behind read avc s outs [] = s
behind read avc s outs (p ∷ ps) =
    behind read avc (next s (read avc s.gathered p s.gather (outs 0))) (λ i. outs (suc i)) ps

-- the bytes that a call handed out: as many as it says, from the front of its output on
abbrev pub handed_in : Said (RanOn ℕ) → List ℕ → List ℕ
handed_in (says r) out = take r.bytes out
handed_in (refused r) out = []

-- the same of all that a call leaves
abbrev pub handed_by : Laid (RanOn ℕ) → List ℕ
handed_by l = handed_in l.answer l.out

-- a call that is not refused
abbrev pub Answered : Laid (RanOn ℕ) → Type 0
Answered l = (r : RanOn ℕ) × (l.answer ≡ says r)

-- payloads ps from state s on: no call is refused, each hands out what is expected of it, and no run is left
pub record Hears (read : Reader) (avc : Bool) (s : State) (outs : ℕ → List ℕ) (ps expected : List (List ℕ)) : Type 0 where
  pub answered : Each Answered (calls read avc s outs ps)
  pub handed : map handed_by (calls read avc s outs ps) ≡ expected
  pub no_run : (behind read avc s outs ps).gathered ≡ 0
  pub as_long : length (behind read avc s outs ps).gather ≡ length s.gather

-- ---- what is expected

-- nothing with each payload but the last, and these bytes with the last
abbrev pub lastly : List (List ℕ) → List ℕ → List (List ℕ)
lastly [] bytes = []
lastly (p ∷ []) bytes = bytes ∷ []
lastly (p ∷ q ∷ ps) bytes = [] ∷ lastly (q ∷ ps) bytes

-- units' octets as they are handed out: "Each unit follows 00 00 00 01, or a 4-byte length where `is_avc`."
abbrev pub handed_as : Bool → List Nal → List ℕ
handed_as avc us = prefixed avc (map octets_of us)

-- the units of each sending, once, with its last payload
abbrev pub expected : Bool → List Sending → List (List ℕ)
expected avc [] = []
expected avc (s ∷ ss) = lastly (payloads_of s) (handed_as avc (units_of s)) ++ expected avc ss

-- ---- which sendings

-- "The reader refuses 0 or 1 byte, and 2 bytes unless type 9."
pub record TakenUnit (u : Nal) : Type 0 where
  -- RFC 6184, Table 1: a single NAL unit packet
  pub type : UnitType u.type
  pub long : (3 ≤ length (octets_of u)) ⊎ ((length (octets_of u) ≡ 2) × (u.type ≡ 9))

-- a part with which a fragment has 3 bytes at least
abbrev pub Some : Part → Type 0
Some p = 0 < length p.octets

-- none of a unit's parts is empty
abbrev pub NoneEmpty : Fragmented → Type 0
NoneEmpty g = Some g.first × Each Some g.middle × Some g.last

-- The crate's deviations that have to be left out: short single units, fragments with F set, empty fragments. Of an aggregation nothing is.
abbrev pub Taken : Sending → Type 0
Taken (single u) = TakenUnit u
Taken (stap_a f nri us) = Unit {0}
Taken (fu_a g) = (g.f ≡ 0) × NoneEmpty g

-- how many bytes are gathered: a fragmented unit "less one byte"
abbrev pub gathered_of : Sending → ℕ
gathered_of (single u) = 0
gathered_of (stap_a f nri us) = 0
gathered_of (fu_a g) = length (body_of g)

-- the paper's limits, and room
pub record Room (avc : Bool) (gather : ℕ) (outs : ℕ → List ℕ) (s : Sending) : Type 0 where
  -- "packets up to 65,535 bytes"
  pub short : Each (λ (p : List ℕ). length p ≤ 65535) (payloads_of s)
  -- 6: "the run over 16,777,215 bytes"
  pub run : gathered_of s ≤ 16777215
  -- "Room: gather for the longest unit less one byte"
  pub gather_room : gathered_of s ≤ gather
  -- "output for the largest group as handed out, prefixes included"
  pub out_room : (i : ℕ) → length (handed_as avc (units_of s)) ≤ length (outs i)

-- ---- what is asked of a reader

-- Sendings of RFC 6184 by whatever maker, one after the other, from a record without a run: none is refused, and the units of each are handed out,
-- in order, once, with its last payload. They need be formed only: neither the rules on F and NRI of an aggregation nor on inner types count.
abbrev pub Complete : Reader → Type 0
Complete read = (avc : Bool) (gather : List ℕ) (outs : ℕ → List ℕ) (ss : List Sending) →
    Each FormedSending ss → Each Taken ss → Each (Room avc (length gather) outs) ss →
    Hears read avc (fresh gather) outs (payloads_of_all ss) (expected avc ss)
