-- Reading an H.264 payload: the paper's "It gathers FU-A data regardless of the start bit, and at the end bit writes NRI and type from
-- that packet. Each unit follows 00 00 00 01, or a 4-byte length where `is_avc`." Plain units and STAP-A leave the run. Assumes
-- nothing.
use Rattle.std.specs.Prelude.{Bool, true, false, cond, ◌||◌, List, [], ◌∷◌, ◌++◌, ℕ, ◌+◌, ◌-◌, ◌/◌, ◌%◌, ◌≤◌, ltb, eqb, leb, length, take, drop, get_or}
use Rattle.error.specs.Said.{Said, says, refused, refuse}
use Rattle.wire.specs.Net.{bit}
use Rattle.nal_read.specs.Kind.{Shape, short, unknown, plain, aggregate, fragment, shape}
use Rattle.nal_read.specs.Unpack.{unpack}
use Rattle.nal.specs.Fed.{Fed, Laid}
use Rattle.nal.specs.Ran.{handing, RanOn, lay_run}
use Rattle.h264_packet.specs.Run.{Run, gathered, run_of, recorded, ongoing, finished}

-- units that leave the run as it is
abbrev pub beside : Run → Said (List (List ℕ)) → Said (Fed Run)
beside run units = handing run (gathered run) units

-- a fragment's data behind what was gathered, "regardless of the start bit"
abbrev pub gathered_on : List ℕ → Bool → ℕ → Fed Run
gathered_on bytes false head = ongoing bytes
gathered_on bytes true head = finished head bytes

abbrev pub read_by : Shape → Run → List ℕ → Said (Fed Run)
read_by short run payload = refuse 4
read_by (unknown t) run payload = refused (record { number = 19; carried = t ∷ [] })
read_by plain run payload = beside run (says (payload ∷ []))
read_by aggregate run payload = beside run (unpack payload)
read_by (fragment first last head) run payload = says (gathered_on (gathered run ++ drop 2 payload) last head)

-- "H.264 reading: 4, 19, 17 or 18 at the first place"
unfoldable pub read_payload : Run → List ℕ → Said (Fed Run)
read_payload run payload = read_by (shape payload) run payload

-- ---- the call

-- "packets up to 65,535 bytes"; "counts and lengths in a record that lie within .. the lent buffers"
abbrev pub outside : ℕ → List ℕ → List ℕ → Bool
outside n payload gather = ltb 65535 (length payload) || (ltb (length gather) n || ltb 16777215 n)

-- 8 first; then the checks; then "6, 5"
unfoldable pub depacketized : Bool → ℕ → List ℕ → List ℕ → List ℕ → Laid (RanOn ℕ)
depacketized avc n payload gather out =
    cond (outside n payload gather) (record { answer = refuse 8; gather = gather; out = out })
    (lay_run recorded avc gather out (read_payload (run_of n gather) payload))

-- ---- the body

-- where a unit's body can be seen: nowhere, in the packet, or in front of the gather buffer
pub data Showing : Type 0 where
  nowhere : Showing
  in_packet : Showing
  in_gather : (len : ℕ) → Showing

-- "A plain unit's body can be shown as a part of the packet, a joined one as a part of the gather buffer"; `n` bytes were gathered
-- before
abbrev pub shown_of : Shape → ℕ → ℕ → Showing
shown_of short n len = nowhere
shown_of (unknown t) n len = nowhere
shown_of plain n len = in_packet
shown_of aggregate n len = nowhere
shown_of (fragment first false head) n len = nowhere
shown_of (fragment first true head) n len = in_gather (n + (len - 2))

-- what is shown is there: in a payload of p bytes, or in front of a gather buffer of g
abbrev pub Lies : Showing → ℕ → ℕ → Type 0
Lies nowhere p g = Unit {0}
Lies in_packet p g = 1 ≤ p
Lies (in_gather len) p g = len ≤ g

-- "The body is all after the unit's first byte"; a length beyond the buffer shows nothing
unfoldable pub body_of : Showing → List ℕ → List ℕ → List ℕ
body_of nowhere payload gather = []
body_of in_packet payload gather = drop 1 payload
body_of (in_gather len) payload gather = cond (leb len (length gather)) (take len gather) []

-- ---- the partition tests

-- "The partition head and tail tests of 002": 28 and 29 look at the start bit
unfoldable pub head_test : List ℕ → Said Bool
head_test s =
    cond (ltb 65535 (length s)) (refuse 8)
    (cond (ltb (length s) 2) (says false)
    (cond (eqb (get_or s 0 0 % 32) 28 || eqb (get_or s 0 0 % 32) 29) (says (bit (get_or s 1 0 / 128))) (says true)))
