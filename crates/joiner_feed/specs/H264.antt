-- The checks of an H.264 payload alone, and what it then holds: 4, 19, 21, 17 or 18. Assumes nothing.
use Rattle.std.specs.Prelude.{Bool, true, false, List, [], ◌∷◌, ℕ, ◌/◌, drop, get_or}
use Rattle.wire.specs.Net.{bit}
use Rattle.error.specs.Said.{Said, says, refused, refuse}
use Rattle.nal_read.specs.Kind.{Shape, short, unknown, plain, aggregate, fragment, shape}
use Rattle.nal_read.specs.Unpack.{unpack}
use Rattle.joiner_step.specs.Run.{Units}
use Rattle.joiner_feed.specs.Content.{Fragment, Content, whole, start, middle, end}

abbrev pub whole_said : Said Units → Said Content
whole_said (says units) = says (whole units)
whole_said (refused r) = refused r

-- RFC 6184, section 5.3: F, the top bit of a payload's first byte
abbrev pub forbidden : List ℕ → Bool
forbidden payload = bit (get_or payload 0 0 / 128)

-- an FU-A, whose part of the unit stands behind two bytes
abbrev pub fragment_in : List ℕ → Fragment
fragment_in payload = record { marked = forbidden payload; part = drop 2 payload }

-- "21: FU-A with start and end both set"; "its first byte being NRI and type as in 002"
abbrev pub fragmented : Bool → Bool → ℕ → Fragment → Said Content
fragmented true true head f = refuse 21
fragmented true false head f = says (start f)
fragmented false false head f = says (middle f)
fragmented false true head f = says (end (head ∷ []) f)

-- by the payload's shape; "21 before 17"
abbrev pub check_by : Shape → List ℕ → Said Content
check_by short payload = refuse 4
check_by (unknown t) payload = refused (record { number = 19; carried = t ∷ [] })
check_by plain payload = says (whole (payload ∷ []))
check_by aggregate payload = whole_said (unpack payload)
check_by (fragment first last head) payload = fragmented first last head (fragment_in payload)

unfoldable pub check : List ℕ → Said Content
check payload = check_by (shape payload) payload
