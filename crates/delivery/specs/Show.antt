-- A show: what is sent, with what it is received, and what arrives. Assumes nothing.
use Rattle.std.specs.Prelude.{Bool, List, [], ◌∷◌, ℕ, ◌-◌, max, length, get_or}
use Rattle.wire.specs.Packets.{joined}
use Rattle.packet.specs.Plain.{Stamp, plain_packet}
use Rattle.nal.specs.Fed.{prefixed}
use Rattle.sequence.specs.Number.{number_of}
use Rattle.sequence.specs.Arrival.{Arrival}
use Rattle.sequence.specs.Group.{Group, packets_of}
use Rattle.joiner_step.specs.Run.{Units}

pub record Show : Type 0 where
  -- the groups sent, in order: each its payloads, and the units that it is handed out as
  pub groups : List (Group (List ℕ) Units)
  -- the sender's SSRC, and the number of the first packet
  pub source : ℕ
  pub first : ℕ
  -- marker, payload type and timestamp of packet i
  pub stamps : ℕ → Stamp
  -- the gather buffer as it is at first
  pub gather : List ℕ
  -- the output that call i brings, with whatever is in it
  pub outs : ℕ → List ℕ
  -- what arrives before closing: a packet of ours by its index, or any other bytes
  pub arrivals : List (Arrival (List ℕ))

-- the payloads in order, and how many there are
abbrev pub payloads : Show → List (List ℕ)
payloads w = packets_of w.groups

abbrev pub count : Show → ℕ
count w = length (payloads w)

abbrev pub payload : Show → ℕ → List ℕ
payload w i = get_or (payloads w) i []

-- packet i: "version 2, no padding, extensions or CSRCs; packet i bears (first + i) mod 65,536"
abbrev pub packet : Show → ℕ → List ℕ
packet w i = plain_packet (w.stamps i) (number_of w.first i) w.source (payload w i)

-- how many bytes are gathered of a group: of one in several packets its "unit less one byte"
abbrev pub gathered_by : (others : List (List ℕ)) → Units → ℕ
gathered_by [] units = 0
gathered_by (p ∷ ps) units = length (joined units) - 1

-- "the longest unit less one byte"
abbrev pub longest : List (Group (List ℕ) Units) → ℕ
longest [] = 0
longest (g ∷ gs) = max (gathered_by g.others g.handed) (longest gs)

-- "the largest group as handed out, prefixes included"; `avc`: each unit follows a 4-byte length, and not a start code
abbrev pub largest : (avc : Bool) → List (Group (List ℕ) Units) → ℕ
largest avc [] = 0
largest avc (g ∷ gs) = max (length (prefixed avc g.handed)) (largest avc gs)
