-- Demand 3: its premises on numbers, times, room and channel, in the paper's words, and what follows. Assumes nothing.
use Rattle.std.specs.Prelude.{◌≡◌, Bool, true, List, [], ◌∷◌, map, ℕ, suc, ◌+◌, ◌≤◌, ◌<◌, length}
use Rattle.error.specs.Said.{says}
use Rattle.wire.specs.Each.{Each}
use Rattle.packet.specs.Plain.{Stamp, Stampable}
use Rattle.packet.specs.Read.{PacketReading, read_packet}
use Rattle.nal.specs.Fed.{prefixed}
use Rattle.sequence.specs.Arrival.{Arrival, ours, other, accepted_calls, accepted, never, Window}
use Rattle.sequence.specs.Group.{Group, packets_in, whole_of, handed_of}
use Rattle.sequence.specs.Joiner.{is_other}
use Rattle.joiner_step.specs.Run.{Units}
use Rattle.joiner_step.specs.Step.{Accepted}
use Rattle.joiner_step.specs.Play.{is_accepted, is_refused, handed_out}
use Rattle.joiner.specs.Join.{Stepped}
use Rattle.delivery.specs.Show.{Show, count, longest, largest}
use Rattle.delivery.specs.Play.{Machine, played_on, closing_on, arriving}

-- ---- the premises

-- "other sources have other SSRCs": what is read as a packet is not of our source
abbrev pub Foreign : ℕ → List ℕ → Type 0
Foreign source bytes = (r : PacketReading) → read_packet bytes ≡ says r → r.fields.source ≡ source → ⊥

abbrev pub OthersForeign : ℕ → List (Arrival (List ℕ)) → Type 0
OthersForeign source [] = Unit {0}
OthersForeign source (ours i ∷ later) = OthersForeign source later
OthersForeign source (other bytes ∷ later) = Foreign source bytes × OthersForeign source later

-- the packets of these payloads, the first of which has the index i, carry the time t
abbrev pub AllAt : (ℕ → Stamp) → ℕ → ℕ → List (List ℕ) → Type 0
AllAt stamps t i [] = Unit {0}
AllAt stamps t i (p ∷ ps) = ((stamps i).time ≡ t) × AllAt stamps t (suc i) ps

-- "all packets of one unit carry one timestamp" (E4): those of each group that of its first; marker and payload type are each packet's own
abbrev pub OneTimeEach : (ℕ → Stamp) → ℕ → List (Group (List ℕ) Units) → Type 0
OneTimeEach stamps i [] = Unit {0}
OneTimeEach stamps i (g ∷ gs) = AllAt stamps (stamps i).time i (packets_in g) × OneTimeEach stamps (i + length (packets_in g)) gs

-- numbers, times, room and channel, whatever was sent; `avc`: units are handed out behind a 4-byte length, and not behind a start code
pub record Received (avc : Bool) (w : Show) : Type 0 where
  -- "n at most 4,294,967,295"
  pub few : count w ≤ 4294967295
  -- "Room: gather for the longest unit less one byte"
  pub gather_room : longest w.groups ≤ length w.gather
  -- "output for the largest group as handed out, prefixes included"
  pub out_room : (i : ℕ) → largest avc w.groups ≤ length (w.outs i)
  -- "The joiner is opened with the sender's SSRC and first": 32 and 16 bits
  pub source : w.source < 4294967296
  pub first : w.first < 65536
  -- a payload type of seven bits, a timestamp of 32
  pub stamps : (i : ℕ) → Stampable (w.stamps i)
  -- "all packets of one unit carry one timestamp"
  pub one_time : OneTimeEach w.stamps 0 w.groups
  -- "other sources have other SSRCs"
  pub foreign : OthersForeign w.source w.arrivals
  -- "Window: with m one more than the largest index arrived so far (0 at first), each index is m - 32,768 to m + 32,767, and n - m is
  -- at most 32,767 at closing"
  pub window : Window (count w) 0 w.arrivals

-- ---- what follows

-- which packets were accepted, read off the arrivals alone
abbrev pub was_accepted : Show → ℕ → Bool
was_accepted w = accepted w.arrivals

-- how many packets were never accepted, counted from the arrivals
abbrev pub missed : Show → ℕ
missed w = never (was_accepted w) 0 (count w)

-- the gathered run lies within its buffer after each call
abbrev pub Within : ℕ → List Stepped → Type 0
Within room = Each (λ (st : Stepped). (st.joiner.gathered ≤ room) × (length st.gather ≡ room))

-- demand 3 of the joiner m, which hands out behind this prefix, and of the show w, of which these bytes arrive
pub record DeliveredOn (avc : Bool) (m : Machine) (w : Show) (bytes : List (List ℕ)) : Type 0 where
  -- (a) call by call, a packet is accepted "exactly when its index is above every index that arrived before it"
  pub accepts : map (λ (st : Stepped). is_accepted st.answer) (played_on m w bytes) ≡ accepted_calls [] w.arrivals
  -- (b) what is handed out, in order, is exactly the sent groups all of whose packets were accepted, once each
  pub hands_out : handed_out (played_on m w bytes) ≡ map (prefixed avc) (whole_of (was_accepted w) 0 w.groups)
  -- (c) closing is not refused, and the missed total is the number of packets never accepted
  pub answer : Accepted
  pub closes : (closing_on m w bytes).answer ≡ says answer
  pub closed : (closing_on m w bytes).joiner.closed ≡ true
  pub counts : (closing_on m w bytes).joiner.missed ≡ missed w
  -- (d) with none missed, everything sent was handed out
  pub complete : (closing_on m w bytes).joiner.missed ≡ 0 → handed_out (played_on m w bytes) ≡ map (prefixed avc) (handed_of w.groups)
  -- (e) the gathered run never reaches beyond its buffer, no call of ours is refused, and every other one is
  pub within : Within (length w.gather) (played_on m w bytes)
  pub refuses : map (λ (st : Stepped). is_refused st.answer) (played_on m w bytes) ≡ map is_other w.arrivals

abbrev pub Delivered : Bool → Machine → Show → Type 0
Delivered avc m w = DeliveredOn avc m w (arriving w)
