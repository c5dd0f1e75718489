-- Sendings of RFC 6184, of whatever sender, as a show: its payloads are those of crate rfc6184's own definition, with F set on those that a
-- relay on the way marked. Assumes nothing.
use Rattle.std.specs.Prelude.{◌≡◌, Bool, false, ◌||◌, List, [], ◌∷◌, map, ◌⊎◌, ℕ, suc, ◌≤◌, ◌<◌, length, drop, get_or}
use Rattle.wire.specs.Each.{Each}
use Rattle.packet.specs.Plain.{Stamp}
use Rattle.rfc6184.specs.Sending.{octet, octets_of, Part, Fragmented, single, stap_a, fu_a, payloads_of, body_of, UnitType, FormedSending}
use Rattle.rfc6184.specs.Sending as rfc
use Rattle.sequence.specs.Arrival.{Arrival}
use Rattle.sequence.specs.Group.{Group}
use Rattle.joiner_step.specs.Run.{Units}
use Rattle.joiner_feed.specs.Content.{top_bit, topped}
use Rattle.joiner_feed.specs.H264.{forbidden}
use Rattle.delivery.specs.Show.{Show, payloads, longest}
use Rattle.delivery.specs.Play.{Machine}
use Rattle.delivery.specs.Demand.{Received, Delivered}

-- ---- what is sent

-- "A relay between stage and gateway sets the forbidden bit of RFC 6184 on packets it saw damaged" (E3): F of payload i is set where mark i is
abbrev pub relayed : (ℕ → Bool) → List (List ℕ) → List (List ℕ)
relayed marks [] = []
relayed marks (p ∷ ps) = topped (marks 0) p ∷ relayed (λ i. marks (suc i)) ps

-- the marks of what follows these payloads
abbrev pub behind : List (List ℕ) → (ℕ → Bool) → ℕ → Bool
behind [] marks = marks
behind (p ∷ ps) marks = behind ps (λ i. marks (suc i))

-- one of them has F set
abbrev pub any_marked : List (List ℕ) → Bool
any_marked [] = false
any_marked (p ∷ ps) = forbidden p || any_marked ps

module _ (marks : ℕ → Bool) where
  -- the units that a sending is handed out as: plain units and those of a STAP-A byte for byte, a fragmented one with NRI and type, and "the
  -- rebuilt top bit is set if any fragment of the unit had it set" (E3)
  abbrev pub handed_for : rfc.Sending → Units
  handed_for (single u) = topped (marks 0) (octets_of u) ∷ []
  handed_for (stap_a f nri us) = map octets_of us
  handed_for (fu_a g) = (top_bit (any_marked (relayed marks (payloads_of (fu_a g)))) (octet 0 g.nri g.type) ∷ body_of g) ∷ []

  -- "A group is one STAP-A, one plain unit, or all fragments of one unit": the payloads of one sending
  abbrev pub group_by : rfc.Sending → Group (List ℕ) Units
  group_by s =
      record {
        first = get_or (relayed marks (payloads_of s)) 0 [];
        others = drop 1 (relayed marks (payloads_of s));
        handed = handed_for s;
      }

abbrev pub groups_by : (ℕ → Bool) → List rfc.Sending → List (Group (List ℕ) Units)
groups_by marks [] = []
groups_by marks (s ∷ ss) = group_by marks s ∷ groups_by (behind (payloads_of s) marks) ss

-- sendings, with what a show has besides
pub record Stream : Type 0 where
  pub sendings : List rfc.Sending
  -- which of the packets a relay marked, by index
  pub marks : ℕ → Bool
  pub source : ℕ
  pub first : ℕ
  pub stamps : ℕ → Stamp
  pub gather : List ℕ
  pub outs : ℕ → List ℕ
  pub arrivals : List (Arrival (List ℕ))

abbrev pub stream_show : Stream → Show
stream_show y =
    record {
      groups = groups_by y.marks y.sendings;
      source = y.source;
      first = y.first;
      stamps = y.stamps;
      gather = y.gather;
      outs = y.outs;
      arrivals = y.arrivals;
    }

-- ---- the premises

-- 5.8: the Reserved bit of each fragment is 0
abbrev pub ReservedClear : Fragmented → Type 0
ReservedClear g = (g.first.reserved ≡ 0) × Each (λ (p : Part). p.reserved ≡ 0) g.middle × (g.last.reserved ≡ 0)

-- of RFC 6184's rules on the fields those that count: whatever F and NRI an STAP-A has, and whatever units stand in it or in fragments
abbrev pub Ruled : rfc.Sending → Type 0
Ruled (single u) = UnitType u.type
Ruled (stap_a f nri us) = Unit {0}
Ruled (fu_a g) = ReservedClear g

-- no part is empty
abbrev pub NoneEmpty : Fragmented → Type 0
NoneEmpty g =
    (0 < length g.first.octets) × Each (λ (p : Part). 0 < length p.octets) g.middle × (0 < length g.last.octets)

-- what the paper's joiner takes: units "of 3 bytes or more", or an access unit delimiter, "2 bytes unless type 9"; fragments that are not empty
abbrev pub Taken : rfc.Sending → Type 0
Taken (single u) = (3 ≤ length (octets_of u)) ⊎ ((length (octets_of u) ≡ 2) × (u.type ≡ 9))
Taken (stap_a f nri us) = Unit {0}
Taken (fu_a g) = NoneEmpty g

pub record StreamPremises (avc : Bool) (y : Stream) : Type 0 where
  -- each is a sending of RFC 6184: its fields fit into their bits, and keep these rules
  pub formed : Each FormedSending y.sendings
  pub ruled : Each Ruled y.sendings
  pub taken : Each Taken y.sendings
  -- "mtu 3 to 65,523", and "Every packet fits the mtu"
  pub short : Each (λ (p : List ℕ). length p ≤ 65523) (payloads (stream_show y))
  -- "frames up to 16,777,216": the longest unit less one byte
  pub domain : longest (stream_show y).groups ≤ 16777215
  pub received : Received avc (stream_show y)

-- demand 3 of the joiner m and this prefix, whatever sendings are passed on
abbrev pub DeliversAny : Bool → Machine → Type 0
DeliversAny avc m = (y : Stream) → StreamPremises avc y → Delivered avc m (stream_show y)
