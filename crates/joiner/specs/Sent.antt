-- Groups of H.264 payloads as RFC 6184 lays them out, from whatever sender. Assumes nothing.
use Rattle.std.specs.Prelude.{◌≡◌, Bool, List, [], ◌∷◌, ◌++◌, map, ℕ, ◌+◌, ◌*◌, ◌/◌, ◌%◌, ◌≤◌, length, get_or}
use Rattle.wire.specs.Each.{Each}
use Rattle.wire.specs.Packets.{joined}
use Rattle.nal.specs.Unpack.{sized_units, Sized}
use Rattle.sequence.specs.Group.{Group}
use Rattle.joiner_step.specs.Run.{Units}
use Rattle.joiner_feed.specs.Content.{Fragment, part_in, marked_in, top_bit}
use Rattle.joiner.specs.Join.{Known, known}

-- "A group is one STAP-A, one plain unit, or all fragments of one unit"
pub data Sent : Type 0 where
  -- a STAP-A's first byte, and its units
  aggregated : (head : ℕ) (unit : List ℕ) (others : Units) → Sent
  alone : (unit : List ℕ) → Sent
  -- NRI and type of a unit's first byte, and its fragments, each with an F of its own: the first, those between, the last
  fragmented : (head : ℕ) (first : Fragment) (between : List Fragment) (last : Fragment) → Sent

-- RFC 6184, section 5.7.1: behind the first byte each unit follows its size in two bytes
unfoldable pub stap_a : ℕ → Units → List ℕ
stap_a head us = head ∷ sized_units us

-- RFC 6184, section 5.8: F, and the unit's NRI, beside type 28; then start bit (128), end bit (64) and the unit's type; then a part of
-- the unit
unfoldable pub fu_a : ℕ → ℕ → Fragment → List ℕ
fu_a head bits f = top_bit f.marked (head / 32 % 4 * 32 + 28) ∷ (bits + head % 32) ∷ f.part

-- a fragmented unit's bytes behind the first
abbrev pub body : Fragment → List Fragment → Fragment → List ℕ
body first between last = first.part ++ (joined (map part_in between) ++ last.part)

-- whether one of its fragments has its F set
abbrev pub any_marked : Fragment → List Fragment → Fragment → Bool
any_marked first between last = marked_in (first ∷ between ++ (last ∷ []))

-- The payloads of a group, and the units it is handed out as. Of a fragmented one: "the rebuilt top bit is set if any fragment of the unit had it
-- set" (E3).
abbrev pub group_of : Sent → Group (List ℕ) Units
group_of (aggregated head unit others) = record { first = stap_a head (unit ∷ others); others = []; handed = unit ∷ others }
group_of (alone unit) = record { first = unit; others = []; handed = unit ∷ [] }
group_of (fragmented head first between last) =
    record {
      first = fu_a head 128 first;
      others = map (fu_a head 0) between ++ (fu_a head 64 last ∷ []);
      handed = (top_bit (any_marked first between last) (head % 128) ∷ body first between last) ∷ [];
    }

-- of which the joiner knows this, where all of them carry the time t
abbrev pub known_group : ℕ → Group (List ℕ) Units → Group Known Units
known_group t g = record { first = known t g.first; others = map (known t) g.others; handed = g.handed }

abbrev pub groups_of : List Sent → List (Group (List ℕ) Units)
groups_of sents = map group_of sents

-- how many bytes are gathered of it: a fragmented unit "less one byte"
abbrev pub gathered_of : Sent → ℕ
gathered_of (aggregated head unit others) = 0
gathered_of (alone unit) = 0
gathered_of (fragmented head first between last) = length (body first between last)

-- no fragment is empty
abbrev pub NoneEmpty : List Fragment → Type 0
NoneEmpty = Each (λ (f : Fragment). 1 ≤ length f.part)

-- a unit that a payload can be: "of type 1 to 23, of 3 bytes or more"
pub record PlainUnit (u : List ℕ) : Type 0 where
  pub long : 3 ≤ length u
  pub type_low : 1 ≤ get_or u 0 0 % 32
  pub type_high : get_or u 0 0 % 32 ≤ 23

-- RFC 6184, section 5.2: a STAP-A is of type 24, whatever its F and NRI
abbrev pub Lawful : Sent → Type 0
Lawful (aggregated head unit others) = (head % 32 ≡ 24) × Sized (unit ∷ others)
Lawful (alone unit) = PlainUnit unit
Lawful (fragmented head first between last) = NoneEmpty (first ∷ between) × (1 ≤ length last.part)
