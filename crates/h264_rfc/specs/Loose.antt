-- Fragments that need not be those of one unit, by RFC 6184's figure of an FU-A (5.8). Assumes nothing.
use Rattle.std.specs.Prelude.{List, [], ◌∷◌, ◌++◌, map, ℕ, ◌+◌, ◌/◌, ◌%◌, ◌<◌, ◌≤◌, length, drop, get_or}
use Rattle.wire.specs.Packets.{joined}
use Rattle.rfc6184.specs.Sending.{Nal, octet, Part, Fragmented, fragment, body_of, Formed, FormedPart}
use Rattle.h264_rfc.specs.Reading.{Some}

-- a fragment: the unit whose F, NRI and type it bears, its Start bit, and its part
pub record Loose : Type 0 where
  pub of : Fragmented
  pub start : ℕ
  pub part : Part

-- its octets, with End bit e
abbrev pub loose_octets : ℕ → Loose → List ℕ
loose_octets e l = fragment l.of l.start e l.part

-- the fragment that a payload says by the figure; of the unit it tells F, NRI and type, and this one part
unfoldable pub loose_of : List ℕ → Loose
loose_of p =
    let part : Part = record { reserved = get_or p 1 0 / 32 % 2; octets = drop 2 p } in
    record {
      of = record { f = get_or p 0 0 / 128; nri = get_or p 0 0 / 32 % 4; type = get_or p 1 0 % 32; first = part; middle = []; last = part };
      start = get_or p 1 0 / 128;
      part = part;
    }

-- its fields fit into their bits, and it is not empty
pub record LooseFormed (l : Loose) : Type 0 where
  pub formed : Formed l.of.f l.of.nri l.of.type
  pub start_bit : l.start < 2
  pub part_formed : FormedPart l.part
  pub some : Some l.part
  -- "packets up to 65,535 bytes"
  pub short : 2 + length l.part.octets ≤ 65535

-- the parts of fragments, one behind the other
abbrev pub parts_of : List Loose → List ℕ
parts_of ls = joined (map (λ (l : Loose). l.part.octets) ls)

-- the first byte of a joined unit: "writes NRI and type from that packet"
abbrev pub head_from : Loose → ℕ
head_from l = octet 0 l.of.nri l.of.type

-- fragments ls without End bit, and behind them l with it: their payloads ..
abbrev pub loose_all : List Loose → Loose → List (List ℕ)
loose_all ls l = map (loose_octets 0) ls ++ (loose_octets 1 l ∷ [])

-- .. and the unit that is joined of them
abbrev pub loose_unit : List Loose → Loose → List ℕ
loose_unit ls l = head_from l ∷ (parts_of ls ++ l.part.octets)

-- the paper's limits, and room
pub record LooseRoom (gather : ℕ) (outs : ℕ → List ℕ) (ls : List Loose) (l : Loose) : Type 0 where
  -- 6: "the run over 16,777,215 bytes"
  pub run : length (loose_unit ls l) ≤ 16777216
  -- "Room: gather for the longest unit less one byte"
  pub gather_room : length (loose_unit ls l) ≤ gather + 1
  -- "output for the largest group as handed out, prefixes included"
  pub out_room : (i : ℕ) → 4 + length (loose_unit ls l) ≤ length (outs i)

-- the same unit in the same parts, with every Reserved bit clear: 5.8 has the receiver ignore it
abbrev pub bare : Part → Part
bare p = record { reserved = 0; octets = p.octets }

abbrev pub unreserved : Fragmented → Fragmented
unreserved g =
    record {
      f = g.f;
      nri = g.nri;
      type = g.type;
      first = bare g.first;
      middle = map bare g.middle;
      last = bare g.last;
    }

-- g's fragments where one between those `before` and those `after` is lost
abbrev pub without : Fragmented → List Part → List Part → Fragmented
without g before after =
    record { f = g.f; nri = g.nri; type = g.type; first = g.first; middle = before ++ after; last = g.last }

-- what is then joined of them: the unit without the lost part, with F clear
abbrev pub incomplete : Fragmented → List Part → List Part → Nal
incomplete g before after = record { f = 0; nri = g.nri; type = g.type; payload = body_of (without g before after) }

-- a unit with F set, as 5.8 has it of an incomplete one that is handed on
abbrev pub marked : Nal → Nal
marked u = record { f = 1; nri = u.nri; type = u.type; payload = u.payload }
