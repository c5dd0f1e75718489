-- The smallest inputs of docs/DIFFERENCES.md, as they compute, and lawful sendings of those that are refused. Assumes nothing.
use mathlib.Core.Path.{◌≡◌, refl}
use mathlib.Core.Bool.{false}
use mathlib.Core.List.{List, [], ◌∷◌, map}
use Prim.Native.Nat.{ℕ}
use native.Mathlib.Omega.{arith}
use lib.ListN.{take, replicate}
use Rattle.error.specs.Said.{Said, says, refused, refuse}
use Rattle.wire.specs.Part.{splice}
use Rattle.wire.specs.Turns.{run}
use Rattle.nal_read.specs.Kind.{shape}
use Rattle.nal_read.specs.Unpack.{unpack}
use Rattle.nal.specs.Unpack.{unpack_turn}
use Rattle.nal.specs.Unpack as unpacking
use Rattle.nal.specs.Fed.{lay_bytes, Laid, lay_both}
use Rattle.nal.specs.Ran.{RanOn}
use Rattle.rfc6184.specs.Sending.{Nal, octet, octets_of, Fragmented, single, fu_a, fragment, payloads_of, Lawful}
use Rattle.h264_packet.specs.Depacketize.{read_payload, depacketized}
use Rattle.h264_rfc.specs.Reading.{fresh, calls}

-- what a call says: the bytes handed out, or the refusal
abbrev said_in : Said (RanOn ℕ) → List ℕ → Said (List ℕ)
said_in (says r) out = says (take r.bytes out)
said_in (refused why) out = refused why

-- the payloads fed in order, as Annex B
abbrev fed : List (List ℕ) → List (Said (List ℕ))
fed ps = map (λ (l : Laid (RanOn ℕ)). said_in l.answer l.out) (calls depacketized false (fresh (replicate 8 0)) (λ i. replicate 16 0) ps)

-- a unit behind its start code
abbrev unit : List ℕ → Said (List ℕ)
unit u = says (0 ∷ 0 ∷ 0 ∷ 1 ∷ u)

-- payloads, and what is said of each
pub table : List (List (List ℕ) × List (Said (List ℕ)))
table =
    -- 1. F set in both fragments
    (
      (0xFC ∷ 0x85 ∷ 0x11 ∷ []) ∷ (0xFC ∷ 0x45 ∷ 0x22 ∷ []) ∷ [],
      says [] ∷ unit (0x65 ∷ 0x11 ∷ 0x22 ∷ []) ∷ [],
    )
    -- 2. Start and End both set
    ∷ ((0x7C ∷ 0xC5 ∷ 0x11 ∷ []) ∷ [], unit (0x65 ∷ 0x11 ∷ []) ∷ [])
    -- 3. the middle one lost; F stays clear, where the RFC has it set on an incomplete unit that is handed on
    ∷ (
      (0x7C ∷ 0x85 ∷ 0x11 ∷ []) ∷ (0x7C ∷ 0x45 ∷ 0x33 ∷ []) ∷ [],
      says [] ∷ unit (0x65 ∷ 0x11 ∷ 0x33 ∷ []) ∷ [],
    )
    -- 4. a plain unit between the fragments; then a STAP-A and a refused one too
    ∷ (
      (0x7C ∷ 0x85 ∷ 0x11 ∷ []) ∷ (0x41 ∷ 1 ∷ 2 ∷ []) ∷ (0x7C ∷ 0x45 ∷ 0x22 ∷ []) ∷ [],
      says [] ∷ unit (0x41 ∷ 1 ∷ 2 ∷ []) ∷ unit (0x65 ∷ 0x11 ∷ 0x22 ∷ []) ∷ [],
    )
    ∷ (
      (0x7C ∷ 0x85 ∷ 0x11 ∷ []) ∷ (0x41 ∷ 1 ∷ 2 ∷ []) ∷ (0x18 ∷ 0 ∷ 1 ∷ 0x41 ∷ []) ∷ (0x0A ∷ []) ∷ (0x7C ∷ 0x45 ∷ 0x22 ∷ []) ∷ [],
      says [] ∷ unit (0x41 ∷ 1 ∷ 2 ∷ []) ∷ unit (0x41 ∷ []) ∷ refuse 4 ∷ unit (0x65 ∷ 0x11 ∷ 0x22 ∷ []) ∷ [],
    )
    -- 5. the end fragment has another NRI and type
    ∷ (
      (0x7C ∷ 0x85 ∷ 0x11 ∷ []) ∷ (0x5C ∷ 0x41 ∷ 0x22 ∷ []) ∷ [],
      says [] ∷ unit (0x41 ∷ 0x11 ∷ 0x22 ∷ []) ∷ [],
    )
    -- 6. a fragment of type 24
    ∷ ((0x7C ∷ 0x58 ∷ 0x11 ∷ []) ∷ [], unit (0x78 ∷ 0x11 ∷ []) ∷ [])
    -- 7. a STAP-A that holds type 28
    ∷ ((0x18 ∷ 0 ∷ 1 ∷ 0x1C ∷ []) ∷ [], unit (0x1C ∷ []) ∷ [])
    -- 8. a size of 0
    ∷ ((0x18 ∷ 0 ∷ 0 ∷ []) ∷ [], unit [] ∷ [])
    -- 9. an end of sequence, and filler of two bytes
    ∷ ((0x0A ∷ []) ∷ (0x0C ∷ 0x80 ∷ []) ∷ [], refuse 4 ∷ refuse 4 ∷ [])
    -- 10. an empty fragment
    ∷ ((0x1C ∷ 0x85 ∷ []) ∷ [], refuse 4 ∷ [])
    -- 11. STAP-B, MTAP16, MTAP24, FU-B
    ∷ (
      (0x19 ∷ 0 ∷ 0 ∷ []) ∷ (0x1A ∷ 0 ∷ 0 ∷ []) ∷ (0x1B ∷ 0 ∷ 0 ∷ []) ∷ (0x1D ∷ 0 ∷ 0 ∷ []) ∷ [],
      refused (record { number = 19; carried = 25 ∷ [] })
          ∷ refused (record { number = 19; carried = 26 ∷ [] })
          ∷ refused (record { number = 19; carried = 27 ∷ [] })
          ∷ refused (record { number = 19; carried = 29 ∷ [] })
          ∷ [],
    )
    ∷ []

pub rows : map (λ (row : List (List ℕ) × List (Said (List ℕ))). fed row.0) table ≡ map (λ (row : List (List ℕ) × List (Said (List ℕ))). row.1) table
unfolding table depacketized read_payload shape unpack unpacking.unpack unpack_turn run lay_both lay_bytes splice
rows = refl

-- ---- 9 and 10 are lawful

abbrev end_of_sequence : Nal
end_of_sequence = record { f = 0; nri = 0; type = 10; payload = [] }

pub end_lawful : Lawful (single end_of_sequence) × (octets_of end_of_sequence ≡ 0x0A ∷ [])
unfolding octets_of octet
end_lawful = (
  record {
    formed = record { f_bit = omega arith; nri_bits = omega arith; type_bits = omega arith };
    rules = record { low = omega arith; high = omega arith };
  },
  refl,
)

-- a unit of two octets, the first fragment without its octet
abbrev empty_first : Fragmented
empty_first =
    record {
      f = 0;
      nri = 0;
      type = 5;
      first = record { reserved = 0; octets = [] };
      middle = [];
      last = record { reserved = 0; octets = 0x11 ∷ [] };
    }

pub empty_lawful : Lawful (fu_a empty_first) × (payloads_of (fu_a empty_first) ≡ (0x1C ∷ 0x85 ∷ []) ∷ (0x1C ∷ 0x45 ∷ 0x11 ∷ []) ∷ [])
unfolding fragment octet
empty_lawful = (
  record {
    formed = (
      record { f_bit = omega arith; nri_bits = omega arith; type_bits = omega arith },
      omega arith,
      tt,
      omega arith,
    );
    rules = (record { low = omega arith; high = omega arith }, refl, tt, refl);
  },
  refl,
)
