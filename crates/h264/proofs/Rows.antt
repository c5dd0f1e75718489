-- The smallest inputs of the sender's rows in docs/DIFFERENCES.md, section "RFC 6184", as they compute, and what the RFC has where that is another
-- packet. Assumes nothing.
use mathlib.Core.Path.{◌≡◌, refl}
use mathlib.Core.List.{List, [], ◌∷◌, ◌++◌, map}
use Prim.Native.Nat.{ℕ}
use native.Mathlib.Omega.{arith}
use lib.ListN.{take, replicate}
use borrow.Author.Rules.{rules}
use Rattle.error.specs.Said.{Said, says, refused, refuse}
use Rattle.wire.specs.Net.{be16}
use Rattle.wire.specs.Packets.{whole, cut}
use Rattle.wire.specs.Part.{splice, pad_to}
use Rattle.rfc6184.specs.Sending as rfc
use Rattle.rfc6184.specs.Sending.{Each, Sending, octet, octets_of, payloads_of, Lawful}
use Rattle.annexb.specs.Units.{units, units_at}
use Rattle.h264_put.specs.Groups.{nothing_saved, keep, stap_a, pair_for, unit_for, groups_for, fragment}
use Rattle.h264.specs.declared.send.H264Payloader.{H264Payloader}
use Rattle.h264.specs.declared.send.Written.{Written}
use Rattle.h264.specs.Payload.{lay_out, Left, payload_of}
use Rattle.h264.specs.Conformance.{nal, part}

-- units, each behind a start code
abbrev behind : List (List ℕ) → List ℕ
behind [] = []
behind (u ∷ us) = 0 ∷ 0 ∷ 1 ∷ (u ++ behind us)

-- what a call says: the packets, or the refusal
abbrev said_in : Said Written → List ℕ → List ℕ → Said (List (List ℕ))
said_in (says n) out ends = says (cut out 0 (take n.packets ends))
said_in (refused why) out ends = refused why

-- frames one after the other, where there is room for 16 bytes and 4 packets
abbrev calls : ℕ → H264Payloader → List (List ℕ) → List (Said (List (List ℕ)))
calls mtu h [] = []
calls mtu h (frame ∷ frames) =
    let l : Left = payload_of h mtu frame (replicate 16 0) (replicate 4 0) in
    said_in l.answer l.out l.ends ∷ calls mtu l.sender frames

-- an mtu, frames, and what is said of each by a sender that was fresh before the first
abbrev Row : Type 0
Row = ℕ × List (List ℕ) × List (Said (List (List ℕ)))

pub table : List Row
table =
    -- 1. 5.7: a pair of NRI 1
    (
      7,
      behind ((0x27 ∷ []) ∷ (0x28 ∷ []) ∷ (0x41 ∷ []) ∷ []) ∷ [],
      says ((0x78 ∷ 0 ∷ 1 ∷ 0x27 ∷ 0 ∷ 1 ∷ 0x28 ∷ []) ∷ (0x41 ∷ []) ∷ []) ∷ [],
    )
    -- 2. 5.7: a pair of which one has F set
    ∷ (
      7,
      behind ((0xE7 ∷ []) ∷ (0x68 ∷ []) ∷ (0x41 ∷ []) ∷ []) ∷ [],
      says ((0x78 ∷ 0 ∷ 1 ∷ 0xE7 ∷ 0 ∷ 1 ∷ 0x68 ∷ []) ∷ (0x41 ∷ []) ∷ []) ∷ [],
    )
    -- 3. 5.8: a unit with F set, in fragments
    ∷ (
      3,
      (0xE5 ∷ 0x11 ∷ 0x22 ∷ 0x33 ∷ []) ∷ [],
      says ((0x7C ∷ 0x85 ∷ 0x11 ∷ []) ∷ (0x7C ∷ 0x05 ∷ 0x22 ∷ []) ∷ (0x7C ∷ 0x45 ∷ 0x33 ∷ []) ∷ []) ∷ [],
    )
    -- 4. 5.6: an end of sequence is sent
    ∷ (1, (0x0A ∷ []) ∷ [], says ((0x0A ∷ []) ∷ []) ∷ [])
    -- 5. 5.2: types 24 and 0 are sent as units
    ∷ (1, (0x18 ∷ []) ∷ [], says ((0x18 ∷ []) ∷ []) ∷ [])
    ∷ (3, (0x00 ∷ 0x01 ∷ 0x02 ∷ []) ∷ [], says ((0x00 ∷ 0x01 ∷ 0x02 ∷ []) ∷ []) ∷ [])
    -- 6. 5.6: an access unit delimiter and filler are dropped
    ∷ (2, (0x09 ∷ 0x10 ∷ []) ∷ (0x0C ∷ 0x80 ∷ []) ∷ [], says [] ∷ says [] ∷ [])
    -- 7. 5.6: sets alone wait, and a pair that does not fit is forgotten
    ∷ (
      6,
      behind ((0x67 ∷ []) ∷ (0x68 ∷ []) ∷ []) ∷ (0x41 ∷ []) ∷ (0x41 ∷ []) ∷ [],
      says [] ∷ says ((0x41 ∷ []) ∷ []) ∷ says ((0x41 ∷ []) ∷ []) ∷ [],
    )
    ∷ (6, behind ((0x67 ∷ []) ∷ (0x68 ∷ []) ∷ (0x41 ∷ []) ∷ []) ∷ [], says ((0x41 ∷ []) ∷ []) ∷ [])
    -- 8. 5.6: of two picture parameter sets the later one is sent
    ∷ (
      8,
      behind ((0x67 ∷ []) ∷ (0x68 ∷ 1 ∷ []) ∷ (0x68 ∷ 2 ∷ []) ∷ (0x41 ∷ []) ∷ []) ∷ [],
      says ((0x78 ∷ 0 ∷ 1 ∷ 0x67 ∷ 0 ∷ 2 ∷ 0x68 ∷ 2 ∷ []) ∷ (0x41 ∷ []) ∷ []) ∷ [],
    )
    -- 9. 6.3: a set that waits for the other is passed by a coded unit
    ∷ (
      7,
      behind ((0x67 ∷ []) ∷ (0x41 ∷ []) ∷ (0x68 ∷ []) ∷ (0x65 ∷ []) ∷ []) ∷ [],
      says ((0x41 ∷ []) ∷ (0x78 ∷ 0 ∷ 1 ∷ 0x67 ∷ 0 ∷ 1 ∷ 0x68 ∷ []) ∷ (0x65 ∷ []) ∷ []) ∷ [],
    )
    ∷ (
      7,
      behind ((0x68 ∷ []) ∷ (0x41 ∷ []) ∷ (0x67 ∷ []) ∷ (0x65 ∷ []) ∷ []) ∷ [],
      says ((0x41 ∷ []) ∷ (0x78 ∷ 0 ∷ 1 ∷ 0x67 ∷ 0 ∷ 1 ∷ 0x68 ∷ []) ∷ (0x65 ∷ []) ∷ []) ∷ [],
    )
    -- 10. 6.3: the sequence parameter set goes first
    ∷ (
      7,
      behind ((0x68 ∷ []) ∷ (0x67 ∷ []) ∷ (0x41 ∷ []) ∷ []) ∷ [],
      says ((0x78 ∷ 0 ∷ 1 ∷ 0x67 ∷ 0 ∷ 1 ∷ 0x68 ∷ []) ∷ (0x41 ∷ []) ∷ []) ∷ [],
    )
    -- 11. 5.7: sets of two frames in one STAP-A
    ∷ (
      7,
      behind ((0x67 ∷ []) ∷ (0x41 ∷ []) ∷ []) ∷ behind ((0x68 ∷ []) ∷ (0x41 ∷ []) ∷ []) ∷ [],
      says ((0x41 ∷ []) ∷ []) ∷ says ((0x78 ∷ 0 ∷ 1 ∷ 0x67 ∷ 0 ∷ 1 ∷ 0x68 ∷ []) ∷ (0x41 ∷ []) ∷ []) ∷ [],
    )
    -- 12. 5.7.1: a set of 1,025 bytes
    ∷ (1, behind ((0x67 ∷ replicate 1024 0xAA) ∷ []) ∷ [], refuse 7 ∷ [])
    -- 13. 5.8: under mtu 3 a unit that does not fit is dropped
    ∷ (1, (0x65 ∷ 0x01 ∷ []) ∷ [], says [] ∷ [])
    -- 14. Annex B: zeros at the frame's end
    ∷ (3, behind ((0x41 ∷ 0 ∷ 0 ∷ []) ∷ []) ∷ [], says ((0x41 ∷ 0 ∷ 0 ∷ []) ∷ []) ∷ [])
    ∷ []

pub sender_rows : map (λ (row : Row). calls row.0 (lay_out nothing_saved) row.1) table ≡ map (λ (row : Row). row.2) table
unfolding table payload_of units units_at keep stap_a pair_for unit_for groups_for fragment whole splice pad_to be16
sender_rows = refl

-- ---- what the RFC has in 1, 2 and 3

-- a lawful sending of the same units, and its payloads
abbrev Has : Sending × List (List ℕ) → Type 0
Has row = Lawful row.0 × (payloads_of row.0 ≡ row.1)

pub rfc_table : List (Sending × List (List ℕ))
rfc_table =
    (rfc.stap_a 0 1 (nal (0x27 ∷ []) ∷ nal (0x28 ∷ []) ∷ []), (0x38 ∷ 0 ∷ 1 ∷ 0x27 ∷ 0 ∷ 1 ∷ 0x28 ∷ []) ∷ [])
    ∷ (rfc.stap_a 1 3 (nal (0xE7 ∷ []) ∷ nal (0x68 ∷ []) ∷ []), (0xF8 ∷ 0 ∷ 1 ∷ 0xE7 ∷ 0 ∷ 1 ∷ 0x68 ∷ []) ∷ [])
    ∷ (
      rfc.fu_a (record { f = 1; nri = 3; type = 5; first = part (0x11 ∷ []); middle = part (0x22 ∷ []) ∷ []; last = part (0x33 ∷ []) }),
      (0xFC ∷ 0x85 ∷ 0x11 ∷ []) ∷ (0xFC ∷ 0x05 ∷ 0x22 ∷ []) ∷ (0xFC ∷ 0x45 ∷ 0x33 ∷ []) ∷ [],
    )
    ∷ []

pub rfc_rows : Each Has rfc_table
unfolding rfc_table octet octets_of rfc.fragment be16
rfc_rows = (
  (
    record {
      formed = (search rules, omega arith, (search rules, (search rules, tt)));
      rules = (refl, refl, (search rules, (search rules, tt)));
    },
    refl,
  ),
  (
    (
      record {
        formed = (search rules, omega arith, (search rules, (search rules, tt)));
        rules = (refl, refl, (search rules, (search rules, tt)));
      },
      refl,
    ),
    (
      (record { formed = (search rules, omega arith, (omega arith, tt), omega arith); rules = (search rules, refl, (refl, tt), refl) }, refl),
      tt,
    ),
  ),
)
