-- Readers that are shut out: two lawful headers that differ in one field must both be read, and be read differently; an id 15 must leave the rest of its
-- block to the payload; and whoever follows the four ways answers as ours. Assumes nothing.
use mathlib.Core.Path.{◌≡◌, refl, sym, ap, ◌∙◌}
use mathlib.Core.Bool.{Bool, false}
use mathlib.Core.List.{List, [], ◌∷◌, ◌++◌}
use mathlib.Core.Logic.{◌⊎◌, inl, inr}
use mathlib.Core.Option.{none}
use Prim.Native.Nat.{ℕ, ◌<◌}
use native.Mathlib.Omega.{arith}
use lib.ListN.{length}
use Rattle.error.specs.Refusal.{Refusal}
use Rattle.error.specs.Said.{Said, says, refused}
use Rattle.header.specs.Fields.{Fields}
use Rattle.header.specs.Read.{Reading, read_header}
use Rattle.wire.specs.Net.{be16, be32}
use Rattle.rfc3550.specs.Rfc3550.{Octets, fixed_octets, extension_octets, Begins, CutShort}
use Rattle.rfc3550.specs.Rfc3550 as rtp
use Rattle.rfc3550.specs.Rfc8285.{one_byte, Plan, Lawful, octets}
use Rattle.header_rfc.specs.Says.{fields_with, reading_said, Within, Over, Fits, Complete}
use Rattle.header_rfc.specs.Taken.{fifteen, Taken, packet_taken, reading_taken, TakenIn, Course, takes, elements_in, Follows}
use Rattle.header_rfc.proofs.Items.{within_or_over}
use Rattle.header_rfc.proofs.Courses.{every_course}
use Rattle.header_rfc.proofs.OneCourse.{begun}
use Rattle.header_rfc.proofs.Follows.{follows}

-- the shortest header, of a padding bit and a payload type
abbrev pub shortest : Bool → ℕ → Plan
shortest padding type =
    record {
      fixed = record {
        version = 2;
        padding = padding;
        marker = false;
        payload_type = type;
        sequence_number = 0;
        timestamp = 0;
        ssrc = 0;
        csrcs = [];
      };
      content = none;
    }

pub shortest_lawful : (padding : Bool) (type : ℕ) → type < 128 → Lawful (shortest padding type)
shortest_lawful padding type h =
    record {
      header = record {
        fixed = record {
          version = omega arith;
          payload_type = h;
          sequence_number = omega arith;
          timestamp = omega arith;
          ssrc = omega arith;
          count = omega arith;
          csrcs = tt;
        };
        extension = tt;
      };
      content = tt;
    }

shortest_fits : (type : ℕ) → Fits (octets (shortest false type) ++ [])
unfolding rtp.octets fixed_octets be16 be32
shortest_fits type = omega arith

-- a complete reader reads the shortest header
read_shortest : (read : List ℕ → Said Reading) → Complete read → (type : ℕ) → type < 128 →
    read (octets (shortest false type) ++ []) ≡ says (reading_said (shortest false type))
read_shortest read c type h =
    c.within (shortest false type) [] (shortest_lawful false type h) tt (shortest_fits type) (record { few = omega arith; small = omega arith })

-- "a reader that refuses all"
pub no_refuser : (why : List ℕ → Refusal) → Complete (λ (s : List ℕ). refused (why s)) → ⊥
no_refuser why c =
    let e : refused (why (octets (shortest false 0) ++ [])) ≡ says (reading_said (shortest false 0)) = read_shortest (λ s. refused (why s)) c 0 (omega arith) in
    let z : ◌≡◌ {A = ℕ} 0 1 = cc in
    omega arith

-- "one fixed record for every packet"
pub no_fixed_record : (f : Fields) (read : List ℕ → Said Reading) → ((s : List ℕ) (r : Reading) → read s ≡ says r → r.fields ≡ f) → Complete read → ⊥
unfolding fields_with
no_fixed_record f read always c =
    let zero_type : 0 ≡ f.type =
    ap (λ (g : Fields). g.type) (always (octets (shortest false 0) ++ []) (reading_said (shortest false 0)) (read_shortest read c 0 (omega arith))) in
    let one_type : 1 ≡ f.type =
    ap (λ (g : Fields). g.type) (always (octets (shortest false 1) ++ []) (reading_said (shortest false 1)) (read_shortest read c 1 (omega arith))) in
    omega arith

-- ---- readers that follow the four ways

-- whoever does answers as ours, wherever the octets are not cut short
pub one_reader : (read : List ℕ → Said Reading) → Follows read → (s : List ℕ) → Octets s → Fits s → (CutShort s → ⊥) → read s ≡ read_header s
one_reader read f s o fits whole = go (every_course s o)
  where
    judged : (c : Course s) → Within (elements_in c) ⊎ Over (elements_in c) → read s ≡ read_header s
    judged c (inl w) = f.within s c fits w ∙ sym (follows.within s c fits w)
    judged c (inr over) = f.over s c fits over ∙ sym (follows.over s c fits over)

    go : Course s ⊎ CutShort s → read s ≡ read_header s
    go (inl c) = judged c (within_or_over (elements_in c))
    go (inr c) = absurd (whole c)

-- the shortest header with an id 15, and three octets behind it in the block
at_fifteen : Taken
at_fifteen = record { fixed = (shortest false 0).fixed; form = one_byte; items = []; ending = fifteen 0 (0 ∷ 0 ∷ 0 ∷ []) }

at_fifteen_in : TakenIn (packet_taken at_fifteen [])
unfolding at_fifteen
at_fifteen_in =
    record {
      taken = at_fifteen;
      lawful = record {
        header = record {
          fixed = (shortest_lawful false 0 (omega arith)).header.fixed;
          extension = record { profile = omega arith; words = omega arith; content = refl };
        };
        plain = tt;
        items = tt;
        ending = omega arith;
      };
      after = [];
      same = refl;
    }

-- "A reader that skips to the block's end at id 15", and every other whose payload is always that of RFC 3550
pub no_skipper : (read : List ℕ → Said Reading) → ((s : List ℕ) (b : Begins s) (r : Reading) → read s ≡ says r → r.place ≡ length (rtp.octets b.plan)) →
    Follows read → ⊥
unfolding at_fifteen at_fifteen_in rtp.octets fixed_octets extension_octets be16 be32
no_skipper read skips f =
    let s : List ℕ = packet_taken at_fifteen [] in
    let place : ◌≡◌ {A = ℕ} 17 20 =
    skips s (begun (takes at_fifteen_in)) (reading_taken at_fifteen)
    (f.within s (takes at_fifteen_in) (omega arith) (record { few = omega arith; small = omega arith })) in
    omega arith
