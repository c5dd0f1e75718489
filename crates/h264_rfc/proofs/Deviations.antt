-- Where the reader leaves RFC 6184, a theorem for each row of docs/DIFFERENCES.md: what it does with every such input, and where the RFC has no such
-- input, that no lawful sending has it. The rows' own inputs are computed in `Rows`. Assumes nothing.
use mathlib.Core.Path.{◌≡◌, refl, sym, ap, subst, ◌∙◌}
use mathlib.Core.Bool.{Bool}
use mathlib.Core.List.{List, [], ◌∷◌, ◌++◌, map, append-nil}
use Prim.Native.Nat.{ℕ, ◌+◌, ◌*◌, ◌%◌, ◌≤◌, ◌<◌}
use native.Mathlib.Omega.{arith}
use lib.ListN.{length, get_or, length-append}
use Rattle.error.specs.Refusal.{Refusal}
use Rattle.error.specs.Said.{refused}
use Rattle.wire.specs.Packets.{joined}
use Rattle.nal_read.specs.Kind.{Shape, short, unknown, shape}
use Rattle.nal.specs.Unpack.{sized_units}
use Rattle.nal.specs.Unpack as unpacking
use Rattle.nal.specs.Fed.{prefixed, Laid}
use Rattle.h264_packet.specs.Run.{run_of}
use Rattle.nal.specs.Ran.{RanOn}
use Rattle.nal.proofs.Unpacking.{Units}
use Rattle.nal_read.proofs.Shapes.{shape_short, shape_unknown}
use Rattle.rfc6184.specs.Sending.{Each, Nal, octet, octets_of, Part, Fragmented, single, fu_a, fragment, payloads_of, body_of, units_of, UnitType, Formed, FormedPart, FormedSending, Lawful}
use Rattle.rfc6184.proofs.Octets.{fields_of_octet}
use Rattle.h264.specs.Conformance.{cleared}
use Rattle.h264_packet.specs.Depacketize.{read_by, read_payload, depacketized}
use Rattle.h264_rfc.specs.Reading.{fresh, Hears, lastly, handed_as, Some, NoneEmpty, Room}
use Rattle.h264_rfc.specs.Loose.{Loose, loose_octets, LooseFormed, head_from, loose_all, loose_unit, LooseRoom, without, incomplete, marked}
use Rattle.h264_rfc.specs.Meaning.{Stray, Somewhere, Unsendable}
use Rattle.h264_rfc.proofs.Steps.{not_taken}
use Rattle.h264_rfc.proofs.Fragments.{gathers, hears_fragmented}
use Rattle.h264_rfc.proofs.Complete.{hears_units, read_aggregated}
use Rattle.h264_rfc.proofs.Unsendable.{both_unsendable, type_unsendable, stray_unsendable}

-- ---- 1. 5.8: F of the unit is carried in the FU indicator

-- the unit is handed out with F cleared, whatever its fragments have
pub f_lost : (avc : Bool) (gather : List ℕ) (outs : ℕ → List ℕ) (g : Fragmented) → FormedSending (fu_a g) → NoneEmpty g → Room avc (length gather) outs (fu_a g) →
    Hears depacketized avc (fresh gather) outs (payloads_of (fu_a g)) (lastly (payloads_of (fu_a g)) (handed_as avc (map cleared (units_of (fu_a g)))))
unfolding octets_of
f_lost avc gather outs g w some room = hears_fragmented g w avc gather outs some room

-- which is another unit where F is set
pub f_differs : (u : Nal) → u.f ≡ 1 → octets_of (cleared u) ≡ octets_of u → ⊥
unfolding octets_of octet
f_differs u f e =
    let b : 0 * 128 + u.nri * 32 + u.type ≡ u.f * 128 + u.nri * 32 + u.type = ap (λ (l : List ℕ). get_or l 0 0) e in
    omega arith

-- ---- 2. 5.8: Start and End are never both set

-- no lawful sending has such a fragment, and it is handed out as a whole unit
pub both_taken : (avc : Bool) (gather : List ℕ) (outs : ℕ → List ℕ) (g : Fragmented) (p : Part) →
    LooseFormed (record { of = g; start = 1; part = p }) → LooseRoom (length gather) outs [] (record { of = g; start = 1; part = p }) →
    Unsendable (fragment g 1 1 p)
    × Hears depacketized avc (fresh gather) outs (fragment g 1 1 p ∷ []) (prefixed avc ((octet 0 g.nri g.type ∷ p.octets) ∷ []) ∷ [])
both_taken avc gather outs g p w room =
    let l : Loose = record { of = g; start = 1; part = p } in (both_unsendable l w refl, gathers avc [] l gather outs tt w room)

-- ---- 3. 5.8: after a lost fragment the others of that unit are thrown away

each_without : (P : Part → Type 0) (before : List Part) (lost : Part) (after : List Part) → Each P (before ++ (lost ∷ after)) → Each P (before ++ after)
each_without P [] lost after w = w.1
each_without P (p ∷ before) lost after w = (w.0, each_without P before lost after w.1)

-- what is left is handed out as if it were the unit, with F clear
pub lost_joined : (avc : Bool) (gather : List ℕ) (outs : ℕ → List ℕ) (g : Fragmented) (before : List Part) (lost : Part) (after : List Part) →
    g.middle ≡ before ++ (lost ∷ after) → FormedSending (fu_a g) → NoneEmpty g → Room avc (length gather) outs (fu_a (without g before after)) →
    Hears depacketized avc (fresh gather) outs
    (fragment g 1 0 g.first ∷ (map (fragment g 0 0) (before ++ after) ++ (fragment g 0 1 g.last ∷ [])))
    (lastly (fragment g 1 0 g.first ∷ (map (fragment g 0 0) (before ++ after) ++ (fragment g 0 1 g.last ∷ [])))
    (handed_as avc (incomplete g before after ∷ [])))
unfolding fragment octets_of
lost_joined avc gather outs g before lost after e w some room =
    hears_fragmented (without g before after)
    (w.0, w.1, each_without FormedPart before lost after (rw e at w.2), w.3) avc gather outs
    (some.0, each_without Some before lost after (rw e at some.1), some.2) room

-- it is shorter by the lost part
pub lost_missing : (g : Fragmented) (before : List Part) (lost : Part) (after : List Part) → g.middle ≡ before ++ (lost ∷ after) →
    length (body_of g) ≡ length (body_of (without g before after)) + length lost.octets
lost_missing g before lost after e =
    let x : List ℕ = g.first.octets in
    let z : List ℕ = g.last.octets in
    let all : List ℕ = parts (before ++ (lost ∷ after)) in
    let few : List ℕ = parts (before ++ after) in
    let whole : length (body_of g) ≡ length x + (length all + length z) =
    ap (λ (l : List Part). length (x ++ (parts l ++ z))) e
    ∙ length-append x (all ++ z)
    ∙ ap (λ (n : ℕ). length x + n) (length-append all z) in
    let left : length (body_of (without g before after)) ≡ length x + (length few + length z) =
    length-append x (few ++ z) ∙ ap (λ (n : ℕ). length x + n) (length-append few z) in
    omega (arith, missing before)
  where
    parts : List Part → List ℕ
    parts ps = joined (map (λ (p : Part). p.octets) ps)

    missing : (ps : List Part) → length (parts (ps ++ (lost ∷ after))) ≡ length (parts (ps ++ after)) + length lost.octets
    missing [] = omega (arith, length-append lost.octets (parts after))
    missing (p ∷ ps) =
        omega (arith, missing ps, length-append p.octets (parts (ps ++ (lost ∷ after))), length-append p.octets (parts (ps ++ after)))

-- and it does not have F set, by which a receiver that hands an incomplete unit on has to mark it
pub lost_unmarked : (g : Fragmented) (before after : List Part) → octets_of (incomplete g before after) ≡ octets_of (marked (incomplete g before after)) → ⊥
lost_unmarked g before after e = f_differs (marked (incomplete g before after)) refl e

-- whatever fragments come, whatever their Start bits are: all parts are joined at the first End bit
pub start_ignored : (avc : Bool) (gather : List ℕ) (outs : ℕ → List ℕ) (ls : List Loose) (l : Loose) → Each LooseFormed ls → LooseFormed l →
    LooseRoom (length gather) outs ls l →
    Hears depacketized avc (fresh gather) outs (loose_all ls l) (lastly (loose_all ls l) (prefixed avc (loose_unit ls l ∷ [])))
start_ignored avc gather outs ls l v w room = gathers avc ls l gather outs v w room

-- ---- 4. 5.8: fragments of a unit follow each other, with no other packet between: `Kept.others_keep`, `refusals_keep`, `goes_on`

-- ---- 5. 5.8: all fragments of a unit bear its NRI and type

-- those of the fragment with the End bit count, and no other's
pub end_decides : (avc : Bool) (gather : List ℕ) (outs : ℕ → List ℕ) (x l : Loose) → LooseFormed x → LooseFormed l → LooseRoom (length gather) outs (x ∷ []) l →
    Hears depacketized avc (fresh gather) outs (loose_octets 0 x ∷ loose_octets 1 l ∷ [])
    ([] ∷ prefixed avc ((octet 0 l.of.nri l.of.type ∷ (x.part.octets ++ l.part.octets)) ∷ []) ∷ [])
end_decides avc gather outs x l v w room =
    subst (λ (b : List ℕ). Hears depacketized avc (fresh gather) outs (loose_octets 0 x ∷ loose_octets 1 l ∷ []) ([] ∷ prefixed avc ((head_from l ∷ (b ++ l.part.octets)) ∷ []) ∷ []))
    (append-nil x.part.octets)
    (gathers avc (x ∷ []) l gather outs (v, tt) w room)

-- ---- 6. 5.8: what is fragmented is a unit of type 1 to 23

-- no lawful sending has a fragment of another type, and it is handed out with that type
pub type_unjudged : (avc : Bool) (gather : List ℕ) (outs : ℕ → List ℕ) (l : Loose) → LooseFormed l → (UnitType l.of.type → ⊥) →
    LooseRoom (length gather) outs [] l →
    Unsendable (loose_octets 1 l)
    × Hears depacketized avc (fresh gather) outs (loose_octets 1 l ∷ []) (prefixed avc ((head_from l ∷ l.part.octets) ∷ []) ∷ [])
type_unjudged avc gather outs l w other room = (type_unsendable l 1 w other, gathers avc [] l gather outs tt w room)

-- ---- 7 and 8. 5.7, 5.7.1: an aggregation holds units of type 1 to 23, each with its first octet at least

-- no lawful sending has another one, and all that stands in it is handed out: an empty unit as its prefix alone
pub stray_taken : (avc : Bool) (gather : List ℕ) (outs : ℕ → List ℕ) (a : ℕ) (us : Units) → a % 32 ≡ 24 → unpacking.Sized us → Somewhere Stray us →
    length (a ∷ sized_units us) ≤ 65535 → length (prefixed avc us) ≤ length (outs 0) →
    Unsendable (a ∷ sized_units us) × Hears depacketized avc (fresh gather) outs ((a ∷ sized_units us) ∷ []) (prefixed avc us ∷ [])
stray_taken avc gather outs a us t z h few room =
    (stray_unsendable a us t z h, hears_units avc gather outs (a ∷ sized_units us) us (read_aggregated a us t (some us h) z) few room)
  where
    some : (vs : Units) → Somewhere Stray vs → 0 < length vs
    some [] s = absurd s
    some (v ∷ vs) s = omega arith

-- ---- refusals

module _ (avc : Bool) (n : ℕ) (gather out : List ℕ) (within : n ≤ length gather) (run : n ≤ 16777215) where
  -- a refusal changes nothing
  abbrev refusing : Refusal → Laid (RanOn ℕ)
  refusing r = record { answer = refused r; gather = gather; out = out }

  by_shape : (p : List ℕ) (s : Shape) (r : Refusal) → shape p ≡ s → read_by s (run_of n gather) p ≡ refused r → length p ≤ 65535 →
      depacketized avc n p gather out ≡ refusing r
  unfolding read_payload
  by_shape p s r e q few =
      not_taken avc n p gather out few within run r (ap (λ (x : Shape). read_by x (run_of n gather) p) e ∙ q)

  -- 9. 5.6: any one unit of type 1 to 23 can be a packet. One of one octet, and of two unless type 9, is 4
  pub short_refused : (u : Nal) → Lawful (single u) → length (octets_of u) ≤ 2 → (length (octets_of u) ≡ 2 → u.type ≡ 9 → ⊥) →
      depacketized avc n (octets_of u) gather out ≡ refusing (record { number = 4; carried = [] })
  unfolding octets_of
  short_refused u w h other =
      by_shape (octets_of u) short (record { number = 4; carried = [] })
      (shape_short (octets_of u) h (λ two nine. other two (sym (fields_of_octet u.f u.nri u.type w.formed).2 ∙ nine))) refl (omega arith)

  -- 10. 5.8: a fragment may be empty. It is 4
  pub empty_refused : (g : Fragmented) (s e r : ℕ) → Formed g.f g.nri g.type →
      depacketized avc n (fragment g s e (record { reserved = r; octets = [] })) gather out ≡ refusing (record { number = 4; carried = [] })
  unfolding fragment octet
  empty_refused g s e r w =
      by_shape (fragment g s e (record { reserved = r; octets = [] })) short (record { number = 4; carried = [] })
      (shape_short (fragment g s e (record { reserved = r; octets = [] })) (omega arith) (λ two nine. omega (arith, w.nri_bits))) refl (omega arith)

  -- 11. 5.7, 5.8: STAP-B, MTAP16, MTAP24 and FU-B, types 25, 26, 27 and 29, and the types that stand for nothing: 19, which carries the type
  pub structure_refused : (p : List ℕ) → 3 ≤ length p → length p ≤ 65535 → (get_or p 0 0 % 32 ≡ 24 → ⊥) → (get_or p 0 0 % 32 ≡ 28 → ⊥) →
      (UnitType (get_or p 0 0 % 32) → ⊥) → depacketized avc n p gather out ≡ refusing (record { number = 19; carried = get_or p 0 0 % 32 ∷ [] })
  structure_refused p h few no-stap no-fu no_unit =
      by_shape p (unknown (get_or p 0 0 % 32)) (record { number = 19; carried = get_or p 0 0 % 32 ∷ [] })
      (shape_unknown p h no-stap no-fu (λ low high. no_unit (record { low = low; high = high }))) refl few
