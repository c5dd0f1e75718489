-- SOUND, call by call: an accepted payload passed the definition's tests, and the octets that they look at are those of the RFC's figures. Assumes nothing.
use mathlib.Core.Path.{◌≡◌, refl, sym, ap, ap₂, subst, ◌∙◌}
use mathlib.Core.Bool.{Bool, true, false, cond}
use mathlib.Core.List.{List, [], ◌∷◌, ◌++◌, map, append-nil, append_assoc}
use mathlib.Core.Logic.{◌⊎◌, inl, inr}
use Prim.Native.Nat.{ℕ, zero, suc, ◌+◌, ◌*◌, ◌/◌, ◌%◌, ◌≤◌, ◌<◌}
use native.Mathlib.Decide.{dec_le}
use native.Mathlib.Nat.{lt_of_not-le}
use native.Mathlib.Omega.{arith}
use lib.Dec.{ltb}
use lib.ListN.{length, take, drop, get_or, length-map, take-append-drop}
use lib.Seq.{length-take-le}
use borrow.Author.Tests.{ltb-false, eqb-true, eqb-false}
use Rattle.error.specs.Said.{Said, says, refused}
use Rattle.wire.specs.Net.{be16, bit}
use Rattle.wire.specs.Turns.{more, done, after, run}
use Rattle.wire.proofs.Net.{be16_of_u16}
use Rattle.wire.proofs.Part.{part_of_splice}
use Rattle.nal_read.specs.Kind.{Shape, short, unknown, plain, aggregate, shape}
use Rattle.nal_read.specs.Kind as kind
use Rattle.nal_read.specs.Unpack.{unpack}
use Rattle.nal.specs.Unpack.{right, past, lone, Unpacking, unpack_turn, sized_units}
use Rattle.nal.specs.Unpack as unpacking
use Rattle.nal.specs.Fed.{Fed, prefixed, Laid}
use Rattle.nal.specs.Ran.{RanOn, lay_run}
use Rattle.error.proofs.Refusing.{not_says}
use Rattle.nal.proofs.Running.{run_beside}
use Rattle.nal.proofs.Unpacking.{Units, past_not_right, lone_not_right}
use Rattle.nal_read.proofs.Stap.{sizes_right}
use Rattle.nal_read.proofs.Shapes.{Facts, PlainFacts, FragmentFacts, told}
use Rattle.rfc6184.specs.Sending.{Each, Nal, octet, octets_of, nal_of, fragment, UnitType, Sized}
use Rattle.rfc6184.proofs.Octets.{formed_fields, octets_of_nal}
use Rattle.h264.specs.Conformance.{Octets}
use Rattle.h264_packet.specs.Run.{Run, gathered, run_of, recorded, ongoing, finished}
use Rattle.h264_packet.specs.Depacketize.{beside, gathered_on, read_by, read_payload, depacketized}
use Rattle.h264_packet.proofs.Depacketizing.{gathered_run, length_run, by_domain}
use Rattle.h264_rfc.specs.Reading.{gathered_then, handed_by}
use Rattle.h264_rfc.specs.Loose.{loose_octets, loose_of, LooseFormed, head_from}
use Rattle.h264_rfc.specs.Meaning.{SingleUnit, InnerUnit, Inner, a_unit, stray, Stray, Somewhere, Aggregation, AsSent, RunKept, Means, unit_alone, units_together, part_gathered, unit_joined}
use Rattle.h264_rfc.proofs.Complete.{aggregated_sized}
use Rattle.h264_rfc.proofs.Runs.{each_or_some, fragment_kind}
use Rattle.h264_rfc.proofs.Steps.{laid, Fits, laid_run, fits_if, handed_laid}

-- ---- a single unit

single_unit : (p : List ℕ) → Octets p → PlainFacts p → SingleUnit p
single_unit [] o k = absurd (empty k.long)
  where
    empty : (3 ≤ 0) ⊎ ((◌≡◌ {A = ℕ} 0 2) × (0 % 32 ≡ 9)) → ⊥
    empty (inl h) = omega arith
    empty (inr h) = omega (arith, h.0)
single_unit (b ∷ s) o k =
    let same : octets_of (nal_of b s) ≡ b ∷ s = octets_of_nal b s o.0 in
    let t : UnitType (b % 32) = record { low = k.low; high = k.high } in
    record {
      unit = nal_of b s;
      lawful = record { formed = formed_fields b o.0; rules = t };
      taken =
          record {
            type = t;
            long = subst (λ (l : List ℕ). (3 ≤ length l) ⊎ ((length l ≡ 2) × (b % 32 ≡ 9))) (sym same) k.long;
          };
      octets = sym same;
    }

-- ---- an aggregation

-- what stands behind a size
inner : (u : List ℕ) → length u < 65536 → Octets u → Inner u
inner [] small o = stray (inl refl)
inner (b ∷ s) small o = by (dec_le 1 (b % 32)) (dec_le (b % 32) 23)
  where
    same : octets_of (nal_of b s) ≡ b ∷ s
    same = octets_of_nal b s o.0

    by : Dec (1 ≤ b % 32) → Dec (b % 32 ≤ 23) → Inner (b ∷ s)
    by (yes h) (yes g) =
        a_unit
        (record {
          unit = nal_of b s;
          sized = record { formed = formed_fields b o.0; size = rw same small };
          type = record { low = h; high = g };
          octets = sym same;
        })
    by (yes h) (no g) = stray (inr (λ t. g t.high))
    by (no h) g = stray (inr (λ t. h t.low))

octets_drop : (n : ℕ) (s : List ℕ) → Octets s → Octets (drop n s)
octets_drop zero s o = o
octets_drop (suc n) [] o = tt
octets_drop (suc n) (b ∷ s) o = octets_drop n s o.1

octets_take : (n : ℕ) (s : List ℕ) → Octets s → Octets (take n s)
octets_take zero s o = tt
octets_take (suc n) [] o = tt
octets_take (suc n) (b ∷ s) o = (o.0, octets_take n s o.1)

-- the rest is the octets of the units still to come
record Ahead (rest : List ℕ) (units all : Units) : Type 0 where
  others : Units
  are : all ≡ units ++ others
  octets : rest ≡ sized_units others
  kinds : Each Inner others

ahead : (fuel : ℕ) (rest : List ℕ) (units all : Units) → Octets rest →
    run unpack_turn lone fuel (record { rest = rest; units = units }) ≡ right all → Ahead rest units all
unfolding run unpack_turn
ahead zero rest units all o e = absurd (lone_not_right e)
ahead (suc fuel) [] units all o e =
    let same : units ≡ all = cc in
    record { others = []; are = sym same ∙ sym (append-nil units); octets = refl; kinds = tt }
ahead (suc fuel) (a ∷ []) units all o e = absurd (lone_not_right e)
ahead (suc fuel) (a ∷ b ∷ rest) units all o e =
    go (ltb (length rest) (a * 256 + b)) refl e
    (ahead fuel (drop (a * 256 + b) rest) (units ++ (take (a * 256 + b) rest ∷ [])) all (octets_drop (a * 256 + b) rest o.1.1))
  where
    n : ℕ
    n = a * 256 + b

    on : Unpacking
    on = record { rest = drop n rest; units = units ++ (take n rest ∷ []) }

    longer : n ≤ length rest → Ahead (drop n rest) (units ++ (take n rest ∷ [])) all → Ahead (a ∷ b ∷ rest) units all
    longer fits i =
        let m : length (take n rest) ≡ n = length-take-le n rest fits in
        let ha : a < 256 = o.0 in
        let hb : b < 256 = o.1.0 in
        record {
          others = take n rest ∷ i.others;
          are = i.are ∙ append_assoc units (take n rest ∷ []) i.others;
          octets =
              sym
              (ap (λ (k : ℕ). be16 k ++ (take n rest ++ sized_units i.others)) m
              ∙ ap₂ (λ (x y : List ℕ). x ++ (take n rest ++ y)) (be16_of_u16 a b ha hb) (sym i.octets)
              ∙ ap (λ (l : List ℕ). a ∷ b ∷ l) (take-append-drop n rest));
          kinds = (inner (take n rest) (omega arith) (octets_take n rest o.1.1), i.kinds);
        }

    go : (t : Bool) → ltb (length rest) n ≡ t →
        after (cond t (done (past n (length rest))) (more on)) (run unpack_turn lone fuel) ≡ right all →
        (run unpack_turn lone fuel on ≡ right all → Ahead (drop n rest) (units ++ (take n rest ∷ [])) all) → Ahead (a ∷ b ∷ rest) units all
    go true q f rec = absurd (past_not_right f)
    go false q f rec = longer (ltb-false (length rest) n q) (rec f)

aggregation : (p : List ℕ) (units : Units) → Octets p → length p ≤ 65535 → (3 ≤ length p) × (get_or p 0 0 % 32 ≡ 24) → unpack p ≡ says units → Aggregation p units
unfolding unpacking.unpack octet
aggregation [] units o h k e = absurd (omega (arith, k.0))
aggregation (a ∷ s) units o h k e =
    let i : Ahead s [] units = ahead (length s + 1) s [] units o.1 (sizes_right (a ∷ s) units e) in
    let all : s ≡ sized_units units = i.octets ∙ ap sized_units (sym i.are) in
    let ha : a < 256 = o.0 in
    let t : a % 32 ≡ 24 = k.1 in
    let head : a ≡ a / 128 * 128 + a / 32 % 4 * 32 + 24 = omega arith in
    record {
      f = a / 128;
      nri = a / 32 % 4;
      formed = record { f_bit = omega arith; nri_bits = omega arith; type_bits = omega arith };
      some = some units all;
      inner = subst (Each Inner) (sym i.are) i.kinds;
      octets = ap₂ (λ (x : ℕ) (l : List ℕ). x ∷ l) head all;
    }
  where
    some : (us : Units) → s ≡ sized_units us → 0 < length us
    some [] q = absurd (omega (arith, k.0, ap length q))
    some (u ∷ us) q = omega arith

-- the units of an aggregation, as long as none strays
all_units : (us : Units) → Each InnerUnit us →
    (ns : List Nal) × (us ≡ map octets_of ns) × Each Sized ns × Each (λ (u : Nal). UnitType u.type) ns
all_units [] w = ([], refl, tt, tt)
all_units (u ∷ us) w =
    let i = all_units us w.1 in (
      w.0.unit ∷ i.0,
      ap₂ (λ (x : List ℕ) (l : Units). x ∷ l) w.0.octets i.1,
      (w.0.sized, i.2),
      (w.0.type, i.3),
    )

none_or_some : (us : Units) → Each Inner us → Each InnerUnit us ⊎ Somewhere Stray us
none_or_some us w = each_or_some Inner InnerUnit Stray by us w
  where
    by : (u : List ℕ) → Inner u → InnerUnit u ⊎ Stray u
    by u (a_unit h) = inl h
    by u (stray h) = inr h

-- an aggregation that is taken is an STAP-A by the RFC, or strays somewhere
pub as_sent_or_strays : (p : List ℕ) (us : Units) → Aggregation p us → AsSent p us ⊎ Somewhere Stray us
as_sent_or_strays p us a = by (none_or_some us a.inner)
  where
    by : Each InnerUnit us ⊎ Somewhere Stray us → AsSent p us ⊎ Somewhere Stray us
    by (inr h) = inr h
    by (inl w) =
        let i = all_units us w in
        let many : length us ≡ length i.0 = ap length i.1 ∙ length-map i.0 octets_of in
        inl
        (record {
          f = a.f;
          nri = a.nri;
          nals = i.0;
          formed = (a.formed, omega (arith, a.some), i.2);
          types = i.3;
          same = i.1;
          payloads =
              ap (λ (l : List ℕ). l ∷ [])
              (a.octets ∙ ap (λ (l : List ℕ). octet a.f a.nri 24 ∷ l) (ap sized_units i.1 ∙ sym (aggregated_sized i.0)));
        })

-- ---- a fragment

-- a bit that is not 1
not_one : (n : ℕ) → bit n ≡ false → n % 2 ≡ 0
not_one n e = let h : n % 2 ≡ 1 → ⊥ = eqb-false (n % 2) 1 e in zero_bit h (dec_le (n % 2) 0)
  where
    zero_bit : (n % 2 ≡ 1 → ⊥) → Dec (n % 2 ≤ 0) → n % 2 ≡ 0
    zero_bit h (yes z) = omega arith
    zero_bit h (no z) = absurd (h (omega (arith, lt_of_not-le z)))

module _ (a b : ℕ) (s : List ℕ) (ha : a < 256) (hb : b < 256) where
  loose_formed : 3 ≤ length (a ∷ b ∷ s) → length (a ∷ b ∷ s) ≤ 65535 → LooseFormed (loose_of (a ∷ b ∷ s))
  unfolding loose_of
  loose_formed long few =
      record {
        formed = record { f_bit = omega arith; nri_bits = omega arith; type_bits = omega arith };
        start_bit = omega arith;
        part_formed = omega arith;
        some = omega arith;
        short = omega arith;
      }

  loose_octets_lem : (e : ℕ) → a % 32 ≡ 28 → b / 64 % 2 ≡ e → a ∷ b ∷ s ≡ loose_octets e (loose_of (a ∷ b ∷ s))
  unfolding loose_of fragment octet
  loose_octets_lem e t q =
      let one : a ≡ a / 128 * 128 + a / 32 % 4 * 32 + 28 = omega arith in
      let two : b ≡ b / 128 * 128 + e * 64 + b / 32 % 2 * 32 + b % 32 = omega arith in
      ap₂ (λ (x y : ℕ). x ∷ y ∷ s) one two

  loose_head : kind.head_of a b ≡ head_from (loose_of (a ∷ b ∷ s))
  unfolding loose_of octet
  loose_head = omega arith

-- ---- what the call did

module _ (avc : Bool) (n : ℕ) (gather out : List ℕ) (within : n ≤ length gather) (small : n ≤ 16777215) where
  -- units beside the run
  beside_means : (units : Units) (r : RanOn ℕ) → (lay_run recorded avc gather out (beside (run_of n gather) (says units))).answer ≡ says r →
      RunKept n gather (lay_run recorded avc gather out (beside (run_of n gather) (says units)))
      × (handed_by (lay_run recorded avc gather out (beside (run_of n gather) (says units))) ≡ prefixed avc units)
  beside_means units r e =
      let f : Fed Run = record { run = run_of n gather; kept = gathered (run_of n gather); handed = units } in
      let done : lay_run recorded avc gather out (says f) ≡ laid avc gather out f = laid_run avc gather out f (fits_if avc gather out f r e) in (
        record {
          count = ap (λ (l : Laid (RanOn ℕ)). gathered_then n l.answer) done ∙ length_run n gather within;
          bytes =
              ap (λ (k : List ℕ). (lay_run recorded avc gather out (says (record { run = run_of n gather; kept = k; handed = units }))).gather) (gathered_run n gather)
              ∙ ap (λ (l : Laid (RanOn ℕ)). l.gather) (run_beside recorded avc gather out n (run_of n gather) units within small);
        },
        ap handed_by done ∙ handed_laid avc gather out f,
      )

  aggregate_means : (p : List ℕ) (x : Said Units) (r : RanOn ℕ) → Octets p → length p ≤ 65535 → (3 ≤ length p) × (get_or p 0 0 % 32 ≡ 24) → unpack p ≡ x →
      (lay_run recorded avc gather out (beside (run_of n gather) x)).answer ≡ says r → Means avc n gather p (lay_run recorded avc gather out (beside (run_of n gather) x))
  aggregate_means p (says units) r o h k u e =
      let b = beside_means units r e in units_together units (aggregation p units o h k u) b.0 b.1
  aggregate_means p (refused why) r o h k u e = absurd (not_says e)

  fragment_means : (p : List ℕ) (first last : Bool) (head : ℕ) (r : RanOn ℕ) → Octets p → length p ≤ 65535 → FragmentFacts p first last head →
      (lay_run recorded avc gather out (says (gathered_on (gathered (run_of n gather) ++ drop 2 p) last head))).answer ≡ says r →
      Means avc n gather p (lay_run recorded avc gather out (says (gathered_on (gathered (run_of n gather) ++ drop 2 p) last head)))
  unfolding loose_of
  fragment_means [] first last head r o h k e = absurd (omega (arith, k.long))
  fragment_means (a ∷ []) first last head r o h k e = absurd (omega (arith, k.long))
  fragment_means (a ∷ b ∷ s) first false head r o h k e =
      let bytes : List ℕ = gathered (run_of n gather) ++ s in
      let room : Fits avc gather out (ongoing bytes) = fits_if avc gather out (ongoing bytes) r e in
      let done : lay_run recorded avc gather out (says (ongoing bytes)) ≡ laid avc gather out (ongoing bytes) = laid_run avc gather out (ongoing bytes) room in
      let w : LooseFormed (loose_of (a ∷ b ∷ s)) = loose_formed a b s o.0 o.1.0 k.long h in
      part_gathered w (loose_octets_lem a b s o.0 o.1.0 0 k.type_is (not_one (b / 64) (sym k.last_is)))
      (fragment_kind 0 (loose_of (a ∷ b ∷ s)) w (omega arith))
      (ap handed_by done ∙ handed_laid avc gather out (ongoing bytes))
      (ap (λ (l : Laid (RanOn ℕ)). take (gathered_then n l.answer) l.gather) done
      ∙ part_of_splice gather 0 bytes (omega arith)
      ∙ ap (λ (x : List ℕ). x ++ s) (gathered_run n gather))
  fragment_means (a ∷ b ∷ s) first true head r o h k e =
      let bytes : List ℕ = gathered (run_of n gather) ++ s in
      let room : Fits avc gather out (finished head bytes) = fits_if avc gather out (finished head bytes) r e in
      let done : lay_run recorded avc gather out (says (finished head bytes)) ≡ laid avc gather out (finished head bytes) = laid_run avc gather out (finished head bytes) room in
      let w : LooseFormed (loose_of (a ∷ b ∷ s)) = loose_formed a b s o.0 o.1.0 k.long h in
      unit_joined w (loose_octets_lem a b s o.0 o.1.0 1 k.type_is (eqb-true (b / 64 % 2) 1 (sym k.last_is)))
      (fragment_kind 1 (loose_of (a ∷ b ∷ s)) w (omega arith))
      (ap handed_by done
      ∙ handed_laid avc gather out (finished head bytes)
      ∙ ap₂ (λ (x : ℕ) (l : List ℕ). prefixed avc ((x ∷ (l ++ s)) ∷ [])) (k.head_is ∙ loose_head a b s o.0 o.1.0) (gathered_run n gather))
      (ap (λ (l : Laid (RanOn ℕ)). gathered_then n l.answer) done)

  means : (s : Shape) (p : List ℕ) (r : RanOn ℕ) → Octets p → length p ≤ 65535 → Facts p s → (lay_run recorded avc gather out (read_by s (run_of n gather) p)).answer ≡ says r →
      Means avc n gather p (lay_run recorded avc gather out (read_by s (run_of n gather) p))
  means short p r o h k e = absurd (not_says e)
  means (unknown t) p r o h k e = absurd (not_says e)
  means plain p r o h k e = let b = beside_means (p ∷ []) r e in unit_alone (single_unit p o k) b.0 b.1
  means aggregate p r o h k e = aggregate_means p (unpack p) r o h k refl e
  means (kind.fragment first last head) p r o h k e = fragment_means p first last head r o h k e

pub sound_one : (avc : Bool) (n : ℕ) (p gather out : List ℕ) (r : RanOn ℕ) → Octets p → (depacketized avc n p gather out).answer ≡ says r →
    Means avc n gather p (depacketized avc n p gather out)
unfolding read_payload
sound_one avc n p gather out r o =
    by_domain (λ (l : Laid (RanOn ℕ)). l.answer ≡ says r → Means avc n gather p l) avc n p gather out (λ e. absurd (not_says e))
    (λ few within small. means avc n gather out within small (shape p) p r o few (told p))
