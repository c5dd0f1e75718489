-- Payloads that no lawful sending of RFC 6184 has, though the reader takes them: the first octet tells the kind, and a field that the rules bind is
-- read off the octets. Assumes nothing.
use mathlib.Core.Path.{◌≡◌, sym, ap, subst, ◌∙◌}
use mathlib.Core.List.{List, [], ◌∷◌, ◌++◌, map}
use mathlib.Core.Logic.{inl, inr}
use Prim.Native.Nat.{ℕ, ◌+◌, ◌*◌, ◌%◌, ◌≤◌}
use native.Mathlib.Omega.{arith}
use lib.ListN.{length, drop, get_or}
use Rattle.error.specs.Said.{says}
use Rattle.nal_read.specs.Unpack.{unpack}
use Rattle.nal.specs.Unpack.{sized_units}
use Rattle.nal.specs.Unpack as unpacking
use Rattle.nal.proofs.Unpacking.{Units}
use Rattle.nal_read.proofs.Shapes.{unpack_sized}
use Rattle.rfc6184.specs.Sending.{Each, Nal, octet, octets_of, Part, Fragmented, single, stap_a, fu_a, aggregated, fragment, UnitType, Sized, Lawful}
use Rattle.rfc6184.proofs.Octets.{fields_of_octet}
use Rattle.h264_rfc.specs.Loose.{Loose, loose_octets, LooseFormed}
use Rattle.h264_rfc.specs.Meaning.{Stray, Somewhere, Unsendable}
use Rattle.h264_rfc.proofs.Complete.{aggregated_sized, sized}

abbrev type : List ℕ → ℕ
type p = get_or p 0 0 % 32

-- ---- the kinds have different types

single_type : (u : Nal) → Lawful (single u) → type (octets_of u) ≤ 23
unfolding octets_of
single_type u w = omega (arith, (fields_of_octet u.f u.nri u.type w.formed).2, w.rules.high)

stap_a_type : (f nri : ℕ) (us : List Nal) → Lawful (stap_a f nri us) → type (octet f nri 24 ∷ aggregated us) ≡ 24
stap_a_type f nri us w = (fields_of_octet f nri 24 w.formed.0).2

fragment_type : (g : Fragmented) (s e : ℕ) (p : Part) → Lawful (fu_a g) → type (fragment g s e p) ≡ 28
unfolding fragment octet
fragment_type g s e p w = omega (arith, w.formed.0.nri_bits)

-- ---- fragments

-- a fragment that is none of any lawful sending: Start and End are never both set, and the Reserved bit is 0
fragment_unsendable : (q : List ℕ) → type q ≡ 28 →
    ((g : Fragmented) (s e : ℕ) (p : Part) → Lawful (fu_a g) → s + e ≤ 1 → p.reserved ≡ 0 → fragment g s e p ≡ q → ⊥) → Unsendable q
fragment_unsendable q t never (single u) w = (λ e. omega (arith, single_type u w, ap type e), tt)
fragment_unsendable q t never (stap_a f nri us) w = (λ e. omega (arith, stap_a_type f nri us w, ap type e), tt)
fragment_unsendable q t never (fu_a g) w =
    (never g 1 0 g.first w (omega arith) w.rules.1, later g.middle w.rules.2)
  where
    later : (ps : List Part) → Each (λ (p : Part). p.reserved ≡ 0) ps →
        Each (λ (p : List ℕ). p ≡ q → ⊥) (map (fragment g 0 0) ps ++ (fragment g 0 1 g.last ∷ []))
    later [] r = (never g 0 1 g.last w (omega arith) w.rules.3, tt)
    later (p ∷ ps) r = (never g 0 0 p w (omega arith) r.0, later ps r.1)

loose_type : (l : Loose) (e : ℕ) → LooseFormed l → type (loose_octets e l) ≡ 28
unfolding fragment octet
loose_type l e w = omega (arith, w.formed.nri_bits)

-- 5.8: Start and End both set
pub both_unsendable : (l : Loose) → LooseFormed l → l.start ≡ 1 → Unsendable (loose_octets 1 l)
unfolding fragment
both_unsendable l v s =
    fragment_unsendable (loose_octets 1 l) (loose_type l 1 v)
    (λ g x y p w one r same.
    let b : x * 128 + y * 64 + p.reserved * 32 + g.type ≡ l.start * 128 + 1 * 64 + l.part.reserved * 32 + l.of.type = ap (λ (q : List ℕ). get_or q 1 0) same in
    omega (arith, w.formed.0.type_bits, v.formed.type_bits, v.part_formed))

-- 5.8: a fragment of what is no unit of type 1 to 23
pub type_unsendable : (l : Loose) (e : ℕ) → LooseFormed l → (UnitType l.of.type → ⊥) → Unsendable (loose_octets e l)
unfolding fragment
type_unsendable l e v other =
    fragment_unsendable (loose_octets e l) (loose_type l e v)
    (λ g x y p w one r same.
    let b : (x * 128 + y * 64 + p.reserved * 32 + g.type) % 32 ≡ (l.start * 128 + e * 64 + l.part.reserved * 32 + l.of.type) % 32 =
    ap (λ (q : List ℕ). get_or q 1 0 % 32) same in
    let t : g.type ≡ l.of.type = omega (arith, w.formed.0.type_bits, v.formed.type_bits) in
    other (subst UnitType t w.rules.0))

-- ---- aggregations

no_stray : (ns : List Nal) → Each Sized ns → Each (λ (u : Nal). UnitType u.type) ns → Somewhere Stray (map octets_of ns) → ⊥
unfolding octets_of
no_stray [] v w h = h
no_stray (n ∷ ns) v w (inl h) = by h
  where
    by : Stray (octets_of n) → ⊥
    by (inl e) = omega (arith, ap length e)
    by (inr other) = other (subst UnitType (sym (fields_of_octet n.f n.nri n.type v.0.formed).2) w.0)
no_stray (n ∷ ns) v w (inr h) = no_stray ns v.1 w.1 h

-- 5.7 and 5.7.1: an aggregation with something that is no unit
pub stray_unsendable : (a : ℕ) (us : Units) → a % 32 ≡ 24 → unpacking.Sized us → Somewhere Stray us → Unsendable (a ∷ sized_units us)
stray_unsendable a us t z h (single u) w = (λ e. omega (arith, single_type u w, ap type e), tt)
stray_unsendable a us t z h (stap_a f nri ns) w = (
  λ e.
      let rest : sized_units (map octets_of ns) ≡ sized_units us = sym (aggregated_sized ns) ∙ ap (drop 1) e in
      let told : says (map octets_of ns) ≡ says us =
      sym (unpack_sized a (map octets_of ns) (sized ns w.formed.2)) ∙ ap (λ (l : List ℕ). unpack (a ∷ l)) rest ∙ unpack_sized a us z in
      let same : map octets_of ns ≡ us = cc in
      no_stray ns w.formed.2 w.rules.2 (subst (Somewhere Stray) (sym same) h),
  tt,
)
stray_unsendable a us t z h (fu_a g) w =
    (λ e. omega (arith, fragment_type g 1 0 g.first w, ap type e), later g.middle)
  where
    later : (ps : List Part) → Each (λ (p : List ℕ). p ≡ a ∷ sized_units us → ⊥) (map (fragment g 0 0) ps ++ (fragment g 0 1 g.last ∷ []))
    later [] = (λ e. omega (arith, fragment_type g 0 1 g.last w, ap type e), tt)
    later (p ∷ ps) = (λ e. omega (arith, fragment_type g 0 0 p w, ap type e), later ps)
