-- Which payloads have which shape, and what a shape tells of its payload: the definition's tests, one by one. Assumes nothing.
use mathlib.Core.Path.{◌≡◌, refl, ap, subst, ◌∙◌}
use mathlib.Core.Bool.{Bool, true, false, cond}
use mathlib.Core.List.{List, ◌∷◌}
use mathlib.Core.Logic.{◌⊎◌, inl, inr}
use Prim.Native.Nat.{ℕ, ◌/◌, ◌%◌, ◌≤◌, ◌<◌}
use native.Mathlib.Decide.{dec_le}
use native.Mathlib.Nat.{lt_of_not-le}
use native.Mathlib.Omega.{arith}
use lib.Dec.{leb, eqb}
use lib.ListN.{length, get_or}
use borrow.Author.Tests.{le-leb, lt-leb, eq-eqb, ne_eqb, eqb-true, eqb-false, leb-true, leb-false}
use Rattle.error.specs.Said.{says}
use Rattle.wire.specs.Net.{bit}
use Rattle.nal.specs.Unpack.{sized_units, Sized}
use Rattle.nal.proofs.Unpacking as unpacking
use Rattle.nal_read.specs.Kind.{Shape, short, unknown, plain, aggregate, fragment, head_of, shape_by, shape}
use Rattle.nal_read.specs.Unpack.{stap_said, unpack}

abbrev pub type : List ℕ → ℕ
type s = get_or s 0 0 % 32

-- ---- which payloads have which shape

-- "refuses 0 or 1 byte, and 2 bytes unless type 9"
pub shape_short : (s : List ℕ) → length s ≤ 2 → (length s ≡ 2 → type s ≡ 9 → ⊥) → shape s ≡ short
unfolding shape
shape_short s h other = go (leb (length s) 1) refl
  where
    go : (b : Bool) → leb (length s) 1 ≡ b → shape s ≡ short
    go true e = rw e
    go false e =
        rw (e, le-leb (length s) 2 h, ne_eqb (type s) 9 (other (omega (arith, leb-false (length s) 1 e))))

-- an access unit delimiter of two bytes
pub shape_delimiter : (s : List ℕ) → length s ≡ 2 → type s ≡ 9 → shape s ≡ plain
unfolding shape
shape_delimiter s h e = rw (lt-leb (length s) 1 (omega arith), le-leb (length s) 2 (omega arith), eq-eqb (type s) 9 e)

module _ (s : List ℕ) (long : 3 ≤ length s) where
  -- three bytes or more: the type alone decides
  shape_long : shape s ≡ shape_by (type s) (get_or s 0 0) (get_or s 1 0)
  unfolding shape
  shape_long = rw (lt-leb (length s) 1 (omega arith), lt-leb (length s) 2 long)

  pub shape_plain : 1 ≤ type s → type s ≤ 23 → shape s ≡ plain
  shape_plain low high =
      shape_long
      ∙ rw (
        ne_eqb (type s) 24 (λ e. omega arith),
        ne_eqb (type s) 28 (λ e. omega arith),
        ne_eqb (type s) 0 (λ e. omega arith),
        le-leb (type s) 23 high,
      )

  pub shape_aggregate : type s ≡ 24 → shape s ≡ aggregate
  shape_aggregate e = shape_long ∙ ap (λ (t : ℕ). shape_by t (get_or s 0 0) (get_or s 1 0)) e

  pub shape_fragment : type s ≡ 28 →
      shape s ≡ fragment (bit (get_or s 1 0 / 128)) (bit (get_or s 1 0 / 64)) (head_of (get_or s 0 0) (get_or s 1 0))
  shape_fragment e = shape_long ∙ ap (λ (t : ℕ). shape_by t (get_or s 0 0) (get_or s 1 0)) e

  -- "NAL type 0, 25..27, 29..31"
  pub shape_unknown : (type s ≡ 24 → ⊥) → (type s ≡ 28 → ⊥) → (1 ≤ type s → type s ≤ 23 → ⊥) → shape s ≡ unknown (type s)
  shape_unknown no-stap no-fu no_unit = shape_long ∙ go (eqb (type s) 0) refl
    where
      go : (b : Bool) → eqb (type s) 0 ≡ b → shape_by (type s) (get_or s 0 0) (get_or s 1 0) ≡ unknown (type s)
      go true e = rw (ne_eqb (type s) 24 no-stap, ne_eqb (type s) 28 no-fu, e)
      go false e =
          let some : type s ≡ 0 → ⊥ = eqb-false (type s) 0 e in
          rw (ne_eqb (type s) 24 no-stap, ne_eqb (type s) 28 no-fu, e, lt-leb (type s) 23 (high some))
        where
          high : (type s ≡ 0 → ⊥) → 23 < type s
          high some = elim (dec_le (type s) 23) [ yes h ↦ absurd (no_unit (lt_of_not-le (λ q. some (omega arith))) h) | no h ↦ lt_of_not-le h ]

-- ---- what a shape tells of its payload

pub record PlainFacts (s : List ℕ) : Type 0 where
  pub low : 1 ≤ type s
  pub high : type s ≤ 23
  pub long : (3 ≤ length s) ⊎ ((length s ≡ 2) × (type s ≡ 9))

pub record FragmentFacts (s : List ℕ) (first last : Bool) (head : ℕ) : Type 0 where
  pub long : 3 ≤ length s
  pub type_is : type s ≡ 28
  pub first_is : first ≡ bit (get_or s 1 0 / 128)
  pub last_is : last ≡ bit (get_or s 1 0 / 64)
  pub head_is : head ≡ head_of (get_or s 0 0) (get_or s 1 0)

abbrev pub Facts : List ℕ → Shape → Type 0
Facts s short = Unit {0}
Facts s (unknown t) = Unit {0}
Facts s plain = PlainFacts s
Facts s aggregate = (3 ≤ length s) × (type s ≡ 24)
Facts s (fragment first last head) = FragmentFacts s first last head

pub told : (s : List ℕ) → Facts s (shape s)
unfolding shape
told s = by_length (leb (length s) 1) (leb (length s) 2) refl refl
  where
    by_type : 3 ≤ length s → (b24 b28 b0 b23 : Bool) → eqb (type s) 24 ≡ b24 → eqb (type s) 28 ≡ b28 → eqb (type s) 0 ≡ b0 → leb (type s) 23 ≡ b23 →
        Facts s (cond b24 aggregate (cond b28 (fragment (bit (get_or s 1 0 / 128)) (bit (get_or s 1 0 / 64)) (head_of (get_or s 0 0) (get_or s 1 0))) (cond b0 (unknown (type s)) (cond b23 plain (unknown (type s))))))
    by_type h true b28 b0 b23 e f g k = (h, eqb-true (type s) 24 e)
    by_type h false true b0 b23 e f g k =
        record { long = h; type_is = eqb-true (type s) 28 f; first_is = refl; last_is = refl; head_is = refl }
    by_type h false false true b23 e f g k = tt
    by_type h false false false true e f g k =
        record { low = some (eqb-false (type s) 0 g); high = leb-true (type s) 23 k; long = inl h }
      where
        some : (type s ≡ 0 → ⊥) → 1 ≤ type s
        some q = lt_of_not-le (λ z. q (omega arith))
    by_type h false false false false e f g k = tt

    two : (b : Bool) → length s ≡ 2 → eqb (type s) 9 ≡ b → Facts s (cond b plain short)
    two true h e =
        let nine : type s ≡ 9 = eqb-true (type s) 9 e in
        record { low = omega arith; high = omega arith; long = inr (h, nine) }
    two false h e = tt

    by_length : (b c : Bool) → leb (length s) 1 ≡ b → leb (length s) 2 ≡ c →
        Facts s (cond b short (cond c (cond (eqb (type s) 9) plain short) (shape_by (type s) (get_or s 0 0) (get_or s 1 0))))
    by_length true c e f = tt
    by_length false true e f = two (eqb (type s) 9) (omega (arith, leb-false (length s) 1 e, leb-true (length s) 2 f)) refl
    by_length false false e f =
        by_type (leb-false (length s) 2 f) (eqb (type s) 24) (eqb (type s) 28) (eqb (type s) 0) (leb (type s) 23) refl refl refl refl

-- a unit by itself has two bytes at least, a STAP-A and a fragment three
pub plain_long : (s : List ℕ) → shape s ≡ plain → 2 ≤ length s
plain_long s e = elim (subst (Facts s) e (told s)).long [ inl three ↦ omega arith | inr two ↦ omega arith ]

pub aggregate_long : (s : List ℕ) → shape s ≡ aggregate → 3 ≤ length s
aggregate_long s e = (subst (Facts s) e (told s)).0

pub fragment_long : (s : List ℕ) (first last : Bool) (head : ℕ) → shape s ≡ fragment first last head → 3 ≤ length s
fragment_long s first last head e = (subst (Facts s) e (told s)).long

-- ---- a STAP-A's units

-- whatever the units are, empty ones too, they are read off behind any first byte
pub unpack_sized : (a : ℕ) (us : List (List ℕ)) → Sized us → unpack (a ∷ sized_units us) ≡ says us
unfolding unpack
unpack_sized a us w = ap stap_said (unpacking.unpack_sized us w)
