-- What the tests of the domain say of the numbers and the parts of a header: each by itself, and all of them as `measured` has them.
-- Assumes nothing.
use Rattle.std.specs.Prelude.{Result, Ok, Err}
use mathlib.Core.Path.{◌≡◌, refl, sym, ap, ◌∙◌}
use mathlib.Core.Bool.{Bool, true, false, cond, ◌&&◌}
use mathlib.Core.List.{List}
use Prim.Native.Nat.{ℕ, ◌≤◌}
use native.Mathlib.Omega.{arith}
use lib.Dec.{leb}
use lib.ListN.{take}
use borrow.Author.Tests.{leb-true, le-leb}
use Rattle.std.proofs.lemmas.Bool.{and_parts}
use Rattle.error.specs.declared.Error.{Error}
use Rattle.error.specs.Refusal.{Refusal}
use Rattle.error.specs.Said.{Said, says, refused, refuse, said}
use Rattle.elements.specs.Elements.{sum}
use Rattle.block.specs.Form.{form_of, length_for}
use Rattle.block.proofs.Forms.{heads_few}
use Rattle.block_write.specs.Write.{all_fit}
use Rattle.header_write.specs.declared.Fixed.{Fixed}
use Rattle.header_write.specs.Limits.{in_limits}
use Rattle.header_write.specs.Parts.{measured}

pub never : {A : Type 0} {x : A} {r : Refusal} → says x ≡ refused r → ⊥
never e = let z : ◌≡◌ {A = ℕ} 0 1 = cc in omega arith

-- ---- the limits

pub record Limits (n count : ℕ) (lens : List ℕ) (pads : ℕ) : Type 0 where
  pub sources : n ≤ 15
  pub elements : count ≤ 32
  pub bytes : sum (take count lens) ≤ 1024
  pub zeros : pads ≤ 262140

pub limits : (n count : ℕ) (lens : List ℕ) (pads : ℕ) → in_limits n count lens pads ≡ true → Limits n count lens pads
limits n count lens pads e =
    let some = and_parts (leb n 15) _ e in
    let more = and_parts (leb count 32) _ some.1 in
    let last = and_parts (leb (sum (take count lens)) 1024) _ more.1 in
    record {
      sources = leb-true n 15 some.0;
      elements = leb-true count 32 more.0;
      bytes = leb-true (sum (take count lens)) 1024 last.0;
      zeros = leb-true pads 262140 last.1;
    }

pub in_limits_lem : (n count : ℕ) (lens : List ℕ) (pads : ℕ) → Limits n count lens pads → in_limits n count lens pads ≡ true
in_limits_lem n count lens pads l =
    rw (
      le-leb n 15 l.sources,
      le-leb count 32 l.elements,
      le-leb (sum (take count lens)) 1024 l.bytes,
      le-leb pads 262140 l.zeros,
    )

-- ---- all tests

pub record Fine (f : Fixed) (n profile count : ℕ) (ids lens : List ℕ) (pads : ℕ) : Type 0 where
  pub limits : Limits n count lens pads
  pub version : f.version ≤ 3
  pub type : f.payload_type ≤ 127
  pub fit : all_fit (form_of profile) (take count ids) (take count lens) ≡ true

module _ (f : Fixed) (n profile count : ℕ) (ids lens : List ℕ) (pads : ℕ) where
  abbrev tests : Bool
  tests =
      in_limits n count lens pads
      && (leb f.version 3 && (leb f.payload_type 127 && all_fit (form_of profile) (take count ids) (take count lens)))

  fine : tests ≡ true → Fine f n profile count ids lens pads
  fine e =
      let some = and_parts (in_limits n count lens pads) _ e in
      let more = and_parts (leb f.version 3) _ some.1 in
      let last = and_parts (leb f.payload_type 127) _ more.1 in
      record {
        limits = limits n count lens pads some.0;
        version = leb-true f.version 3 more.0;
        type = leb-true f.payload_type 127 last.0;
        fit = last.1;
      }

  abbrev asked : Said ℕ
  asked = measured f n profile count ids lens pads

  abbrev taken : ℕ
  taken = length_for profile count (sum (take count lens))

  by_tests : {t : Bool} → tests ≡ t → asked ≡ cond t (says taken) (refuse 8)
  unfolding measured
  by_tests e = ap (λ (t : Bool). cond t (says taken) (refuse 8)) e

  pub measured_fine : Fine f n profile count ids lens pads → asked ≡ says taken
  measured_fine w =
      by_tests {t = true}
      (rw (in_limits_lem n count lens pads w.limits, le-leb f.version 3 w.version, le-leb f.payload_type 127 w.type, w.fit))

  pub measured_outside : (Fine f n profile count ids lens pads → ⊥) → asked ≡ refuse 8
  measured_outside out = go tests refl
    where
      go : (t : Bool) → tests ≡ t → asked ≡ refuse 8
      go true e = absurd (out (fine e))
      go false e = by_tests e

  -- what an answer says of the parts
  module _ (r : Result ℕ Error) (a : said r ≡ asked) where
    pub measured_says : (k : ℕ) → r ≡ Ok k → Fine f n profile count ids lens pads × (k ≡ taken)
    measured_says k p = go tests refl
      where
        go : (t : Bool) → tests ≡ t → Fine f n profile count ids lens pads × (k ≡ taken)
        go true e =
            let same : says k ≡ says taken = sym (ap said p) ∙ a ∙ by_tests e in
            (fine e, cc)
        go false e = absurd (never (sym (ap said p) ∙ a ∙ by_tests e))

    pub measured_refuses : (k : Error) → r ≡ Err k → Fine f n profile count ids lens pads → ⊥
    measured_refuses k p w = never (sym (measured_fine w) ∙ sym a ∙ ap said p)

-- the elements take 1,088 bytes at most
pub taken_few : (n profile count : ℕ) (lens : List ℕ) (pads : ℕ) → Limits n count lens pads →
    length_for profile count (sum (take count lens)) ≤ 1088
taken_few n profile count lens pads l = omega (arith, l.bytes, heads_few (form_of profile) count l.elements)
