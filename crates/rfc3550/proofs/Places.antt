-- Where each field stands in the octets of a plan. Assumes nothing.
use mathlib.Core.Path.{◌≡◌, refl, sym, ap, ◌∙◌}
use mathlib.Core.Bool.{Bool, true, false}
use mathlib.Core.List.{List, [], ◌∷◌, ◌++◌, append_assoc, append-nil}
use mathlib.Core.Option.{none, some}
use Prim.Native.Nat.{ℕ, ◌+◌, ◌*◌, ◌/◌, ◌%◌, ◌≤◌}
use native.Mathlib.Omega.{arith}
use lib.ListN.{length, drop, get_or}
use lib.Seq.{drop_at, drop-drop}
use Rattle.wire.specs.Net.{u16_at, u32_at, be16, be32}
use Rattle.wire.proofs.Net.{u16_at_drop}
use Rattle.rfc3550.specs.Rfc3550.{Fixed, LawfulFixed, one_if, first_octet, second_octet, csrc_octets, fixed_octets, Extension, LawfulExtension, extension_octets, octets}

pub bit_small : (b : Bool) → one_if b ≤ 1
bit_small true = omega arith
bit_small false = omega arith

pub length_csrc_octets : (cs : List ℕ) → length (csrc_octets cs) ≡ 4 * length cs
unfolding be32
length_csrc_octets [] = refl
length_csrc_octets (c ∷ cs) = omega (arith, length_csrc_octets cs)

-- ---- section 5.1, whatever follows the CSRC list

module _ (f : Fixed) (x : Bool) (l : LawfulFixed f) (tail : List ℕ) where
  abbrev s : List ℕ
  s = fixed_octets f x ++ tail

  pub length_fixed : length (fixed_octets f x) ≡ 12 + 4 * length f.csrcs
  unfolding fixed_octets be16 be32
  length_fixed = omega (arith, length_csrc_octets f.csrcs)

  pub behind_fixed : drop (12 + 4 * length f.csrcs) s ≡ tail
  behind_fixed = drop_at (fixed_octets f x) tail (12 + 4 * length f.csrcs) length_fixed

  first_at : get_or s 0 0 ≡ first_octet f x
  unfolding fixed_octets
  first_at = refl

  second_at : get_or s 1 0 ≡ second_octet f
  unfolding fixed_octets
  second_at = refl

  pub version_at : get_or s 0 0 / 64 ≡ f.version
  version_at = rw first_at (omega (arith, l.count, bit_small x, bit_small f.padding))

  pub padding_at : get_or s 0 0 / 32 % 2 ≡ one_if f.padding
  padding_at = rw first_at (omega (arith, l.count, bit_small x, bit_small f.padding))

  pub extension_at_lem : get_or s 0 0 / 16 % 2 ≡ one_if x
  extension_at_lem = rw first_at (omega (arith, l.count, bit_small x))

  pub count_at : get_or s 0 0 % 16 ≡ length f.csrcs
  count_at = rw first_at (omega (arith, l.count))

  pub marker_at : get_or s 1 0 / 128 % 2 ≡ one_if f.marker
  marker_at = rw second_at (omega (arith, l.payload_type, bit_small f.marker))

  pub type_at : get_or s 1 0 % 128 ≡ f.payload_type
  type_at = rw second_at (omega (arith, l.payload_type))

  pub number_at : u16_at s 2 ≡ f.sequence_number
  unfolding fixed_octets u16_at be16
  number_at = omega (arith, l.sequence_number)

  pub time_at : u32_at s 4 ≡ f.timestamp
  unfolding fixed_octets u32_at be16 be32
  time_at = omega (arith, l.timestamp)

  pub source_at : u32_at s 8 ≡ f.ssrc
  unfolding fixed_octets u32_at be16 be32
  source_at = omega (arith, l.ssrc)

  pub csrcs_at_lem : drop 12 s ≡ csrc_octets f.csrcs ++ tail
  unfolding fixed_octets be16 be32
  csrcs_at_lem = refl

-- ---- section 5.3.1

module _ (x : Extension) (l : LawfulExtension x) where
  pub length_extension : length (extension_octets x) ≡ 4 + 4 * x.words
  unfolding extension_octets be16
  length_extension = omega (arith, l.content)

  module _ (tail : List ℕ) where
    profile_in : u16_at (extension_octets x ++ tail) 0 ≡ x.profile
    unfolding extension_octets u16_at be16
    profile_in = omega (arith, l.profile)

    words_in : u16_at (extension_octets x ++ tail) 2 ≡ x.words
    unfolding extension_octets u16_at be16
    words_in = omega (arith, l.words)

    content_in : drop 4 (extension_octets x ++ tail) ≡ x.content ++ tail
    unfolding extension_octets be16
    content_in = refl

    -- the same in octets s that have the extension at a place
    module _ (s : List ℕ) (at : ℕ) (here : drop at s ≡ extension_octets x ++ tail) where
      pub profile_at : u16_at s at ≡ x.profile
      profile_at =
          let z : at ≡ at + 0 = omega arith in
          ap (u16_at s) z ∙ sym (u16_at_drop s at 0) ∙ ap (λ (r : List ℕ). u16_at r 0) here ∙ profile_in

      pub words_at_lem : u16_at s (at + 2) ≡ x.words
      words_at_lem = sym (u16_at_drop s at 2) ∙ ap (λ (r : List ℕ). u16_at r 2) here ∙ words_in

      pub content_at : drop (at + 4) s ≡ x.content ++ tail
      content_at = sym (drop-drop 4 at s) ∙ ap (drop 4) here ∙ content_in

-- ---- the header

pub plain_octets : (f : Fixed) → octets (record { fixed = f; extension = none }) ≡ fixed_octets f false
unfolding octets
plain_octets f = append-nil (fixed_octets f false)

pub extended_octets : (f : Fixed) (x : Extension) (payload : List ℕ) →
    octets (record { fixed = f; extension = some x }) ++ payload ≡ fixed_octets f true ++ (extension_octets x ++ payload)
unfolding octets
extended_octets f x payload = append_assoc (fixed_octets f true) (extension_octets x) payload
