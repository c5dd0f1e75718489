-- The octets tell the plan: each field stands at a place of its own, and each length is told before what it measures. So two lawful plans
-- whose octets, followed by whatever follows them, are the same octets, are the same plan. Assumes nothing.
use mathlib.Core.Path.{◌≡◌, refl, sym, ap, ap₂, ◌∙◌}
use mathlib.Core.Bool.{Bool, true, false}
use mathlib.Core.List.{List, [], ◌∷◌, ◌++◌, append_assoc}
use mathlib.Core.Option.{Option, none, some}
use Prim.Native.Nat.{ℕ, ◌/◌, ◌%◌, ◌<◌}
use native.Mathlib.Omega.{arith}
use lib.ListN.{length, take, drop, get_or}
use lib.Seq.{take_at, drop_at}
use Rattle.wire.specs.Net.{be32, u16_at, u32_at}
use Rattle.wire.proofs.Net.{u32_of_be32, length_be32}
use Rattle.rfc3550.specs.Rfc3550.{AllBelow, Fixed, LawfulFixed, one_if, csrc_octets, fixed_octets, Extension, LawfulExtension, extension_octets, Plan, Lawful, LawfulPart, present, part_octets, octets}
use Rattle.rfc3550.proofs.Places.{version_at, padding_at, extension_at_lem, count_at, marker_at, type_at, number_at, time_at, source_at, csrcs_at_lem, profile_at, words_at_lem, content_at}

-- two lists in front that are as long
pub append_inj {ℓ} : {A : Type ℓ} (a b c d : List A) → length a ≡ length c → a ++ b ≡ c ++ d → (a ≡ c) × (b ≡ d)
append_inj a b c d l e = (
  sym (take_at a b (length c) l) ∙ ap (take (length c)) e ∙ take_at c d (length c) refl,
  sym (drop_at a b (length c) l) ∙ ap (drop (length c)) e ∙ drop_at c d (length c) refl,
)

-- ---- numbers

four_octets : (n m : ℕ) (a b : List ℕ) → n < 4294967296 → m < 4294967296 → be32 n ++ a ≡ be32 m ++ b → (n ≡ m) × (a ≡ b)
four_octets n m a b hn hm e = (
  sym (u32_of_be32 n a hn) ∙ ap (λ (s : List ℕ). u32_at s 0) e ∙ u32_of_be32 m b hm,
  (append_inj (be32 n) a (be32 m) b (length_be32 n ∙ sym (length_be32 m)) e).1,
)

same_bit : (a b : Bool) → one_if a ≡ one_if b → a ≡ b
same_bit true true e = refl
same_bit true false e = absurd (omega arith)
same_bit false true e = absurd (omega arith)
same_bit false false e = refl

-- ---- section 5.1

csrcs_same : (cs ds a b : List ℕ) → AllBelow 4294967296 cs → AllBelow 4294967296 ds → length cs ≡ length ds →
    csrc_octets cs ++ a ≡ csrc_octets ds ++ b → (cs ≡ ds) × (a ≡ b)
csrcs_same [] [] a b l m n e = (refl, e)
csrcs_same [] (d ∷ ds) a b l m n e = absurd (omega arith)
csrcs_same (c ∷ cs) [] a b l m n e = absurd (omega arith)
csrcs_same (c ∷ cs) (d ∷ ds) a b l m n e =
    let first : (c ≡ d) × (csrc_octets cs ++ a ≡ csrc_octets ds ++ b) =
    four_octets c d (csrc_octets cs ++ a) (csrc_octets ds ++ b) l.0 m.0
    (sym (append_assoc (be32 c) (csrc_octets cs) a) ∙ e ∙ append_assoc (be32 d) (csrc_octets ds) b) in
    let rest : (cs ≡ ds) × (a ≡ b) = csrcs_same cs ds a b l.1 m.1 (omega arith) first.1 in
    (ap₂ (λ (x : ℕ) (xs : List ℕ). x ∷ xs) first.0 rest.0, rest.1)

module _ (f g : Fixed) (x y : Bool) (l : LawfulFixed f) (m : LawfulFixed g) (a b : List ℕ) (e : fixed_octets f x ++ a ≡ fixed_octets g y ++ b) where
  -- a field that stands at a place is the same in both
  marks : (f.marker ≡ g.marker) × (f.payload_type ≡ g.payload_type)
  marks = (
    same_bit f.marker g.marker (sym (marker_at f x l a) ∙ ap (λ (s : List ℕ). get_or s 1 0 / 128 % 2) e ∙ marker_at g y m b),
    sym (type_at f x l a) ∙ ap (λ (s : List ℕ). get_or s 1 0 % 128) e ∙ type_at g y m b,
  )

  bits : (f.version ≡ g.version) × (f.padding ≡ g.padding) × (x ≡ y) × (length f.csrcs ≡ length g.csrcs)
  bits = (
    sym (version_at f x l a) ∙ ap (λ (s : List ℕ). get_or s 0 0 / 64) e ∙ version_at g y m b,
    same_bit f.padding g.padding (sym (padding_at f x l a) ∙ ap (λ (s : List ℕ). get_or s 0 0 / 32 % 2) e ∙ padding_at g y m b),
    same_bit x y (sym (extension_at_lem f x l a) ∙ ap (λ (s : List ℕ). get_or s 0 0 / 16 % 2) e ∙ extension_at_lem g y m b),
    sym (count_at f x l a) ∙ ap (λ (s : List ℕ). get_or s 0 0 % 16) e ∙ count_at g y m b,
  )

  numbers : (f.sequence_number ≡ g.sequence_number) × (f.timestamp ≡ g.timestamp) × (f.ssrc ≡ g.ssrc)
  numbers = (
    sym (number_at f x l a) ∙ ap (λ (s : List ℕ). u16_at s 2) e ∙ number_at g y m b,
    sym (time_at f x l a) ∙ ap (λ (s : List ℕ). u32_at s 4) e ∙ time_at g y m b,
    sym (source_at f x l a) ∙ ap (λ (s : List ℕ). u32_at s 8) e ∙ source_at g y m b,
  )

  pub fixed_told : (f ≡ g) × (x ≡ y) × (a ≡ b)
  fixed_told =
      let csrcs : (f.csrcs ≡ g.csrcs) × (a ≡ b) =
      csrcs_same f.csrcs g.csrcs a b l.csrcs m.csrcs bits.3 (sym (csrcs_at_lem f x l a) ∙ ap (drop 12) e ∙ csrcs_at_lem g y m b) in (
        λ i.
            record {
              version = bits.0 i;
              padding = bits.1 i;
              marker = marks.0 i;
              payload_type = marks.1 i;
              sequence_number = numbers.0 i;
              timestamp = numbers.1 i;
              ssrc = numbers.2 i;
              csrcs = csrcs.0 i;
            },
        bits.2,
        csrcs.1,
      )

-- ---- section 5.3.1

extension_told : (x y : Extension) → LawfulExtension x → LawfulExtension y → (a b : List ℕ) →
    extension_octets x ++ a ≡ extension_octets y ++ b → (x ≡ y) × (a ≡ b)
extension_told x y l m a b e =
    let s : List ℕ = extension_octets x ++ a in
    let profile : x.profile ≡ y.profile = sym (profile_at x l a s 0 refl) ∙ profile_at y m b s 0 e in
    let words : x.words ≡ y.words = sym (words_at_lem x l a s 0 refl) ∙ words_at_lem y m b s 0 e in
    let content : (x.content ≡ y.content) × (a ≡ b) =
    append_inj x.content a y.content b (omega (arith, l.content, m.content)) (sym (content_at x l a s 0 refl) ∙ content_at y m b s 0 e) in
    (λ i. record { profile = profile i; words = words i; content = content.0 i }, content.1)

part_told : (x y : Option Extension) → LawfulPart x → LawfulPart y → (a b : List ℕ) → present x ≡ present y →
    part_octets x ++ a ≡ part_octets y ++ b → (x ≡ y) × (a ≡ b)
part_told none none l m a b p e = (refl, e)
part_told none (some y) l m a b p e = absurd (let z : ◌≡◌ {A = ℕ} 0 1 = cc in omega arith)
part_told (some x) none l m a b p e = absurd (let z : ◌≡◌ {A = ℕ} 0 1 = cc in omega arith)
part_told (some x) (some y) l m a b p e =
    let told : (x ≡ y) × (a ≡ b) = extension_told x y l m a b e in
    (ap (λ (z : Extension). some z) told.0, told.1)

-- ---- UNAMBIGUOUS

pub unambiguous : (p q : Plan) (a b : List ℕ) → Lawful p → Lawful q → octets p ++ a ≡ octets q ++ b → (p ≡ q) × (a ≡ b)
unfolding octets
unambiguous p q a b l m e =
    let fixed : (p.fixed ≡ q.fixed) × (present p.extension ≡ present q.extension) × (part_octets p.extension ++ a ≡ part_octets q.extension ++ b) =
    fixed_told p.fixed q.fixed (present p.extension) (present q.extension) l.fixed m.fixed
    (part_octets p.extension ++ a) (part_octets q.extension ++ b)
    (sym (append_assoc (fixed_octets p.fixed (present p.extension)) (part_octets p.extension) a)
    ∙ e
    ∙ append_assoc (fixed_octets q.fixed (present q.extension)) (part_octets q.extension) b) in
    let part : (p.extension ≡ q.extension) × (a ≡ b) =
    part_told p.extension q.extension l.extension m.extension a b fixed.1 fixed.2 in
    (λ i. record { fixed = fixed.0 i; extension = part.0 i }, part.1)
