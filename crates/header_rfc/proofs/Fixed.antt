-- The reader on the octets of a plan of RFC 3550: each field is read as the plan has it, and what is left is the extension's content with
-- the payload behind it. Assumes nothing.
use mathlib.Core.Path.{◌≡◌, refl, sym, ap, ap₂, ◌∙◌, subst}
use mathlib.Core.Bool.{Bool, true, false}
use mathlib.Core.List.{List, [], ◌∷◌, ◌++◌, append_assoc}
use mathlib.Core.Option.{some}
use Prim.Native.Nat.{ℕ, ◌+◌, ◌-◌, ◌*◌, ◌/◌, ◌%◌, ◌≤◌}
use native.Mathlib.Omega.{arith}
use lib.ListN.{length, drop, get_or, length-append}
use lib.Seq.{drop_at, drop-drop}
use borrow.Author.Tests.{eq-eqb, ne_eqb}
use Rattle.error.specs.Said.{Said, says, refused}
use Rattle.wire.specs.Net.{u16_at, u32_at, be16, be32, bit}
use Rattle.wire.proofs.Net.{u32_at_drop, u32_of_be32, length_be32}
use Rattle.rfc3550.specs.Rfc3550.{AllBelow, Octets, Fixed, LawfulFixed, one_if, csrc_octets, fixed_octets, Extension, LawfulExtension, extension_octets}
use Rattle.rfc3550.specs.Rfc3550 as rtp
use Rattle.rfc3550.proofs.Octets.{below_right}
use Rattle.rfc3550.proofs.Places.{length_fixed, behind_fixed, version_at, padding_at, extension_at_lem, count_at, marker_at, type_at, number_at, time_at, source_at, csrcs_at_lem, length_extension, profile_at, words_at_lem, content_at, extended_octets}
use Rattle.block_read.specs.Read.{Block, block_at, read_block}
use Rattle.block.specs.Form.{form_of}
use Rattle.header.specs.Fields.{Fields}
use Rattle.header.specs.Read.{Reading, csrcs_at, count_of, fixed_length, fields_at, read_extension, read_header}
use Rattle.header.specs.Read as paper
use Rattle.header.proofs.Reading.{block_whole, header_plain, header_extended}
use Rattle.header_rfc.specs.Says.{fields_with, reading_at}
use Rattle.header_rfc.proofs.Items.{now}

-- ---- bits

bit_read : (b : Bool) (n : ℕ) → n % 2 ≡ one_if b → bit n ≡ b
bit_read true n e = eq-eqb (n % 2) 1 e
bit_read false n e = ne_eqb (n % 2) 1 (λ z. omega arith)

-- ---- CSRCs

csrcs_read : (cs : List ℕ) → AllBelow 4294967296 cs → (s rest : List ℕ) (at : ℕ) → drop at s ≡ csrc_octets cs ++ rest →
    csrcs_at s at (length cs) ≡ cs
csrcs_read [] l s rest at e = refl
csrcs_read (c ∷ cs) l s rest at e =
    ap₂ (λ (x : ℕ) (xs : List ℕ). x ∷ xs) first
    (csrcs_read cs l.1 s rest (at + 4) (sym (drop-drop 4 at s) ∙ ap (drop 4) (e ∙ regroup) ∙ drop_at (be32 c) (csrc_octets cs ++ rest) 4 (length_be32 c)))
  where
    regroup : be32 c ++ csrc_octets cs ++ rest ≡ be32 c ++ (csrc_octets cs ++ rest)
    regroup = append_assoc (be32 c) (csrc_octets cs) rest

    first : u32_at s at ≡ c
    first =
        let z : at ≡ at + 0 = omega arith in
        ap (u32_at s) z
        ∙ sym (u32_at_drop s at 0)
        ∙ ap (λ (l : List ℕ). u32_at l 0) (e ∙ regroup)
        ∙ u32_of_be32 c (csrc_octets cs ++ rest) l.0

-- ---- the fixed header, whatever follows it

module _ (f : Fixed) (x : Bool) (l : LawfulFixed f) (tail : List ℕ) where
  abbrev s : List ℕ
  s = fixed_octets f x ++ tail

  pub fields_read : (profile : ℕ) (b : Block) → fields_at s (length f.csrcs) profile b ≡ fields_with f x profile b.elements b.pads
  unfolding fields_at fields_with
  fields_read profile b i =
      record {
        version = version_at f x l tail i;
        padding = bit_read f.padding (get_or s 0 0 / 32) (padding_at f x l tail) i;
        extension = bit_read x (get_or s 0 0 / 16) (extension_at_lem f x l tail) i;
        marker = bit_read f.marker (get_or s 1 0 / 128) (marker_at f x l tail) i;
        type = type_at f x l tail i;
        number = number_at f x l tail i;
        time = time_at f x l tail i;
        source = source_at f x l tail i;
        csrcs = csrcs_read f.csrcs l.csrcs s tail 12 (csrcs_at_lem f x l tail) i;
        profile = profile;
        elements = b.elements;
        pads = b.pads;
      }

-- the header round what the block's reading comes to, in a packet of n bytes
abbrev pub around : Fixed → ℕ → ℕ → Said Block → Said Reading
around f profile n (refused r) = refused r
around f profile n (says b) = says (reading_at f true profile b.elements b.pads (n - length b.rest))

around_read : (f : Fixed) (l : LawfulFixed f) (tail : List ℕ) (profile : ℕ) (b : Said Block) →
    paper.reading_of (fixed_octets f true ++ tail) (length f.csrcs) profile b ≡ around f profile (length (fixed_octets f true ++ tail)) b
around_read f l tail profile (refused r) = refl
around_read f l tail profile (says b) =
    ap (λ (g : Fields). says (record { fields = g; place = length (fixed_octets f true ++ tail) - length b.rest }))
    (fields_read f true l tail profile b)

-- ---- without an extension

pub read_plain : (f : Fixed) (l : LawfulFixed f) (payload : List ℕ) → length (fixed_octets f false ++ payload) ≤ 65535 →
    read_header (fixed_octets f false ++ payload) ≡ says (reading_at f false 0 [] 0 (length (fixed_octets f false)))
read_plain f l payload fits =
    header_plain s fits (omega (arith, long, length_fixed f false l payload)) (rw count (omega (arith, long, length_fixed f false l payload)))
    (λ z. omega (arith, extension_at_lem f false l payload))
    ∙ ap (λ (cc : ℕ). paper.reading_of s cc 0 (says (block_at s (fixed_length cc) 0))) count
    ∙ ap (λ (g : Fields). says (record { fields = g; place = length s - length (drop (fixed_length (length f.csrcs)) s) }))
    (fields_read f false l payload 0 (block_at s (fixed_length (length f.csrcs)) 0))
    ∙ ap (λ (n : ℕ). says (reading_at f false 0 [] 0 n)) place
  where
    s : List ℕ
    s = fixed_octets f false ++ payload

    long : length s ≡ length (fixed_octets f false) + length payload
    long = length-append (fixed_octets f false) payload

    count : count_of s ≡ length f.csrcs
    count = count_at f false l payload

    place : length s - length (drop (fixed_length (length f.csrcs)) s) ≡ length (fixed_octets f false)
    place = rw (behind_fixed f false l payload) (omega (arith, long))

-- ---- with an extension

pub read_extended : (f : Fixed) (l : LawfulFixed f) (x : Extension) (k : LawfulExtension x) (payload : List ℕ) →
    length (fixed_octets f true ++ (extension_octets x ++ payload)) ≤ 65535 →
    read_header (fixed_octets f true ++ (extension_octets x ++ payload))
    ≡ around f x.profile (length (fixed_octets f true ++ (extension_octets x ++ payload)))
    (read_block (form_of x.profile) (now (x.content ++ payload) (4 * x.words) [] 0))
read_extended f l x k payload fits =
    header_extended s fits (omega (arith, long, fixed_long)) (rw count (omega (arith, long, fixed_long))) (extension_at_lem f true l tail)
    ∙ ap (λ (cc : ℕ). read_extension s cc (fixed_length cc)) count
    ∙ block_whole s (length f.csrcs) at (omega (arith, long, fixed_long, tail_long, length_extension x k))
    (rw words (omega (arith, long, fixed_long, tail_long, length_extension x k)))
    ∙ ap₂ (λ (p w : ℕ). paper.reading_of s (length f.csrcs) p (read_block (form_of p) (block_at s (at + 4) (4 * w)))) profile words
    ∙ ap (λ (r : List ℕ). paper.reading_of s (length f.csrcs) x.profile (read_block (form_of x.profile) (now r (4 * x.words) [] 0))) content
    ∙ around_read f l tail x.profile (read_block (form_of x.profile) (now (x.content ++ payload) (4 * x.words) [] 0))
  where
    tail : List ℕ
    tail = extension_octets x ++ payload

    s : List ℕ
    s = fixed_octets f true ++ tail

    at : ℕ
    at = 12 + 4 * length f.csrcs

    long : length s ≡ length (fixed_octets f true) + length tail
    long = length-append (fixed_octets f true) tail

    tail_long : length tail ≡ length (extension_octets x) + length payload
    tail_long = length-append (extension_octets x) payload

    fixed_long : length (fixed_octets f true) ≡ at
    fixed_long = length_fixed f true l tail

    count : count_of s ≡ length f.csrcs
    count = count_at f true l tail

    behind : drop at s ≡ tail
    behind = behind_fixed f true l tail

    profile : u16_at s at ≡ x.profile
    profile = profile_at x k payload s at behind

    words : u16_at s (at + 2) ≡ x.words
    words = words_at_lem x k payload s at behind

    content : drop (at + 4) s ≡ x.content ++ payload
    content = content_at x k payload s at behind

-- ---- the octets of a plan

abbrev pub extended : Fixed → Extension → rtp.Plan
extended f x = record { fixed = f; extension = some x }

-- what the block's reading comes to, in a packet that is the octets of a plan and then a payload
pub read_content : (f : Fixed) → LawfulFixed f → (x : Extension) → LawfulExtension x → (payload : List ℕ) →
    length (rtp.octets (extended f x) ++ payload) ≤ 65535 → (b : Said Block) →
    read_block (form_of x.profile) (now (x.content ++ payload) (length x.content) [] 0) ≡ b →
    read_header (rtp.octets (extended f x) ++ payload) ≡ around f x.profile (length (rtp.octets (extended f x) ++ payload)) b
read_content f l x k payload fits b e =
    let same : rtp.octets (extended f x) ++ payload ≡ fixed_octets f true ++ (extension_octets x ++ payload) = extended_octets f x payload in
    ap read_header same
    ∙ read_extended f l x k payload (rw same at fits)
    ∙ ap₂ (λ (s : List ℕ) (r : Said Block). around f x.profile (length s) r) (sym same)
    (ap (λ (n : ℕ). read_block (form_of x.profile) (now (x.content ++ payload) n [] 0)) (sym k.content) ∙ e)

-- the octets of its block and payload are octets
pub block_octets_lem : (f : Fixed) (x : Extension) (payload : List ℕ) → Octets (rtp.octets (extended f x) ++ payload) → Octets (x.content ++ payload)
unfolding extension_octets be16
block_octets_lem f x payload o =
    (below_right 256 (fixed_octets f true) (extension_octets x ++ payload) (subst Octets (extended_octets f x payload) o)).1.1.1.1
