-- The written octets are those of a plan: the fixed header field by field, each element as an item, and the zeros that fill the last word
-- as padding. Assumes nothing.
use mathlib.Core.Path.{◌≡◌, refl, sym, ap, ap₂, ◌∙◌}
use mathlib.Core.Bool.{Bool, true, false, cond}
use mathlib.Core.List.{List, [], ◌∷◌, ◌++◌, append_assoc, append-nil}
use mathlib.Core.Option.{none}
use Prim.Native.Nat.{ℕ, zero, suc, ◌+◌, ◌-◌, ◌*◌, ◌/◌, ◌%◌, ◌<◌, ◌≤◌}
use native.Mathlib.Omega.{arith}
use lib.ListN.{length, replicate, length-append, length-replicate}
use Rattle.wire.specs.Net.{be16, be32}
use Rattle.elements.specs.Elements.{Element, data_of}
use Rattle.block.specs.Form.{form_of, per_element, words_for}
use Rattle.block.specs.declared.Form.{Form as BlockForm}
use Rattle.block.specs.declared.Form.TheVariants as forms
use Rattle.block_write.specs.Write as blocks
use Rattle.block_write.proofs.Octets.{length_block_octets}
use Rattle.header.specs.Fields.{Fields}
use Rattle.header.specs.Size.{payload_length}
use Rattle.header_write.specs.Fixed.{flag}
use Rattle.header.specs.Write.{octets_of}
use Rattle.header_write.specs.Fixed as figure
use Rattle.header.specs.Write as written
use Rattle.rfc3550.specs.Rfc3550.{Fixed, LawfulFixed, one_if, LawfulExtension}
use Rattle.rfc3550.specs.Rfc3550 as rtp
use Rattle.rfc3550.proofs.Places.{plain_octets}
use Rattle.rfc3550.specs.Rfc8285.{Form, one_byte, two_byte, profile_of, Item, block_octets, extension_with}
use Rattle.header_rfc.specs.Says.{elements_among, pads_among, Within, PlainForm}
use Rattle.header_rfc.specs.RoundTrip.{InRange, items_with}
use Rattle.header_rfc.proofs.Fixed.{extended}

-- ---- the fixed header

abbrev pub fixed_for : Fields → Fixed
fixed_for f =
    record {
      version = f.version;
      padding = f.padding;
      marker = f.marker;
      payload_type = f.type;
      sequence_number = f.number;
      timestamp = f.time;
      ssrc = f.source;
      csrcs = f.csrcs;
    }

pub fixed_lawful : (f : Fields) → InRange f → LawfulFixed (fixed_for f)
fixed_lawful f w =
    record {
      version = omega (arith, w.version);
      payload_type = omega (arith, w.type);
      sequence_number = w.number;
      timestamp = w.time;
      ssrc = w.source;
      count = omega (arith, w.count);
      csrcs = w.csrcs;
    }

flag_bit : (b : Bool) (n : ℕ) → flag b n ≡ one_if b * n
flag_bit true n = omega arith
flag_bit false n = omega arith

csrcs_same : (cs : List ℕ) → figure.csrc_octets cs ≡ rtp.csrc_octets cs
csrcs_same [] = refl
csrcs_same (c ∷ cs) = ap (λ (l : List ℕ). be32 c ++ l) (csrcs_same cs)

pub fixed_same : (f : Fields) → written.fixed_octets f ≡ rtp.fixed_octets (fixed_for f) f.extension
unfolding figure.fixed_for rtp.fixed_octets
fixed_same f i =
    (first i ∷ second i ∷ [])
    ++ (be16 f.number ++ (be32 f.time ++ (be32 f.source ++ csrcs_same f.csrcs i)))
  where
    first : written.first_octet f ≡ rtp.first_octet (fixed_for f) f.extension
    first = omega (arith, flag_bit f.padding 32, flag_bit f.extension 16)

    second : written.second_octet f ≡ rtp.second_octet (fixed_for f)
    second = omega (arith, flag_bit f.marker 128)

-- ---- the block

-- a form as the paper names it
abbrev pub in_paper : Form → BlockForm
in_paper one_byte = forms.OneByte
in_paper (two_byte appbits) = forms.TwoByte

-- and as it knows its profile
pub form_again : (form : Form) → PlainForm form → form_of (profile_of form) ≡ in_paper form
form_again one_byte p = refl
form_again (two_byte appbits) p = ap (λ (a : ℕ). form_of (0x1000 + a)) p

-- elements with their heads
abbrev pub packed_length : BlockForm → List Element → ℕ
packed_length g es = length (data_of es) + length es * per_element g

abbrev pub zeros_for : BlockForm → List Element → ℕ
zeros_for g es = 4 * words_for (packed_length g es) - packed_length g es

-- the written block, filled up to a whole word
abbrev pub filled : BlockForm → List Element → List ℕ
filled g es = blocks.block_octets g es ++ replicate (zeros_for g es) 0

pub filled_length : (g : BlockForm) (es : List Element) → length (filled g es) ≡ 4 * words_for (packed_length g es)
filled_length g es =
    omega (
      arith,
      length-append (blocks.block_octets g es) (replicate (zeros_for g es) 0),
      length-replicate {A = ℕ} (zeros_for g es) 0,
      length_block_octets g es,
    )

-- the written extension is one of RFC 3550, whose content is the filled block
pub extension_same : (f : Fields) (g : BlockForm) → form_of f.profile ≡ g →
    written.extension_octets f ≡ rtp.extension_octets (extension_with f.profile (filled g f.elements))
unfolding blocks.extension_for rtp.extension_octets payload_length
extension_same f g e =
    let n : length (filled g f.elements) ≡ 4 * words_for (packed_length g f.elements) = filled_length g f.elements in
    let words : words_for (packed_length g f.elements) ≡ length (filled g f.elements) / 4 = omega arith in
    ap (λ (h : BlockForm). be16 f.profile ++ (be16 (words_for (packed_length h f.elements)) ++ filled h f.elements)) e
    ∙ ap (λ (w : ℕ). be16 f.profile ++ (be16 w ++ filled g f.elements)) words

pub octets_plain : (f : Fields) → f.extension ≡ false → octets_of f ≡ rtp.octets (record { fixed = fixed_for f; extension = none })
unfolding octets_of
octets_plain f off =
    ap₂ (λ (s : List ℕ) (b : Bool). s ++ cond b (written.extension_octets f) []) (fixed_same f) off
    ∙ append-nil (rtp.fixed_octets (fixed_for f) f.extension)
    ∙ ap (rtp.fixed_octets (fixed_for f)) off
    ∙ sym (plain_octets (fixed_for f))

pub octets_extended : (f : Fields) (g : BlockForm) → f.extension ≡ true → form_of f.profile ≡ g →
    octets_of f ≡ rtp.octets (extended (fixed_for f) (extension_with f.profile (filled g f.elements)))
unfolding octets_of rtp.octets
octets_extended f g on e =
    ap₂ (λ (s : List ℕ) (b : Bool). s ++ cond b (written.extension_octets f) []) (fixed_same f ∙ ap (rtp.fixed_octets (fixed_for f)) on) on
    ∙ ap (λ (s : List ℕ). rtp.fixed_octets (fixed_for f) true ++ s) (extension_same f g e)

-- ---- the items

pub elements_with : (es : List Element) (z : ℕ) → elements_among (items_with es z) ≡ es
elements_with [] zero = refl
elements_with [] (suc z) = elements_with [] z
elements_with (e ∷ es) z = ap (λ (l : List Element). e ∷ l) (elements_with es z)

pub pads_with : (es : List Element) (z : ℕ) → pads_among (items_with es z) ≡ z
pads_with [] zero = refl
pads_with [] (suc z) = ap suc (pads_with [] z)
pads_with (e ∷ es) z = pads_with es z

pub octets_with : (form : Form) (es : List Element) (z : ℕ) →
    block_octets form (items_with es z) ≡ blocks.block_octets (in_paper form) es ++ replicate z 0
octets_with form [] zero = refl
octets_with form [] (suc z) = ap (λ (l : List ℕ). 0 ∷ l) (octets_with form [] z)
octets_with one_byte (e ∷ es) z =
    ap (λ (l : List ℕ). ((e.id * 16 + (length e.bytes - 1)) ∷ e.bytes) ++ l) (octets_with one_byte es z)
    ∙ sym (append_assoc ((e.id * 16 + (length e.bytes - 1)) ∷ e.bytes) (blocks.block_octets forms.OneByte es) (replicate z 0))
octets_with (two_byte appbits) (e ∷ es) z =
    ap (λ (l : List ℕ). (e.id ∷ length e.bytes ∷ e.bytes) ++ l) (octets_with (two_byte appbits) es z)
    ∙ sym (append_assoc (e.id ∷ length e.bytes ∷ e.bytes) (blocks.block_octets forms.TwoByte es) (replicate z 0))

-- the items of a written block
abbrev pub items_in : Form → List Element → List Item
items_in form es = items_with es (zeros_for (in_paper form) es)

pub filled_items : (form : Form) (es : List Element) → filled (in_paper form) es ≡ block_octets form (items_in form es)
filled_items form es = sym (octets_with form es (zeros_for (in_paper form) es))

-- a block of one element that is whole words is that element's data
pub filled_words : (words : List ℕ) → length words % 4 ≡ 0 → filled forms.Other (record { id = 0; bytes = words } ∷ []) ≡ words
filled_words words h =
    let none_left : 4 * words_for (length (words ++ []) + 1 * 0) - (length (words ++ []) + 1 * 0) ≡ 0 = omega (arith, ap length (append-nil words)) in
    ap (λ (k : ℕ). words ++ [] ++ replicate k 0) none_left ∙ append-nil (words ++ []) ∙ append-nil words

-- ---- each extension that is written is lawful

per_small : (g : BlockForm) (n : ℕ) → n ≤ 32 → n * per_element g ≤ 64
per_small forms.OneByte n h = omega arith
per_small forms.TwoByte n h = omega arith
per_small forms.Other n h = omega arith

pub filled_lawful : (g : BlockForm) (profile : ℕ) (es : List Element) → profile < 65536 → Within es → LawfulExtension (extension_with profile (filled g es))
filled_lawful g profile es h w =
    let n : length (filled g es) ≡ 4 * words_for (packed_length g es) = filled_length g es in
    let per : length es * per_element g ≤ 64 = per_small g (length es) w.few in
    record {
      profile = h;
      words = omega (arith, w.small);
      content = omega arith;
    }
