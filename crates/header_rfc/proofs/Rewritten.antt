-- The other way round: octets that were read, written again. Where the padding stands behind the elements and fills the last word they are the
-- same octets; and an element of id 15 cuts off what was written from it on. Assumes nothing.
use mathlib.Core.Path.{◌≡◌, refl, sym, ap, ap₂, ◌∙◌, subst}
use mathlib.Core.Bool.{true, cond}
use mathlib.Core.List.{List, [], ◌∷◌, ◌++◌, append_assoc, append-nil}
use mathlib.Core.Option.{Option, none, some}
use Prim.Native.Nat.{ℕ, ◌+◌, ◌-◌, ◌*◌, ◌/◌, ◌<◌, ◌≤◌}
use native.Mathlib.Omega.{arith}
use lib.ListN.{length, get_or, replicate, length-append, length-replicate}
use Rattle.error.specs.Said.{says}
use Rattle.elements.specs.Elements.{Element}
use Rattle.block.specs.Form.{form_of, words_for}
use Rattle.block.specs.declared.Form.{Form as BlockForm}
use Rattle.block.specs.declared.Form.TheVariants as forms
use Rattle.block_write.specs.Write as blocks
use Rattle.block_write.proofs.Octets.{length_block_octets}
use Rattle.block.proofs.Forms.{form_other}
use Rattle.header.specs.declared.Header.{Header}
use Rattle.header.specs.Fields.{Fields, fields_of}
use Rattle.header.specs.Read.{read_header}
use Rattle.header.specs.Write.{octets_of, in_writing_domain}
use Rattle.header.specs.Write as written
use Rattle.rfc3550.specs.Rfc3550.{Fixed, Extension, LawfulExtension}
use Rattle.rfc3550.specs.Rfc3550 as rtp
use Rattle.rfc3550.proofs.Places.{version_at}
use Rattle.rfc3550.specs.Rfc8285.{Form, one_byte, two_byte, profile_of, padding, item_octets, block_octets, Content, laid, other, extension_in, extension_with, Plan, Lawful, LawfulPart, octets}
use Rattle.header_rfc.specs.Says.{elements_among, pads_among, fields_said, fields_with, Within, Plain, Fits}
use Rattle.header_rfc.specs.Taken.{AllTaken, fifteen, Taken, header_taken}
use Rattle.header_rfc.specs.Accepted.{ReadAs}
use Rattle.header_rfc.specs.RoundTrip.{InRange, AsTyped, AllKept, read_back, Trailing, items_for, items_with}
use Rattle.header_rfc.proofs.Items.{all_taken}
use Rattle.header_rfc.proofs.Fixed.{extended}
use Rattle.header_rfc.proofs.Ranges.{only_in_range}
use Rattle.header_rfc.proofs.Written.{fixed_for, fixed_lawful, fixed_same, in_paper, form_again, packed_length, zeros_for, filled, octets_with, filled_lawful, filled_words, elements_with, pads_with, octets_plain, octets_extended}
use Rattle.header_rfc.proofs.RoundTrip.{in_form, kept_lawful, back}
use Rattle.header_rfc.proofs.Deviations.{reserved_read}
use Rattle.header_rfc.proofs.Endings.{within_front}

-- ---- the same octets again

-- fewer than four octets of padding fill the last word in one way
zeros_told : (n z m : ℕ) → n + z ≡ 4 * m → z < 4 → z ≡ 4 * words_for n - n
zeros_told n z m e h = omega arith

-- a header whose padding stands behind its elements, and only fills the last word, is written as the octets that were read
pub written_again : (p : Plan) → Lawful p → Plain p.content → Trailing p.content → octets_of (fields_said p) ≡ octets p
unfolding fields_with
written_again p l plain t = go p.content l.content l.header.extension plain t
  where
    f : Fixed
    f = p.fixed

    go : (c : Option Content) → LawfulPart c → rtp.LawfulPart (extension_in c) → Plain c → Trailing c →
        octets_of (fields_said (record { fixed = f; content = c })) ≡ octets (record { fixed = f; content = c })
    go none m k q u = octets_plain (fields_said (record { fixed = f; content = none })) refl
    go (some (laid form is)) m k q u =
        let es : List Element = u.0 in
        let z : ℕ = u.1 in
        let elements : elements_among is ≡ es = ap elements_among u.2 ∙ elements_with es z in
        let block : block_octets form is ≡ blocks.block_octets (in_paper form) es ++ replicate z 0 = ap (block_octets form) u.2 ∙ octets_with form es z in
        let long : length (block_octets form is) ≡ packed_length (in_paper form) es + z =
        ap length block ∙ length-append (blocks.block_octets (in_paper form) es) (replicate z 0)
        ∙ ap₂ ◌+◌ (length_block_octets (in_paper form) es) (length-replicate {A = ℕ} z 0) in
        let fill : z ≡ zeros_for (in_paper form) es =
        zeros_told (packed_length (in_paper form) es) z (length (block_octets form is) / 4) (sym long ∙ k.content) u.3 in
        octets_extended (fields_said (record { fixed = f; content = some (laid form is) })) (in_paper form) refl (form_again form q)
        ∙ ap (λ (s : List ℕ). rtp.octets (extended f (extension_with (profile_of form) s)))
        (ap (filled (in_paper form)) elements
        ∙ ap (λ (n : ℕ). blocks.block_octets (in_paper form) es ++ replicate n 0) (sym fill)
        ∙ sym block)
    go (some (other profile words)) m k q u =
        octets_extended (fields_said (record { fixed = f; content = some (other profile words) })) forms.Other refl
        (form_other m.0 (λ e. m.1 (omega arith)))
        ∙ ap (λ (s : List ℕ). rtp.octets (extended f (extension_with profile s))) (filled_words words (omega (arith, k.content)))

-- ---- id 15, written

block_append : (g : BlockForm) (es fs : List Element) → blocks.block_octets g (es ++ fs) ≡ blocks.block_octets g es ++ blocks.block_octets g fs
block_append g [] fs = refl
block_append g (e ∷ es) fs =
    ap (λ (s : List ℕ). blocks.element_octets g e ++ s) (block_append g es fs)
    ∙ sym (append_assoc (blocks.element_octets g e) (blocks.block_octets g es) (blocks.block_octets g fs))

-- elements without padding behind them
items_alone : (es : List Element) → items_with es 0 ≡ items_for es
items_alone es = append-nil (items_for es)

octets_alone : (form : Form) (es : List Element) → blocks.block_octets (in_paper form) es ≡ block_octets form (items_for es)
octets_alone form es =
    sym (append-nil (blocks.block_octets (in_paper form) es)) ∙ sym (octets_with form es 0) ∙ ap (block_octets form) (items_alone es)

-- what was written from an id 15 on is payload
fifteen_cuts : (f : Fields) → InRange f → f.extension ≡ true → f.profile ≡ 0xBEDE → (es fs : List Element) (bytes : List ℕ) →
    f.elements ≡ es ++ (record { id = 15; bytes = bytes } ∷ fs) → AllKept 14 1 16 es → length bytes ≤ 16 →
    (payload : List ℕ) → Fits (octets_of f ++ payload) →
    ReadAs (octets_of f ++ payload) (fixed_for f) 0xBEDE es 0
    (bytes ++ (blocks.block_octets forms.OneByte fs ++ replicate (zeros_for forms.OneByte f.elements) 0) ++ payload)
fifteen_cuts f w on p es fs bytes at k most payload fits =
    subst (λ (s : List ℕ). ReadAs (s ++ payload) (fixed_for f) 0xBEDE es 0 (rest ++ payload)) (sym same)
    (subst (λ (l : List Element). ReadAs (cut_octets ++ payload) (fixed_for f) 0xBEDE l 0 (rest ++ payload)) elements
    (subst (λ (n : ℕ). ReadAs (cut_octets ++ payload) (fixed_for f) 0xBEDE (elements_among (items_for es)) n (rest ++ payload)) pads
    (reserved_read cut_there
    (record {
      header = record { fixed = fixed_lawful f w; extension = subst LawfulExtension lay (filled_lawful forms.OneByte f.profile f.elements w.profile w.within) };
      plain = tt;
      items = all_taken one_byte (items_for es) (kept_lawful one_byte es k);
      ending = omega arith;
    })
    payload
    (subst (λ (s : List ℕ). Fits (s ++ payload)) same fits)
    (length bytes - 1) rest refl
    (subst Within (sym elements) (within_front es (record { id = 15; bytes = bytes } ∷ fs) (subst Within at w.within))))))
  where
    zeros : List ℕ
    zeros = replicate (zeros_for forms.OneByte f.elements) 0

    rest : List ℕ
    rest = bytes ++ (blocks.block_octets forms.OneByte fs ++ zeros)

    cut_there : Taken
    cut_there = record { fixed = fixed_for f; form = one_byte; items = items_for es; ending = fifteen (length bytes - 1) rest }

    cut_octets : List ℕ
    cut_octets = rtp.octets (header_taken cut_there)

    elements : elements_among (items_for es) ≡ es
    elements = ap elements_among (sym (items_alone es)) ∙ elements_with es 0

    pads : pads_among (items_for es) ≡ 0
    pads = ap pads_among (sym (items_alone es)) ∙ pads_with es 0

    content : filled forms.OneByte f.elements ≡ block_octets one_byte (items_for es) ++ ((15 * 16 + (length bytes - 1)) ∷ rest)
    content =
        ap (λ (s : List ℕ). s ++ zeros)
        (ap (blocks.block_octets forms.OneByte) at
        ∙ block_append forms.OneByte es (record { id = 15; bytes = bytes } ∷ fs)
        ∙ ap (λ (s : List ℕ). s ++ (((15 * 16 + (length bytes - 1)) ∷ bytes) ++ blocks.block_octets forms.OneByte fs)) (octets_alone one_byte es))
        ∙ regroup
      where
        regroup : block_octets one_byte (items_for es) ++ ((15 * 16 + (length bytes - 1)) ∷ (bytes ++ blocks.block_octets forms.OneByte fs)) ++ zeros
            ≡ block_octets one_byte (items_for es) ++ ((15 * 16 + (length bytes - 1)) ∷ rest)
        regroup = simp append_assoc

    lay : extension_with f.profile (filled forms.OneByte f.elements)
        ≡ extension_with 0xBEDE (block_octets one_byte (items_for es) ++ ((15 * 16 + (length bytes - 1)) ∷ rest))
    lay = ap₂ extension_with p content

    same : octets_of f ≡ cut_octets
    same = octets_extended f forms.OneByte on (ap form_of p) ∙ ap (λ (x : Extension). rtp.octets (extended (fixed_for f) x)) lay

-- ---- id 0, written

-- in the one-byte form an element of id 0 with one byte is written as the octets of padding and that byte ..
pub zero_octets : (b : ℕ) → blocks.element_octets forms.OneByte (record { id = 0; bytes = b ∷ [] }) ≡ item_octets one_byte padding ++ (b ∷ [])
zero_octets b = refl

-- .. and in the two-byte form an element of id 0 as those of padding, a length and the data
pub two_byte_zero_octets : (bytes : List ℕ) →
    blocks.element_octets forms.TwoByte (record { id = 0; bytes = bytes }) ≡ item_octets (two_byte 0) padding ++ (length bytes ∷ bytes)
two_byte_zero_octets bytes = refl

-- ---- a record of the writing domain

module _ (h : Header) (t : AsTyped h) (d : in_writing_domain h ≡ true) where
  abbrev f : Fields
  f = fields_of h

  -- RFC 8285 4.2: an element of id 15 is written; the elements before it read back, and it is payload with all that was written behind it
  pub fifteen_written : f.extension ≡ true → f.profile ≡ 0xBEDE → (es fs : List Element) (bytes : List ℕ) →
      f.elements ≡ es ++ (record { id = 15; bytes = bytes } ∷ fs) → AllKept 14 1 16 es → length bytes ≤ 16 →
      (payload : List ℕ) → Fits (octets_of f ++ payload) →
      ReadAs (octets_of f ++ payload) (fixed_for f) 0xBEDE es 0
      (bytes ++ (blocks.block_octets forms.OneByte fs ++ replicate (zeros_for forms.OneByte f.elements) 0) ++ payload)
  fifteen_written on p es fs bytes at k most payload fits = fifteen_cuts f (only_in_range h t d) on p es fs bytes at k most payload fits

  -- in the one-byte form elements of id 0 with 2 to 16 bytes are written and read back as such
  pub zero_reads_back : f.extension ≡ true → f.profile ≡ 0xBEDE → AllTaken one_byte (items_for f.elements) →
      (payload : List ℕ) → Fits (octets_of f ++ payload) →
      read_header (octets_of f ++ payload) ≡ says (record { fields = read_back f; place = length (octets_of f) })
  zero_reads_back on p taken payload fits =
      back f (only_in_range h t d) payload fits (in_form one_byte tt on p (ap form_of p) taken)

  -- RFC 3550 5.1: whatever version the record has, it is written
  pub version_written : (payload : List ℕ) → get_or (octets_of f ++ payload) 0 0 / 64 ≡ f.version
  unfolding octets_of
  version_written payload =
      let tail : List ℕ = cond f.extension (written.extension_octets f) [] ++ payload in
      ap (λ (s : List ℕ). get_or s 0 0 / 64)
      (append_assoc (written.fixed_octets f) (cond f.extension (written.extension_octets f) []) payload ∙ ap (λ (s : List ℕ). s ++ tail) (fixed_same f))
      ∙ version_at (fixed_for f) f.extension (fixed_lawful f (only_in_range h t d)) tail
