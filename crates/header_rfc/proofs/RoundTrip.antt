-- What is written reads back: the written octets are those of a plan that says the record, and every such plan is read as what it says.
-- Assumes nothing.
use mathlib.Core.Path.{◌≡◌, refl, sym, ap, ap₂, ◌∙◌, subst}
use mathlib.Core.Bool.{Bool, true, false, cond}
use mathlib.Core.List.{List, [], ◌∷◌, ◌++◌, append-nil}
use mathlib.Core.Option.{none, some}
use Prim.Native.Nat.{ℕ, zero, suc, ◌-◌, ◌*◌, ◌%◌}
use native.Mathlib.Omega.{arith}
use lib.ListN.{length, replicate}
use Rattle.error.specs.Said.{Said, says}
use Rattle.wire.proofs.Each.{each_append}
use Rattle.elements.specs.Elements.{Element, data_of}
use Rattle.block.specs.Form.{form_of, words_for}
use Rattle.block.specs.declared.Form.{Form as BlockForm}
use Rattle.block.specs.declared.Form.TheVariants as forms
use Rattle.header.specs.Fields.{Fields}
use Rattle.header.specs.Read.{Reading, read_header}
use Rattle.header.specs.Size.{payload_length}
use Rattle.header.specs.Write.{octets_of}
use Rattle.rfc3550.specs.Rfc3550.{Extension, LawfulExtension}
use Rattle.rfc3550.specs.Rfc3550 as rtp
use Rattle.rfc3550.proofs.Places.{plain_octets}
use Rattle.rfc3550.specs.Rfc8285.{Form, one_byte, two_byte, LawfulForm, profile_of, Item, padding, highest_id, least_data, most_data, LawfulItem, AllLawful, laid, other, extension_of, extension_with}
use Rattle.header_rfc.specs.Says.{elements_among, pads_among, whole_element, fields_with, reading_at, PlainForm, AppBits, Fits}
use Rattle.header_rfc.specs.Taken.{TakenItem, AllTaken}
use Rattle.header_rfc.specs.RoundTrip.{InRange, AllKept, KeptIn, KeptBy, ReadsBack, zeros_written, read_back, WrittenAs, items_for}
use Rattle.header_rfc.proofs.Items.{Known, known, is_one_byte, is_two_byte, is_other, all_taken}
use Rattle.header_rfc.proofs.Fixed.{read_plain, extended}
use Rattle.header_rfc.proofs.Plans.{way_within, items_way, words_way}
use Rattle.header_rfc.proofs.Written.{fixed_for, fixed_lawful, in_paper, zeros_for, filled, filled_lawful, filled_words, filled_items, items_in, elements_with, pads_with, octets_plain, octets_extended}

-- ---- the record that is read back

reading_back : (f : Fields) (x : Bool) (profile : ℕ) (es : List Element) (pads n : ℕ) → x ≡ f.extension → profile ≡ f.profile →
    es ≡ f.elements → pads ≡ zeros_written f →
    reading_at (fixed_for f) x profile es pads n ≡ record { fields = read_back f; place = n }
unfolding fields_with
reading_back f x profile es pads n ex ep ee ez i =
    record {
      fields = record {
        version = f.version;
        padding = f.padding;
        extension = ex i;
        marker = f.marker;
        type = f.type;
        number = f.number;
        time = f.time;
        source = f.source;
        csrcs = f.csrcs;
        profile = ep i;
        elements = ee i;
        pads = ez i;
      };
      place = n;
    }

no_zeros : (f : Fields) → f.extension ≡ false → 0 ≡ zeros_written f
unfolding zeros_written
no_zeros f off = sym (ap (λ (b : Bool). cond b (4 * words_for (payload_length f) - payload_length f) 0) off)

zeros_filled : (f : Fields) (g : BlockForm) → f.extension ≡ true → form_of f.profile ≡ g → zeros_for g f.elements ≡ zeros_written f
unfolding zeros_written payload_length
zeros_filled f g on e =
    sym
    (ap (λ (b : Bool). cond b (4 * words_for (payload_length f) - payload_length f) 0) on
    ∙ ap (λ (h : BlockForm). zeros_for h f.elements) e)

-- ---- the plan of a record

-- the elements as items of a form
module _ (f : Fields) (w : InRange f) (form : Form) (on : f.extension ≡ true) (p : f.profile ≡ profile_of form)
    (g : form_of f.profile ≡ in_paper form) where
  abbrev laid_items : List Item
  laid_items = items_in form f.elements

  lay : extension_with f.profile (filled (in_paper form) f.elements) ≡ extension_of (laid form laid_items)
  lay = ap₂ extension_with p (filled_items form f.elements)

  pub laid_same : octets_of f ≡ rtp.octets (extended (fixed_for f) (extension_of (laid form laid_items)))
  laid_same = octets_extended f (in_paper form) on g ∙ ap (λ (x : Extension). rtp.octets (extended (fixed_for f) x)) lay

  pub laid_lawful : LawfulExtension (extension_of (laid form laid_items))
  laid_lawful = subst LawfulExtension lay (filled_lawful (in_paper form) f.profile f.elements w.profile w.within)

  pub laid_elements : elements_among laid_items ≡ f.elements
  laid_elements = elements_with f.elements (zeros_for (in_paper form) f.elements)

  pub laid_said : (n : ℕ) → reading_at (fixed_for f) true (profile_of form) (elements_among laid_items) (pads_among laid_items) n ≡ record { fields = read_back f; place = n }
  laid_said n =
      reading_back f true (profile_of form) (elements_among laid_items) (pads_among laid_items) n (sym on) (sym p) laid_elements
      (pads_with f.elements (zeros_for (in_paper form) f.elements) ∙ zeros_filled f (in_paper form) on g)

-- one element of whole words
module _ (f : Fields) (w : InRange f) (words : List ℕ) (on : f.extension ≡ true) (g : form_of f.profile ≡ forms.Other)
    (e : f.elements ≡ whole_element words ∷ []) (m : length words % 4 ≡ 0) where
  all : filled forms.Other f.elements ≡ words
  all = ap (filled forms.Other) e ∙ filled_words words m

  pub other_same : octets_of f ≡ rtp.octets (extended (fixed_for f) (extension_with f.profile words))
  other_same =
      octets_extended f forms.Other on g
      ∙ ap (λ (s : List ℕ). rtp.octets (extended (fixed_for f) (extension_with f.profile s))) all

  pub other_lawful : LawfulExtension (extension_with f.profile words)
  other_lawful =
      subst (λ (s : List ℕ). LawfulExtension (extension_with f.profile s)) all
      (filled_lawful forms.Other f.profile f.elements w.profile w.within)

  pub other_said : (n : ℕ) → reading_at (fixed_for f) true f.profile (whole_element words ∷ []) 0 n ≡ record { fields = read_back f; place = n }
  other_said n =
      let long : length (data_of f.elements) ≡ length words = ap (λ (es : List Element). length (data_of es)) e ∙ ap length (append-nil words) in
      let none_left : 0 ≡ zeros_for forms.Other f.elements = omega arith in
      reading_back f true f.profile (whole_element words ∷ []) 0 n (sym on) refl (sym e) (none_left ∙ zeros_filled f forms.Other on g)

-- no extension
pub plain_said : (f : Fields) → f.extension ≡ false → f.profile ≡ 0 → f.elements ≡ [] → (n : ℕ) →
    reading_at (fixed_for f) false 0 [] 0 n ≡ record { fields = read_back f; place = n }
plain_said f off p e n = reading_back f false 0 [] 0 n (sym off) (sym p) (sym e) (no_zeros f off)

-- ---- the three ways in which the extension of a record that is written and reads back can stand

-- none; elements of a form, of which P is so; or one element of whole words
pub data Ways (P : Form → List Element → Type 0) (f : Fields) : Type 0 where
  without : f.extension ≡ false → f.profile ≡ 0 → f.elements ≡ [] → Ways P f
  in_form : (form : Form) → PlainForm form → f.extension ≡ true → f.profile ≡ profile_of form → form_of f.profile ≡ in_paper form →
      P form f.elements → Ways P f
  whole : (words : List ℕ) → f.extension ≡ true → form_of f.profile ≡ forms.Other → f.elements ≡ whole_element words ∷ [] →
      length words % 4 ≡ 0 → (f.profile ≡ 0xBEDE → ⊥) → (f.profile ≡ 0x1000 → ⊥) → Ways P f

pub ways_by : (P Q : Form → List Element → Type 0) → ((form : Form) (es : List Element) → P form es → Q form es) → (f : Fields) → Ways P f → Ways Q f
ways_by P Q h f (without off p e) = without off p e
ways_by P Q h f (in_form form plain on p g k) = in_form form plain on p g (h form f.elements k)
ways_by P Q h f (whole words on g e m a b) = whole words on g e m a b

-- elements that are lawful ..
abbrev pub LawfulElements : Form → List Element → Type 0
LawfulElements form es = AllLawful form (items_for es)

-- .. or taken at least
abbrev pub TakenElements : Form → List Element → Type 0
TakenElements form es = AllTaken form (items_for es)

-- ---- what stands so reads back

lawful_padding : (form : Form) (z : ℕ) → AllLawful form (replicate z padding)
lawful_padding form zero = tt
lawful_padding form (suc z) = (tt, lawful_padding form z)

module _ (f : Fields) (w : InRange f) (payload : List ℕ) (fits : Fits (octets_of f ++ payload)) where
  -- what is to be shown
  abbrev Back : Type 0
  Back = read_header (octets_of f ++ payload) ≡ says (record { fields = read_back f; place = length (octets_of f) })

  -- the octets of a plan in the place of those written
  through : (s : List ℕ) → octets_of f ≡ s →
      (Fits (s ++ payload) → read_header (s ++ payload) ≡ says (record { fields = read_back f; place = length s })) → Back
  through s e h =
      ap (λ (t : List ℕ). read_header (t ++ payload)) e
      ∙ h (rw e at fits)
      ∙ ap (λ (t : List ℕ). says (record { fields = read_back f; place = length t })) (sym e)

  pub back : Ways TakenElements f → Back
  unfolding fields_with
  back (without off p e) =
      through (rtp.fixed_octets (fixed_for f) false) (octets_plain f off ∙ plain_octets (fixed_for f))
      (λ h. read_plain (fixed_for f) (fixed_lawful f w) payload h ∙ ap says (plain_said f off p e (length (rtp.fixed_octets (fixed_for f) false))))
  back (in_form form plain on p g t) =
      let z : ℕ = zeros_for (in_paper form) f.elements in
      let is : List Item = items_in form f.elements in
      let taken : AllTaken form is =
      each_append (TakenItem form) (items_for f.elements) (replicate z padding) t
      (all_taken form (replicate z padding) (lawful_padding form z)) in
      let s : List ℕ = rtp.octets (extended (fixed_for f) (extension_of (laid form is))) in
      through s (laid_same f w form on p g)
      (λ h. way_within (s ++ payload) (reading_at (fixed_for f) true (profile_of form) (elements_among is) (pads_among is) (length s))
      (items_way (s ++ payload) (fixed_for f) form is payload plain taken (record { fixed = fixed_lawful f w; extension = laid_lawful f w form on p g }) refl)
      h (rw (laid_elements f w form on p g) w.within)
      ∙ ap says (laid_said f w form on p g (length s)))
  back (whole words on g e m a b) =
      let s : List ℕ = rtp.octets (extended (fixed_for f) (extension_with f.profile words)) in
      through s (other_same f w words on g e m)
      (λ h. way_within (s ++ payload) (reading_at (fixed_for f) true f.profile (whole_element words ∷ []) 0 (length s))
      (words_way (s ++ payload) (fixed_for f) f.profile words payload a b (record { fixed = fixed_lawful f w; extension = other_lawful f w words on g e m }) refl)
      h (rw e at w.within)
      ∙ ap says (other_said f w words on g e m (length s)))

-- ---- the paper's conditions

pub kept_lawful : (form : Form) (es : List Element) → AllKept (highest_id form) (least_data form) (most_data form) es → LawfulElements form es
kept_lawful form [] k = tt
kept_lawful form (e ∷ es) k = (
  record { not_padding = k.0.id_from; id_fits = k.0.id_to; enough = k.0.len_from; data_fits = k.0.len_to },
  kept_lawful form es k.1,
)

pub ways_kept : (f : Fields) → ReadsBack f → Ways LawfulElements f
ways_kept f r = go f.extension refl r
  where
    on_known : Known f.profile → f.extension ≡ true → KeptIn (form_of f.profile) f.elements → Ways LawfulElements f
    on_known (is_one_byte p) on k = in_form one_byte tt on p (ap form_of p) (kept_lawful one_byte f.elements (rw p at k))
    on_known (is_two_byte p) on k = in_form (two_byte 0) refl on p (ap form_of p) (kept_lawful (two_byte 0) f.elements (rw p at k))
    on_known (is_other g a b) on k = words (rw g at k)
      where
        words : KeptIn forms.Other f.elements → Ways LawfulElements f
        words k = whole k.0 on g k.1 k.2 a b

    go : (x : Bool) → f.extension ≡ x → KeptBy x f.profile f.elements → Ways LawfulElements f
    go false off k = without off k.0 k.1
    go true on k = on_known (known f.profile) on k

-- ---- WRITER

-- the written octets are those of a lawful plan that says the record
pub writer : (f : Fields) → InRange f → ReadsBack f → (AppBits f.profile → ⊥) → (answer : Said (List ℕ)) → answer ≡ says (octets_of f) →
    WrittenAs f answer
writer f w r bits answer e = go (ways_kept f r)
  where
    lawful_form : (form : Form) → PlainForm form → LawfulForm form
    lawful_form one_byte plain = tt
    lawful_form (two_byte appbits) plain = omega arith

    go : Ways LawfulElements f → WrittenAs f answer
    go (without off p none-there) =
        record {
          plan = record { fixed = fixed_for f; content = none };
          lawful = record { header = record { fixed = fixed_lawful f w; extension = tt }; content = tt };
          same = e ∙ ap says (octets_plain f off);
          said = ap (λ (t : Reading). t.fields) (plain_said f off p none-there 0);
        }
    go (in_form form plain on p g l) =
        let z : ℕ = zeros_for (in_paper form) f.elements in
        record {
          plan = record { fixed = fixed_for f; content = some (laid form (items_in form f.elements)) };
          lawful = record {
            header = record { fixed = fixed_lawful f w; extension = laid_lawful f w form on p g };
            content = (
              lawful_form form plain,
              each_append (LawfulItem form) (items_for f.elements) (replicate z padding) l (lawful_padding form z),
            );
          };
          same = e ∙ ap says (laid_same f w form on p g);
          said = ap (λ (t : Reading). t.fields) (laid_said f w form on p g 0);
        }
    go (whole words on g is m a b) =
        record {
          plan = record { fixed = fixed_for f; content = some (other f.profile words) };
          lawful = record {
            header = record { fixed = fixed_lawful f w; extension = other_lawful f w words on g is m };
            content = (a, λ q. bits (record { from = omega arith; to = omega arith }));
          };
          same = e ∙ ap says (other_same f w words on g is m);
          said = ap (λ (t : Reading). t.fields) (other_said f w words on g is m 0);
        }
