-- What the reader yields, whatever the octets: the elements of the way that they go are all taken, within the limits, and each octet of padding is one of
-- the block. So a record with any other element is never read. Assumes nothing.
use mathlib.Core.Path.{◌≡◌, refl, ◌∙◌, subst}
use mathlib.Core.Bool.{true, false}
use mathlib.Core.List.{List, [], ◌∷◌, ◌++◌}
use Prim.Native.Nat.{ℕ, ◌≤◌}
use native.Mathlib.Omega.{arith}
use lib.ListN.{length, length-append}
use Rattle.error.specs.Said.{says}
use Rattle.elements.specs.Elements.{Element}
use Rattle.block.proofs.Forms.{form_other}
use Rattle.header.specs.Fields.{Fields}
use Rattle.header.specs.Read.{Reading, read_header}
use Rattle.rfc3550.specs.Rfc3550.{Octets, Fixed, LawfulFixed}
use Rattle.rfc3550.specs.Rfc8285.{Form, one_byte, two_byte, profile_of, Item, padding, element, head_octets, block_octets}
use Rattle.header_rfc.specs.Says.{elements_among, pads_among, fields_with, Within}
use Rattle.header_rfc.specs.Taken.{TakenElement, AllTaken, Ending, ends, fifteen, leaving, lone, LawfulEnding, ending_octets, last_element, Taken, LawfulTaken, elements_taken, reading_taken, WordsIn, reading_words, Course, bare, takes, lacks, words, elements_in, answer_in}
use Rattle.header_rfc.specs.Accepted.{IsRead}
use Rattle.header_rfc.specs.RoundTrip.{InRange}
use Rattle.header_rfc.proofs.Items.{OneTaken, one_taken}
use Rattle.header_rfc.proofs.Ranges.{range_with}
use Rattle.header_rfc.proofs.Sound.{Gone, gone}
use Rattle.header_rfc.proofs.Written.{form_again}
use Rattle.header_rfc.proofs.RoundTrip.{Ways, without, in_form, whole, TakenElements}

-- ---- the record

-- what is known of a record that was read
pub record YieldedAs (f : Fields) : Type 0 where
  pub range : InRange f
  pub way : Ways TakenElements f
  -- "extensions_padding in any record up to 262,140": 65,535 words
  pub pads : f.pads ≤ 262140

-- ---- the elements and the padding of what is taken

taken_elements : (form : Form) (is : List Item) (fs : List Element) → AllTaken form is → TakenElements form fs → TakenElements form (elements_among is ++ fs)
taken_elements form [] fs t u = u
taken_elements form (padding ∷ is) fs t u = taken_elements form is fs t.1 u
taken_elements form (element id bytes ∷ is) fs t u = (t.0, taken_elements form is fs t.1 u)

last_taken : (form : Form) (e : Ending) → LawfulEnding form e → TakenElements form (last_element e)
last_taken form ends l = tt
last_taken form (fifteen len rest) l = tt
last_taken form (leaving id part more) l = (l.0, tt)
last_taken one_byte (lone id bytes) l = absurd l
last_taken (two_byte appbits) (lone id bytes) l = (l, tt)

-- each octet of padding is one of the block
pub pads_fit : (form : Form) (is : List Item) → pads_among is ≤ length (block_octets form is)
pads_fit form [] = omega arith
pads_fit form (padding ∷ is) = omega (arith, pads_fit form is)
pads_fit form (element id bytes ∷ is) = omega (arith, pads_fit form is, length-append (head_octets form id (length bytes) ++ bytes) (block_octets form is))

of_taken : (t : Taken) → LawfulTaken t → Within (elements_taken t) → YieldedAs (reading_taken t).fields
unfolding fields_with
of_taken t l w =
    let block : List ℕ = block_octets t.form t.items in
    record {
      range = range_with t.fixed l.header.fixed true (profile_of t.form) (elements_taken t) (pads_among t.items) l.header.extension.profile w;
      way = in_form t.form l.plain refl refl (form_again t.form l.plain)
          (taken_elements t.form t.items (last_element t.ending) l.items (last_taken t.form t.ending l.ending));
      pads = omega
          (arith, l.header.extension.words, l.header.extension.content, pads_fit t.form t.items, length-append block (ending_octets t.form t.ending));
    }

of_words : {s : List ℕ} (w : WordsIn s) → Within (elements_in (words w)) → YieldedAs (reading_words w).fields
unfolding fields_with
of_words w n =
    record {
      range = range_with w.fixed w.lawful.fixed true w.profile (elements_in (words w)) 0 w.lawful.extension.profile n;
      way = whole w.words refl (form_other w.not_one_byte w.not_two_byte) refl (omega (arith, w.lawful.extension.content)) w.not_one_byte w.not_two_byte;
      pads = omega arith;
    }

of_plain : (f : Fixed) → LawfulFixed f → YieldedAs (fields_with f false 0 [] 0)
unfolding fields_with
of_plain f l =
    record {
      range = range_with f l false 0 [] 0 (omega arith) (record { few = omega arith; small = omega arith });
      way = without refl refl refl;
      pads = omega arith;
    }

pub as_yielded : (s : List ℕ) → Octets s → (r : Reading) → read_header s ≡ says r → YieldedAs r.fields
as_yielded s o r e = go g.course g.within g.said
  where
    g : Gone s r
    g = gone s r o e

    same : {q : Reading} → says q ≡ says r → YieldedAs q.fields → YieldedAs r.fields
    same {q} p y = let reading : q ≡ r = cc in subst (λ (t : Reading). YieldedAs t.fields) reading y

    go : (c : Course s) → Within (elements_in c) → answer_in c ≡ says r → YieldedAs r.fields
    go (bare b) w p = same p (of_plain b.fixed b.lawful)
    go (takes t) w p = same p (of_taken t.taken t.lawful w)
    go (lacks l) w p = absurd (let z : ◌≡◌ {A = ℕ} 0 1 = cc in omega arith)
    go (words x) w p = same p (of_words x w)

-- ---- what is never read

taken_at : (form : Form) (es : List Element) (e : Element) (fs : List Element) → TakenElements form (es ++ (e ∷ fs)) → TakenElement form e.id (length e.bytes)
taken_at form [] e fs t = t.0
taken_at form (d ∷ es) e fs t = taken_at form es e fs t.1

-- in the one-byte profile: ids up to 14, 1 to 16 bytes, and not the octet 0
pub one_byte_taken : (s : List ℕ) → Octets s → (r : Reading) → read_header s ≡ says r → r.fields.profile ≡ 0xBEDE →
    (es : List Element) (e : Element) (fs : List Element) → r.fields.elements ≡ es ++ (e ∷ fs) → OneTaken e.id (length e.bytes)
one_byte_taken s o r q p es e fs at = go (as_yielded s o r q).way
  where
    go : Ways TakenElements r.fields → OneTaken e.id (length e.bytes)
    go (without off z none-there) = absurd (omega arith)
    go (in_form one_byte plain on p' g y) =
        one_taken e.id (length e.bytes) (taken_at one_byte es e fs (subst (TakenElements one_byte) at y))
    go (in_form (two_byte appbits) plain on p' g y) = absurd (omega arith)
    go (whole u on g w m a b) = absurd (a p)

-- in the two-byte profile: no id 0
pub two_byte_taken : (s : List ℕ) → Octets s → (r : Reading) → read_header s ≡ says r → r.fields.profile ≡ 0x1000 →
    (es : List Element) (e : Element) (fs : List Element) → r.fields.elements ≡ es ++ (e ∷ fs) → 1 ≤ e.id
two_byte_taken s o r q p es e fs at = go (as_yielded s o r q).way
  where
    go : Ways TakenElements r.fields → 1 ≤ e.id
    go (without off z none-there) = absurd (omega arith)
    go (in_form one_byte plain on p' g y) = absurd (omega arith)
    go (in_form (two_byte appbits) plain on p' g y) =
        (taken_at (two_byte appbits) es e fs (subst (TakenElements (two_byte appbits)) at y)).not_padding
    go (whole u on g w m a b) = absurd (b p)

-- RFC 8285 4.2: the one-byte form's ids 15, and 0 with one byte, are written and never read
pub fifteen_never : (f : Fields) → f.profile ≡ 0xBEDE → (es : List Element) (e : Element) (fs : List Element) → f.elements ≡ es ++ (e ∷ fs) →
    e.id ≡ 15 → IsRead f → ⊥
fifteen_never f p es e fs at h i =
    let t : OneTaken e.id (length e.bytes) = one_byte_taken i.s i.octets i.reading i.read (i.profile ∙ p) es e fs (i.elements ∙ at) in
    omega (arith, t.id_fits)

pub zero_never : (f : Fields) → f.profile ≡ 0xBEDE → (es : List Element) (e : Element) (fs : List Element) → f.elements ≡ es ++ (e ∷ fs) →
    e.id ≡ 0 → length e.bytes ≡ 1 → IsRead f → ⊥
zero_never f p es e fs at h n i =
    let t : OneTaken e.id (length e.bytes) = one_byte_taken i.s i.octets i.reading i.read (i.profile ∙ p) es e fs (i.elements ∙ at) in
    omega (arith, t.not_zero)

-- RFC 8285 4.3: the two-byte form's id 0 is written and never read
pub two_byte_zero_never : (f : Fields) → f.profile ≡ 0x1000 → (es : List Element) (e : Element) (fs : List Element) → f.elements ≡ es ++ (e ∷ fs) →
    e.id ≡ 0 → IsRead f → ⊥
two_byte_zero_never f p es e fs at h i =
    let t : 1 ≤ e.id = two_byte_taken i.s i.octets i.reading i.read (i.profile ∙ p) es e fs (i.elements ∙ at) in
    omega arith
