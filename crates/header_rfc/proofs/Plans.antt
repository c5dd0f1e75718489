-- A lawful plan goes one of the four ways, and so do items that are taken, up to the block's end: what is said of them is what the way says. Assumes nothing.
use mathlib.Core.Path.{◌≡◌, refl, sym, ap, ◌∙◌, subst}
use mathlib.Core.Bool.{true}
use mathlib.Core.List.{List, [], ◌∷◌, ◌++◌, append-nil}
use mathlib.Core.Option.{Option, none, some}
use Prim.Native.Nat.{ℕ, ◌+◌, ◌-◌}
use native.Mathlib.Omega.{arith}
use lib.ListN.{length}
use Rattle.error.specs.Said.{says, refuse}
use Rattle.header.specs.Read.{Reading, read_header}
use Rattle.rfc3550.specs.Rfc3550.{Fixed}
use Rattle.rfc3550.specs.Rfc3550 as rtp
use Rattle.rfc3550.specs.Rfc8285.{Form, profile_of, Item, block_octets, Content, laid, other, Lawful, octets}
use Rattle.header_rfc.specs.Says.{elements_among, pads_among, whole_element, fields_with, reading_at, reading_said, Within, Over, PlainForm, Plain, Fits}
use Rattle.header_rfc.specs.Taken.{AllTaken, ends, header_with, Taken, header_taken, Course, bare, takes, lacks, words, elements_in, answer_in}
use Rattle.header_rfc.proofs.Items.{all_taken}
use Rattle.header_rfc.proofs.Follows.{follows}

-- ---- what a way says

pub said_same : {q r : Reading} → says q ≡ says r → r ≡ q
said_same e = cc

-- its elements are those of the reading
pub elements_said : {s : List ℕ} (c : Course s) (r : Reading) → answer_in c ≡ says r → elements_in c ≡ r.fields.elements
unfolding fields_with
elements_said (bare b) r q = sym (ap (λ (t : Reading). t.fields.elements) (said_same q))
elements_said (takes t) r q = sym (ap (λ (t : Reading). t.fields.elements) (said_same q))
elements_said (lacks l) r q = absurd (let z : ◌≡◌ {A = ℕ} 0 1 = cc in omega arith)
elements_said (words x) r q = sym (ap (λ (t : Reading). t.fields.elements) (said_same q))

-- r is what one of them says
pub record Way (s : List ℕ) (r : Reading) : Type 0 where
  pub course : Course s
  pub said : answer_in course ≡ says r

-- within the limits it is read, and over them it is 7
module _ (s : List ℕ) (r : Reading) (x : Way s r) (fits : Fits s) where
  pub way_within : Within r.fields.elements → read_header s ≡ says r
  way_within w = follows.within s x.course fits (subst Within (sym (elements_said x.course r x.said)) w) ∙ x.said

  pub way_over : Over r.fields.elements → read_header s ≡ refuse 7
  way_over o = follows.over s x.course fits (subst Over (sym (elements_said x.course r x.said)) o)

-- ---- items that are taken, and words

pub items_way : (s : List ℕ) (f : Fixed) (form : Form) (is : List Item) (payload : List ℕ) → PlainForm form → AllTaken form is →
    rtp.Lawful (header_with f (profile_of form) (block_octets form is)) → rtp.octets (header_with f (profile_of form) (block_octets form is)) ++ payload ≡ s →
    Way s (reading_at f true (profile_of form) (elements_among is) (pads_among is) (length (rtp.octets (header_with f (profile_of form) (block_octets form is)))))
items_way s f form is payload plain taken l same =
    record {
      course = takes
          (record {
            taken = t;
            lawful = record { header = subst rtp.Lawful (sym header) l; plain = plain; items = taken; ending = tt };
            after = payload;
            same = ap (λ (p : rtp.Plan). rtp.octets p ++ payload) header ∙ same;
          });
      said = λ i. says (reading_at f true (profile_of form) (append-nil (elements_among is) i) (pads_among is) (place i));
    }
  where
    t : Taken
    t = record { fixed = f; form = form; items = is; ending = ends }

    header : header_taken t ≡ header_with f (profile_of form) (block_octets form is)
    header = ap (header_with f (profile_of form)) (append-nil (block_octets form is))

    place : length (rtp.octets (header_taken t)) + 0 - 0 ≡ length (rtp.octets (header_with f (profile_of form) (block_octets form is)))
    place = omega (arith, ap (λ (p : rtp.Plan). length (rtp.octets p)) header)

pub words_way : (s : List ℕ) (f : Fixed) (profile : ℕ) (content payload : List ℕ) → (profile ≡ 0xBEDE → ⊥) → (profile ≡ 0x1000 → ⊥) →
    rtp.Lawful (header_with f profile content) → rtp.octets (header_with f profile content) ++ payload ≡ s →
    Way s (reading_at f true profile (whole_element content ∷ []) 0 (length (rtp.octets (header_with f profile content))))
words_way s f profile content payload a b l same =
    record {
      course = words
          (record {
            fixed = f;
            profile = profile;
            not_one_byte = a;
            not_two_byte = b;
            words = content;
            lawful = l;
            payload = payload;
            same = same;
          });
      said = refl;
    }

-- ---- a lawful plan

pub plan_way : (s : List ℕ) (f : Fixed) (c : Option Content) (payload : List ℕ) → Lawful (record { fixed = f; content = c }) → Plain c →
    octets (record { fixed = f; content = c }) ++ payload ≡ s → Way s (reading_said (record { fixed = f; content = c }))
plan_way s f none payload l plain same =
    record { course = bare (record { fixed = f; lawful = l.header.fixed; payload = payload; same = same }); said = refl }
plan_way s f (some (laid form is)) payload l plain same =
    items_way s f form is payload plain (all_taken form is l.content.1) l.header same
plan_way s f (some (other profile content)) payload l plain same =
    words_way s f profile content payload l.content.0 (λ e. l.content.1 (omega arith)) l.header same
