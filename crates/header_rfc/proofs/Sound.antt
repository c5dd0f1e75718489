-- Whatever is accepted is well-formed or strays, and is told in one way alone: the octets go one of the four ways, the reader says what that way says,
-- and each way but one that is refused is a lawful plan or leaves RFC 8285. Assumes nothing.
use Rattle.std.specs.Prelude.{Ok}
use mathlib.Core.Path.{◌≡◌, refl, sym, ap, ◌∙◌, subst}
use mathlib.Core.List.{List, ◌++◌}
use mathlib.Core.Logic.{◌⊎◌, inl, inr}
use mathlib.Core.Option.{Option, none, some}
use Prim.Native.Nat.{ℕ, ◌/◌}
use native.Mathlib.Nat.{lt_of_not-le}
use native.Mathlib.Decide.{dec_le, ℕ_discrete}
use native.Mathlib.Omega.{arith}
use lib.ListN.{length, drop}
use Rattle.error.proofs.Refusing.{same_answer}
use Rattle.error.specs.Said.{Said, says, refused, refuse, said}
use Rattle.header.specs.declared.Unmarshalled.{Unmarshalled}
use Rattle.header.specs.Read.{Reading, read_header}
use Rattle.header.specs.Said.{Heard, heard, reading_heard}
use Rattle.header.proofs.Reading.{header_long, header_short, header_cut, header_extended, extension_cut, block_cut}
use Rattle.rfc3550.specs.Rfc3550.{Octets, Fixed, Extension, IsRtp, CutShort, fixed_cut, csrcs_cut, head_cut, content_cut}
use Rattle.rfc3550.specs.Rfc3550 as rtp
use Rattle.rfc3550.specs.Rfc8285.{Form, one_byte, two_byte, profile_of, Content, laid, other, Plan, Lawful, LawfulPart, plan_of, octets, extension_in, extension_of, extension_with, Conforms, LaidOut, StraysIn}
use Rattle.rfc3550.proofs.Octets.{below_left}
use Rattle.rfc3550.proofs.Blocks.{laid_or_strays}
use Rattle.rfc3550.proofs.Blocks as blocks
use Rattle.header_rfc.specs.Says.{fields_with, reading_said, Within, Over, Plain, AppBits, Fits, Conforming}
use Rattle.header_rfc.specs.Taken.{borrowed, Taken, content_taken, header_taken, reading_taken, header_with, TakenIn, WordsIn, reading_words, Course, bare, takes, lacks, words, elements_in, answer_in}
use Rattle.header_rfc.specs.Accepted.{Strayed, Unformed, Deviating, payload_left, Told, Sound, CodeTold}
use Rattle.header_rfc.proofs.Items.{within_or_over}
use Rattle.header_rfc.proofs.Fixed.{block_octets_lem}
use Rattle.header_rfc.proofs.Courses.{every_course}
use Rattle.header_rfc.proofs.OneCourse.{begun, one_beginning, plain_lawful, form_words, one_course}
use Rattle.header_rfc.proofs.Plans.{said_same, elements_said, Way, way_within, plan_way}
use Rattle.header_rfc.proofs.Follows.{follows, payload_told}

-- ---- what is cut short is refused: 1 within the fixed header and the CSRCs, 2 within the extension

abbrev pub cut_number : {s : List ℕ} → CutShort s → ℕ
cut_number (fixed_cut h) = 1
cut_number (csrcs_cut g h) = 1
cut_number (head_cut x g h) = 2
cut_number (content_cut x g h) = 2

pub cut_refused : (s : List ℕ) → Fits s → (c : CutShort s) → read_header s ≡ refuse (cut_number c)
cut_refused s fits (fixed_cut h) =
    elim (dec_le 4 (length s)) [
      | yes g ↦ header_cut s fits g (omega arith)
      | no g ↦ header_short s fits (lt_of_not-le g)
    ]
cut_refused s fits (csrcs_cut g h) = header_cut s fits (omega arith) h
cut_refused s fits (head_cut x g h) =
    header_extended s fits (omega arith) g x ∙ extension_cut s (rtp.count_at s) (rtp.extension_at s) h
cut_refused s fits (content_cut x g h) =
    header_extended s fits (omega arith) (omega arith) x ∙ block_cut s (rtp.count_at s) (rtp.extension_at s) g h

-- ---- what an answer tells

pub not_refused : {A : Type 0} (a : Said A) (n : ℕ) (r : A) → a ≡ refuse n → a ≡ says r → ⊥
not_refused a n r p q = let z : ◌≡◌ {A = ℕ} 0 1 = cc in omega arith

pub fits_accepted : (s : List ℕ) (r : Reading) → read_header s ≡ says r → Fits s
fits_accepted s r e =
    elim (dec_le (length s) 65535) [
      | yes h ↦ h
      | no h ↦ absurd (not_refused (read_header s) 8 r (header_long s (lt_of_not-le h)) e)
    ]

-- what a way says is read, where anything is
pub way_read : (s : List ℕ) (c : Course s) (q r : Reading) → answer_in c ≡ says q → read_header s ≡ says r → r ≡ q
way_read s c q r a e = go (within_or_over (elements_in c))
  where
    go : Within (elements_in c) ⊎ Over (elements_in c) → r ≡ q
    go (inl w) = same_answer (read_header s) r q e (follows.within s c (fits_accepted s r e) w ∙ a)
    go (inr o) = absurd (not_refused (read_header s) 7 r (follows.over s c (fits_accepted s r e) o) e)

-- an accepted header goes one of the four ways, within the limits
pub record Gone (s : List ℕ) (r : Reading) : Type 0 where
  pub course : Course s
  pub within : Within (elements_in course)
  pub said : answer_in course ≡ says r

pub gone : (s : List ℕ) (r : Reading) → Octets s → read_header s ≡ says r → Gone s r
gone s r o e = go (every_course s o)
  where
    fits : Fits s
    fits = fits_accepted s r e

    judged : (c : Course s) → Within (elements_in c) ⊎ Over (elements_in c) → Gone s r
    judged c (inl w) = record { course = c; within = w; said = sym (follows.within s c fits w) ∙ e }
    judged c (inr over) = absurd (not_refused (read_header s) 7 r (follows.over s c fits over) e)

    go : Course s ⊎ CutShort s → Gone s r
    go (inl c) = judged c (within_or_over (elements_in c))
    go (inr c) = absurd (not_refused (read_header s) (cut_number c) r (cut_refused s fits c) e)

-- ---- SOUND

-- a lawful plan that the reader knows whole
of_plan : (s : List ℕ) (r : Reading) (p : Plan) (payload : List ℕ) → read_header s ≡ says r → Lawful p → Plain p.content → octets p ++ payload ≡ s →
    Conforming s r
of_plan s r p payload e l plain same =
    let x : Way s (reading_said p) = plan_way s p.fixed p.content payload l plain same in
    record { plan = p; lawful = l; plain = plain; payload = payload; same = same; said = way_read s x.course (reading_said p) r x.said e }

module _ (s : List ℕ) (r : Reading) (e : read_header s ≡ says r) where
  -- items in a form: they are laid out as the RFC has it, or stray
  taken_told : (t : TakenIn s) → says (reading_taken t.taken) ≡ says r → Octets (content_taken t.taken) → Told s r
  taken_told t q o = go (laid_or_strays t.taken.form (content_taken t.taken) o)
    where
      f : Fixed
      f = t.taken.fixed

      form : Form
      form = t.taken.form

      go : LaidOut form (content_taken t.taken) ⊎ StraysIn form (content_taken t.taken) → Told s r
      go (inl l) =
          let plan : Plan = record { fixed = f; content = some (laid form l.items) } in
          let header : plan_of plan ≡ header_taken t.taken = ap (header_with f (profile_of form)) l.same in
          inl
          (of_plan s r plan (borrowed t.taken.ending ++ t.after) e
          (record {
            header = subst rtp.Lawful (sym header) t.lawful.header;
            content = (plain_lawful form t.lawful.plain, l.lawful);
          })
          t.lawful.plain
          (ap (λ (p : rtp.Plan). rtp.octets p ++ (borrowed t.taken.ending ++ t.after)) header ∙ t.same))
      go (inr y) = inr (inl (record { header = t; why = y; said = said_same q }))

  -- words: of another profile to the RFC too, or of the two-byte form with application bits
  words_told : (w : WordsIn s) → says (reading_words w) ≡ says r → Told s r
  words_told w q =
      elim (ℕ_discrete (w.profile / 16) 0x100) [
        | yes d ↦ inr (inr (record { header = w; bits = bits d w.not_two_byte; said = said_same q }))
        | no d ↦
            inl
            (of_plan s r (record { fixed = w.fixed; content = some (other w.profile w.words) }) w.payload e
            (record { header = w.lawful; content = (w.not_one_byte, d) }) tt w.same)
      ]
    where
      bits : w.profile / 16 ≡ 0x100 → (w.profile ≡ 0x1000 → ⊥) → AppBits w.profile
      bits d h = record { from = omega arith; to = omega arith }

pub sound : Sound read_header
sound s r o e = go (gone s r o e).course (gone s r o e).said
  where
    go : (c : Course s) → answer_in c ≡ says r → Told s r
    go (bare b) q =
        inl
        (of_plan s r (record { fixed = b.fixed; content = none }) b.payload e
        (record { header = record { fixed = b.lawful; extension = tt }; content = tt }) tt b.same)
    go (takes t) q =
        let x : Extension = extension_with (profile_of t.taken.form) (content_taken t.taken) in
        let payload : List ℕ = borrowed t.taken.ending ++ t.after in
        taken_told s r e t q (below_left 256 x.content payload (block_octets_lem t.taken.fixed x payload (subst Octets (sym t.same) o)))
    go (lacks l) q = absurd (let z : ◌≡◌ {A = ℕ} 0 1 = cc in omega arith)
    go (words w) q = words_told s r e w q

-- ---- the code

-- whatever `unmarshal` accepts under its contract
pub code_sound : (u : Unmarshalled) (s : List ℕ) → Octets s → heard u ≡ reading_heard (read_header s) → (place : ℕ) → u.read ≡ Ok place → CodeTold s u place
code_sound u s o contract place answer = go (read_header s) refl
  where
    heard_as : (a : Said Reading) → read_header s ≡ a → says place ≡ (reading_heard a).answer
    heard_as a e = sym (ap said answer) ∙ ap (λ (x : Heard). x.answer) (contract ∙ ap reading_heard e)

    go : (a : Said Reading) → read_header s ≡ a → CodeTold s u place
    go (says r) e =
        let p : says place ≡ says r.place = heard_as (says r) e in
        let same : r.place ≡ place = cc in
        record {
          reading = r;
          told = sound s r o e;
          payload = same;
          header = ap (λ (x : Heard). x.header) (contract ∙ ap reading_heard e);
        }
    go (refused w) e =
        let p : says place ≡ refused w = heard_as (refused w) e in
        absurd (let z : ◌≡◌ {A = ℕ} 0 1 = cc in omega arith)

-- ---- what is told is what one of the four ways says

told_way : (s : List ℕ) (r : Reading) → Told s r → Way s r
told_way s r (inl c) = subst (Way s) (sym c.said) (plan_way s c.plan.fixed c.plan.content c.payload c.lawful c.plain c.same)
told_way s r (inr (inl d)) = record { course = takes d.header; said = ap says (sym d.said) }
told_way s r (inr (inr d)) = record { course = words d.header; said = ap says (sym d.said) }

-- the octets from the payload's place on are those that are told
pub left_told : (s : List ℕ) (r : Reading) (d : Deviating s r) → drop r.place s ≡ payload_left d
left_told s r (inl d) = payload_told s (takes d.header) r (ap says (sym d.said))
left_told s r (inr d) = payload_told s (words d.header) r (ap says (sym d.said))

-- so the octets alone determine what is told ..
pub told_once : (s : List ℕ) (r t : Reading) → Told s r → Told s t → r ≡ t
told_once s r t a b =
    let x : Way s r = told_way s r a in
    let y : Way s t = told_way s t b in
    said_same (sym y.said ∙ sym (one_course x.course y.course).1 ∙ x.said)

-- .. and within the limits it is what is read ..
pub exact : (s : List ℕ) (r : Reading) → Fits s → Within r.fields.elements → Told s r → read_header s ≡ says r
exact s r fits w a = way_within s r (told_way s r a) fits w

-- .. where whatever is read stands
pub limits : (s : List ℕ) (r : Reading) → Octets s → read_header s ≡ says r → Fits s × Within r.fields.elements
limits s r o e =
    let g : Gone s r = gone s r o e in
    (fits_accepted s r e, subst Within (elements_said g.course r g.said) g.within)

-- ---- what is well-formed does not leave the RFC

conforms_of : (c : Option Content) (x : Extension) → LawfulPart c → extension_in c ≡ some x → Conforms x
conforms_of none x l e = absurd (let z : ◌≡◌ {A = ℕ} 0 1 = cc in omega arith)
conforms_of (some c) x l e = let same : extension_of c ≡ x = cc in record { content = c; lawful = l; same = same }

no_bits : (c : Option Content) (profile : ℕ) (content : List ℕ) → AppBits profile → LawfulPart c → Plain c → extension_in c ≡ some (extension_with profile content) → ⊥
no_bits none profile content a l plain e = let z : ◌≡◌ {A = ℕ} 0 1 = cc in omega arith
no_bits (some (laid one_byte is)) profile content a l plain e =
    let same : extension_of (laid one_byte is) ≡ extension_with profile content = cc in
    omega (arith, a.to, ap (λ (x : Extension). x.profile) same)
no_bits (some (laid (two_byte appbits) is)) profile content a l plain e =
    let same : extension_of (laid (two_byte appbits) is) ≡ extension_with profile content = cc in
    omega (arith, a.from, ap (λ (x : Extension). x.profile) same)
no_bits (some (other p s)) profile content a l plain e =
    let same : extension_with p s ≡ extension_with profile content = cc in
    let profiles : p ≡ profile = ap (λ (x : Extension). x.profile) same in
    l.1 (omega (arith, a.from, a.to))

pub well_formed_alone : (s : List ℕ) (r t : Reading) → Conforming s r → Deviating s t → ⊥
well_formed_alone s r t c d = go d
  where
    -- the two headers are one
    told : (d : Course s) (x : Extension) → (begun d).plan.extension ≡ some x → extension_in c.plan.content ≡ some x
    told d x e =
        ap (λ (p : rtp.Plan). p.extension)
        (one_beginning (record { plan = plan_of c.plan; lawful = c.lawful.header; payload = c.payload; same = c.same }) (begun d)).0
        ∙ e

    go : Deviating s t → ⊥
    go (inl y) =
        let u : Taken = y.header.taken in
        let x : Extension = extension_with (profile_of u.form) (content_taken u) in
        blocks.not_both x (conforms_of c.plan.content x c.lawful.content (told (takes y.header) x refl))
        (record { form = u.form; lawful = plain_lawful u.form y.header.lawful.plain; profile = refl; content = y.why })
    go (inr y) =
        no_bits c.plan.content y.header.profile y.header.words y.bits c.lawful.content c.plain
        (told (words y.header) (extension_with y.header.profile y.header.words) refl)

-- and what strays from a form has the profile of one
pub strayed_alone : (s : List ℕ) (r t : Reading) → Strayed s r → Unformed s t → ⊥
strayed_alone s r t x y =
    let u : Taken = x.header.taken in
    form_words (takes x.header) u.fixed u.form x.header.lawful.plain (content_taken u) refl y.header

-- ---- version 2

-- what was accepted begins with a header of the RFC exactly where what was read says version 2
pub of_version_2 : (s : List ℕ) (r : Reading) → Octets s → read_header s ≡ says r → (r.fields.version ≡ 2 → IsRtp s) × (IsRtp s → r.fields.version ≡ 2)
unfolding fields_with
of_version_2 s r o e = (
  λ v. record { begins = begun c; version = sym (told c g.said) ∙ v },
  λ p. told c g.said ∙ ap (λ (q : rtp.Plan). q.fixed.version) (one_beginning (begun c) p.begins).0 ∙ p.version,
)
  where
    g : Gone s r
    g = gone s r o e

    c : Course s
    c = g.course

    told : (d : Course s) → answer_in d ≡ says r → r.fields.version ≡ (begun d).plan.fixed.version
    told (bare b) q = ap (λ (t : Reading). t.fields.version) (said_same q)
    told (takes t) q = ap (λ (t : Reading). t.fields.version) (said_same q)
    told (lacks l) q = absurd (let z : ◌≡◌ {A = ℕ} 0 1 = cc in omega arith)
    told (words w) q = ap (λ (t : Reading). t.fields.version) (said_same q)
