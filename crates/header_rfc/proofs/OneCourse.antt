-- Octets alone, without a reader: octets go one of the four ways alone. They tell their header, and the header's block tells its items, since no item
-- begins what stands behind them. Assumes nothing.
use mathlib.Core.Path.{◌≡◌, refl, sym, ap, ap₂, ◌∙◌, subst}
use mathlib.Core.Bool.{true, false}
use mathlib.Core.List.{List, [], ◌∷◌, ◌++◌}
use mathlib.Core.Option.{none, some}
use Prim.Native.Nat.{ℕ, ◌+◌, ◌*◌, ◌<◌, ◌≤◌}
use native.Mathlib.Omega.{arith}
use lib.ListN.{length, length-append}
use Rattle.error.specs.Said.{says}
use Rattle.rfc3550.specs.Rfc3550.{Fixed, Extension, Begins, CutShort}
use Rattle.rfc3550.specs.Rfc3550 as rtp
use Rattle.rfc3550.specs.Rfc8285.{Form, one_byte, two_byte, LawfulForm, profile_of, Item, padding, element, head_octets, block_octets, extension_with}
use Rattle.rfc3550.proofs.Parse.{begins_not_cut}
use Rattle.rfc3550.proofs.Unambiguous.{append_inj, unambiguous}
use Rattle.rfc3550.proofs.Blocks.{front, tails_same, heads_told, NoneBegins, none_empty, leaving_none, apart_told, form_told}
use Rattle.header_rfc.specs.Says.{elements_among, whole_element, reading_at, PlainForm}
use Rattle.header_rfc.specs.Taken.{TakenElement, TakenItem, AllTaken, Ending, ends, fifteen, leaving, lone, LawfulEnding, ending_octets, borrowed, header_with, Taken, content_taken, header_taken, payload_taken, elements_taken, reading_taken, Lacking, data_lack, length_lacks, LawfulLacking, lacking_octets, content_lacking, Bare, TakenIn, LackingIn, WordsIn, Course, bare, takes, lacks, words, elements_in, answer_in, payload_in}
use Rattle.header_rfc.proofs.Items.{OneTaken, one_taken, taken_telling, item_telling}

-- ---- the header in front

-- each way begins with a lawful header of RFC 3550
abbrev pub begun : {s : List ℕ} → Course s → Begins s
begun (bare b) =
    record { plan = record { fixed = b.fixed; extension = none }; lawful = record { fixed = b.lawful; extension = tt }; payload = b.payload; same = b.same }
begun (takes t) = record { plan = header_taken t.taken; lawful = t.lawful.header; payload = borrowed t.taken.ending ++ t.after; same = t.same }
begun (lacks l) =
    record {
      plan = header_with l.fixed (profile_of l.form) (content_lacking l.form l.items l.lacking);
      lawful = l.lawful;
      payload = l.payload;
      same = l.same;
    }
begun (words w) = record { plan = header_with w.fixed w.profile w.words; lawful = w.lawful; payload = w.payload; same = w.same }

-- .. so that these octets tell it, and what follows it
pub one_beginning : {s : List ℕ} (a b : Begins s) → (a.plan ≡ b.plan) × (a.payload ≡ b.payload)
one_beginning a b = unambiguous a.plan b.plan a.payload b.payload a.lawful b.lawful (a.same ∙ sym b.same)

-- ---- no item begins what stands behind the items

lone_none : (appbits id : ℕ) → 1 ≤ id → NoneBegins (two_byte appbits) (TakenItem (two_byte appbits)) (id ∷ [])
lone_none appbits id h padding l s e = omega (arith, front e)
lone_none appbits id h (element id' bytes) l s e = omega (arith, ap length e)

over_none : (form : Form) (id n : ℕ) (part : List ℕ) → TakenElement form id n → length part < n → NoneBegins form (TakenItem form) (head_octets form id n ++ part)
over_none form id n part m h i l s e = leaving_none form id n part (taken_telling form id n m) h i (item_telling form i l) s e

ending_none : (form : Form) (e : Ending) → LawfulEnding form e → NoneBegins form (TakenItem form) (ending_octets form e)
ending_none form ends m i l s q = none_empty form i s q
ending_none one_byte (fifteen len rest) m padding l s q = omega (arith, front q)
ending_none one_byte (fifteen len rest) m (element id bytes) l s q =
    let o : OneTaken id (length bytes) = one_taken id (length bytes) l in
    omega (arith, front q, o.id_fits, o.fits, o.enough)
ending_none (two_byte appbits) (fifteen len rest) m i l s q = absurd m
ending_none form (leaving id part more) m i l s q =
    over_none form id (length (part ++ more)) part m.0 (omega (arith, m.1, length-append part more)) i l s q
ending_none one_byte (lone id bytes) m i l s q = absurd m
ending_none (two_byte appbits) (lone id bytes) m i l s q = lone_none appbits id m.not_padding i l s q

lacking_none : (form : Form) (x : Lacking) (payload : List ℕ) → LawfulLacking form x payload → NoneBegins form (TakenItem form) (lacking_octets form x)
lacking_none form (data_lack id n part) payload m i l s q =
    over_none form id n part m.0 (omega (arith, m.1, length-append part payload)) i l s q
lacking_none one_byte (length_lacks id) payload m i l s q = absurd m
lacking_none (two_byte appbits) (length_lacks id) [] m i l s q = lone_none appbits id m.0 i l s q
lacking_none (two_byte appbits) (length_lacks id) (n ∷ rest) m i l s q = lone_none appbits id m.0.not_padding i l s q

-- ---- what stands there is told by its octets and those of the payload

head_size : (form : Form) (id n : ℕ) (part : List ℕ) → 1 ≤ length (head_octets form id n ++ part)
head_size one_byte id n part = omega arith
head_size (two_byte appbits) id n part = omega arith

-- two elements that leave the block
leaving_told : (form : Form) (id : ℕ) (part more : List ℕ) (id' : ℕ) (part' more' a b : List ℕ) → TakenElement form id (length (part ++ more)) →
    TakenElement form id' (length (part' ++ more')) →
    head_octets form id (length (part ++ more)) ++ part ≡ head_octets form id' (length (part' ++ more')) ++ part' → more ++ a ≡ more' ++ b →
    (leaving id part more ≡ leaving id' part' more') × (a ≡ b)
leaving_told form id part more id' part' more' a b l m o p =
    let heads : (id ≡ id') × (length (part ++ more) ≡ length (part' ++ more')) × (part ≡ part') =
    heads_told form id (length (part ++ more)) id' (length (part' ++ more')) (taken_telling form id (length (part ++ more)) l)
    (taken_telling form id' (length (part' ++ more')) m) part part' o in
    let long : length more ≡ length more' =
    omega (arith, heads.1, ap length heads.2, length-append part more, length-append part' more') in
    let rest : (more ≡ more') × (a ≡ b) = append_inj more a more' b long p in
    (λ i. leaving (heads.0 i) (heads.2 i) (rest.0 i), rest.1)

-- id 15 is not taken
fifteen_not : (len : ℕ) (rest : List ℕ) (id n : ℕ) (part : List ℕ) → TakenElement one_byte id n → (15 * 16 + len) ∷ rest ≡ head_octets one_byte id n ++ part → ⊥
fifteen_not len rest id n part m q = let o : OneTaken id n = one_taken id n m in omega (arith, front q, o.id_fits, o.fits, o.enough)

ending_told : (form : Form) (e d : Ending) (a b : List ℕ) → LawfulEnding form e → LawfulEnding form d → ending_octets form e ≡ ending_octets form d →
    borrowed e ++ a ≡ borrowed d ++ b → (e ≡ d) × (a ≡ b)
ending_told form ends ends a b l m o p = (refl, p)
ending_told form ends (fifteen len rest) a b l m o p = absurd (omega (arith, ap length o))
ending_told form ends (leaving id part more) a b l m o p = absurd (omega (arith, ap length o, head_size form id (length (part ++ more)) part))
ending_told form ends (lone id bytes) a b l m o p = absurd (omega (arith, ap length o))
ending_told form (fifteen len rest) ends a b l m o p = absurd (omega (arith, ap length o))
ending_told form (fifteen len rest) (fifteen len' rest') a b l m o p =
    let same : len ≡ len' = omega (arith, front o) in
    (ap₂ fifteen same (tails_same o), p)
ending_told one_byte (fifteen len rest) (leaving id part more) a b l m o p = absurd (fifteen_not len rest id (length (part ++ more)) part m.0 o)
ending_told (two_byte appbits) (fifteen len rest) (leaving id part more) a b l m o p = absurd l
ending_told one_byte (fifteen len rest) (lone id bytes) a b l m o p = absurd m
ending_told (two_byte appbits) (fifteen len rest) (lone id bytes) a b l m o p = absurd l
ending_told form (leaving id part more) ends a b l m o p = absurd (omega (arith, ap length o, head_size form id (length (part ++ more)) part))
ending_told one_byte (leaving id part more) (fifteen len rest) a b l m o p = absurd (fifteen_not len rest id (length (part ++ more)) part l.0 (sym o))
ending_told (two_byte appbits) (leaving id part more) (fifteen len rest) a b l m o p = absurd m
ending_told form (leaving id part more) (leaving id' part' more') a b l m o p = leaving_told form id part more id' part' more' a b l.0 m.0 o p
ending_told one_byte (leaving id part more) (lone id' bytes) a b l m o p = absurd m
ending_told (two_byte appbits) (leaving id part more) (lone id' bytes) a b l m o p = absurd (omega (arith, ap length o))
ending_told form (lone id bytes) ends a b l m o p = absurd (omega (arith, ap length o))
ending_told one_byte (lone id bytes) (fifteen len rest) a b l m o p = absurd l
ending_told (two_byte appbits) (lone id bytes) (fifteen len rest) a b l m o p = absurd m
ending_told one_byte (lone id bytes) (leaving id' part more) a b l m o p = absurd l
ending_told (two_byte appbits) (lone id bytes) (leaving id' part more) a b l m o p = absurd (omega (arith, ap length o))
ending_told form (lone id bytes) (lone id' bytes') a b l m o p =
    let rest : (bytes ≡ bytes') × (a ≡ b) = append_inj bytes a bytes' b (front p) (tails_same p) in
    (ap₂ lone (front o) rest.0, rest.1)

-- what the packet holds, it does not lack
held : (form : Form) (id : ℕ) (part more : List ℕ) (id' n : ℕ) (part' after : List ℕ) → TakenElement form id (length (part ++ more)) → TakenElement form id' n →
    length (part' ++ (more ++ after)) < n → head_octets form id (length (part ++ more)) ++ part ≡ head_octets form id' n ++ part' → ⊥
held form id part more id' n part' after l m h o =
    let heads : (id ≡ id') × (length (part ++ more) ≡ n) × (part ≡ part') =
    heads_told form id (length (part ++ more)) id' n (taken_telling form id (length (part ++ more)) l) (taken_telling form id' n m) part part' o in
    omega
    (arith, heads.1, ap length heads.2, length-append part more, length-append part' (more ++ after), length-append more after)

held_or_not : (form : Form) (e : Ending) (x : Lacking) (after : List ℕ) → LawfulEnding form e → LawfulLacking form x (borrowed e ++ after) →
    ending_octets form e ≡ lacking_octets form x → ⊥
held_or_not form ends (data_lack id n part) after l m o = omega (arith, ap length o, head_size form id n part)
held_or_not form ends (length_lacks id) after l m o = omega (arith, ap length o)
held_or_not one_byte (fifteen len rest) (data_lack id n part) after l m o = fifteen_not len rest id n part m.0 o
held_or_not one_byte (fifteen len rest) (length_lacks id) after l m o = absurd m
held_or_not (two_byte appbits) (fifteen len rest) x after l m o = absurd l
held_or_not form (leaving id part more) (data_lack id' n part') after l m o = held form id part more id' n part' after l.0 m.0 m.1 o
held_or_not one_byte (leaving id part more) (length_lacks id') after l m o = absurd m
held_or_not (two_byte appbits) (leaving id part more) (length_lacks id') after l m o = omega (arith, ap length o)
held_or_not one_byte (lone id bytes) x after l m o = absurd l
held_or_not (two_byte appbits) (lone id bytes) (data_lack id' n part) after l m o = omega (arith, ap length o)
held_or_not (two_byte appbits) (lone id bytes) (length_lacks id') after l m o = omega (arith, m.1, length-append bytes after)

-- ---- blocks of two forms that are the same

pub plain_lawful : (form : Form) → PlainForm form → LawfulForm form
plain_lawful one_byte p = tt
plain_lawful (two_byte appbits) p = omega arith

-- the profile tells the form
plain_told : (g h : Form) → PlainForm g → PlainForm h → profile_of g ≡ profile_of h → g ≡ h
plain_told g h p q e = form_told g h (plain_lawful g p) (plain_lawful h q) e

-- a form's profile is not another
plain_known : (form : Form) → PlainForm form → (profile : ℕ) → (profile ≡ 0xBEDE → ⊥) → (profile ≡ 0x1000 → ⊥) → profile_of form ≡ profile → ⊥
plain_known one_byte p profile a b e = a (sym e)
plain_known (two_byte appbits) p profile a b e = b (omega arith)

-- two blocks of a form
module _ (g : Form) (is js : List Item) (l : AllTaken g is) where
  parts_told : AllTaken g js → (a b : List ℕ) → NoneBegins g (TakenItem g) a → NoneBegins g (TakenItem g) b →
      block_octets g is ++ a ≡ block_octets g js ++ b → (is ≡ js) × (a ≡ b)
  parts_told m a b u v o = apart_told g (TakenItem g) (item_telling g) is js a b l m u v o

  module _ (e : Ending) (u : LawfulEnding g e) (after : List ℕ) where
    both_taken : (h : Form) → g ≡ h → AllTaken h js → (d : Ending) → LawfulEnding h d → (b : List ℕ) →
        block_octets g is ++ ending_octets g e ≡ block_octets h js ++ ending_octets h d → borrowed e ++ after ≡ borrowed d ++ b → (is ≡ js) × (e ≡ d) × (after ≡ b)
    both_taken h same m d v b o p =
        subst
        (λ (k : Form). AllTaken k js → LawfulEnding k d → block_octets g is ++ ending_octets g e ≡ block_octets k js ++ ending_octets k d → (is ≡ js) × (e ≡ d) × (after ≡ b))
        same
        (λ m' v' o'.
        let told : (is ≡ js) × (ending_octets g e ≡ ending_octets g d) =
        parts_told m' (ending_octets g e) (ending_octets g d) (ending_none g e u) (ending_none g d v') o' in
        let rest : (e ≡ d) × (after ≡ b) = ending_told g e d after b u v' told.1 p in
        (told.0, rest.0, rest.1))
        m v o

    taken_not_lacking : (h : Form) → g ≡ h → AllTaken h js → (x : Lacking) (payload : List ℕ) → LawfulLacking h x payload →
        block_octets g is ++ ending_octets g e ≡ block_octets h js ++ lacking_octets h x → borrowed e ++ after ≡ payload → ⊥
    taken_not_lacking h same m x payload v o p =
        subst
        (λ (k : Form). AllTaken k js → LawfulLacking k x payload → block_octets g is ++ ending_octets g e ≡ block_octets k js ++ lacking_octets k x → ⊥)
        same
        (λ m' v' o'.
        held_or_not g e x after u (subst (LawfulLacking g x) (sym p) v')
        (parts_told m' (ending_octets g e) (lacking_octets g x) (ending_none g e u) (lacking_none g x payload v') o').1)
        m v o

  both_lacking : (h : Form) → g ≡ h → AllTaken h js → (x y : Lacking) (p q : List ℕ) → LawfulLacking g x p → LawfulLacking h y q →
      block_octets g is ++ lacking_octets g x ≡ block_octets h js ++ lacking_octets h y → is ≡ js
  both_lacking h same m x y p q u v o =
      subst (λ (k : Form). AllTaken k js → LawfulLacking k y q → block_octets g is ++ lacking_octets g x ≡ block_octets k js ++ lacking_octets k y → is ≡ js) same
      (λ m' v' o'. (parts_told m' (lacking_octets g x) (lacking_octets g y) (lacking_none g x p u) (lacking_none g y q v') o').0)
      m v o

-- ---- the four ways, two by two

-- headers with an extension that are the same
headers_told : (f f' : Fixed) (p p' : ℕ) (c c' : List ℕ) → header_with f p c ≡ header_with f' p' c' → (f ≡ f') × (p ≡ p') × (c ≡ c')
headers_told f f' p p' c c' e =
    let part : some (extension_with p c) ≡ some (extension_with p' c') = ap (λ (q : rtp.Plan). q.extension) e in
    let inside : extension_with p c ≡ extension_with p' c' = cc in
    (ap (λ (q : rtp.Plan). q.fixed) e, ap (λ (x : Extension). x.profile) inside, ap (λ (x : Extension). x.content) inside)

no_extension : (p q : rtp.Plan) (x : Extension) → p ≡ q → p.extension ≡ none → q.extension ≡ some x → ⊥
no_extension p q x e a b = let z : ◌≡◌ {A = ℕ} 0 1 = cc in omega arith

module _ {s : List ℕ} where
  pub one_taken_way : (x y : TakenIn s) → (x.taken ≡ y.taken) × (x.after ≡ y.after)
  one_taken_way x y =
      let t : Taken = x.taken in
      let u : Taken = y.taken in
      let begin : (header_taken t ≡ header_taken u) × (borrowed t.ending ++ x.after ≡ borrowed u.ending ++ y.after) =
      one_beginning (begun (takes x)) (begun (takes y)) in
      let header : (t.fixed ≡ u.fixed) × (profile_of t.form ≡ profile_of u.form) × (content_taken t ≡ content_taken u) =
      headers_told t.fixed u.fixed (profile_of t.form) (profile_of u.form) (content_taken t) (content_taken u) begin.0 in
      let form : t.form ≡ u.form = plain_told t.form u.form x.lawful.plain y.lawful.plain header.1 in
      let block : (t.items ≡ u.items) × (t.ending ≡ u.ending) × (x.after ≡ y.after) =
      both_taken t.form t.items u.items x.lawful.items t.ending x.lawful.ending x.after u.form form y.lawful.items
      u.ending y.lawful.ending y.after header.2 begin.1 in
      (λ i. record { fixed = header.0 i; form = form i; items = block.0 i; ending = block.1 i }, block.2)

  -- the two say the same
  abbrev Same : Course s → Course s → Type 0
  Same c d = (elements_in c ≡ elements_in d) × (answer_in c ≡ answer_in d) × (payload_in c ≡ payload_in d)

  bare_alone : (b : Bare s) (d : Course s) (x : Extension) → (begun d).plan.extension ≡ some x → ⊥
  bare_alone b d x e = no_extension (begun (bare b)).plan (begun d).plan x (one_beginning (begun (bare b)) (begun d)).0 refl e

  takes_lacks : TakenIn s → LackingIn s → ⊥
  takes_lacks x y =
      let t : Taken = x.taken in
      let content : List ℕ = content_lacking y.form y.items y.lacking in
      let begin : (header_taken t ≡ header_with y.fixed (profile_of y.form) content) × (borrowed t.ending ++ x.after ≡ y.payload) =
      one_beginning (begun (takes x)) (begun (lacks y)) in
      let header : (t.fixed ≡ y.fixed) × (profile_of t.form ≡ profile_of y.form) × (content_taken t ≡ content) =
      headers_told t.fixed y.fixed (profile_of t.form) (profile_of y.form) (content_taken t) content begin.0 in
      taken_not_lacking t.form t.items y.items x.lawful.items t.ending x.lawful.ending x.after y.form
      (plain_told t.form y.form x.lawful.plain y.plain header.1) y.taken y.lacking y.payload y.why header.2 begin.1

  -- a form that the reader knows, and words of another profile
  pub form_words : (c : Course s) (f : Fixed) (form : Form) → PlainForm form → (content : List ℕ) → (begun c).plan ≡ header_with f (profile_of form) content → WordsIn s → ⊥
  form_words c f form plain content e w =
      plain_known form plain w.profile w.not_one_byte w.not_two_byte
      (headers_told f w.fixed (profile_of form) w.profile content w.words (sym e ∙ (one_beginning (begun c) (begun (words w))).0)).1

  lacks_lacks : (x y : LackingIn s) → x.items ≡ y.items
  lacks_lacks x y =
      let content : LackingIn s → List ℕ = λ z. content_lacking z.form z.items z.lacking in
      let header : (x.fixed ≡ y.fixed) × (profile_of x.form ≡ profile_of y.form) × (content x ≡ content y) =
      headers_told x.fixed y.fixed (profile_of x.form) (profile_of y.form) (content x) (content y) (one_beginning (begun (lacks x)) (begun (lacks y))).0 in
      both_lacking x.form x.items y.items x.taken y.form (plain_told x.form y.form x.plain y.plain header.1) y.taken
      x.lacking y.lacking x.payload y.payload x.why y.why header.2

  words_words : (x y : WordsIn s) → Same (words x) (words y)
  words_words x y =
      let begin : (header_with x.fixed x.profile x.words ≡ header_with y.fixed y.profile y.words) × (x.payload ≡ y.payload) =
      one_beginning (begun (words x)) (begun (words y)) in
      let header : (x.fixed ≡ y.fixed) × (x.profile ≡ y.profile) × (x.words ≡ y.words) =
      headers_told x.fixed y.fixed x.profile y.profile x.words y.words begin.0 in (
        ap (λ (b : List ℕ). whole_element b ∷ []) header.2,
        λ i.
            says
            (reading_at (header.0 i) true (header.1 i) (whole_element (header.2 i) ∷ []) 0
            (length (rtp.octets (header_with (header.0 i) (header.1 i) (header.2 i))))),
        begin.1,
      )

  pub one_course : (c d : Course s) → Same c d
  one_course (bare b) (bare d) =
      let begin = one_beginning (begun (bare b)) (begun (bare d)) in (
        refl,
        ap (λ (p : rtp.Plan). says (reading_at p.fixed false 0 [] 0 (length (rtp.octets (record { fixed = p.fixed; extension = none }))))) begin.0,
        begin.1,
      )
  one_course (bare b) (takes t) = absurd (bare_alone b (takes t) (extension_with (profile_of t.taken.form) (content_taken t.taken)) refl)
  one_course (bare b) (lacks l) =
      absurd (bare_alone b (lacks l) (extension_with (profile_of l.form) (content_lacking l.form l.items l.lacking)) refl)
  one_course (bare b) (words w) = absurd (bare_alone b (words w) (extension_with w.profile w.words) refl)
  one_course (takes t) (bare b) = absurd (bare_alone b (takes t) (extension_with (profile_of t.taken.form) (content_taken t.taken)) refl)
  one_course (takes t) (takes u) =
      let same : (t.taken ≡ u.taken) × (t.after ≡ u.after) = one_taken_way t u in
      (ap elements_taken same.0, ap (λ (x : Taken). says (reading_taken x)) same.0, ap₂ payload_taken same.0 same.1)
  one_course (takes t) (lacks l) = absurd (takes_lacks t l)
  one_course (takes t) (words w) =
      absurd (form_words (takes t) t.taken.fixed t.taken.form t.lawful.plain (content_taken t.taken) refl w)
  one_course (lacks l) (bare b) =
      absurd (bare_alone b (lacks l) (extension_with (profile_of l.form) (content_lacking l.form l.items l.lacking)) refl)
  one_course (lacks l) (takes t) = absurd (takes_lacks t l)
  one_course (lacks l) (lacks m) = (ap elements_among (lacks_lacks l m), refl, refl)
  one_course (lacks l) (words w) =
      absurd (form_words (lacks l) l.fixed l.form l.plain (content_lacking l.form l.items l.lacking) refl w)
  one_course (words w) (bare b) = absurd (bare_alone b (words w) (extension_with w.profile w.words) refl)
  one_course (words w) (takes t) =
      absurd (form_words (takes t) t.taken.fixed t.taken.form t.lawful.plain (content_taken t.taken) refl w)
  one_course (words w) (lacks l) =
      absurd (form_words (lacks l) l.fixed l.form l.plain (content_lacking l.form l.items l.lacking) refl w)
  one_course (words w) (words v) = words_words w v

-- what goes one of them is not cut short
pub course_not_cut : (s : List ℕ) → Course s → CutShort s → ⊥
course_not_cut s c cut = begins_not_cut s (begun c) cut
