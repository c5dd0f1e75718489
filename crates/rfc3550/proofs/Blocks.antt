-- Blocks of octets alone, without a reader: the octets in front tell the item in front. So a block has one list of lawful items at most,
-- a block that strays has none, and every block has one or strays. Assumes nothing.
use mathlib.Core.Path.{◌≡◌, refl, sym, ap, ap₂, ◌∙◌, subst}
use mathlib.Core.List.{List, [], ◌∷◌, ◌++◌, append_assoc, append-nil}
use mathlib.Core.Logic.{◌⊎◌, inl, inr}
use mathlib.Core.Option.{Option, none, some}
use Prim.Native.Nat.{ℕ, zero, suc, ◌+◌, ◌-◌, ◌*◌, ◌/◌, ◌%◌, ◌<◌, ◌≤◌}
use native.Mathlib.Nat.{lt_of_not-le}
use native.Mathlib.Decide.{dec_le, ℕ_discrete}
use native.Mathlib.Omega.{arith}
use lib.ListN.{length, take, drop, get_or, length-append, length-drop, take-append-drop}
use lib.Seq.{length-take-le}
use Rattle.wire.specs.Each.{Each}
use Rattle.rfc3550.specs.Rfc3550.{Octets, Extension, LawfulExtension}
use Rattle.rfc3550.specs.Rfc3550 as rtp
use Rattle.rfc3550.specs.Rfc8285.{Form, one_byte, two_byte, LawfulForm, profile_of, Item, padding, element, LawfulElement, LawfulItem, AllLawful, head_octets, item_octets, block_octets, Stray, reserved, zero_id, leaves, alone, LawfulStray, stray_octets, LaidOut, StraysIn, Content, laid, other, LawfulContent, extension_of, extension_with, Conforms, Strays, Plan, Lawful, LawfulPart, extension_in, octets, plan_of}
use Rattle.rfc3550.proofs.Octets.{below_drop}
use Rattle.rfc3550.proofs.Unambiguous.{append_inj, unambiguous}

-- the octet in front
pub front : {a b : ℕ} {s t : List ℕ} → a ∷ s ≡ b ∷ t → a ≡ b
front e = ap (λ (l : List ℕ). get_or l 0 0) e

pub tails_same : {a b : ℕ} {s t : List ℕ} → a ∷ s ≡ b ∷ t → s ≡ t
tails_same e = ap (drop 1) e

-- ---- heads

-- an element whose octets tell it, lawful or not: its head does not begin with the octet of padding, and its length fits the field
abbrev pub Telling : Form → ℕ → ℕ → Type 0
Telling one_byte id n = (1 ≤ n) × (n ≤ 16) × (2 ≤ id * 16 + n)
Telling (two_byte appbits) id n = 1 ≤ id

abbrev pub TellingItem : Form → Item → Type 0
TellingItem form padding = Unit
TellingItem form (element id bytes) = Telling form id (length bytes)

pub lawful_telling : (form : Form) (id n : ℕ) → LawfulElement form id n → Telling form id n
lawful_telling one_byte id n l = (l.enough, l.data_fits, omega (arith, l.not_padding, l.enough))
lawful_telling (two_byte appbits) id n l = l.not_padding

lawful_item : (form : Form) (i : Item) → LawfulItem form i → TellingItem form i
lawful_item form padding l = tt
lawful_item form (element id bytes) l = lawful_telling form id (length bytes) l

pub head_some : (form : Form) (id n : ℕ) → Telling form id n → (s t : List ℕ) → 0 ∷ s ≡ head_octets form id n ++ t → ⊥
head_some one_byte id n l s t e = omega (arith, l.0, l.2, front e)
head_some (two_byte appbits) id n l s t e = omega (arith, front e)

-- a head tells id, length and what follows it
pub heads_told : (form : Form) (id n id' n' : ℕ) → Telling form id n → Telling form id' n' → (s t : List ℕ) →
    head_octets form id n ++ s ≡ head_octets form id' n' ++ t → (id ≡ id') × (n ≡ n') × (s ≡ t)
heads_told one_byte id n id' n' l m s t e = (
  omega (arith, front e, l.0, l.1, m.0, m.1),
  omega (arith, front e, l.0, l.1, m.0, m.1),
  tails_same e,
)
heads_told (two_byte appbits) id n id' n' l m s t e = (front e, front (tails_same e), tails_same (tails_same e))

-- ---- items

pub blocks_append : (form : Form) (is js : List Item) → block_octets form (is ++ js) ≡ block_octets form is ++ block_octets form js
blocks_append form [] js = refl
blocks_append form (i ∷ is) js =
    ap (λ (s : List ℕ). item_octets form i ++ s) (blocks_append form is js) ∙ sym (append_assoc (item_octets form i) (block_octets form is) (block_octets form js))

-- the octets in front tell the item in front
item_told : (form : Form) (i j : Item) → TellingItem form i → TellingItem form j → (s t : List ℕ) →
    item_octets form i ++ s ≡ item_octets form j ++ t → (i ≡ j) × (s ≡ t)
item_told form padding padding l m s t e = (refl, tails_same e)
item_told form padding (element id bytes) l m s t e =
    absurd (head_some form id (length bytes) m s (bytes ++ t) (e ∙ append_assoc (head_octets form id (length bytes)) bytes t))
item_told form (element id bytes) padding l m s t e =
    absurd (head_some form id (length bytes) l t (bytes ++ s) (sym e ∙ append_assoc (head_octets form id (length bytes)) bytes s))
item_told form (element id bytes) (element id' bytes') l m s t e =
    let told : (id ≡ id') × (length bytes ≡ length bytes') × (bytes ++ s ≡ bytes' ++ t) =
    heads_told form id (length bytes) id' (length bytes') l m (bytes ++ s) (bytes' ++ t)
    (sym (append_assoc (head_octets form id (length bytes)) bytes s) ∙ e ∙ append_assoc (head_octets form id' (length bytes')) bytes' t) in
    let rest : (bytes ≡ bytes') × (s ≡ t) = append_inj bytes s bytes' t told.1 told.2 in
    (ap₂ element told.0 rest.0, rest.1)

item_length : (form : Form) (i : Item) → 1 ≤ length (item_octets form i)
item_length form padding = omega arith
item_length one_byte (element id bytes) = omega arith
item_length (two_byte appbits) (element id bytes) = omega arith

-- no item of a kind begins these octets
abbrev pub NoneBegins : Form → (Item → Type 0) → List ℕ → Type 0
NoneBegins form P a = (i : Item) → P i → (s : List ℕ) → item_octets form i ++ s ≡ a → ⊥

pub none_empty : (form : Form) (i : Item) (s : List ℕ) → item_octets form i ++ s ≡ [] → ⊥
none_empty form i s e = omega (arith, item_length form i, length-append (item_octets form i) s, ap length e)

-- items of a kind and then octets that none of that kind begins: the octets tell both
pub apart_told : (form : Form) (P : Item → Type 0) → ((i : Item) → P i → TellingItem form i) → (is js : List Item) (a b : List ℕ) →
    Each P is → Each P js → NoneBegins form P a → NoneBegins form P b →
    block_octets form is ++ a ≡ block_octets form js ++ b → (is ≡ js) × (a ≡ b)
apart_told form P t [] [] a b l m u v e = (refl, e)
apart_told form P t [] (j ∷ js) a b l m u v e =
    absurd (u j m.0 (block_octets form js ++ b) (sym (e ∙ append_assoc (item_octets form j) (block_octets form js) b)))
apart_told form P t (i ∷ is) [] a b l m u v e =
    absurd (v i l.0 (block_octets form is ++ a) (sym (append_assoc (item_octets form i) (block_octets form is) a) ∙ e))
apart_told form P t (i ∷ is) (j ∷ js) a b l m u v e =
    let first : (i ≡ j) × (block_octets form is ++ a ≡ block_octets form js ++ b) =
    item_told form i j (t i l.0) (t j m.0) (block_octets form is ++ a) (block_octets form js ++ b)
    (sym (append_assoc (item_octets form i) (block_octets form is) a) ∙ e ∙ append_assoc (item_octets form j) (block_octets form js) b) in
    let rest : (is ≡ js) × (a ≡ b) = apart_told form P t is js a b l.1 m.1 u v first.1 in
    (ap₂ (λ (x : Item) (xs : List Item). x ∷ xs) first.0 rest.0, rest.1)

-- two lists of lawful items with the same octets are the same list
pub items_told : (form : Form) (is js : List Item) → AllLawful form is → AllLawful form js → block_octets form is ≡ block_octets form js → is ≡ js
items_told form is js l m e =
    (apart_told form (LawfulItem form) (lawful_item form) is js [] [] l m (λ i k s q. none_empty form i s q) (λ i k s q. none_empty form i s q)
    (ap (λ (s : List ℕ). s ++ []) e)).0

-- no item that is told begins an element of which the block holds a part alone
pub leaving_none : (form : Form) (id n : ℕ) (part : List ℕ) → Telling form id n → length part < n → NoneBegins form (TellingItem form) (head_octets form id n ++ part)
leaving_none form id n part m h padding l s e = head_some form id n m s part e
leaving_none form id n part m h (element id' bytes) l s e =
    let told : (id' ≡ id) × (length bytes ≡ n) × (bytes ++ s ≡ part) =
    heads_told form id' (length bytes) id n l m (bytes ++ s) part (sym (append_assoc (head_octets form id' (length bytes)) bytes s) ∙ e) in
    omega (arith, told.1, length-append bytes s, ap length told.2)

-- ---- a block that strays is not laid out

leaves_none : (form : Form) (id n : ℕ) (part : List ℕ) → LawfulElement form id n → length part < n →
    NoneBegins form (LawfulItem form) (head_octets form id n ++ part)
leaves_none form id n part m h i l s e = leaving_none form id n part (lawful_telling form id n m) h i (lawful_item form i l) s e

-- no lawful item stands where a block strays
stray_none : (form : Form) (r : Stray) → LawfulStray form r → NoneBegins form (LawfulItem form) (stray_octets form r)
stray_none one_byte (reserved len rest) w padding l s e = omega (arith, front e)
stray_none one_byte (reserved len rest) w (element id bytes) l s e = omega (arith, front e, l.id_fits, l.data_fits, l.enough)
stray_none one_byte (zero_id len rest) w padding l s e = omega (arith, front e, w.0)
stray_none one_byte (zero_id len rest) w (element id bytes) l s e = omega (arith, front e, l.not_padding, w.1)
stray_none one_byte (leaves id n part) w i l s e = leaves_none one_byte id n part w.0 w.1 i l s e
stray_none one_byte (alone id) w i l s e = absurd w
stray_none (two_byte appbits) (reserved len rest) w i l s e = absurd w
stray_none (two_byte appbits) (zero_id len rest) w i l s e = absurd w
stray_none (two_byte appbits) (leaves id n part) w i l s e = leaves_none (two_byte appbits) id n part w.0 w.1 i l s e
stray_none (two_byte appbits) (alone id) w padding l s e = omega (arith, front e, w.0)
stray_none (two_byte appbits) (alone id) w (element id' bytes) l s e = omega (arith, ap length e)

head_length : (form : Form) (id n : ℕ) → 1 ≤ length (head_octets form id n)
head_length one_byte id n = omega arith
head_length (two_byte appbits) id n = omega arith

stray_some : (form : Form) (r : Stray) → stray_octets form r ≡ [] → ⊥
stray_some form (reserved len rest) e = omega (arith, ap length e)
stray_some form (zero_id len rest) e = omega (arith, ap length e)
stray_some form (leaves id n part) e = omega (arith, ap length e, head_length form id n, length-append (head_octets form id n) part)
stray_some form (alone id) e = omega (arith, ap length e)

pub never_both : (form : Form) (s : List ℕ) → LaidOut form s → StraysIn form s → ⊥
never_both form s o t =
    stray_some form t.stray
    (sym
    (apart_told form (LawfulItem form) (lawful_item form) o.items t.items [] (stray_octets form t.stray) o.lawful t.lawful
    (λ i k r q. none_empty form i r q) (stray_none form t.stray t.why)
    (append-nil (block_octets form o.items) ∙ o.same ∙ sym t.same)).1)

-- ---- every block is laid out or strays

-- one lawful item more in front
prepend : (form : Form) (i : Item) → LawfulItem form i → (s t : List ℕ) → item_octets form i ++ s ≡ t →
    LaidOut form s ⊎ StraysIn form s → LaidOut form t ⊎ StraysIn form t
prepend form i l s t e (inl o) =
    inl (record { items = i ∷ o.items; lawful = (l, o.lawful); same = ap (λ (r : List ℕ). item_octets form i ++ r) o.same ∙ e })
prepend form i l s t e (inr o) =
    inr
    (record {
      items = i ∷ o.items;
      lawful = (l, o.lawful);
      stray = o.stray;
      why = o.why;
      same = append_assoc (item_octets form i) (block_octets form o.items) (stray_octets form o.stray)
          ∙ ap (λ (r : List ℕ). item_octets form i ++ r) o.same
          ∙ e;
    })

-- it strays at its first octet
at_once : (form : Form) (r : Stray) → LawfulStray form r → (s : List ℕ) → stray_octets form r ≡ s → LaidOut form s ⊎ StraysIn form s
at_once form r w s e = inr (record { items = []; lawful = tt; stray = r; why = w; same = e })

-- a lawful head, and behind it what the block still holds
after_head : (form : Form) (id n : ℕ) → LawfulElement form id n → (s : List ℕ) →
    (n ≤ length s → LaidOut form (drop n s) ⊎ StraysIn form (drop n s)) →
    LaidOut form (head_octets form id n ++ s) ⊎ StraysIn form (head_octets form id n ++ s)
after_head form id n l s rest =
    elim (dec_le n (length s)) [
      | yes fits ↦
          let long : length (take n s) ≡ n = length-take-le n s fits in
          let same : head_octets form id (length (take n s)) ++ take n s ++ drop n s ≡ head_octets form id n ++ s =
          append_assoc (head_octets form id (length (take n s))) (take n s) (drop n s)
          ∙ ap₂ (λ (k : ℕ) (r : List ℕ). head_octets form id k ++ r) long (take-append-drop n s) in
          prepend form (element id (take n s)) (subst (LawfulElement form id) (sym long) l) (drop n s) (head_octets form id n ++ s) same (rest fits)
      | no over ↦ at_once form (leaves id n s) (leaving form l (lt_of_not-le over)) (head_octets form id n ++ s) refl
    ]
  where
    leaving : (g : Form) → LawfulElement g id n → length s < n → LawfulStray g (leaves id n s)
    leaving one_byte k h = (k, h)
    leaving (two_byte appbits) k h = (k, h)

-- a block of octets b, s, where every shorter one is laid out or strays
step : (form : Form) (b : ℕ) (s : List ℕ) → Octets (b ∷ s) →
    ((t : List ℕ) → length t ≤ length s → Octets t → LaidOut form t ⊎ StraysIn form t) →
    LaidOut form (b ∷ s) ⊎ StraysIn form (b ∷ s)
step one_byte b s o rest =
    elim (ℕ_discrete b 0) [
      | yes z ↦ prepend one_byte padding tt s (b ∷ s) (ap (λ (x : ℕ). x ∷ s) (sym z)) (rest s (omega arith) o.1)
      | no z ↦
          elim (ℕ_discrete (b / 16) 15) [
            | yes r ↦
                let same : 15 * 16 + b % 16 ≡ b = omega (arith, o.0) in
                at_once one_byte (reserved (b % 16) s) (omega arith) (b ∷ s) (ap (λ (x : ℕ). x ∷ s) same)
            | no r ↦
                elim (ℕ_discrete (b / 16) 0) [
                  | yes q ↦ at_once one_byte (zero_id b s) (omega arith, omega arith) (b ∷ s) refl
                  | no q ↦
                      let same : b / 16 * 16 + (b % 16 + 1 - 1) ≡ b = omega arith in
                      subst (λ (x : ℕ). LaidOut one_byte (x ∷ s) ⊎ StraysIn one_byte (x ∷ s)) same
                      (after_head one_byte (b / 16) (b % 16 + 1)
                      (record { not_padding = omega arith; id_fits = omega (arith, o.0); enough = omega arith; data_fits = omega arith })
                      s
                      (λ fits. rest (drop (b % 16 + 1) s) (omega (arith, length-drop (b % 16 + 1) s)) (below_drop 256 (b % 16 + 1) s o.1)))
                ]
          ]
    ]
step (two_byte appbits) b [] o rest =
    elim (ℕ_discrete b 0) [
      | yes z ↦ prepend (two_byte appbits) padding tt [] (b ∷ []) (ap (λ (x : ℕ). x ∷ []) (sym z)) (rest [] (omega arith) tt)
      | no z ↦ at_once (two_byte appbits) (alone b) (omega arith, o.0) (b ∷ []) refl
    ]
step (two_byte appbits) b (n ∷ s) o rest =
    elim (ℕ_discrete b 0) [
      | yes z ↦ prepend (two_byte appbits) padding tt (n ∷ s) (b ∷ n ∷ s) (ap (λ (x : ℕ). x ∷ n ∷ s) (sym z)) (rest (n ∷ s) (omega arith) o.1)
      | no z ↦
          after_head (two_byte appbits) b n
          (record { not_padding = omega arith; id_fits = omega (arith, o.0); enough = omega arith; data_fits = omega (arith, o.1.0) })
          s
          (λ fits. rest (drop n s) (omega (arith, length-drop n s)) (below_drop 256 n s o.1.1))
    ]

split : (form : Form) (fuel : ℕ) (s : List ℕ) → length s < fuel → Octets s → LaidOut form s ⊎ StraysIn form s
split form zero s h o = absurd (omega arith)
split form (suc fuel) [] h o = inl (record { items = []; lawful = tt; same = refl })
split form (suc fuel) (b ∷ s) h o = step form b s o (λ t ht ot. split form fuel t (omega arith) ot)

pub laid_or_strays : (form : Form) (s : List ℕ) → Octets s → LaidOut form s ⊎ StraysIn form s
laid_or_strays form s o = split form (length s + 1) s (omega arith) o

-- ---- extensions

-- the profile tells the form
pub form_told : (g h : Form) → LawfulForm g → LawfulForm h → profile_of g ≡ profile_of h → g ≡ h
form_told one_byte one_byte l m e = refl
form_told one_byte (two_byte b) l m e = absurd (omega arith)
form_told (two_byte a) one_byte l m e = absurd (omega arith)
form_told (two_byte a) (two_byte b) l m e = let same : a ≡ b = omega arith in ap two_byte same

no_form : (g : Form) → LawfulForm g → (profile : ℕ) (words : List ℕ) → LawfulContent (other profile words) → profile ≡ profile_of g → ⊥
no_form one_byte l profile words m e = m.0 e
no_form (two_byte appbits) l profile words m e = m.1 (omega arith)

-- a lawful extension is told by profile and content
pub whole : (x : Extension) → LawfulExtension x → (profile : ℕ) (s : List ℕ) → profile ≡ x.profile → s ≡ x.content → extension_with profile s ≡ x
whole x l profile s p e =
    let words : length s / 4 ≡ x.words = omega (arith, ap length e, l.content) in
    λ i. record { profile = p i; words = words i; content = e i }

of_form : (x : Extension) → LawfulExtension x → (form : Form) → LawfulForm form → profile_of form ≡ x.profile →
    LaidOut form x.content ⊎ StraysIn form x.content → Conforms x ⊎ Strays x
of_form x l form m p (inl o) =
    inl (record { content = laid form o.items; lawful = (m, o.lawful); same = whole x l (profile_of form) (block_octets form o.items) p o.same })
of_form x l form m p (inr o) = inr (record { form = form; lawful = m; profile = p; content = o })

-- every lawful extension is laid out as its profile asks, or strays
pub conforms_or_strays : (x : Extension) → LawfulExtension x → Octets x.content → Conforms x ⊎ Strays x
conforms_or_strays x l o =
    elim (ℕ_discrete x.profile 0xBEDE) [
      | yes e ↦ of_form x l one_byte tt (sym e) (laid_or_strays one_byte x.content o)
      | no e ↦
          elim (ℕ_discrete (x.profile / 16) 0x100) [
            | yes d ↦
                of_form x l (two_byte (x.profile - 0x1000)) (omega arith) (omega arith)
                (laid_or_strays (two_byte (x.profile - 0x1000)) x.content o)
            | no d ↦ inl (record { content = other x.profile x.content; lawful = (e, d); same = whole x l x.profile x.content refl refl })
          ]
    ]

-- and never both
pub not_both : (x : Extension) → Conforms x → Strays x → ⊥
not_both x c s = go c.content c.lawful c.same
  where
    go : (d : Content) → LawfulContent d → extension_of d ≡ x → ⊥
    go (laid form items) l e =
        never_both s.form x.content
        (subst (λ (g : Form). LaidOut g x.content)
        (form_told form s.form l.0 s.lawful (ap (λ (y : Extension). y.profile) e ∙ sym s.profile))
        (record { items = items; lawful = l.1; same = ap (λ (y : Extension). y.content) e }))
        s.content
    go (other profile words) l e =
        no_form s.form s.lawful profile words l (ap (λ (y : Extension). y.profile) e ∙ sym s.profile)

-- ---- UNAMBIGUOUS, with the elements

content_told : (c d : Content) → LawfulContent c → LawfulContent d → extension_of c ≡ extension_of d → c ≡ d
content_told (laid g is) (laid h js) l m e =
    let same : g ≡ h = form_told g h l.0 m.0 (ap (λ (y : Extension). y.profile) e) in
    let items : is ≡ js =
    items_told h is js (subst (λ (f : Form). AllLawful f is) same l.1) m.1
    (sym (ap (λ (f : Form). block_octets f is) same) ∙ ap (λ (y : Extension). y.content) e) in
    ap₂ laid same items
content_told (laid g is) (other profile words) l m e =
    absurd (no_form g l.0 profile words m (sym (ap (λ (y : Extension). y.profile) e)))
content_told (other profile words) (laid g is) l m e =
    absurd (no_form g m.0 profile words l (ap (λ (y : Extension). y.profile) e))
content_told (other profile words) (other profile' words') l m e =
    ap₂ other (ap (λ (y : Extension). y.profile) e) (ap (λ (y : Extension). y.content) e)

part_told : (c d : Option Content) → LawfulPart c → LawfulPart d → extension_in c ≡ extension_in d → c ≡ d
part_told none none l m e = refl
part_told none (some d) l m e = absurd (let z : ◌≡◌ {A = ℕ} 0 1 = cc in omega arith)
part_told (some c) none l m e = absurd (let z : ◌≡◌ {A = ℕ} 0 1 = cc in omega arith)
part_told (some c) (some d) l m e =
    let inside : extension_of c ≡ extension_of d = cc in
    ap (λ (x : Content). some x) (content_told c d l m inside)

pub unambiguous_elements : (p q : Plan) (a b : List ℕ) → Lawful p → Lawful q → octets p ++ a ≡ octets q ++ b → (p ≡ q) × (a ≡ b)
unambiguous_elements p q a b l m e =
    let told : (plan_of p ≡ plan_of q) × (a ≡ b) = unambiguous (plan_of p) (plan_of q) a b l.header m.header e in
    let content : p.content ≡ q.content =
    part_told p.content q.content l.content m.content (ap (λ (r : rtp.Plan). r.extension) told.0) in
    (λ i. record { fixed = (told.0 i).fixed; content = content i }, told.1)
