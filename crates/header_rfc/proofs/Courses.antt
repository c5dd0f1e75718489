-- Octets alone, without a reader: every list of octets is cut short or goes one of the four ways. A block is split by RFC 8285's own split, which
-- starts anew behind each id 0 with a length. Assumes nothing.
use mathlib.Core.Path.{◌≡◌, refl, sym, ap, ap₂, ◌∙◌, subst}
use mathlib.Core.List.{List, [], ◌∷◌, ◌++◌, append_assoc, append-nil}
use mathlib.Core.Logic.{◌⊎◌, inl, inr}
use mathlib.Core.Option.{Option, none, some}
use Prim.Native.Nat.{ℕ, zero, suc, ◌+◌, ◌-◌, ◌*◌, ◌<◌, ◌≤◌}
use native.Mathlib.Nat.{lt_of_not-le}
use native.Mathlib.Decide.{dec_le}
use native.Mathlib.Omega.{arith}
use lib.ListN.{length, take, drop, length-append, length-drop, take-append-drop}
use lib.Seq.{length-take-le}
use Rattle.wire.proofs.Each.{each_append}
use Rattle.rfc3550.specs.Rfc3550.{Octets, Fixed, LawfulFixed, Extension, LawfulExtension, LawfulPart, Begins, CutShort}
use Rattle.rfc3550.specs.Rfc3550 as rtp
use Rattle.rfc3550.specs.Rfc8285.{Form, one_byte, two_byte, profile_of, Item, element, LawfulElement, head_octets, block_octets, extension_with, Stray, reserved, zero_id, leaves, alone, LawfulStray, stray_octets, LaidOut, StraysIn}
use Rattle.rfc3550.proofs.Octets.{below_drop, below_left, below_right}
use Rattle.rfc3550.proofs.Parse.{begins_or_cut}
use Rattle.rfc3550.proofs.Blocks.{blocks_append, laid_or_strays, whole}
use Rattle.header_rfc.specs.Says.{PlainForm}
use Rattle.header_rfc.specs.Taken.{TakenElement, TakenItem, AllTaken, Ending, ends, fifteen, leaving, lone, LawfulEnding, ending_octets, borrowed, Lacking, data_lack, length_lacks, LawfulLacking, lacking_octets, Course, bare, takes, lacks, words}
use Rattle.header_rfc.proofs.Items.{Known, known, is_one_byte, is_two_byte, is_other, all_taken}
use Rattle.header_rfc.proofs.Fixed.{extended, block_octets_lem}

-- ---- a block, and the payload behind it

record Took (form : Form) (content payload : List ℕ) : Type 0 where
  items : List Item
  taken : AllTaken form items
  ending : Ending
  lawful : LawfulEnding form ending
  after : List ℕ
  block : block_octets form items ++ ending_octets form ending ≡ content
  rest : borrowed ending ++ after ≡ payload

record Lacked (form : Form) (content payload : List ℕ) : Type 0 where
  items : List Item
  taken : AllTaken form items
  lacking : Lacking
  why : LawfulLacking form lacking payload
  block : block_octets form items ++ lacking_octets form lacking ≡ content

abbrev Goes : Form → List ℕ → List ℕ → Type 0
Goes form content payload = Took form content payload ⊎ Lacked form content payload

-- items that are taken in front of the block
in_front : (form : Form) (is : List Item) → AllTaken form is → (s t payload : List ℕ) → block_octets form is ++ s ≡ t →
    Goes form s payload → Goes form t payload
in_front form is l s t payload e (inl o) =
    inl
    (record {
      items = is ++ o.items;
      taken = each_append (TakenItem form) is o.items l o.taken;
      ending = o.ending;
      lawful = o.lawful;
      after = o.after;
      block = ap (λ (r : List ℕ). r ++ ending_octets form o.ending) (blocks_append form is o.items)
          ∙ append_assoc (block_octets form is) (block_octets form o.items) (ending_octets form o.ending)
          ∙ ap (λ (r : List ℕ). block_octets form is ++ r) o.block
          ∙ e;
      rest = o.rest;
    })
in_front form is l s t payload e (inr o) =
    inr
    (record {
      items = is ++ o.items;
      taken = each_append (TakenItem form) is o.items l o.taken;
      lacking = o.lacking;
      why = o.why;
      block = ap (λ (r : List ℕ). r ++ lacking_octets form o.lacking) (blocks_append form is o.items)
          ∙ append_assoc (block_octets form is) (block_octets form o.items) (lacking_octets form o.lacking)
          ∙ ap (λ (r : List ℕ). block_octets form is ++ r) o.block
          ∙ e;
    })

-- it goes on so at its first octet
ending_at : (form : Form) (e : Ending) → LawfulEnding form e → (after s payload : List ℕ) → ending_octets form e ≡ s → borrowed e ++ after ≡ payload →
    Goes form s payload
ending_at form e l after s payload b r = inl (record { items = []; taken = tt; ending = e; lawful = l; after = after; block = b; rest = r })

lacking_at : (form : Form) (l : Lacking) (s payload : List ℕ) → LawfulLacking form l payload → lacking_octets form l ≡ s →
    Goes form s payload
lacking_at form l s payload w b = inr (record { items = []; taken = tt; lacking = l; why = w; block = b })

-- an element of which the block holds `part`: the packet holds all of it, or not
runs_over : (form : Form) (id n : ℕ) → TakenElement form id n → (part payload : List ℕ) → length part < n →
    Goes form (head_octets form id n ++ part) payload
runs_over form id n m part payload h =
    elim (dec_le n (length (part ++ payload))) [
      | yes fits ↦
          let k : ℕ = n - length part in
          let more : List ℕ = take k payload in
          let some_more : length more ≡ k = length-take-le k payload (omega (arith, length-append part payload)) in
          let long : length (part ++ more) ≡ n = omega (arith, length-append part more) in
          ending_at form (leaving id part more) (subst (TakenElement form id) (sym long) m, omega arith) (drop k payload)
          (head_octets form id n ++ part) payload (ap (λ (i : ℕ). head_octets form id i ++ part) long) (take-append-drop k payload)
      | no over ↦ lacking_at form (data_lack id n part) (head_octets form id n ++ part) payload (m, lt_of_not-le over) refl
    ]

-- an id as the block's last octet: so does the packet
runs_alone : (appbits id : ℕ) (payload : List ℕ) → 1 ≤ id → id < 256 → Octets payload → Goes (two_byte appbits) (id ∷ []) payload
runs_alone appbits id [] h k o = lacking_at (two_byte appbits) (length_lacks id) (id ∷ []) [] (h, k) refl
runs_alone appbits id (n ∷ rest) h k o =
    elim (dec_le n (length rest)) [
      | yes fits ↦
          let long : length (take n rest) ≡ n = length-take-le n rest fits in
          ending_at (two_byte appbits) (lone id (take n rest)) (subst (LawfulElement (two_byte appbits) id) (sym long) lawful) (drop n rest)
          (id ∷ []) (n ∷ rest) refl (ap₂ (λ (i : ℕ) (t : List ℕ). i ∷ t) long (take-append-drop n rest))
      | no over ↦ lacking_at (two_byte appbits) (length_lacks id) (id ∷ []) (n ∷ rest) (lawful, lt_of_not-le over) refl
    ]
  where
    lawful : LawfulElement (two_byte appbits) id n
    lawful = record { not_padding = h; id_fits = omega arith; enough = omega arith; data_fits = omega (arith, o.0) }

-- the octets of an id 0 with a length are those of an element
zero_head : (len : ℕ) (tail : List ℕ) → head_octets one_byte 0 (len + 1) ++ tail ≡ len ∷ tail
zero_head len tail = let e : 0 * 16 + (len + 1 - 1) ≡ len = omega arith in ap (λ (b : ℕ). b ∷ tail) e

-- a block that strays at once, where every shorter one goes so
stray_goes : (form : Form) (r : Stray) → LawfulStray form r → (payload : List ℕ) → Octets payload → Octets (stray_octets form r) →
    ((t : List ℕ) → length t < length (stray_octets form r) → Octets t → Goes form t payload) →
    Goes form (stray_octets form r) payload
stray_goes one_byte (reserved len tail) l payload o p go = ending_at one_byte (fifteen len tail) l payload ((15 * 16 + len) ∷ tail) payload refl refl
stray_goes one_byte (zero_id len tail) l payload o p go =
    let n : ℕ = len + 1 in
    elim (dec_le n (length tail)) [
      | yes fits ↦
          let long : length (take n tail) ≡ n = length-take-le n tail fits in
          let same : block_octets one_byte (element 0 (take n tail) ∷ []) ++ drop n tail ≡ len ∷ tail =
          append_assoc (head_octets one_byte 0 (length (take n tail)) ++ take n tail) [] (drop n tail)
          ∙ append_assoc (head_octets one_byte 0 (length (take n tail))) (take n tail) (drop n tail)
          ∙ ap₂ (λ (i : ℕ) (t : List ℕ). head_octets one_byte 0 i ++ t) long (take-append-drop n tail)
          ∙ zero_head len tail in
          in_front one_byte (element 0 (take n tail) ∷ []) (subst (TakenElement one_byte 0) (sym long) zero_taken, tt) (drop n tail) (len ∷ tail) payload same
          (go (drop n tail) (omega (arith, length-drop n tail)) (below_drop 256 n tail p.1))
      | no over ↦
          subst (λ (s : List ℕ). Goes one_byte s payload) (zero_head len tail)
          (runs_over one_byte 0 n zero_taken tail payload (lt_of_not-le over))
    ]
  where
    zero_taken : TakenElement one_byte 0 (len + 1)
    zero_taken = inr (record { is_zero = refl; enough = omega (arith, l.0); fits = omega (arith, l.1) })
stray_goes one_byte (leaves id n part) l payload o p go = runs_over one_byte id n (inl l.0) part payload l.1
stray_goes one_byte (alone id) l payload o p go = absurd l
stray_goes (two_byte appbits) (reserved len tail) l payload o p go = absurd l
stray_goes (two_byte appbits) (zero_id len tail) l payload o p go = absurd l
stray_goes (two_byte appbits) (leaves id n part) l payload o p go = runs_over (two_byte appbits) id n l.0 part payload l.1
stray_goes (two_byte appbits) (alone id) l payload o p go = runs_alone appbits id payload l.0 l.1 o

goes : (form : Form) (payload : List ℕ) → Octets payload → (fuel : ℕ) (s : List ℕ) → length s < fuel → Octets s → Goes form s payload
goes form payload o zero s h p = absurd (omega arith)
goes form payload o (suc fuel) s h p = split (laid_or_strays form s p) (λ t ht pt. goes form payload o fuel t ht pt)
  where
    split : LaidOut form s ⊎ StraysIn form s → ((t : List ℕ) → length t < fuel → Octets t → Goes form t payload) →
        Goes form s payload
    split (inl l) go =
        in_front form l.items (all_taken form l.items l.lawful) [] s payload (append-nil (block_octets form l.items) ∙ l.same)
        (ending_at form ends tt payload [] payload refl refl)
    split (inr t) go =
        let octets : Octets (block_octets form t.items ++ stray_octets form t.stray) = subst Octets (sym t.same) p in
        in_front form t.items (all_taken form t.items t.lawful) (stray_octets form t.stray) s payload t.same
        (stray_goes form t.stray t.why payload o (below_right 256 (block_octets form t.items) (stray_octets form t.stray) octets)
        (λ u hu pu. go u (omega (arith, ap length t.same, length-append (block_octets form t.items) (stray_octets form t.stray))) pu))

-- ---- every list of octets

-- a header whose extension has the profile of a form that the reader knows
in_form : (s : List ℕ) (f : Fixed) → LawfulFixed f → (x : Extension) → LawfulExtension x → (payload : List ℕ) → rtp.octets (extended f x) ++ payload ≡ s →
    (form : Form) → PlainForm form → x.profile ≡ profile_of form → Goes form x.content payload → Course s
in_form s f l x k payload same form plain p (inl o) =
    let content : List ℕ = block_octets form o.items ++ ending_octets form o.ending in
    let all : extension_with (profile_of form) content ≡ x = whole x k (profile_of form) content (sym p) o.block in
    takes
    (record {
      taken = record { fixed = f; form = form; items = o.items; ending = o.ending };
      lawful = record {
        header = subst (λ (y : Extension). rtp.Lawful (extended f y)) (sym all) (record { fixed = l; extension = k });
        plain = plain;
        items = o.taken;
        ending = o.lawful;
      };
      after = o.after;
      same = ap₂ (λ (y : Extension) (t : List ℕ). rtp.octets (extended f y) ++ t) all o.rest ∙ same;
    })
in_form s f l x k payload same form plain p (inr o) =
    let content : List ℕ = block_octets form o.items ++ lacking_octets form o.lacking in
    let all : extension_with (profile_of form) content ≡ x = whole x k (profile_of form) content (sym p) o.block in
    lacks
    (record {
      fixed = f;
      form = form;
      plain = plain;
      items = o.items;
      taken = o.taken;
      lacking = o.lacking;
      payload = payload;
      why = o.why;
      lawful = subst (λ (y : Extension). rtp.Lawful (extended f y)) (sym all) (record { fixed = l; extension = k });
      same = ap (λ (y : Extension). rtp.octets (extended f y) ++ payload) all ∙ same;
    })

with_extension : (s : List ℕ) (f : Fixed) → LawfulFixed f → (x : Extension) → LawfulExtension x → (payload : List ℕ) →
    rtp.octets (extended f x) ++ payload ≡ s → Octets (x.content ++ payload) → Course s
with_extension s f l x k payload same o = go (known x.profile)
  where
    block : (form : Form) → Goes form x.content payload
    block form =
        goes form payload (below_right 256 x.content payload o) (length x.content + 1) x.content (omega arith) (below_left 256 x.content payload o)

    go : Known x.profile → Course s
    go (is_one_byte p) = in_form s f l x k payload same one_byte tt p (block one_byte)
    go (is_two_byte p) = in_form s f l x k payload same (two_byte 0) refl p (block (two_byte 0))
    go (is_other g a b) =
        let all : extension_with x.profile x.content ≡ x = whole x k x.profile x.content refl refl in
        words
        (record {
          fixed = f;
          profile = x.profile;
          not_one_byte = a;
          not_two_byte = b;
          words = x.content;
          lawful = subst (λ (y : Extension). rtp.Lawful (extended f y)) (sym all) (record { fixed = l; extension = k });
          payload = payload;
          same = ap (λ (y : Extension). rtp.octets (extended f y) ++ payload) all ∙ same;
        })

pub every_course : (s : List ℕ) → Octets s → Course s ⊎ CutShort s
every_course s o = go (begins_or_cut s o)
  where
    part : (b : Begins s) (x : Option Extension) → LawfulPart x → rtp.octets (record { fixed = b.plan.fixed; extension = x }) ++ b.payload ≡ s → Course s
    part b none l same = bare (record { fixed = b.plan.fixed; lawful = b.lawful.fixed; payload = b.payload; same = same })
    part b (some x) l same =
        with_extension s b.plan.fixed b.lawful.fixed x l b.payload same
        (block_octets_lem b.plan.fixed x b.payload (subst Octets (sym same) o))

    go : Begins s ⊎ CutShort s → Course s ⊎ CutShort s
    go (inl b) = inl (part b b.plan.extension b.lawful.extension b.same)
    go (inr c) = inr c
