-- The reader goes each of the four ways as it is told: the items are read off one by one, one turn more tells what becomes of the block behind them,
-- and the header round it is `Fixed`. Assumes nothing.
use mathlib.Core.Path.{◌≡◌, refl, sym, ap, ap₂, ◌∙◌, subst}
use mathlib.Core.Bool.{true, false}
use mathlib.Core.List.{List, [], ◌∷◌, ◌++◌, append_assoc, append-nil}
use mathlib.Core.Logic.{◌⊎◌, inl, inr}
use mathlib.Core.Option.{none}
use Prim.Native.Nat.{ℕ, ◌+◌, ◌-◌, ◌*◌, ◌/◌, ◌<◌, ◌≤◌}
use native.Mathlib.Nat.{zero-add}
use native.Mathlib.Omega.{arith}
use lib.ListN.{length, take, drop, length-append}
use lib.Seq.{take_at, drop_at}
use Rattle.error.specs.Said.{Said, says, refuse}
use Rattle.wire.specs.Net.{be16}
use Rattle.elements.proofs.Elements.{room, no_room}
use Rattle.block.specs.Form.{form_of}
use Rattle.block.specs.declared.Form.{Form as BlockForm}
use Rattle.block.specs.declared.Form.TheVariants as forms
use Rattle.block_read.specs.Read.{Block, items_by, whole_block, read_block}
use Rattle.block_read.specs.Read as paper
use Rattle.block.proofs.Forms.{form_other}
use Rattle.block_read.proofs.Reading.{block_path}
use Rattle.header.specs.Read.{Reading, read_header}
use Rattle.rfc3550.specs.Rfc3550.{Fixed, fixed_octets, extension_octets}
use Rattle.rfc3550.specs.Rfc3550 as rtp
use Rattle.rfc3550.specs.Rfc8285.{Form, one_byte, two_byte, profile_of, Item, head_octets, block_octets, extension_with}
use Rattle.rfc3550.proofs.Places.{plain_octets, extended_octets}
use Rattle.header_rfc.specs.Says.{elements_among, pads_among, whole_element, reading_at, Within, Over, PlainForm, Fits}
use Rattle.header_rfc.specs.Taken.{AllTaken, Ending, ends, fifteen, leaving, lone, ending_octets, borrowed, unread, last_element, header_with, Taken, content_taken, header_taken, packet_taken, payload_taken, elements_taken, place_taken, reading_taken, lacking_octets, content_lacking, Bare, TakenIn, LackingIn, WordsIn, reading_words, Course, bare, takes, lacks, words, elements_in, answer_in, payload_in, Follows}
use Rattle.header_rfc.proofs.Items.{is_two, now, reads, within_or_over, read_off, read_over}
use Rattle.header_rfc.proofs.Fixed.{around, read_plain, read_content}
use Rattle.header_rfc.proofs.Endings.{within_front, Come, ending_read, ending_full, lacking_read}

-- ---- items, the block's other octets `tail`, and the payload

-- a form, as the reader knows it
form_known : (form : Form) → PlainForm form → (b : Block) → read_block (form_of (profile_of form)) b ≡ paper.items (items_by (is_two form)) b
form_known one_byte p b = refl
form_known (two_byte appbits) p b = ap (λ (a : ℕ). read_block (form_of (0x1000 + a)) b) p

module _ (f : Fixed) (form : Form) (plain : PlainForm form) (is : List Item) (t : AllTaken form is) (tail : List ℕ)
    (l : rtp.Lawful (header_with f (profile_of form) (block_octets form is ++ tail))) (payload : List ℕ)
    (fits : Fits (rtp.octets (header_with f (profile_of form) (block_octets form is ++ tail)) ++ payload)) where
  abbrev s : List ℕ
  s = rtp.octets (header_with f (profile_of form) (block_octets form is ++ tail)) ++ payload

  abbrev n : ℕ
  n = length (block_octets form is) + length tail

  -- what comes of the block comes of the header
  whole : (b : Said Block) → paper.items (items_by (is_two form)) (now (block_octets form is ++ (tail ++ payload)) n [] 0) ≡ b →
      read_header s ≡ around f (profile_of form) (length s) b
  whole b e =
      read_content f l.fixed (extension_with (profile_of form) (block_octets form is ++ tail)) l.extension payload fits b
      (form_known form plain (now ((block_octets form is ++ tail) ++ payload) (length (block_octets form is ++ tail)) [] 0)
      ∙ ap₂ (λ (u : List ℕ) (m : ℕ). paper.items (items_by (is_two form)) (now u m [] 0))
      (append_assoc (block_octets form is) tail payload) (length-append (block_octets form is) tail)
      ∙ e)

  -- the items are read off, and what comes of the octets behind them comes of the header
  behind_items : Within (elements_among is) → (b : Said Block) →
      ((k : ℕ) → length tail < k → reads form k (now (tail ++ payload) (length tail) (elements_among is) (pads_among is)) ≡ b) →
      read_header s ≡ around f (profile_of form) (length s) b
  behind_items w b go =
      whole b
      (read_off form is t (tail ++ payload) (length tail) n [] 0 (n + 1) refl (omega arith) w b
      (λ k h. ap (λ (p : ℕ). reads form k (now (tail ++ payload) (length tail) (elements_among is) p)) (zero-add (pads_among is)) ∙ go k h))

  -- they pass the limits
  items_full : Over (elements_among is) → read_header s ≡ refuse 7
  items_full o =
      whole (refuse 7)
      (read_over form is t (tail ++ payload) (length tail) n [] 0 (n + 1) refl (omega arith) (record { few = omega arith; small = omega arith }) o)

-- ---- the four ways

module _ (s : List ℕ) (b : Bare s) (fits : Fits s) where
  bare_read : read_header s ≡ answer_in (bare b)
  bare_read =
      sym (ap read_header same)
      ∙ read_plain b.fixed b.lawful b.payload (subst Fits (sym same) fits)
      ∙ ap (λ (u : List ℕ). says (reading_at b.fixed false 0 [] 0 (length u))) (sym (plain_octets b.fixed))
    where
      same : fixed_octets b.fixed false ++ b.payload ≡ s
      same = sym (ap (λ (u : List ℕ). u ++ b.payload) (plain_octets b.fixed)) ∙ b.same

-- a header that is taken, and what follows
module _ (t : Taken) (after : List ℕ) where
  -- what is left unread lies at the end of the packet
  payload_left : length (packet_taken t after) - length (payload_taken t after) ≡ place_taken t
  payload_left =
      let e : Ending = t.ending in
      omega
      (arith, length-append (rtp.octets (header_taken t)) (borrowed e ++ after), length-append (borrowed e) after, length-append (unread e) after)

module _ (s : List ℕ) (x : TakenIn s) (fits : Fits s) where
  abbrev t : Taken
  t = x.taken

  taken_fits : Fits (packet_taken t x.after)
  taken_fits = subst Fits (sym x.same) fits

  taken_read : Within (elements_taken t) → read_header s ≡ says (reading_taken t)
  taken_read w =
      sym (ap read_header x.same)
      ∙ behind_items t.fixed t.form x.lawful.plain t.items x.lawful.items (ending_octets t.form t.ending) x.lawful.header
      (borrowed t.ending ++ x.after) taken_fits (within_front (elements_among t.items) (last_element t.ending) w)
      (Come (elements_among t.items) (pads_among t.items) t.ending x.after)
      (λ k enough. ending_read (elements_among t.items) (pads_among t.items) t.form t.ending x.after k x.lawful.ending enough w)
      ∙ ap (λ (n : ℕ). says (reading_at t.fixed true (profile_of t.form) (elements_taken t) (pads_among t.items) n)) (payload_left t x.after)

  taken_over : Over (elements_taken t) → read_header s ≡ refuse 7
  taken_over o = sym (ap read_header x.same) ∙ go (within_or_over (elements_among t.items))
    where
      go : Within (elements_among t.items) ⊎ Over (elements_among t.items) → read_header (packet_taken t x.after) ≡ refuse 7
      go (inl w) =
          behind_items t.fixed t.form x.lawful.plain t.items x.lawful.items (ending_octets t.form t.ending) x.lawful.header
          (borrowed t.ending ++ x.after) taken_fits w (refuse 7)
          (λ k enough. ending_full (elements_among t.items) (pads_among t.items) t.form t.ending x.after k x.lawful.ending enough w o)
      go (inr many) =
          items_full t.fixed t.form x.lawful.plain t.items x.lawful.items (ending_octets t.form t.ending) x.lawful.header
          (borrowed t.ending ++ x.after) taken_fits many

module _ (s : List ℕ) (x : LackingIn s) (fits : Fits s) where
  lacking_fits : Fits (rtp.octets (header_with x.fixed (profile_of x.form) (content_lacking x.form x.items x.lacking)) ++ x.payload)
  lacking_fits = subst Fits (sym x.same) fits

  lacking_refused : Within (elements_among x.items) → read_header s ≡ refuse 3
  lacking_refused w =
      sym (ap read_header x.same)
      ∙ behind_items x.fixed x.form x.plain x.items x.taken (lacking_octets x.form x.lacking) x.lawful x.payload lacking_fits w (refuse 3)
      (λ k enough. lacking_read (elements_among x.items) (pads_among x.items) x.form x.lacking x.payload k x.why enough)

  lacking_over : Over (elements_among x.items) → read_header s ≡ refuse 7
  lacking_over o =
      sym (ap read_header x.same)
      ∙ items_full x.fixed x.form x.plain x.items x.taken (lacking_octets x.form x.lacking) x.lawful x.payload lacking_fits o

-- ---- words of another profile

module _ (words rest : List ℕ) where
  read_whole : Within (whole_element words ∷ []) →
      whole_block (now (words ++ rest) (length words) [] 0) ≡ says (now rest 0 (whole_element words ∷ []) 0)
  unfolding whole_block
  read_whole w =
      rw (room [] (length words) (omega arith) (omega (arith, small)))
      (ap says
      (block_path
      (paper.with_element (record { id = 0; bytes = take (length words) (words ++ rest) }) (paper.skip (length words) (now (words ++ rest) (length words) [] 0)))
      (now rest 0 (whole_element words ∷ []) 0)
      (drop_at words rest (length words) refl)
      (omega arith)
      (ap (λ (b : List ℕ). whole_element b ∷ []) (take_at words rest (length words) refl))
      refl))
    where
      small : length words ≤ 1024
      small = rw (append-nil words) at w.small

  read_whole_over : Over (whole_element words ∷ []) → whole_block (now (words ++ rest) (length words) [] 0) ≡ refuse 7
  unfolding whole_block
  read_whole_over (inl many) = absurd (omega arith)
  read_whole_over (inr much) =
      let long : 1024 < length words = rw (append-nil words) at much in
      rw (no_room [] (length words) (inr (omega arith)))

module _ (s : List ℕ) (x : WordsIn s) (fits : Fits s) where
  abbrev header : rtp.Plan
  header = header_with x.fixed x.profile x.words

  -- what comes of the block comes of the header
  of_words : (b : Said Block) → whole_block (now (x.words ++ x.payload) (length x.words) [] 0) ≡ b →
      read_header s ≡ around x.fixed x.profile (length (rtp.octets header ++ x.payload)) b
  of_words b e =
      sym (ap read_header x.same)
      ∙ read_content x.fixed x.lawful.fixed (extension_with x.profile x.words) x.lawful.extension x.payload (subst Fits (sym x.same) fits) b
      (ap (λ (g : BlockForm). read_block g (now (x.words ++ x.payload) (length x.words) [] 0)) (form_other x.not_one_byte x.not_two_byte) ∙ e)

  words_read : Within (elements_in (words x)) → read_header s ≡ says (reading_words x)
  words_read w =
      let place : length (rtp.octets header ++ x.payload) - length x.payload ≡ length (rtp.octets header) = omega (arith, length-append (rtp.octets header) x.payload) in
      of_words (says (now x.payload 0 (whole_element x.words ∷ []) 0)) (read_whole x.words x.payload w)
      ∙ ap (λ (n : ℕ). says (reading_at x.fixed true x.profile (whole_element x.words ∷ []) 0 n)) place

  words_over : Over (elements_in (words x)) → read_header s ≡ refuse 7
  words_over o = of_words (refuse 7) (read_whole_over x.words x.payload o)

-- ---- FOLLOWS

pub follows : Follows read_header
follows = record { within = within; over = over }
  where
    within : (s : List ℕ) (c : Course s) → Fits s → Within (elements_in c) → read_header s ≡ answer_in c
    within s (bare b) fits w = bare_read s b fits
    within s (takes t) fits w = taken_read s t fits w
    within s (lacks l) fits w = lacking_refused s l fits w
    within s (words x) fits w = words_read s x fits w

    over : (s : List ℕ) (c : Course s) → Fits s → Over (elements_in c) → read_header s ≡ refuse 7
    over s (bare b) fits (inl many) = absurd (omega arith)
    over s (bare b) fits (inr much) = absurd (omega arith)
    over s (takes t) fits o = taken_over s t fits o
    over s (lacks l) fits o = lacking_over s l fits o
    over s (words x) fits o = words_over s x fits o

-- ---- the octets from the payload's place on

-- a header up to where its reading ended, and then the payload
module _ (t : Taken) (after : List ℕ) where
  -- the octets of the block that were read, with those that were borrowed
  read_of : Ending → List ℕ
  read_of ends = []
  read_of (fifteen len rest) = (15 * 16 + len) ∷ []
  read_of (leaving id part more) = head_octets t.form id (length (part ++ more)) ++ (part ++ more)
  read_of (lone id bytes) = id ∷ length bytes ∷ bytes

  cut : (e : Ending) → ending_octets t.form e ++ (borrowed e ++ after) ≡ read_of e ++ (unread e ++ after)
  unfolding read_of
  cut ends = refl
  cut (fifteen len rest) = refl
  cut (leaving id part more) = simp append_assoc
  cut (lone id bytes) = refl

  -- the header up to the ending, and then u
  up_to : List ℕ → List ℕ
  up_to u = fixed_octets t.fixed true ++ (be16 (profile_of t.form) ++ (be16 (length (content_taken t) / 4) ++ (block_octets t.form t.items ++ u)))

  ends_in : packet_taken t after ≡ up_to (read_of t.ending) ++ payload_taken t after
  unfolding extension_octets up_to
  ends_in = extended_octets t.fixed (extension_with (profile_of t.form) (content_taken t)) (borrowed t.ending ++ after) ∙ before ∙ ap up_to (cut t.ending) ∙ behind
    where
      before : fixed_octets t.fixed true ++ (extension_octets (extension_with (profile_of t.form) (content_taken t)) ++ (borrowed t.ending ++ after))
          ≡ up_to (ending_octets t.form t.ending ++ (borrowed t.ending ++ after))
      before = simp append_assoc

      behind : up_to (read_of t.ending ++ payload_taken t after) ≡ up_to (read_of t.ending) ++ payload_taken t after
      behind = simp append_assoc

  pub taken_payload : drop (place_taken t) (packet_taken t after) ≡ payload_taken t after
  taken_payload =
      let front : List ℕ = up_to (read_of t.ending) in
      let at : place_taken t ≡ length front = omega (arith, payload_left t after, ap length ends_in, length-append front (payload_taken t after)) in
      ap₂ drop at ends_in ∙ drop_at front (payload_taken t after) (length front) refl

behind_front : (s front payload : List ℕ) (n : ℕ) → front ++ payload ≡ s → n ≡ length front → drop n s ≡ payload
behind_front s front payload n same at = ap₂ drop at (sym same) ∙ drop_at front payload (length front) refl

place_told : {q r : Reading} → says q ≡ says r → r.place ≡ q.place
place_told {q} {r} e = let same : q ≡ r = cc in sym (ap (λ (t : Reading). t.place) same)

pub payload_told : (s : List ℕ) (c : Course s) (r : Reading) → answer_in c ≡ says r → drop r.place s ≡ payload_in c
payload_told s (bare b) r e = behind_front s (rtp.octets (record { fixed = b.fixed; extension = none })) b.payload r.place b.same (place_told e)
payload_told s (takes t) r e = ap₂ drop (place_told e) (sym t.same) ∙ taken_payload t.taken t.after
payload_told s (lacks l) r e = absurd (let z : ◌≡◌ {A = ℕ} 0 1 = cc in omega arith)
payload_told s (words w) r e = behind_front s (rtp.octets (header_with w.fixed w.profile w.words)) w.payload r.place w.same (place_told e)
