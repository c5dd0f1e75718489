-- How the reader goes through a block that begins with items: each item is one turn, so that the items are read off one by one, and
-- what is left is read as if it had stood there alone. Assumes nothing.
use mathlib.Core.Path.{◌≡◌, refl, sym, ap, ap₂, ◌∙◌}
use mathlib.Core.Bool.{Bool, true, false, cond}
use mathlib.Core.List.{List, [], ◌∷◌, ◌++◌, append_assoc, append-nil}
use mathlib.Core.Logic.{◌⊎◌, inl, inr}
use Prim.Native.Nat.{ℕ, suc, ◌+◌, ◌-◌, ◌*◌, ◌/◌, ◌%◌, ◌<◌, ◌≤◌}
use native.Mathlib.Nat.{lt_of_not-le}
use native.Mathlib.Decide.{dec_le, ℕ_discrete}
use native.Mathlib.Omega.{arith}
use lib.Dec.{eqb}
use lib.ListN.{length, take, drop, length-append}
use lib.Seq.{take_at, drop_at, drop-drop}
use borrow.Author.Tests.{ne_eqb, le-ltb, lt-ltb}
use Rattle.error.specs.Said.{Said, says, refuse}
use Rattle.wire.specs.Turns.{run, more, done}
use Rattle.wire.proofs.Each.{each_by}
use Rattle.wire.proofs.Turns.{run_more, run_done}
use Rattle.elements.specs.Elements.{Element, data_of, room_for}
use Rattle.elements.proofs.Elements.{data_of_append, room, no_room}
use Rattle.block_read.specs.Read.{Block, within, one_byte_item, two_byte_item, items_by, taken, turn, with_element, skip}
use Rattle.block_read.specs.Read as paper
use Rattle.block.specs.Form.{form_of}
use Rattle.block.specs.declared.Form.TheVariants as forms
use Rattle.block.proofs.Forms.{form_other}
use Rattle.block_read.proofs.Reading.{block_path, zero_first}
use Rattle.rfc3550.specs.Rfc8285.{Form, one_byte, two_byte, Item, padding, element, head_octets, block_octets, LawfulElement, LawfulItem, AllLawful}
use Rattle.rfc3550.proofs.Blocks.{Telling, TellingItem}
use Rattle.header_rfc.specs.Says.{elements_among, pads_among, Within, Over}
use Rattle.header_rfc.specs.Taken.{TakenElement, TakenItem, AllTaken}

-- ---- the forms, as the reader knows them

-- how many octets stand in front of the data
abbrev pub head_size : Form → ℕ
head_size one_byte = 1
head_size (two_byte appbits) = 2

abbrev pub is_two : Form → Bool
is_two one_byte = false
is_two (two_byte appbits) = true

pub data Known (profile : ℕ) : Type 0 where
  is_one_byte : profile ≡ 0xBEDE → Known profile
  is_two_byte : profile ≡ 0x1000 → Known profile
  is_other : form_of profile ≡ forms.Other → (profile ≡ 0xBEDE → ⊥) → (profile ≡ 0x1000 → ⊥) → Known profile

pub known : (profile : ℕ) → Known profile
known profile =
    elim (ℕ_discrete profile 0xBEDE) [
      | yes e ↦ is_one_byte e
      | no a ↦ elim (ℕ_discrete profile 0x1000) [ yes e ↦ is_two_byte e | no b ↦ is_other (form_other a b) a b ]
    ]

-- an element of the one-byte form that is taken: its head is any octet but 0 and those of id 15
pub record OneTaken (id n : ℕ) : Type 0 where
  pub id_fits : id ≤ 14
  pub enough : 1 ≤ n
  pub fits : n ≤ 16
  pub not_zero : 2 ≤ id * 16 + n

pub one_taken : (id n : ℕ) → TakenElement one_byte id n → OneTaken id n
one_taken id n (inl l) = record { id_fits = l.id_fits; enough = l.enough; fits = l.data_fits; not_zero = omega (arith, l.not_padding, l.enough) }
one_taken id n (inr z) = record { id_fits = omega (arith, z.is_zero); enough = omega (arith, z.enough); fits = z.fits; not_zero = omega (arith, z.enough) }

-- the octets of what is taken tell it
pub taken_telling : (form : Form) (id n : ℕ) → TakenElement form id n → Telling form id n
taken_telling one_byte id n t = let o : OneTaken id n = one_taken id n t in (o.enough, o.fits, o.not_zero)
taken_telling (two_byte appbits) id n t = t.not_padding

pub item_telling : (form : Form) (i : Item) → TakenItem form i → TellingItem form i
item_telling form padding t = tt
item_telling form (element id bytes) t = taken_telling form id (length bytes) t

lawful_taken : (form : Form) (id n : ℕ) → LawfulElement form id n → TakenElement form id n
lawful_taken one_byte id n l = inl l
lawful_taken (two_byte appbits) id n l = l

pub all_taken : (form : Form) (is : List Item) → AllLawful form is → AllTaken form is
all_taken form is l = each_by (TakenItem form) (LawfulItem form) one is l
  where
    one : (i : Item) → LawfulItem form i → TakenItem form i
    one padding m = tt
    one (element id bytes) m = lawful_taken form id (length bytes) m

-- ---- what stands in front

one_seen : (b id n : ℕ) (tail : List ℕ) → (b ≡ 0 → ⊥) → b / 16 ≡ id → b % 16 + 1 ≡ n → (id ≡ 15 → ⊥) →
    one_byte_item (b ∷ tail) ≡ within 1 id n tail
unfolding one_byte_item
one_seen b id n tail some e m h =
    rw (ne_eqb b 0 some)
    (ap₂ (λ (i k : ℕ). cond (eqb i 15) paper.stop (within 1 i k tail)) e m
    ∙ rw (ne_eqb id 15 h))

two_seen : (id n : ℕ) (tail : List ℕ) → (id ≡ 0 → ⊥) → two_byte_item (id ∷ n ∷ tail) ≡ within 2 id n tail
unfolding two_byte_item
two_seen id n tail some = rw (ne_eqb id 0 some)

-- a head is seen as that of its element, whatever follows it
pub head_seen : (form : Form) (id n : ℕ) (tail : List ℕ) → TakenElement form id n →
    items_by (is_two form) (head_octets form id n ++ tail) ≡ within (head_size form) id n tail
head_seen one_byte id n tail t =
    let o : OneTaken id n = one_taken id n t in
    one_seen (id * 16 + (n - 1)) id n tail
    (λ z. omega (arith, o.not_zero, o.enough))
    (omega (arith, o.fits, o.enough))
    (omega (arith, o.fits, o.enough))
    (λ z. omega (arith, o.id_fits))
head_seen (two_byte appbits) id n tail t = two_seen id n tail (λ z. omega (arith, t.not_padding))

pub element_seen : (form : Form) (id n : ℕ) (tail : List ℕ) → TakenElement form id n → n ≤ length tail →
    items_by (is_two form) (head_octets form id n ++ tail) ≡ paper.element (head_size form) id n
element_seen form id n tail t h = head_seen form id n tail t ∙ rw (le-ltb (length tail) n h)

pub past_seen : (form : Form) (id n : ℕ) (tail : List ℕ) → TakenElement form id n → length tail < n →
    items_by (is_two form) (head_octets form id n ++ tail) ≡ paper.past
past_seen form id n tail t h = head_seen form id n tail t ∙ rw (lt-ltb (length tail) n h)

pad_seen : (form : Form) (tail : List ℕ) → items_by (is_two form) (0 ∷ tail) ≡ paper.pad
unfolding one_byte_item
pad_seen one_byte tail = refl
pad_seen (two_byte appbits) tail = zero_first 0 tail refl

-- ---- a turn

-- a block while it is read
abbrev pub now : List ℕ → ℕ → List Element → ℕ → Block
now rest left es pads = record { rest = rest; left = left; elements = es; pads = pads }

abbrev pub reads : Form → ℕ → Block → Said Block
reads form fuel b = run (turn (items_by (is_two form))) (refuse 3) fuel b

-- a turn within the block looks at the item
pub turn_seen : (form : Form) (b : Block) → 0 < b.left → (i : paper.Item) → items_by (is_two form) b.rest ≡ i →
    turn (items_by (is_two form)) b ≡ taken b i
unfolding turn
turn_seen form b h i e = rw (ne_eqb b.left 0 (λ z. omega arith)) (ap (taken b) e)

drop_head : (form : Form) (id n : ℕ) (tail : List ℕ) → drop (head_size form) (head_octets form id n ++ tail) ≡ tail
drop_head one_byte id n tail = refl
drop_head (two_byte appbits) id n tail = refl

-- an element, of which `bytes` are the data, has been read
pub after_element : (form : Form) (id : ℕ) (bytes rest : List ℕ) (left : ℕ) (es : List Element) (pads : ℕ) →
    TakenElement form id (length bytes) → 0 < left → room_for es (length bytes) ≡ true →
    turn (items_by (is_two form)) (now (head_octets form id (length bytes) ++ (bytes ++ rest)) left es pads)
    ≡ more (now rest (left - (head_size form + length bytes)) (es ++ (record { id = id; bytes = bytes } ∷ [])) pads)
unfolding taken
after_element form id bytes rest left es pads t h r =
    let n : ℕ = length bytes in
    let front : List ℕ = head_octets form id n ++ (bytes ++ rest) in
    let fits : n ≤ length (bytes ++ rest) = omega (arith, length-append bytes rest) in
    let bytes_are : take n (drop (head_size form) front) ≡ bytes =
    ap (take n) (drop_head form id n (bytes ++ rest)) ∙ take_at bytes rest n refl in
    let behind : drop (head_size form + n) front ≡ rest =
    sym (drop-drop n (head_size form) front) ∙ ap (drop n) (drop_head form id n (bytes ++ rest)) ∙ drop_at bytes rest n refl in
    turn_seen form (now front left es pads) h (paper.element (head_size form) id n) (element_seen form id n (bytes ++ rest) t fits)
    ∙ rw r
    (ap more
    (block_path (with_element (record { id = id; bytes = take n (drop (head_size form) front) }) (skip (head_size form + n) (now front left es pads)))
    (now rest (left - (head_size form + n)) (es ++ (record { id = id; bytes = bytes } ∷ [])) pads)
    behind refl (ap (λ (b : List ℕ). es ++ (record { id = id; bytes = b } ∷ [])) bytes_are) refl))

-- an element for which there is no room
pub full_element : (form : Form) (id : ℕ) (bytes rest : List ℕ) (left : ℕ) (es : List Element) (pads : ℕ) →
    TakenElement form id (length bytes) → 0 < left → room_for es (length bytes) ≡ false →
    turn (items_by (is_two form)) (now (head_octets form id (length bytes) ++ (bytes ++ rest)) left es pads) ≡ done (refuse 7)
unfolding taken
full_element form id bytes rest left es pads t h r =
    turn_seen form (now (head_octets form id (length bytes) ++ (bytes ++ rest)) left es pads) h
    (paper.element (head_size form) id (length bytes))
    (element_seen form id (length bytes) (bytes ++ rest) t (omega (arith, length-append bytes rest)))
    ∙ rw r

after_pad : (form : Form) (rest : List ℕ) (left : ℕ) (es : List Element) (pads : ℕ) → 0 < left →
    turn (items_by (is_two form)) (now (0 ∷ rest) left es pads) ≡ more (now rest (left - 1) es (pads + 1))
unfolding taken
after_pad form rest left es pads h = turn_seen form (now (0 ∷ rest) left es pads) h paper.pad (pad_seen form rest)

-- ---- many turns

-- room for one element more, where the elements with it and others behind it are within the limits
pub fits_front : (es : List Element) (e : Element) (fs : List Element) → Within (es ++ (e ∷ fs)) → room_for es (length e.bytes) ≡ true
fits_front es e fs w =
    let all : length (es ++ (e ∷ fs)) ≡ length es + suc (length fs) = length-append es (e ∷ fs) in
    let bytes : length (data_of (es ++ (e ∷ fs))) ≡ length (data_of es) + length (e.bytes ++ data_of fs) =
    ap length (data_of_append es (e ∷ fs)) ∙ length-append (data_of es) (e.bytes ++ data_of fs) in
    let first : length (e.bytes ++ data_of fs) ≡ length e.bytes + length (data_of fs) = length-append e.bytes (data_of fs) in
    room es (length e.bytes) (omega (arith, w.few)) (omega (arith, w.small))

-- one element more, and then the others, are the elements with that one in front of the others
one_on : (es : List Element) (e : Element) (fs : List Element) → (es ++ (e ∷ [])) ++ fs ≡ es ++ (e ∷ fs)
one_on es e fs = append_assoc es (e ∷ []) fs

pub head_some : (form : Form) → 1 ≤ head_size form
head_some one_byte = omega arith
head_some (two_byte appbits) = omega arith

-- an element in front of other octets: its head, its data, the others
front_octets : (form : Form) (id : ℕ) (bytes others rest : List ℕ) →
    (head_octets form id (length bytes) ++ bytes ++ others) ++ rest ≡ head_octets form id (length bytes) ++ (bytes ++ (others ++ rest))
front_octets one_byte id bytes others rest = ap (λ (l : List ℕ). (id * 16 + (length bytes - 1)) ∷ l) (append_assoc bytes others rest)
front_octets (two_byte appbits) id bytes others rest = ap (λ (l : List ℕ). id ∷ length bytes ∷ l) (append_assoc bytes others rest)

front_length : (form : Form) (id : ℕ) (bytes others : List ℕ) →
    length (head_octets form id (length bytes) ++ bytes ++ others) ≡ head_size form + length bytes + length others
front_length one_byte id bytes others = omega (arith, length-append bytes others)
front_length (two_byte appbits) id bytes others = omega (arith, length-append bytes others)

-- items in front of a block are read off: `goal` is what comes of the rest, with their elements and their padding
pub read_off : (form : Form) (is : List Item) → AllTaken form is → (rest : List ℕ) (left n : ℕ) (es : List Element) (pads fuel : ℕ) →
    n ≡ length (block_octets form is) + left → n < fuel → Within (es ++ elements_among is) → (goal : Said Block) →
    ((k : ℕ) → left < k → reads form k (now rest left (es ++ elements_among is) (pads + pads_among is)) ≡ goal) →
    reads form fuel (now (block_octets form is ++ rest) n es pads) ≡ goal
read_off form [] t rest left n es pads fuel sum enough w goal go =
    ap (reads form fuel)
    (block_path (now rest n es pads) (now rest left (es ++ []) (pads + 0)) refl (omega arith) (sym (append-nil es)) (omega arith))
    ∙ go fuel (omega arith)
read_off form (padding ∷ is) t rest left n es pads fuel sum enough w goal go =
    let same : pads + 1 + pads_among is ≡ pads + suc (pads_among is) = omega arith in
    run_more (turn (items_by (is_two form))) (refuse 3) fuel (now (0 ∷ (block_octets form is ++ rest)) n es pads)
    (now (block_octets form is ++ rest) (n - 1) es (pads + 1)) (omega arith)
    (after_pad form (block_octets form is ++ rest) n es pads (omega arith))
    ∙ read_off form is t.1 rest left (n - 1) es (pads + 1) (fuel - 1) (omega arith) (omega arith) w goal
    (λ k h. ap (λ (p : ℕ). reads form k (now rest left (es ++ elements_among is) p)) same ∙ go k h)
read_off form (element id bytes ∷ is) t rest left n es pads fuel sum enough w goal go =
    let e : Element = record { id = id; bytes = bytes } in
    let tail : List ℕ = block_octets form is ++ rest in
    let octets : (head_octets form id (length bytes) ++ bytes ++ block_octets form is) ++ rest ≡ head_octets form id (length bytes) ++ (bytes ++ tail) =
    front_octets form id bytes (block_octets form is) rest in
    let long : length (head_octets form id (length bytes) ++ bytes ++ block_octets form is) ≡ head_size form + length bytes + length (block_octets form is) =
    front_length form id bytes (block_octets form is) in
    let some : 1 ≤ head_size form = head_some form in
    ap (λ (l : List ℕ). reads form fuel (now l n es pads)) octets
    ∙ run_more (turn (items_by (is_two form))) (refuse 3) fuel (now (head_octets form id (length bytes) ++ (bytes ++ tail)) n es pads)
    (now tail (n - (head_size form + length bytes)) (es ++ (e ∷ [])) pads) (omega arith)
    (after_element form id bytes tail n es pads t.0 (omega arith) (fits_front es e (elements_among is) w))
    ∙ read_off form is t.1 rest left (n - (head_size form + length bytes)) (es ++ (e ∷ [])) pads (fuel - 1) (omega arith) (omega arith)
    (rw (one_on es e (elements_among is)) w) goal
    (λ k h. ap (λ (l : List Element). reads form k (now rest left l (pads + pads_among is))) (one_on es e (elements_among is)) ∙ go k h)

pub not_both : (es : List Element) → Within es → Over es → ⊥
not_both es w (inl many) = omega (arith, w.few)
not_both es w (inr much) = omega (arith, w.small)

pub within_or_over : (es : List Element) → Within es ⊎ Over es
within_or_over es =
    elim (dec_le (length es) 32) [
      | yes few ↦
          elim (dec_le (length (data_of es)) 1024) [
            | yes small ↦ inl (record { few = few; small = small })
            | no much ↦ inr (inr (lt_of_not-le much))
          ]
      | no many ↦ inr (inl (lt_of_not-le many))
    ]

-- the elements with one more are within the limits, or there is no room for it
pub one_more : (es : List Element) (e : Element) → Within es → Within (es ++ (e ∷ [])) ⊎ (room_for es (length e.bytes) ≡ false)
one_more es e w =
    let all : length (es ++ (e ∷ [])) ≡ length es + 1 = length-append es (e ∷ []) in
    let bytes : length (data_of (es ++ (e ∷ []))) ≡ length (data_of es) + length e.bytes =
    ap length (data_of_append es (e ∷ [])) ∙ length-append (data_of es) (e.bytes ++ [])
    ∙ ap (λ (l : List ℕ). length (data_of es) + length l) (append-nil e.bytes) in
    elim (dec_le (length es + 1) 32) [
      | yes few ↦
          elim (dec_le (length (data_of es) + length e.bytes) 1024) [
            | yes small ↦ inl (record { few = omega arith; small = omega arith })
            | no much ↦ inr (no_room es (length e.bytes) (inr (lt_of_not-le much)))
          ]
      | no many ↦ inr (no_room es (length e.bytes) (inl (lt_of_not-le many)))
    ]

-- items in front of a block whose elements pass the limits: 7
pub read_over : (form : Form) (is : List Item) → AllTaken form is → (rest : List ℕ) (left n : ℕ) (es : List Element) (pads fuel : ℕ) →
    n ≡ length (block_octets form is) + left → n < fuel → Within es → Over (es ++ elements_among is) →
    reads form fuel (now (block_octets form is ++ rest) n es pads) ≡ refuse 7
read_over form [] t rest left n es pads fuel sum enough w o = absurd (not_both es w (rw append-nil at o))
read_over form (padding ∷ is) t rest left n es pads fuel sum enough w o =
    run_more (turn (items_by (is_two form))) (refuse 3) fuel (now (0 ∷ (block_octets form is ++ rest)) n es pads)
    (now (block_octets form is ++ rest) (n - 1) es (pads + 1)) (omega arith)
    (after_pad form (block_octets form is ++ rest) n es pads (omega arith))
    ∙ read_over form is t.1 rest left (n - 1) es (pads + 1) (fuel - 1) (omega arith) (omega arith) w o
read_over form (element id bytes ∷ is) t rest left n es pads fuel sum enough w o =
    ap (λ (l : List ℕ). reads form fuel (now l n es pads)) (front_octets form id bytes (block_octets form is) rest)
    ∙ go (one_more es e w)
    (λ w'. read_over form is t.1 rest left (n - (head_size form + length bytes)) (es ++ (e ∷ [])) pads (fuel - 1) (omega (arith, long)) (omega (arith, long, head_some form)) w'
    (rw (one_on es e (elements_among is)) o))
  where
    e : Element
    e = record { id = id; bytes = bytes }

    tail : List ℕ
    tail = block_octets form is ++ rest

    long : length (head_octets form id (length bytes) ++ bytes ++ block_octets form is) ≡ head_size form + length bytes + length (block_octets form is)
    long = front_length form id bytes (block_octets form is)

    some : 0 < n
    some = omega (arith, head_some form, long)

    go : Within (es ++ (e ∷ [])) ⊎ (room_for es (length bytes) ≡ false) →
        (Within (es ++ (e ∷ [])) → reads form (fuel - 1) (now tail (n - (head_size form + length bytes)) (es ++ (e ∷ [])) pads) ≡ refuse 7) →
        reads form fuel (now (head_octets form id (length bytes) ++ (bytes ++ tail)) n es pads) ≡ refuse 7
    go (inl w') on =
        run_more (turn (items_by (is_two form))) (refuse 3) fuel (now (head_octets form id (length bytes) ++ (bytes ++ tail)) n es pads)
        (now tail (n - (head_size form + length bytes)) (es ++ (e ∷ [])) pads) (omega arith)
        (after_element form id bytes tail n es pads t.0 some (fits_front es e [] w'))
        ∙ on w'
    go (inr full) on =
        run_done (turn (items_by (is_two form))) (refuse 3) fuel (now (head_octets form id (length bytes) ++ (bytes ++ tail)) n es pads)
        (refuse 7) (omega arith) (full_element form id bytes tail n es pads t.0 some full)

-- at the block's end reading ends
pub read_end : (form : Form) (rest : List ℕ) (es : List Element) (pads k : ℕ) → 0 < k → reads form k (now rest 0 es pads) ≡ says (now rest 0 es pads)
unfolding turn
read_end form rest es pads k h = run_done (turn (items_by (is_two form))) (refuse 3) k (now rest 0 es pads) (says (now rest 0 es pads)) h refl
