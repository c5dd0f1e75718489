-- How the definitions of a block's reading go on, from the facts that the code tests. Assumes nothing.
use mathlib.Core.Path.{◌≡◌, refl, sym, ap, ◌∙◌}
use mathlib.Core.Bool.{Bool, true, false, cond}
use mathlib.Core.List.{List, [], ◌∷◌, ◌++◌, append-nil}
use mathlib.Core.Logic.{◌⊎◌, inl, inr}
use Prim.Native.Nat.{ℕ, ◌+◌, ◌-◌, ◌/◌, ◌%◌, ◌<◌, ◌≤◌}
use native.Mathlib.Nat.{lt_of_not-le}
use native.Mathlib.Decide.{dec_le}
use native.Mathlib.Omega.{arith}
use lib.Dec.{eqb}
use lib.ListN.{length, take, drop, get_or, length-append, length-drop, drop_of_length-le}
use lib.Seq.{drop-drop, length-take-le}
use borrow.Author.Tests.{eq-eqb, ne_eqb, lt-ltb, le-ltb}
use Rattle.error.specs.Said.{Said, says, refuse}
use Rattle.wire.specs.Turns.{run, more, done}
use Rattle.wire.proofs.Turns.{run_more, run_done}
use Rattle.wire.proofs.Part.{drop_front}
use Rattle.elements.specs.Elements.{Element, data_of}
use Rattle.elements.proofs.Elements.{data_of_append, no_room, room}
use Rattle.block_read.specs.Read.{Item, pad, stop, past, element, within, one_byte_item, two_byte_item, items_by, Block, skip, padded, with_element, turn, taken, items, whole_block, block_at}
use Rattle.block_read.specs.Said.{block_seen}

-- `from` is where an element's data begin
pub within_past : (s : List ℕ) (from head id len : ℕ) → length s - from < len → within head id len (drop from s) ≡ past
within_past s from head id len h = rw (lt-ltb (length (drop from s)) len (rw length-drop h))

pub within_packet : (s : List ℕ) (from head id len : ℕ) → len ≤ length s - from → within head id len (drop from s) ≡ element head id len
within_packet s from head id len h = rw (le-ltb (length (drop from s)) len (rw length-drop h))

pub one_byte_at : (s : List ℕ) (at : ℕ) → at < length s →
    one_byte_item (drop at s)
    ≡ cond (eqb (get_or s at 0) 0) pad
    (cond (eqb (get_or s at 0 / 16) 15) stop (within 1 (get_or s at 0 / 16) (get_or s at 0 % 16 + 1) (drop (at + 1) s)))
unfolding one_byte_item
one_byte_at s at h = ap one_byte_item (drop_front s at h)

-- the last byte of the packet has no length byte behind it
pub two_byte_last : (s : List ℕ) (at : ℕ) → at < length s → length s ≤ at + 1 → two_byte_item (drop at s) ≡ cond (eqb (get_or s at 0) 0) pad past
unfolding two_byte_item
two_byte_last s at h last = ap two_byte_item (drop_front s at h ∙ ap (λ (l : List ℕ). get_or s at 0 ∷ l) (drop_of_length-le s last))

pub zero_first : (b : ℕ) (rest : List ℕ) → b ≡ 0 → two_byte_item (b ∷ rest) ≡ pad
unfolding two_byte_item
zero_first b [] e = rw (eq-eqb b 0 e)
zero_first b (l ∷ rest) e = rw (eq-eqb b 0 e)

pub two_byte_pad : (s : List ℕ) (at : ℕ) → at < length s → get_or s at 0 ≡ 0 → two_byte_item (drop at s) ≡ pad
two_byte_pad s at h e = ap two_byte_item (drop_front s at h) ∙ zero_first (get_or s at 0) (drop (at + 1) s) e

pub two_byte_at : (s : List ℕ) (at : ℕ) → at + 1 < length s →
    two_byte_item (drop at s) ≡ cond (eqb (get_or s at 0) 0) pad (within 2 (get_or s at 0) (get_or s (at + 1) 0) (drop (at + 2) s))
unfolding two_byte_item
two_byte_at s at h =
    let two : at + 1 + 1 ≡ at + 2 = omega arith in
    ap two_byte_item
    (drop_front s at (omega arith)
    ∙ ap (λ (l : List ℕ). get_or s at 0 ∷ l) (drop_front s (at + 1) h ∙ ap (λ (k : ℕ). get_or s (at + 1) 0 ∷ drop k s) two))

-- none of the other items is an element
not_pad : {h i l : ℕ} → pad ≡ element h i l → ⊥
not_pad p = let z : ◌≡◌ {A = ℕ} 0 1 = cc in omega arith

not_stop : {h i l : ℕ} → stop ≡ element h i l → ⊥
not_stop p = let z : ◌≡◌ {A = ℕ} 0 1 = cc in omega arith

not_past : {h i l : ℕ} → past ≡ element h i l → ⊥
not_past p = let z : ◌≡◌ {A = ℕ} 0 1 = cc in omega arith

-- ---- an element that was found lies within the packet

within_bound : (head id len : ℕ) (rest : List ℕ) (h i l : ℕ) → within head id len rest ≡ element h i l → (head ≡ h) × (h + l ≤ head + length rest)
within_bound head id len rest h i l e =
    elim (dec_le len (length rest)) [
      | yes fits ↦
          let found : element head id len ≡ element h i l = sym (rw (le-ltb (length rest) len fits)) ∙ e in
          let heads : head ≡ h = cc in
          let lens : len ≡ l = cc in
          (heads, omega arith)
      | no over ↦ absurd (not_past (sym (rw (lt-ltb (length rest) len (lt_of_not-le over))) ∙ e))
    ]

unless_pad : (t : Bool) (x : Item) {h i l : ℕ} → cond t pad x ≡ element h i l → x ≡ element h i l
unless_pad true x e = absurd (not_pad e)
unless_pad false x e = e

unless_stop : (t : Bool) (x : Item) {h i l : ℕ} → cond t stop x ≡ element h i l → x ≡ element h i l
unless_stop true x e = absurd (not_stop e)
unless_stop false x e = e

pub item_bound : (two : Bool) (rest : List ℕ) (head id len : ℕ) → items_by two rest ≡ element head id len → (1 ≤ head) × (head + len ≤ length rest)
unfolding one_byte_item two_byte_item
item_bound false [] head id len e = absurd (not_past e)
item_bound false (b ∷ rest) head id len e =
    let one : (1 ≡ head) × (head + len ≤ 1 + length rest) =
    within_bound 1 (b / 16) (b % 16 + 1) rest head id len
    (unless_stop (eqb (b / 16) 15) (within 1 (b / 16) (b % 16 + 1) rest)
    (unless_pad (eqb b 0) (cond (eqb (b / 16) 15) stop (within 1 (b / 16) (b % 16 + 1) rest)) e)) in
    omega arith
item_bound true [] head id len e = absurd (not_past e)
item_bound true (b ∷ []) head id len e = absurd (not_past (unless_pad (eqb b 0) past e))
item_bound true (b ∷ n ∷ rest) head id len e =
    let two : (2 ≡ head) × (head + len ≤ 2 + length rest) = within_bound 2 b n rest head id len (unless_pad (eqb b 0) (within 2 b n rest) e) in
    omega arith

-- ---- a block while the code reads it: `at` is the place, `es` and `pads` what was read

abbrev pub block_now : List ℕ → ℕ → ℕ → List Element → ℕ → Block
block_now s end at es pads = record { rest = drop at s; left = end - at; elements = es; pads = pads }

-- what is still to be read leads from here to the goal
pub record Going (s : List ℕ) (two : Bool) (end : ℕ) (goal : Said Block) (at : ℕ) (es : List Element) (used pads : ℕ) : Type 0 where
  pub inside : at ≤ length s
  pub counted : used ≡ length (data_of es)
  pub fits : used ≤ 1024
  pub few : length es ≤ 32
  pub fewer : pads ≤ at
  pub fuel : ℕ
  pub enough : end - at < fuel
  pub same : run (turn (items_by two)) (refuse 3) fuel (block_now s end at es pads) ≡ goal

-- .. for whoever keeps only how many elements there were
pub record Seeing (s : List ℕ) (two : Bool) (end : ℕ) (goal : Said Block) (at count used pads : ℕ) : Type 0 where
  pub es : List Element
  pub counts : length es ≡ count
  pub going : Going s two end goal at es used pads

-- a block by its parts
pub block_path : (a b : Block) → a.rest ≡ b.rest → a.left ≡ b.left → a.elements ≡ b.elements → a.pads ≡ b.pads → a ≡ b
block_path a b r l e p i = record { rest = r i; left = l i; elements = e i; pads = p i }

pub going_first : (s : List ℕ) (two : Bool) (start len : ℕ) → start + len ≤ length s →
    Going s two (start + len) (items (items_by two) (block_at s start len)) start [] 0 0
going_first s two start len h =
    let first : block_now s (start + len) start [] 0 ≡ block_at s start len =
    block_path (block_now s (start + len) start [] 0) (block_at s start len) refl (omega arith) refl refl in
    record {
      inside = omega arith;
      counted = refl;
      fits = omega arith;
      few = omega arith;
      fewer = omega arith;
      fuel = len + 1;
      enough = omega arith;
      same = ap (run (turn (items_by two)) (refuse 3) (len + 1)) first;
    }

-- the element whose head stands at `at` and has `head` bytes
abbrev pub element_at : List ℕ → ℕ → ℕ → ℕ → ℕ → Element
element_at s at head id len = record { id = id; bytes = take len (drop (at + head) s) }

module _ (s : List ℕ) (two : Bool) (end : ℕ) (goal : Said Block) (at : ℕ) (es : List Element) (used pads : ℕ)
    (g : Going s two end goal at es used pads) where
  abbrev now : Block
  now = block_now s end at es pads

  pub going_end : end ≤ at → goal ≡ says now
  unfolding turn
  going_end h =
      sym g.same
      ∙ run_done (turn (items_by two)) (refuse 3) g.fuel now (says now) (omega (arith, g.enough)) (rw (eq-eqb (end - at) 0 (omega arith)))

  -- a turn within the block looks at the item
  turn_on : at < end → (i : Item) → items_by two (drop at s) ≡ i → turn (items_by two) now ≡ taken now i
  unfolding turn
  turn_on h i e = rw (ne_eqb (end - at) 0 (λ z. omega arith)) (ap (taken now) e)

  -- a turn that ends the block
  going_done : at < end → (i : Item) → items_by two (drop at s) ≡ i → (r : Said Block) → taken now i ≡ done r → goal ≡ r
  going_done h i e r d =
      sym g.same
      ∙ run_done (turn (items_by two)) (refuse 3) g.fuel now r (omega (arith, g.enough)) (turn_on h i e ∙ d)

  -- a turn that goes on at the block b
  going_on : at < end → (i : Item) → items_by two (drop at s) ≡ i → (b : Block) → taken now i ≡ more b →
      run (turn (items_by two)) (refuse 3) (g.fuel - 1) b ≡ goal
  going_on h i e b d =
      sym (run_more (turn (items_by two)) (refuse 3) g.fuel now b (omega (arith, g.enough)) (turn_on h i e ∙ d))
      ∙ g.same

  -- the block behind the next n bytes
  skipped : (n : ℕ) → skip n now ≡ block_now s end (at + n) es pads
  skipped n = block_path (skip n now) (block_now s end (at + n) es pads) (drop-drop n at s) (omega arith) refl refl

  pub going_stop : at < end → items_by two (drop at s) ≡ stop → goal ≡ says (block_now s end (at + 1) es pads)
  unfolding taken
  going_stop h e = going_done h stop e (says (skip 1 now)) refl ∙ ap says (skipped 1)

  pub going_past : at < end → items_by two (drop at s) ≡ past → goal ≡ refuse 3
  unfolding taken
  going_past h e = going_done h past e (refuse 3) refl

  pub going_full : at < end → (head id len : ℕ) → items_by two (drop at s) ≡ element head id len →
      (32 < length es + 1) ⊎ (1024 < used + len) → goal ≡ refuse 7
  unfolding taken
  going_full h head id len e over = going_done h (element head id len) e (refuse 7) (rw (no_room es len (full over)))
    where
      full : (32 < length es + 1) ⊎ (1024 < used + len) → (32 < length es + 1) ⊎ (1024 < length (data_of es) + len)
      full (inl many) = inl many
      full (inr much) = inr (rw g.counted at much)

  pub going_pad : at < end → items_by two (drop at s) ≡ pad → end ≤ length s → Going s two end goal (at + 1) es used (pads + 1)
  unfolding taken
  going_pad h e inside =
      record {
        inside = omega arith;
        counted = g.counted;
        fits = g.fits;
        few = g.few;
        fewer = omega (arith, g.fewer);
        fuel = g.fuel - 1;
        enough = omega (arith, g.enough);
        same = going_on h pad e (block_now s end (at + 1) es (pads + 1)) (ap (λ (b : Block). more (padded b)) (skipped 1));
      }

  pub length_element : (head id len : ℕ) → items_by two (drop at s) ≡ element head id len → length (element_at s at head id len).bytes ≡ len
  length_element head id len e =
      let bound : (1 ≤ head) × (head + len ≤ length (drop at s)) = item_bound two (drop at s) head id len e in
      length-take-le len (drop (at + head) s) (rw (length-drop (at + head) s) (omega (arith, bound.1, length-drop at s)))

  pub going_element : at < end → (head id len : ℕ) → items_by two (drop at s) ≡ element head id len →
      length es + 1 ≤ 32 → used + len ≤ 1024 →
      Going s two end goal (at + head + len) (es ++ (element_at s at head id len ∷ [])) (used + len) pads
  unfolding taken
  going_element h head id len e few fits =
      record {
        inside = omega (arith, bound.1, length-drop at s);
        counted = more_counted;
        fits = fits;
        few = rw (length-append es (one ∷ [])) few;
        fewer = omega (arith, g.fewer);
        fuel = g.fuel - 1;
        enough = omega (arith, bound.0, g.enough);
        same = going_on h (element head id len) e (block_now s end (at + head + len) (es ++ (one ∷ [])) pads) (rw (room es len few (omega (arith, g.counted))) (ap more next));
      }
    where
      bound : (1 ≤ head) × (head + len ≤ length (drop at s))
      bound = item_bound two (drop at s) head id len e

      one : Element
      one = element_at s at head id len

      more_counted : used + len ≡ length (data_of (es ++ (one ∷ [])))
      more_counted =
          sym
          (ap length (data_of_append es (one ∷ []))
          ∙ length-append (data_of es) (one.bytes ++ [])
          ∙ ap (λ (b : List ℕ). length (data_of es) + length b) (append-nil one.bytes)
          ∙ omega (arith, g.counted, length_element head id len e))

      next : with_element (record { id = id; bytes = take len (drop head (drop at s)) }) (skip (head + len) now) ≡ block_now s end (at + head + len) (es ++ (one ∷ [])) pads
      next =
          let sum : at + (head + len) ≡ at + head + len = omega arith in
          block_path
          (with_element (record { id = id; bytes = take len (drop head (drop at s)) }) (skip (head + len) now))
          (block_now s end (at + head + len) (es ++ (one ∷ [])) pads)
          (drop-drop (head + len) at s ∙ ap (λ (k : ℕ). drop k s) sum)
          (omega arith)
          (ap (λ (b : List ℕ). es ++ (record { id = id; bytes = take len b } ∷ [])) (drop-drop head at s))
          refl

-- ---- a block that is one element

pub whole_full : (s : List ℕ) (start len : ℕ) → 1024 < len → whole_block (block_at s start len) ≡ refuse 7
unfolding whole_block
whole_full s start len h = rw (no_room [] len (inr (omega arith)))

-- the element of the block that begins at `start` and has `len` bytes
abbrev pub whole_element : List ℕ → ℕ → ℕ → Element
whole_element s start len = record { id = 0; bytes = take len (drop start s) }

pub whole_block_lem : (s : List ℕ) (start len : ℕ) → len ≤ 1024 →
    whole_block (block_at s start len) ≡ says (block_now s (start + len) (start + len) (whole_element s start len ∷ []) 0)
unfolding whole_block
whole_block_lem s start len fits =
    rw (room [] len (omega arith) (omega arith))
    (ap says
    (block_path
    (with_element (whole_element s start len) (skip len (block_at s start len)))
    (block_now s (start + len) (start + len) (whole_element s start len ∷ []) 0)
    (drop-drop len start s)
    (omega arith)
    refl
    refl))

-- the answer at a place where the block ends
pub seen_at : (s : List ℕ) (end at : ℕ) (es : List Element) (pads : ℕ) → at ≤ length s →
    block_seen (length s) (says (block_now s end at es pads)) ≡ says (record { place = at; count = length es; padding = pads })
seen_at s end at es pads h =
    let place : length s - length (drop at s) ≡ at = rw (length-drop at s) (omega arith) in
    ap (λ (k : ℕ). says (record { place = k; count = length es; padding = pads })) place

-- the answer where the block ends at `at`, behind as many elements as were counted
pub seen_here : (s : List ℕ) (two : Bool) (end : ℕ) (goal : Said Block) (at count used pads : ℕ) (i : Seeing s two end goal at count used pads)
    (k : ℕ) → goal ≡ says (block_now s end k i.es pads) → k ≤ length s →
    says (record { place = k; count = count; padding = pads }) ≡ block_seen (length s) goal
seen_here s two end goal at count used pads i k e inside =
    sym
    (ap (block_seen (length s)) e
    ∙ seen_at s end k i.es pads inside
    ∙ ap (λ (n : ℕ). says (record { place = k; count = n; padding = pads })) i.counts)
