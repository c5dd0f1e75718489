-- What becomes of a block behind items that were read off: one turn more tells it. Assumes nothing.
use mathlib.Core.Path.{◌≡◌, sym, ap, ◌∙◌}
use mathlib.Core.Bool.{false}
use mathlib.Core.List.{List, [], ◌∷◌, ◌++◌, append_assoc, append-nil}
use mathlib.Core.Logic.{◌⊎◌, inl, inr}
use Prim.Native.Nat.{ℕ, ◌+◌, ◌-◌, ◌*◌, ◌/◌, ◌<◌, ◌≤◌}
use native.Mathlib.Omega.{arith}
use lib.ListN.{length, length-append}
use borrow.Author.Tests.{eq-eqb, ne_eqb}
use Rattle.error.specs.Said.{Said, says, refuse}
use Rattle.wire.proofs.Turns.{run_more, run_done}
use Rattle.elements.specs.Elements.{Element, data_of, room_for}
use Rattle.elements.proofs.Elements.{data_of_append}
use Rattle.block_read.specs.Read.{Block, one_byte_item, two_byte_item, items_by, taken, turn}
use Rattle.block_read.specs.Read as paper
use Rattle.rfc3550.specs.Rfc8285.{Form, one_byte, two_byte, head_octets}
use Rattle.header_rfc.specs.Says.{Within, Over}
use Rattle.header_rfc.specs.Taken.{TakenElement, Ending, ends, fifteen, leaving, lone, LawfulEnding, ending_octets, borrowed, unread, last_element, Lacking, data_lack, length_lacks, LawfulLacking, lacking_octets}
use Rattle.header_rfc.proofs.Items.{head_size, head_some, is_two, now, reads, turn_seen, past_seen, after_element, full_element, fits_front, not_both, one_more, read_end}

-- ---- the limits

-- elements within the limits stay so without the last of them
pub within_front : (es fs : List Element) → Within (es ++ fs) → Within es
within_front es fs w =
    let bytes : length (data_of (es ++ fs)) ≡ length (data_of es) + length (data_of fs) = ap length (data_of_append es fs) ∙ length-append (data_of es) (data_of fs) in
    record { few = omega (arith, w.few, length-append es fs); small = omega (arith, w.small) }

no_room_over : (es : List Element) (e : Element) → Within es → Over (es ++ (e ∷ [])) → room_for es (length e.bytes) ≡ false
no_room_over es e w o = go (one_more es e w)
  where
    go : Within (es ++ (e ∷ [])) ⊎ (room_for es (length e.bytes) ≡ false) → room_for es (length e.bytes) ≡ false
    go (inl fits) = absurd (not_both (es ++ (e ∷ [])) fits o)
    go (inr full) = full

-- ---- one turn behind the items; `es` and `pads` are what was read of them

head_length : (form : Form) (id n : ℕ) (tail : List ℕ) → length (head_octets form id n ++ tail) ≡ head_size form + length tail
head_length one_byte id n tail = omega arith
head_length (two_byte appbits) id n tail = omega arith

module _ (es : List Element) (pads : ℕ) where
  -- the block ends at an id 15
  stop_seen : (len : ℕ) (tail : List ℕ) → len < 16 → one_byte_item ((15 * 16 + len) ∷ tail) ≡ paper.stop
  unfolding one_byte_item
  stop_seen len tail h = rw (ne_eqb (15 * 16 + len) 0 (λ z. omega arith), eq-eqb ((15 * 16 + len) / 16) 15 (omega arith))

  stops : (len : ℕ) (tail : List ℕ) (left k : ℕ) → len < 16 → 0 < left → left < k →
      reads one_byte k (now ((15 * 16 + len) ∷ tail) left es pads) ≡ says (now tail (left - 1) es pads)
  unfolding taken
  stops len tail left k h any enough =
      run_done (turn (items_by false)) (refuse 3) k (now ((15 * 16 + len) ∷ tail) left es pads) (says (now tail (left - 1) es pads)) (omega arith)
      (turn_seen one_byte (now ((15 * 16 + len) ∷ tail) left es pads) any paper.stop (stop_seen len tail h))

  -- an element that reaches the block's end or leaves it is the last ..
  lasts : (form : Form) (id : ℕ) (bytes after : List ℕ) (left k : ℕ) → TakenElement form id (length bytes) →
      0 < left → left ≤ head_size form + length bytes → left < k → Within (es ++ (record { id = id; bytes = bytes } ∷ [])) →
      reads form k (now (head_octets form id (length bytes) ++ (bytes ++ after)) left es pads)
      ≡ says (now after 0 (es ++ (record { id = id; bytes = bytes } ∷ [])) pads)
  lasts form id bytes after left k t any reach enough w =
      let e : Element = record { id = id; bytes = bytes } in
      let over : left - (head_size form + length bytes) ≡ 0 = omega arith in
      run_more (turn (items_by (is_two form))) (refuse 3) k (now (head_octets form id (length bytes) ++ (bytes ++ after)) left es pads)
      (now after (left - (head_size form + length bytes)) (es ++ (e ∷ [])) pads) (omega arith)
      (after_element form id bytes after left es pads t any (fits_front es e [] w))
      ∙ ap (λ (n : ℕ). reads form (k - 1) (now after n (es ++ (e ∷ [])) pads)) over
      ∙ read_end form after (es ++ (e ∷ [])) pads (k - 1) (omega arith)

  -- .. it may pass the limits ..
  fills : (form : Form) (id : ℕ) (bytes after : List ℕ) (left k : ℕ) → TakenElement form id (length bytes) → 0 < left → left < k →
      Within es → Over (es ++ (record { id = id; bytes = bytes } ∷ [])) →
      reads form k (now (head_octets form id (length bytes) ++ (bytes ++ after)) left es pads) ≡ refuse 7
  fills form id bytes after left k t any enough w o =
      run_done (turn (items_by (is_two form))) (refuse 3) k (now (head_octets form id (length bytes) ++ (bytes ++ after)) left es pads) (refuse 7) (omega arith)
      (full_element form id bytes after left es pads t any (no_room_over es (record { id = id; bytes = bytes }) w o))

  -- .. or lie past the packet
  falls_short : (form : Form) (rest : List ℕ) (left k : ℕ) → 0 < left → left < k → items_by (is_two form) rest ≡ paper.past →
      reads form k (now rest left es pads) ≡ refuse 3
  unfolding taken
  falls_short form rest left k any enough e =
      run_done (turn (items_by (is_two form))) (refuse 3) k (now rest left es pads) (refuse 3) (omega arith)
      (turn_seen form (now rest left es pads) any paper.past e)

  -- ---- how the block goes on

  -- an element that leaves the block, with the payload that holds the rest of it
  joined : (form : Form) (id n : ℕ) (part more after : List ℕ) → (head_octets form id n ++ part) ++ (more ++ after) ≡ head_octets form id n ++ ((part ++ more) ++ after)
  joined form id n part more after = simp append_assoc

  -- what the turn begins with, and what it comes to
  abbrev pub Begun : Form → Ending → List ℕ → ℕ → Said Block
  Begun form e after k = reads form k (now (ending_octets form e ++ (borrowed e ++ after)) (length (ending_octets form e)) es pads)

  abbrev pub Come : Ending → List ℕ → Said Block
  Come e after = says (now (unread e ++ after) (length (unread e)) (es ++ last_element e) pads)

  no_more : (rest : List ℕ) (left : ℕ) → now rest left es pads ≡ now rest left (es ++ []) pads
  no_more rest left = ap (λ (l : List Element). now rest left l pads) (sym (append-nil es))

  leaving_read : (form : Form) (id : ℕ) (part more after : List ℕ) (k : ℕ) → TakenElement form id (length (part ++ more)) →
      length (ending_octets form (leaving id part more)) < k → Within (es ++ last_element (leaving id part more)) →
      Begun form (leaving id part more) after k ≡ Come (leaving id part more) after
  leaving_read form id part more after k m enough w =
      ap (λ (s : List ℕ). reads form k (now s (length (ending_octets form (leaving id part more))) es pads)) (joined form id (length (part ++ more)) part more after)
      ∙ lasts form id (part ++ more) after (length (ending_octets form (leaving id part more))) k m
      (omega (arith, head_length form id (length (part ++ more)) part, head_some form))
      (omega (arith, head_length form id (length (part ++ more)) part, length-append part more)) enough w

  leaving_full : (form : Form) (id : ℕ) (part more after : List ℕ) (k : ℕ) → TakenElement form id (length (part ++ more)) →
      length (ending_octets form (leaving id part more)) < k → Within es → Over (es ++ last_element (leaving id part more)) →
      Begun form (leaving id part more) after k ≡ refuse 7
  leaving_full form id part more after k m enough w o =
      ap (λ (s : List ℕ). reads form k (now s (length (ending_octets form (leaving id part more))) es pads)) (joined form id (length (part ++ more)) part more after)
      ∙ fills form id (part ++ more) after (length (ending_octets form (leaving id part more))) k m
      (omega (arith, head_length form id (length (part ++ more)) part, head_some form)) enough w o

  pub ending_read : (form : Form) (e : Ending) (after : List ℕ) (k : ℕ) → LawfulEnding form e → length (ending_octets form e) < k →
      Within (es ++ last_element e) → Begun form e after k ≡ Come e after
  ending_read form ends after k m enough w = read_end form after es pads k (omega arith) ∙ ap says (no_more after 0)
  ending_read one_byte (fifteen len rest) after k m enough w =
      let left : length (ending_octets one_byte (fifteen len rest)) - 1 ≡ length rest = omega arith in
      stops len (rest ++ after) (length (ending_octets one_byte (fifteen len rest))) k m (omega arith) enough
      ∙ ap (λ (n : ℕ). says (now (rest ++ after) n es pads)) left
      ∙ ap says (no_more (rest ++ after) (length rest))
  ending_read (two_byte appbits) (fifteen len rest) after k m enough w = absurd m
  ending_read form (leaving id part more) after k m enough w = leaving_read form id part more after k m.0 enough w
  ending_read one_byte (lone id bytes) after k m enough w = absurd m
  ending_read (two_byte appbits) (lone id bytes) after k m enough w =
      lasts (two_byte appbits) id bytes after 1 k m (omega arith) (omega arith) enough w

  pub ending_full : (form : Form) (e : Ending) (after : List ℕ) (k : ℕ) → LawfulEnding form e → length (ending_octets form e) < k →
      Within es → Over (es ++ last_element e) → Begun form e after k ≡ refuse 7
  ending_full form ends after k m enough w o = absurd (not_both es w (rw append-nil at o))
  ending_full form (fifteen len rest) after k m enough w o = absurd (not_both es w (rw append-nil at o))
  ending_full form (leaving id part more) after k m enough w o = leaving_full form id part more after k m.0 enough w o
  ending_full one_byte (lone id bytes) after k m enough w o = absurd m
  ending_full (two_byte appbits) (lone id bytes) after k m enough w o = fills (two_byte appbits) id bytes after 1 k m (omega arith) enough w o

  lacking_past : (form : Form) (l : Lacking) (payload : List ℕ) → LawfulLacking form l payload → items_by (is_two form) (lacking_octets form l ++ payload) ≡ paper.past
  unfolding two_byte_item
  lacking_past form (data_lack id n part) payload m =
      ap (items_by (is_two form)) (append_assoc (head_octets form id n) part payload) ∙ past_seen form id n (part ++ payload) m.0 m.1
  lacking_past one_byte (length_lacks id) payload m = absurd m
  lacking_past (two_byte appbits) (length_lacks id) [] m = rw (ne_eqb id 0 (λ z. omega (arith, m.0)))
  lacking_past (two_byte appbits) (length_lacks id) (n ∷ rest) m = past_seen (two_byte appbits) id n rest m.0 m.1

  lacking_some : (form : Form) (l : Lacking) → 0 < length (lacking_octets form l)
  lacking_some form (data_lack id n part) = omega (arith, head_length form id n part, head_some form)
  lacking_some form (length_lacks id) = omega arith

  pub lacking_read : (form : Form) (l : Lacking) (payload : List ℕ) (k : ℕ) → LawfulLacking form l payload → length (lacking_octets form l) < k →
      reads form k (now (lacking_octets form l ++ payload) (length (lacking_octets form l)) es pads) ≡ refuse 3
  lacking_read form l payload k m enough =
      falls_short form (lacking_octets form l ++ payload) (length (lacking_octets form l)) k (lacking_some form l) enough (lacking_past form l payload m)
