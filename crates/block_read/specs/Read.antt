-- Reading a block of elements: the paper's section "Header", and its order "then per element 3, 7". Assumes nothing.
use Rattle.std.specs.Prelude.{Bool, true, false, cond, List, [], ◌∷◌, ◌++◌, ℕ, ◌+◌, ◌-◌, ◌/◌, ◌%◌, ltb, eqb, length, take, drop}
use Rattle.error.specs.Said.{Said, says, refuse}
use Rattle.wire.specs.Turns.{Turn, more, done, run}
use Rattle.elements.specs.Elements.{Element, room_for}
use Rattle.block.specs.declared.Form.{Form}
use Rattle.block.specs.declared.Form.TheVariants.{OneByte as one_byte, TwoByte as two_byte, Other as other}

-- ---- the elements of a block

-- what stands at the front of the bytes not yet read: an element is `head` bytes, then `len` bytes of data
pub data Item : Type 0 where
  pad : Item
  stop : Item
  past : Item
  element : (head id len : ℕ) → Item

-- "an element's byte lies past the packet": `rest` is what follows the element's head
abbrev pub within : ℕ → ℕ → ℕ → List ℕ → Item
within head id len rest = cond (ltb (length rest) len) past (element head id len)

-- "Profile 0xBEDE: byte 0x00 is padding and counted; otherwise id is the high four bits, length the low four plus 1. Id 15 ends
-- reading at once"
unfoldable pub one_byte_item : List ℕ → Item
one_byte_item [] = past
one_byte_item (b ∷ rest) = cond (eqb b 0) pad (cond (eqb (b / 16) 15) stop (within 1 (b / 16) (b % 16 + 1) rest))

-- "Profile 0x1000: byte 0x00 is padding; otherwise id, length byte, data."
unfoldable pub two_byte_item : List ℕ → Item
two_byte_item [] = past
two_byte_item (b ∷ []) = cond (eqb b 0) pad past
two_byte_item (b ∷ len ∷ rest) = cond (eqb b 0) pad (within 2 b len rest)

-- a form whose elements have a byte each for id and length
abbrev pub is_two : Form → Bool
is_two one_byte = false
is_two two_byte = true
is_two other = false

-- the elements of one of the two profiles
abbrev pub items_by : Bool → List ℕ → Item
items_by false = one_byte_item
items_by true = two_byte_item

-- a block while it is read
pub record Block : Type 0 where
  -- the packet's bytes from here on, those behind the block too: "An element may run past the block into the payload"
  pub rest : List ℕ
  -- how many of them belong to the block
  pub left : ℕ
  pub elements : List Element
  pub pads : ℕ

-- the block behind the next `n` bytes
abbrev pub skip : ℕ → Block → Block
skip n b = record { rest = drop n b.rest; left = b.left - n; elements = b.elements; pads = b.pads }

abbrev pub padded : Block → Block
padded b = record { rest = b.rest; left = b.left; elements = b.elements; pads = b.pads + 1 }

abbrev pub with_element : Element → Block → Block
with_element e b = record { rest = b.rest; left = b.left; elements = b.elements ++ (e ∷ []); pads = b.pads }

-- "then per element 3, 7": 7 is given where it "would pass 32 elements or 1,024 data bytes"
unfoldable pub taken : Block → Item → Turn Block (Said Block)
taken b pad = more (padded (skip 1 b))
taken b stop = done (says (skip 1 b))
taken b past = done (refuse 3)
taken b (element head id len) =
    cond (room_for b.elements len)
    (more (with_element (record { id = id; bytes = take len (drop head b.rest) }) (skip (head + len) b)))
    (done (refuse 7))

unfoldable pub turn : (List ℕ → Item) → Block → Turn Block (Said Block)
turn item b = cond (eqb b.left 0) (done (says b)) (taken b (item b.rest))

-- no turn leaves as much of the block as there was, so that one more than its length is enough
abbrev pub items : (List ℕ → Item) → Block → Said Block
items item b = run (turn item) (refuse 3) (b.left + 1) b

-- "Other profiles: one element, id 0, the whole block."
unfoldable pub whole_block : Block → Said Block
whole_block b =
    cond (room_for b.elements b.left)
    (says (with_element (record { id = 0; bytes = take b.left b.rest }) (skip b.left b)))
    (refuse 7)

abbrev pub read_block : Form → Block → Said Block
read_block one_byte b = items (items_by false) b
read_block two_byte b = items (items_by true) b
read_block other b = whole_block b

-- the block that begins at `at` and has `len` bytes
abbrev pub block_at : List ℕ → ℕ → ℕ → Block
block_at s at len = record { rest = drop at s; left = len; elements = []; pads = 0 }
