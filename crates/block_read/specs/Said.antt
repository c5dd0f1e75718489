-- What the functions of src/lib.rt answer, in the paper's numbers and values. Assumes nothing.
use Rattle.std.specs.Prelude.{◌≡◌, List, [], ℕ, ◌-◌, length}
use Rattle.error.specs.Said.{Said, says, refused}
use Rattle.elements.specs.Elements.{Element, lay_elements}
use Rattle.block_read.specs.declared.Next.{Next}
use Rattle.block_read.specs.declared.Next.TheVariants as next
use Rattle.block_read.specs.declared.Seen.{Seen}
use Rattle.block_read.specs.Read.{Item, pad, stop, past, element, Block}

abbrev pub item_of : Next → Item
item_of next.Pad = pad
item_of next.Stop = stop
item_of next.Past = past
item_of (next.Element head id len) = element head id len

-- what is seen of a block: the payload's place in a packet of `n` bytes, and how many elements and zeros there are
abbrev pub block_seen : ℕ → Said Block → Said Seen
block_seen n (says b) = says (record { place = n - length b.rest; count = length b.elements; padding = b.pads })
block_seen n (refused r) = refused r

-- ---- filling

-- the block is not refused
abbrev pub Answers : Said Block → Type 0
Answers (says b) = Unit
Answers (refused r) = ⊥

-- the elements that were read
abbrev pub elements_read : Said Block → List Element
elements_read (says b) = b.elements
elements_read (refused r) = []

-- the arrays of a record hold these elements, and zeros behind them
pub record Laid (es : List Element) (ids lens bytes : List ℕ) : Type 0 where
  pub names : ids ≡ (lay_elements es).ids
  pub sizes : lens ≡ (lay_elements es).lens
  pub packed : bytes ≡ (lay_elements es).bytes
