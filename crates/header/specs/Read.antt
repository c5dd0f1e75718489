-- Reading a header: the paper's sections "Header", "Refusal numbers" and its order "Reading: 1, 2, then per element 3, 7".
-- Assumes nothing.
use Rattle.std.specs.Prelude.{cond, List, [], ◌∷◌, ℕ, zero, suc, ◌+◌, ◌-◌, ◌*◌, ◌/◌, ◌%◌, ltb, length, get_or}
use Rattle.error.specs.Said.{Said, says, refused, refuse}
use Rattle.wire.specs.Net.{u16_at, u32_at, bit}
use Rattle.block_read.specs.Read.{Block, read_block, block_at}
use Rattle.block.specs.Form.{form_of}
use Rattle.header.specs.Fields.{Fields}

-- a header that was read, and the payload's place
pub record Reading : Type 0 where
  pub fields : Fields
  pub place : ℕ

-- the n CSRCs from `at` on
abbrev pub csrcs_at : List ℕ → ℕ → ℕ → List ℕ
csrcs_at s at zero = []
csrcs_at s at (suc n) = u32_at s at ∷ csrcs_at s (at + 4) n

-- CC: how many CSRCs there are
abbrev pub count_of : List ℕ → ℕ
count_of s = get_or s 0 0 % 16

-- "12 + 4 x CC"
abbrev pub fixed_length : ℕ → ℕ
fixed_length cc = 12 + 4 * cc

-- RFC 3550's figure, field by field, with the profile, the elements and the zeros of a block
unfoldable pub fields_at : List ℕ → ℕ → ℕ → Block → Fields
fields_at s cc profile b =
    record {
      version = get_or s 0 0 / 64;
      padding = bit (get_or s 0 0 / 32);
      extension = bit (get_or s 0 0 / 16);
      marker = bit (get_or s 1 0 / 128);
      type = get_or s 1 0 % 128;
      number = u16_at s 2;
      time = u32_at s 4;
      source = u32_at s 8;
      csrcs = csrcs_at s 12 cc;
      profile = profile;
      elements = b.elements;
      pads = b.pads;
    }

-- a block was read: the payload is what lies behind it
abbrev pub reading_of : List ℕ → ℕ → ℕ → Said Block → Said Reading
reading_of s cc profile (refused r) = refused r
reading_of s cc profile (says b) =
    says (record { fields = fields_at s cc profile b; place = length s - length b.rest })

-- the block of the extension that begins at `at`
abbrev pub block_of : List ℕ → ℕ → Said Block
block_of s at = read_block (form_of (u16_at s at)) (block_at s (at + 4) (4 * u16_at s (at + 2)))

-- "2: extension header or block longer than the packet"; `at` is where the extension begins
unfoldable pub read_extension : List ℕ → ℕ → ℕ → Said Reading
read_extension s cc at =
    cond (ltb (length s) (at + 4)) (refuse 2)
    (cond (ltb (length s) (at + 4 + 4 * u16_at s (at + 2))) (refuse 2)
    (reading_of s cc (u16_at s at) (block_of s at)))

-- "1: under 4 bytes, or under 12 + 4 x CC"
unfoldable pub read_fixed : List ℕ → ℕ → Said Reading
read_fixed s cc =
    cond (ltb (length s) (fixed_length cc)) (refuse 1)
    (cond (bit (get_or s 0 0 / 16)) (read_extension s cc (fixed_length cc))
    (reading_of s cc 0 (says (block_at s (fixed_length cc) 0))))

-- "packets up to 65,535 bytes", else 8, first
unfoldable pub read_header : List ℕ → Said Reading
read_header s =
    cond (ltb 65535 (length s)) (refuse 8) (cond (ltb (length s) 4) (refuse 1) (read_fixed s (count_of s)))
