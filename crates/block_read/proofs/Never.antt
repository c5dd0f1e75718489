-- Of another profile the Rust tests twice that the block lies in the packet. The second test never fires: it is the first one again.
-- Assumes nothing.
--
-- header.rs, `unmarshal`:
--
--     let expected = curr_offset + extension_length;
--     if raw_packet_len < expected { return Err(Error::ErrHeaderSizeInsufficientForExtension.into()); }
--     ..
--     match extension_profile {
--         ..
--         _ => {
--             if raw_packet_len < curr_offset + extension_length { return Err(Error::ErrHeaderSizeInsufficientForExtension.into()); }
use mathlib.Core.Path.{◌≡◌, refl}
use mathlib.Core.Bool.{false, cond}
use mathlib.Core.List.{List}
use Prim.Native.Nat.{ℕ, ◌+◌, ◌≤◌}
use lib.Dec.{ltb}
use lib.ListN.{length}
use borrow.Author.Tests.{le-ltb}
use Rattle.error.specs.Said.{Said, refuse}
use Rattle.block.specs.declared.Form.{Form}
use Rattle.block.specs.declared.Form.TheVariants.{OneByte as one_byte, TwoByte as two_byte, Other as other}
use Rattle.block_read.specs.Read.{Block, whole_block, read_block, block_at}

-- the Rust's reading of the block that begins at `at` and has `len` bytes: of another profile with the second test
abbrev pub rust_block : Form → List ℕ → ℕ → ℕ → Said Block
rust_block one_byte s at len = read_block one_byte (block_at s at len)
rust_block two_byte s at len = read_block two_byte (block_at s at len)
rust_block other s at len = cond (ltb (length s) (at + len)) (refuse 2) (whole_block (block_at s at len))

module _ (s : List ℕ) (at len : ℕ) (first : at + len ≤ length s) where
  -- where the first test let the block pass, the second does not hold
  pub never_2 : ltb (length s) (at + len) ≡ false
  never_2 = le-ltb (length s) (at + len) first

  -- so that with it and without it the same is read
  pub blocks_alike : (form : Form) → rust_block form s at len ≡ read_block form (block_at s at len)
  blocks_alike one_byte = refl
  blocks_alike two_byte = refl
  blocks_alike other = rw never_2
