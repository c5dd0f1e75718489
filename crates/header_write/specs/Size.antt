-- The size of a header by its numbers: "12 + 4 x CSRCs, and with extensions 4 plus (data + 1 or 2 bytes per element in 0xBEDE or 0x1000 +
-- extensions_padding) rounded up to 4". Assumes nothing.
use Rattle.std.specs.Prelude.{Bool, cond, ℕ, ◌+◌, ◌*◌}
use Rattle.block.specs.Form.{words_for}

-- `len` is the elements' length with their heads
abbrev pub size_for : ℕ → Bool → ℕ → ℕ → ℕ
size_for csrcs extension len pads = 12 + 4 * csrcs + cond extension (4 + 4 * words_for (len + pads)) 0
