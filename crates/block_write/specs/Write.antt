-- The octets of a block of elements, and which elements can be written. Assumes nothing.
use Rattle.std.specs.Prelude.{Bool, true, cond, Option, Some, None, ◌&&◌, List, [], ◌∷◌, ◌++◌, ℕ, ◌+◌, ◌-◌, ◌*◌, leb, length, replicate}
use Rattle.wire.specs.Net.{be16}
use Rattle.elements.specs.Elements.{Element, sum}
use Rattle.block.specs.declared.Form.{Form}
use Rattle.block.specs.declared.Form.TheVariants.{OneByte as one_byte, TwoByte as two_byte, Other as other}
use Rattle.block.specs.Form.{form_of, words_for}

-- ---- the octets

-- RFC 8285's one-byte element: id and length less one in one byte; its two-byte element: id, length
abbrev pub element_octets : Form → Element → List ℕ
element_octets one_byte e = (e.id * 16 + (length e.bytes - 1)) ∷ e.bytes
element_octets two_byte e = e.id ∷ length e.bytes ∷ e.bytes
element_octets other e = e.bytes

abbrev pub block_octets : Form → List Element → List ℕ
block_octets form [] = []
block_octets form (e ∷ es) = element_octets form e ++ block_octets form es

-- profile, length in words, elements of `len` bytes with their heads, zeros up to a whole word
unfoldable pub extension_for : ℕ → ℕ → List Element → List ℕ
extension_for profile len es =
    be16 profile
    ++ (be16 (words_for len) ++ (block_octets (form_of profile) es ++ replicate (4 * words_for len - len) 0))

-- ---- the call

-- "in the one-byte profile ids 0 to 15 and lengths 1 to 16, in the two-byte profile lengths 0 to 255"
abbrev pub fits : Form → ℕ → ℕ → Bool
fits one_byte id len = leb id 15 && (leb 1 len && leb len 16)
fits two_byte id len = leb len 255
fits other id len = true

abbrev pub writable : Form → Element → Bool
writable form e = fits form e.id (length e.bytes)

abbrev pub all_writable : Form → List Element → Bool
all_writable form [] = true
all_writable form (e ∷ es) = writable form e && all_writable form es

-- the same of elements with these ids and lengths
abbrev pub all_fit : Form → List ℕ → List ℕ → Bool
all_fit form [] lens = true
all_fit form (i ∷ ids) [] = true
all_fit form (i ∷ ids) (l ∷ lens) = fits form i l && all_fit form ids lens

-- the sum of the lengths where all can be written
unfoldable pub weight : Form → List ℕ → List ℕ → Option ℕ
weight form ids lens = cond (all_fit form ids lens) (Some (sum lens)) None
