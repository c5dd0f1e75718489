-- How a profile lays its elements out, and how long they are with their heads. Assumes nothing.
use Rattle.std.specs.Prelude.{cond, ℕ, ◌+◌, ◌*◌, ◌/◌, leb, eqb}
use Rattle.block.specs.declared.Form.{Form}
use Rattle.block.specs.declared.Form.TheVariants.{OneByte as one_byte, TwoByte as two_byte, Other as other}

-- "Profile 0xBEDE", "Profile 0x1000", "Other profiles"
abbrev pub form_of : ℕ → Form
form_of profile = cond (eqb profile 0xBEDE) one_byte (cond (eqb profile 0x1000) two_byte other)

-- how many bytes an element's head takes
abbrev pub per_element : Form → ℕ
per_element one_byte = 1
per_element two_byte = 2
per_element other = 0

-- `count` elements of `bytes` data bytes in all, with their heads
abbrev pub length_for : ℕ → ℕ → ℕ → ℕ
length_for profile count bytes = bytes + count * per_element (form_of profile)

-- n bytes in words of 4, the last one filled up
abbrev pub words_for : ℕ → ℕ
words_for n = (n + 3) / 4

-- "The first set picks 0xBEDE for 0 to 16 bytes, 0x1000 for 17 to 255, else keeps the profile; it does not check the id." Where it
-- keeps the profile, 000 counts no bytes for the element's head.
abbrev pub first_profile : ℕ → ℕ → ℕ
first_profile profile len = cond (leb len 16) 0xBEDE (cond (leb len 255) 0x1000 profile)

abbrev pub first_head : ℕ → ℕ
first_head len = cond (leb len 16) 1 (cond (leb len 255) 2 0)
