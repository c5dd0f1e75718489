-- The size of a header: the paper's "Size: 12 + 4 x CSRCs, and with extensions 4 plus (data + 1 or 2 bytes per element in 0xBEDE or
-- 0x1000 + extensions_padding) rounded up to 4". Assumes nothing.
use Rattle.std.specs.Prelude.{cond, ℕ, length}
use Rattle.error.specs.Said.{Said, says, refuse}
use Rattle.elements.specs.Elements.{data_of}
use Rattle.block.specs.Form.{length_for}
use Rattle.header_write.specs.Size.{size_for}
use Rattle.header.specs.declared.Header.{Header}
use Rattle.header.specs.Fields.{Fields, fields_of, in_domain}

-- get_extension_payload_len: the elements with their heads
unfoldable pub payload_length : Fields → ℕ
payload_length f = length_for f.profile (length f.elements) (length (data_of f.elements))

unfoldable pub header_size : Fields → ℕ
header_size f = size_for (length f.csrcs) f.extension (payload_length f) f.pads

-- get_extension_payload_len and marshal_size: "Order: 8 first"
unfoldable pub length_asked : Header → Said ℕ
length_asked h = cond (in_domain h) (says (payload_length (fields_of h))) (refuse 8)

unfoldable pub size_asked : Header → Said ℕ
size_asked h = cond (in_domain h) (says (header_size (fields_of h))) (refuse 8)
