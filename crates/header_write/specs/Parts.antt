-- A header by its parts: what its elements take, and the octets written for it. Assumes nothing.
use Rattle.std.specs.Prelude.{◌≡◌, cond, ◌&&◌, List, [], ◌++◌, ℕ, leb, length, take}
use Rattle.error.specs.Said.{Said, says, refuse}
use Rattle.elements.specs.Elements.{Element, sum}
use Rattle.block.specs.Form.{form_of, length_for}
use Rattle.block_write.specs.Write.{all_fit, extension_for}
use Rattle.header_write.specs.declared.Fixed.{Fixed}
use Rattle.header_write.specs.declared.Parts.{Parts}
use Rattle.header_write.specs.Fixed.{first_for, second_for, fixed_for}
use Rattle.header_write.specs.Limits.{in_limits}

-- arrays that are lent have as many places as their types say
pub record Whole (p : Parts) : Type 0 where
  pub csrc : length p.csrc.now ≡ 15
  pub ids : length p.ids.now ≡ 32
  pub lens : length p.lens.now ≡ 32
  pub bytes : length p.bytes.now ≡ 1024

-- the elements with their heads; 8 for what is not in the domain: "A record to be written has version 0 to 3, payload type 0 to 127"
unfoldable pub measured : Fixed → ℕ → ℕ → ℕ → List ℕ → List ℕ → ℕ → Said ℕ
measured f csrcs profile count ids lens pads =
    cond
    (in_limits csrcs count lens pads
    && (leb f.version 3
    && (leb f.payload_type 127 && all_fit (form_of profile) (take count ids) (take count lens))))
    (says (length_for profile count (sum (take count lens))))
    (refuse 8)

-- RFC 3550's figure, and with extensions on the block of elements, which take `len` bytes with their heads
unfoldable pub octets_for : Fixed → List ℕ → ℕ → ℕ → List Element → List ℕ
octets_for f csrcs profile len es =
    fixed_for (first_for f.version f.padding f.extension (length csrcs)) (second_for f.marker f.payload_type)
    f.sequence_number f.timestamp f.ssrc csrcs
    ++ cond f.extension (extension_for profile len es) []
