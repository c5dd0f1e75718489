-- Writing a header: "The written block leaves extensions_padding out, so fewer bytes than the size may be written; the rest of the
-- buffer stays." Assumes nothing.
use Rattle.std.specs.Prelude.{Bool, cond, ◌&&◌, List, [], ◌++◌, ℕ, ltb, leb, length}
use Rattle.error.specs.Said.{Said, says, refuse}
use Rattle.block.specs.declared.Form.{Form}
use Rattle.block.specs.Form.{form_of}
use Rattle.block_write.specs.Write.{extension_for, all_writable}
use Rattle.header_write.specs.Fixed.{first_for, second_for, fixed_for}
use Rattle.header_write.specs.Judge.{judged}
use Rattle.header.specs.declared.Header.{Header}
use Rattle.header.specs.Fields.{Fields, fields_of, in_domain}
use Rattle.header.specs.Size.{payload_length, header_size}

abbrev pub extension_octets : Fields → List ℕ
extension_octets f = extension_for f.profile (payload_length f) f.elements

abbrev pub first_octet : Fields → ℕ
first_octet f = first_for f.version f.padding f.extension (length f.csrcs)

abbrev pub second_octet : Fields → ℕ
second_octet f = second_for f.marker f.type

abbrev pub fixed_octets : Fields → List ℕ
fixed_octets f = fixed_for (first_octet f) (second_octet f) f.number f.time f.source f.csrcs

-- all that is written for a header
unfoldable pub octets_of : Fields → List ℕ
octets_of f = fixed_octets f ++ cond f.extension (extension_octets f) []

-- "A record to be written has version 0 to 3, payload type 0 to 127", by the record's profile whether extensions are on or off
unfoldable pub in_writing_domain : Header → Bool
in_writing_domain h =
    in_domain h
    && (leb h.version 3
    && (leb h.payload_type 127 && all_writable (form_of h.extension_profile) (fields_of h).elements))

abbrev pub block_refusal : Form → Fields → Said (List ℕ) → Said (List ℕ)
block_refusal form f octets = judged form (payload_length f) (length f.elements) octets

-- "Writing: 5, 9, 10", 8 before: the octets written into a buffer of `room` bytes
unfoldable pub write_header : Header → ℕ → Said (List ℕ)
write_header h room =
    cond (in_writing_domain h)
    (cond (ltb room (header_size (fields_of h))) (refuse 5)
    (cond h.extension
    (block_refusal (form_of h.extension_profile) (fields_of h) (says (octets_of (fields_of h))))
    (says (octets_of (fields_of h)))))
    (refuse 8)
