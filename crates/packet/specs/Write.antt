-- Size and writing of a packet: "The writer puts the payload directly behind the header's last byte, then zeros and a count up to a
-- multiple of 4 of the payload; an aligned payload gets 4." Assumes nothing.
use Rattle.std.specs.Prelude.{Bool, cond, ◌&&◌, List, [], ◌∷◌, ◌++◌, ℕ, zero, suc, ◌+◌, ◌-◌, ◌%◌, ltb, leb, length, replicate}
use Rattle.error.specs.Said.{Said, says, refuse}
use Rattle.block.specs.Form.{form_of}
use Rattle.header.specs.declared.Header.{Header}
use Rattle.header.specs.Fields.{Fields, fields_of, in_domain}
use Rattle.header.specs.Size.{header_size}
use Rattle.header.specs.Write.{octets_of, in_writing_domain, block_refusal}

-- "up to a multiple of 4 of the payload; an aligned payload gets 4", with the padding bit
abbrev pub padding_length : Bool → ℕ → ℕ
padding_length padding len = cond padding (4 - len % 4) 0

-- "zeros and a count": n bytes
abbrev pub padding_octets : ℕ → List ℕ
padding_octets zero = []
padding_octets (suc n) = replicate n 0 ++ (suc n ∷ [])

-- the payload and its padding
unfoldable pub payload_octets : Bool → List ℕ → List ℕ
payload_octets padding payload = payload ++ padding_octets (padding_length padding (length payload))

-- "The writer puts the payload directly behind the header's last byte"
unfoldable pub packet_octets : Fields → List ℕ → List ℕ
packet_octets f payload = octets_of f ++ payload_octets f.padding payload

-- "(for a packet, plus payload and padding)"
unfoldable pub packet_size : Fields → List ℕ → ℕ
packet_size f payload = header_size f + length payload + padding_length f.padding (length payload)

-- "a payload to be written up to 65,535"
abbrev pub short_enough : List ℕ → Bool
short_enough payload = leb (length payload) 65535

-- marshal_size: "8 .. first"
unfoldable pub packet_size_asked : Header → List ℕ → Said ℕ
packet_size_asked h payload =
    cond (in_domain h && short_enough payload) (says (packet_size (fields_of h) payload)) (refuse 8)

-- "Writing: 5, 9, 10", 8 before: the octets written into a buffer of `room` bytes
unfoldable pub write_packet : Header → List ℕ → ℕ → Said (List ℕ)
write_packet h payload room =
    cond (in_writing_domain h && short_enough payload)
    (cond (ltb room (packet_size (fields_of h) payload)) (refuse 5)
    (cond h.extension
    (block_refusal (form_of h.extension_profile) (fields_of h) (says (packet_octets (fields_of h) payload)))
    (says (packet_octets (fields_of h) payload))))
    (refuse 8)
