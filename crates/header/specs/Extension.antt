-- Setting, getting and deleting an element: "Later sets replace the first element of that id or append. Delete keeps the others'
-- order. Padding arithmetic is that of 000." Assumes nothing.
use Rattle.std.specs.Prelude.{true, cond, ◌&&◌, List, [], ◌∷◌, map, ℕ, ◌+◌, ◌%◌, leb, eqb, length}
use Rattle.error.specs.Said.{Said, says, refused, refuse}
use Rattle.wire.specs.Part.{part}
use Rattle.elements.specs.declared.Extensions.{Extensions}
use Rattle.elements.specs.Elements.{Element, data_of, lay_elements}
use Rattle.elements.specs.Named.{Found, absent, at, find, replace, remove, append}
use Rattle.block.specs.declared.Form.{Form}
use Rattle.block.specs.declared.Form.TheVariants.{OneByte as one_byte, TwoByte as two_byte, Other as other}
use Rattle.block.specs.Form.{form_of, per_element, first_profile, first_head}
use Rattle.block.specs.Padding.{grown, shrunk, resized}
use Rattle.header.specs.declared.Header.{Header}
use Rattle.header.specs.Fields.{fields_of, in_domain}

-- ---- the changes

-- a header with other extensions: every other field stays
abbrev pub extended : Header → ℕ → Extensions → ℕ → Header
extended h profile x pads =
    record {
      version = h.version;
      padding = h.padding;
      extension = true;
      marker = h.marker;
      payload_type = h.payload_type;
      sequence_number = h.sequence_number;
      timestamp = h.timestamp;
      ssrc = h.ssrc;
      csrc_count = h.csrc_count;
      csrc = h.csrc;
      extension_profile = profile;
      extensions = x;
      extensions_padding = pads;
    }

abbrev pub changed : Header → ℕ → List Element → ℕ → Header
changed h profile es pads = extended h profile (lay_elements es) pads

-- "7: reading or setting would pass 32 elements or 1,024 data bytes"
abbrev pub limited : List Element → Header → Said Header
limited es h = cond (leb (length es) 32 && leb (length (data_of es)) 1024) (says h) (refuse 7)

abbrev pub change : Header → ℕ → List Element → ℕ → Said Header
change h profile es pads = limited es (changed h profile es pads)

-- "11, 12: set, one-byte: id not 1..14; size over 16", "13, 14: set, two-byte: id 0; size over 255", "10: other profile: set with
-- id not 0"
abbrev pub id_refusal : Form → ℕ → ℕ → Said Header → Said Header
id_refusal one_byte id len next = cond (leb 1 id && leb id 14) (cond (leb len 16) next (refuse 12)) (refuse 11)
id_refusal two_byte id len next = cond (leb 1 id) (cond (leb len 255) next (refuse 14)) (refuse 13)
id_refusal other id len next = cond (eqb id 0) next (refuse 10)

-- "Later sets replace the first element of that id or append."
abbrev pub set_found : Header → List Element → ℕ → List ℕ → Found → Said Header
set_found h es id bytes absent =
    change h h.extension_profile (append id bytes es)
    (grown h.extensions_padding (length bytes + per_element (form_of h.extension_profile)))
set_found h es id bytes (at place len) =
    change h h.extension_profile (replace id bytes es) (resized h.extensions_padding len (length bytes))

unfoldable pub set_later : Header → List Element → ℕ → List ℕ → Said Header
set_later h es id bytes =
    id_refusal (form_of h.extension_profile) id (length bytes) (set_found h es id bytes (find id 0 es))

unfoldable pub set_first : Header → List Element → ℕ → List ℕ → Said Header
set_first h es id bytes =
    change h (first_profile h.extension_profile (length bytes)) (append id bytes es)
    (grown h.extensions_padding (length bytes + first_head (length bytes)))

-- with extensions off a set is the first, with extensions on a later one
unfoldable pub set_extension : Header → ℕ → List ℕ → Said Header
set_extension h id bytes =
    cond (in_domain h)
    (cond h.extension (set_later h (fields_of h).elements id bytes) (set_first h (fields_of h).elements id bytes))
    (refuse 8)

-- "15, 16: delete: id absent; extensions off"
abbrev pub del_found : Header → List Element → ℕ → Found → Said Header
del_found h es id absent = refuse 15
del_found h es id (at place len) =
    says
    (changed h h.extension_profile (remove id es)
    (shrunk h.extensions_padding ((len + per_element (form_of h.extension_profile)) % 4)))

-- 8, 16, 15 in this order
unfoldable pub del_extension : Header → ℕ → Said Header
del_extension h id =
    cond (in_domain h)
    (cond h.extension (del_found h (fields_of h).elements id (find id 0 (fields_of h).elements)) (refuse 16))
    (refuse 8)

-- ---- looking

-- an element's place in the record's data; none where extensions are off, though elements may be there
unfoldable pub get_extension : Header → ℕ → Said Found
get_extension h id =
    cond (in_domain h) (says (cond h.extension (find id 0 (fields_of h).elements) absent)) (refuse 8)

unfoldable pub get_extension_ids : Header → Said (List ℕ)
get_extension_ids h =
    cond (in_domain h)
    (says (cond h.extension (map (λ (e : Element). e.id) (fields_of h).elements) []))
    (refuse 8)

-- the data held under an id
pub data Held : Type 0 where
  nothing : Held
  holds : List ℕ → Held

abbrev pub lookup : ℕ → List Element → Held
lookup id [] = nothing
lookup id (e ∷ es) = cond (eqb e.id id) (holds e.bytes) (lookup id es)

-- what get_extension shows of a record: the data at the place that it says
abbrev pub shows : Header → Said Found → Said Held
shows h (says absent) = says nothing
shows h (says (at place len)) = says (holds (part h.extensions.bytes place len))
shows h (refused r) = refused r
