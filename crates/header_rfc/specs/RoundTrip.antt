-- The paper's round trip: which records read back, and as what. Assumes nothing.
use Rattle.std.specs.Prelude.{◌≡◌, Bool, true, false, cond, List, [], ◌∷◌, ◌++◌, ℕ, ◌+◌, ◌-◌, ◌*◌, ◌%◌, ◌<◌, ◌≤◌, length, take, replicate, Result, Ok}
use Rattle.std.proofs.Math.Option.{Option, none, some}
use Rattle.error.specs.declared.Error.{Error}
use Rattle.error.specs.Said.{Said, says}
use Rattle.wire.specs.Each.{Each}
use Rattle.elements.specs.Elements.{Element}
use Rattle.block.specs.declared.Form.{Form}
use Rattle.block.specs.declared.Form.TheVariants.{OneByte as one_byte, TwoByte as two_byte, Other as other}
use Rattle.block.specs.Form.{form_of, words_for}
use Rattle.header.specs.declared.Header.{Header}
use Rattle.header.specs.declared.Unmarshalled.{Unmarshalled}
use Rattle.header.specs.Fields.{Fields, fields_of, lay_out}
use Rattle.header.specs.Read.{read_header}
use Rattle.header.specs.Size.{payload_length, header_size}
use Rattle.header.specs.Write.{octets_of, in_writing_domain}
use Rattle.header.specs.Said.{heard, reading_heard}
use Rattle.rfc3550.specs.Rfc3550.{AllBelow}
use Rattle.rfc3550.specs.Rfc8285.{Item, padding, element, Content, laid, Plan, Lawful, octets}
use Rattle.rfc3550.specs.Rfc8285
use Rattle.header_rfc.specs.Says.{Within, Fits, whole_element, fields_said}

-- ---- the ranges of a record

-- "A record to be written has version 0 to 3, payload type 0 to 127", "15 CSRCs; 32 extension elements holding 1,024 data bytes in
-- all"; the other numbers are as wide as the record's types make them
pub record InRange (f : Fields) : Type 0 where
  pub version : f.version ≤ 3
  pub type : f.type ≤ 127
  pub number : f.number < 65536
  pub time : f.time < 4294967296
  pub source : f.source < 4294967296
  pub count : length f.csrcs ≤ 15
  pub csrcs : AllBelow 4294967296 f.csrcs
  pub profile : f.profile < 65536
  pub within : Within f.elements

-- what the record's own types make sure of: numbers of 16 and 32 bits, arrays of 15, 32, 32 and 1,024 places. `typed` of src/lib.rt shows it of every
-- record
pub record AsTyped (h : Header) : Type 0 where
  pub number : h.sequence_number < 65536
  pub time : h.timestamp < 4294967296
  pub source : h.ssrc < 4294967296
  pub csrcs : AllBelow 4294967296 h.csrc
  pub profile : h.extension_profile < 65536
  pub sources : length h.csrc ≡ 15
  pub ids : length h.extensions.ids ≡ 32
  pub lens : length h.extensions.lens ≡ 32
  pub bytes : length h.extensions.bytes ≡ 1024

-- ---- the conditions of the round trip

-- ids from 1 to `highest`, data of `least` to `most` bytes
pub record Kept (highest least most : ℕ) (e : Element) : Type 0 where
  pub id_from : 1 ≤ e.id
  pub id_to : e.id ≤ highest
  pub len_from : least ≤ length e.bytes
  pub len_to : length e.bytes ≤ most

-- each element by itself: ids may come twice, in any order
abbrev pub AllKept : ℕ → ℕ → ℕ → List Element → Type 0
AllKept highest least most es = Each (Kept highest least most) es

-- "ids 1..14 (one-byte), 1..255 (two-byte), or one id-0 element of whole words", with the lengths of a record to be written: "in the
-- one-byte profile .. lengths 1 to 16, in the two-byte profile lengths 0 to 255"
abbrev pub KeptIn : Form → List Element → Type 0
KeptIn one_byte es = AllKept 14 1 16 es
KeptIn two_byte es = AllKept 255 0 255 es
KeptIn other es = (words : List ℕ) × (es ≡ whole_element words ∷ []) × (length words % 4 ≡ 0)

-- "extensions off with profile 0 and no elements, or .."
abbrev pub KeptBy : Bool → ℕ → List Element → Type 0
KeptBy false profile es = (profile ≡ 0) × (es ≡ [])
KeptBy true profile es = KeptIn (form_of profile) es

-- the paper's conditions for the round trip, by the fields that they name
abbrev pub ReadsBack : Fields → Type 0
ReadsBack f = KeptBy f.extension f.profile f.elements

-- the zeros that fill the written block's last word
unfoldable pub zeros_written : Fields → ℕ
zeros_written f = cond f.extension (4 * words_for (payload_length f) - payload_length f) 0

-- "Fields and elements read back equal; extensions_padding reads back as the zeros written"
abbrev pub read_back : Fields → Fields
read_back f =
    record {
      version = f.version;
      padding = f.padding;
      extension = f.extension;
      marker = f.marker;
      type = f.type;
      number = f.number;
      time = f.time;
      source = f.source;
      csrcs = f.csrcs;
      profile = f.profile;
      elements = f.elements;
      pads = zeros_written f;
    }

-- ---- what is asked of a writer

-- every record in the writing domain that meets the conditions of the round trip is written, wherever there is room for its size
abbrev pub Writes : (Header → ℕ → Said (List ℕ)) → Type 0
Writes write =
    (h : Header) → in_writing_domain h ≡ true → ReadsBack (fields_of h) → (room : ℕ) → header_size (fields_of h) ≤ room →
    write h room ≡ says (octets_of (fields_of h))

-- the answer is that the octets of a lawful plan were written, which says what reads back of f
pub record WrittenAs (f : Fields) (answer : Said (List ℕ)) : Type 0 where
  pub plan : Plan
  pub lawful : Lawful plan
  pub same : answer ≡ says (octets plan)
  pub said : fields_said plan ≡ read_back f

-- the answer is that octets were written, and these read back as f does, whatever payload follows them
pub record WrittenAndRead (f : Fields) (answer : Said (List ℕ)) : Type 0 where
  pub octets : List ℕ
  pub written : answer ≡ says octets
  pub back : (payload : List ℕ) → Fits (octets ++ payload) → read_header (octets ++ payload) ≡ says (record { fields = read_back f; place = length octets })

-- the code's two calls: `marshal_to` of h answered a and left exit, and whatever `unmarshal` answers of what was written, with any payload behind it, is
-- what reads back
pub record CodeWrittenAndRead (h : Header) (exit : List ℕ) (a : Result ℕ Error) : Type 0 where
  pub count : ℕ
  pub answer : a ≡ Ok count
  pub back : (payload : List ℕ) → Fits (take count exit ++ payload) → (u : Unmarshalled) →
      heard u ≡ reading_heard (read_header (take count exit ++ payload)) →
      heard u ≡ record { answer = says count; header = lay_out (read_back (fields_of h)) }

-- ---- the other way round

-- the elements without any padding
abbrev pub items_for : List Element → List Item
items_for [] = []
items_for (e ∷ es) = element e.id e.bytes ∷ items_for es

-- the elements, then z octets of padding
abbrev pub items_with : List Element → ℕ → List Item
items_with es z = items_for es ++ replicate z padding

-- an extension as the writer lays one out: padding stands behind the elements, and only where it fills the last word
abbrev pub Trailing : Option Content → Type 0
Trailing none = Unit
Trailing (some (laid form items)) = (es : List Element) × (z : ℕ) × (items ≡ items_with es z) × (z < 4)
Trailing (some (Rfc8285.other profile words)) = Unit

-- ---- setting and deleting

-- how far the elements, with their heads, and the padding are from whole words
abbrev pub beyond : Fields → ℕ
beyond f = (payload_length f + f.pads) % 4
