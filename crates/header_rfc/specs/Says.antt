-- What a header of RFC 3550 and RFC 8285 says, in the header's own fields, and what it is for a reader to be complete.
-- Assumes nothing.
use Rattle.std.specs.Prelude.{◌≡◌, Bool, List, [], ◌∷◌, ◌++◌, ◌⊎◌, ℕ, suc, ◌<◌, ◌≤◌, length}
use Rattle.std.proofs.Math.Option.{Option, none, some}
use Rattle.error.specs.Said.{Said, says, refuse}
use Rattle.rfc3550.specs.Rfc3550.{Fixed, present}
use Rattle.rfc3550.specs.Rfc8285.{Form, one_byte, two_byte, Item, padding, element, Content, laid, other, Plan, Lawful, octets, profile_of}
use Rattle.elements.specs.Elements.{Element, data_of}
use Rattle.header.specs.Fields.{Fields}
use Rattle.header.specs.Read.{Reading}

-- ---- what a plan says

-- padding says nothing of the elements
abbrev pub elements_among : List Item → List Element
elements_among [] = []
elements_among (padding ∷ is) = elements_among is
elements_among (element id bytes ∷ is) = record { id = id; bytes = bytes } ∷ elements_among is

-- how many octets of padding there are, wherever they stand
abbrev pub pads_among : List Item → ℕ
pads_among [] = 0
pads_among (padding ∷ is) = suc (pads_among is)
pads_among (element id bytes ∷ is) = pads_among is

-- "Other profiles: one element, id 0, the whole block."
abbrev pub whole_element : List ℕ → Element
whole_element words = record { id = 0; bytes = words }

-- without an extension there are no elements
abbrev pub elements_said : Option Content → List Element
elements_said none = []
elements_said (some (laid form items)) = elements_among items
elements_said (some (other profile words)) = whole_element words ∷ []

-- words of another profile hold no padding
abbrev pub pads_said : Option Content → ℕ
pads_said none = 0
pads_said (some (laid form items)) = pads_among items
pads_said (some (other profile words)) = 0

-- without an extension the header's profile field is 0
abbrev pub profile_said : Option Content → ℕ
profile_said none = 0
profile_said (some (laid form items)) = profile_of form
profile_said (some (other profile words)) = profile

-- the header's fields: those of the fixed header, and what is said of the extension
unfoldable pub fields_with : Fixed → Bool → ℕ → List Element → ℕ → Fields
fields_with f x profile es pads =
    record {
      version = f.version;
      padding = f.padding;
      extension = x;
      marker = f.marker;
      type = f.payload_type;
      number = f.sequence_number;
      time = f.timestamp;
      source = f.ssrc;
      csrcs = f.csrcs;
      profile = profile;
      elements = es;
      pads = pads;
    }

-- what is read of a header, from its parts
abbrev pub reading_at : Fixed → Bool → ℕ → List Element → ℕ → ℕ → Reading
reading_at f x profile es pads place = record { fields = fields_with f x profile es pads; place = place }

-- the extension bit says whether there is an extension
abbrev pub fields_said : Plan → Fields
fields_said p =
    fields_with p.fixed (present p.content) (profile_said p.content) (elements_said p.content) (pads_said p.content)

-- the fields, and the payload's place: it is what lies behind the header
abbrev pub reading_said : Plan → Reading
reading_said p = record { fields = fields_said p; place = length (octets p) }

-- ---- the paper's limits and the crate's deviation

-- "32 extension elements holding 1,024 data bytes in all"
pub record Within (es : List Element) : Type 0 where
  pub few : length es ≤ 32
  pub small : length (data_of es) ≤ 1024

-- more of either is 7
abbrev pub Over : List Element → Type 0
Over es = (32 < length es) ⊎ (1024 < length (data_of es))

-- "Profile 0x1000" is the one profile of the two-byte form that is read as such
abbrev pub PlainForm : Form → Type 0
PlainForm one_byte = Unit
PlainForm (two_byte appbits) = appbits ≡ 0

-- what COMPLETE has to leave out is a form, not another profile
abbrev pub Plain : Option Content → Type 0
Plain none = Unit
Plain (some (laid form items)) = PlainForm form
Plain (some (other profile words)) = Unit

-- the profiles of the two-byte form that are read as "other profiles"
pub record AppBits (profile : ℕ) : Type 0 where
  pub from : 0x1001 ≤ profile
  pub to : profile ≤ 0x100F

-- "packets up to 65,535 bytes"
abbrev pub Fits : List ℕ → Type 0
Fits s = length s ≤ 65535

-- ---- what is asked of a reader

-- every well-formed header within the limits is read as what its plan says; over the limits it is 7
pub record Complete (read : List ℕ → Said Reading) : Type 0 where
  pub within : (p : Plan) (payload : List ℕ) → Lawful p → Plain p.content → Fits (octets p ++ payload) →
      Within (elements_said p.content) → read (octets p ++ payload) ≡ says (reading_said p)
  pub over : (p : Plan) (payload : List ℕ) → Lawful p → Plain p.content → Fits (octets p ++ payload) →
      Over (elements_said p.content) → read (octets p ++ payload) ≡ refuse 7

-- r is what a well-formed header in front of s says, whatever its version, in a form that is read as such
pub record Conforming (s : List ℕ) (r : Reading) : Type 0 where
  pub plan : Plan
  pub lawful : Lawful plan
  pub plain : Plain plan.content
  pub payload : List ℕ
  pub same : octets plan ++ payload ≡ s
  pub said : r ≡ reading_said plan
