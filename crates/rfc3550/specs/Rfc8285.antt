-- RFC 8285: the elements of a header extension, one-byte form (section 4.2) and two-byte form (section 4.3). An extension's content is a
-- list of items, each an element or an octet of padding, so that padding may stand anywhere between them (section 4.1.2); its octets are a
-- function of that list. Assumes nothing.
use Rattle.std.specs.Prelude.{◌≡◌, List, [], ◌∷◌, ◌++◌, ◌≢◌, ℕ, ◌+◌, ◌-◌, ◌*◌, ◌/◌, ◌<◌, ◌≤◌, length}
use Rattle.std.proofs.Math.Option.{Option, none, some}
use Rattle.wire.specs.Each.{Each}
use Rattle.rfc3550.specs.Rfc3550.{Fixed, Extension}
use Rattle.rfc3550.specs.Rfc3550 as rtp

-- ---- the two forms

-- the two-byte form leaves four bits of the profile to the application
pub data Form : Type 0 where
  one_byte : Form
  two_byte : (appbits : ℕ) → Form

-- appbits is four bits wide
abbrev pub LawfulForm : Form → Type 0
LawfulForm one_byte = Unit
LawfulForm (two_byte appbits) = appbits < 16

-- section 4.2: 0xBEDE; section 4.3:
--
--    0                   1
--    0 1 2 3 4 5 6 7 8 9 0 1 2 3 4 5
--   +-+-+-+-+-+-+-+-+-+-+-+-+-+-+-+-+
--   |         0x100         |appbits|
--   +-+-+-+-+-+-+-+-+-+-+-+-+-+-+-+-+
abbrev pub profile_of : Form → ℕ
profile_of one_byte = 0xBEDE
profile_of (two_byte appbits) = 0x1000 + appbits

-- ---- items

-- an octet of padding, or an element: a local identifier and its data
pub data Item : Type 0 where
  padding : Item
  element : (id : ℕ) (bytes : List ℕ) → Item

-- local identifiers are 1 to 14 in the one-byte form and 1 to 255 in the two-byte form
abbrev pub highest_id : Form → ℕ
highest_id one_byte = 14
highest_id (two_byte appbits) = 255

-- 1 to 16 bytes of data in the one-byte form, 0 to 255 in the two-byte form
abbrev pub least_data : Form → ℕ
least_data one_byte = 1
least_data (two_byte appbits) = 0

-- the longest data that the length field can tell
abbrev pub most_data : Form → ℕ
most_data one_byte = 16
most_data (two_byte appbits) = 255

-- an element with n bytes of data
pub record LawfulElement (form : Form) (id n : ℕ) : Type 0 where
  pub not_padding : 1 ≤ id
  pub id_fits : id ≤ highest_id form
  pub enough : least_data form ≤ n
  pub data_fits : n ≤ most_data form

-- nothing is asked of padding; an element has an id and a length of its form
abbrev pub LawfulItem : Form → Item → Type 0
LawfulItem form padding = Unit
LawfulItem form (element id bytes) = LawfulElement form id (length bytes)

-- nothing is asked of the items together: no order, and no limit to their number
abbrev pub AllLawful : Form → List Item → Type 0
AllLawful form is = Each (LawfulItem form) is

-- what stands in front of an element's n bytes of data. Section 4.2, where the length is that of the data less one, and section 4.3:
--
--    0                            0                   1
--    0 1 2 3 4 5 6 7              0 1 2 3 4 5 6 7 8 9 0 1 2 3 4 5
--   +-+-+-+-+-+-+-+-+            +-+-+-+-+-+-+-+-+-+-+-+-+-+-+-+-+
--   |  ID   |  len  |            |       ID      |     length    |
--   +-+-+-+-+-+-+-+-+            +-+-+-+-+-+-+-+-+-+-+-+-+-+-+-+-+
abbrev pub head_octets : Form → ℕ → ℕ → List ℕ
head_octets one_byte id n = (id * 16 + (n - 1)) ∷ []
head_octets (two_byte appbits) id n = id ∷ n ∷ []

-- section 4.1.2: a padding octet is 0, and has neither length nor data
abbrev pub item_octets : Form → Item → List ℕ
item_octets form padding = 0 ∷ []
item_octets form (element id bytes) = head_octets form id (length bytes) ++ bytes

-- each item stands directly behind the one before it
abbrev pub block_octets : Form → List Item → List ℕ
block_octets form [] = []
block_octets form (i ∷ is) = item_octets form i ++ block_octets form is

-- ---- the extension

-- items in one of the two forms, or words whose meaning another profile defines
pub data Content : Type 0 where
  laid : Form → List Item → Content
  other : (profile : ℕ) → List ℕ → Content

-- 0xBEDE and 0x1000 to 0x100F belong to the two forms, and are no other profile
abbrev pub LawfulContent : Content → Type 0
LawfulContent (laid form items) = LawfulForm form × AllLawful form items
LawfulContent (other profile words) = (profile ≢ 0xBEDE) × (profile / 16 ≢ 0x100)

-- the extension with these octets; it is lawful where they are whole words
abbrev pub extension_with : ℕ → List ℕ → Extension
extension_with profile s = record { profile = profile; words = length s / 4; content = s }

-- the profile tells the form
abbrev pub extension_of : Content → Extension
extension_of (laid form items) = extension_with (profile_of form) (block_octets form items)
extension_of (other profile words) = extension_with profile words

-- an extension that is laid out as its profile asks
pub record Conforms (x : Extension) : Type 0 where
  pub content : Content
  pub lawful : LawfulContent content
  pub same : extension_of content ≡ x

-- ---- the header

-- the fixed header, and what its extension says, if it has one
pub record Plan : Type 0 where
  pub fixed : Fixed
  pub content : Option Content

-- the extension as RFC 3550 has it: a profile and octets
abbrev pub extension_in : Option Content → Option Extension
extension_in none = none
extension_in (some c) = some (extension_of c)

-- the header as RFC 3550 has it
abbrev pub plan_of : Plan → rtp.Plan
plan_of p = record { fixed = p.fixed; extension = extension_in p.content }

-- a header may have no extension
abbrev pub LawfulPart : Option Content → Type 0
LawfulPart none = Unit
LawfulPart (some c) = LawfulContent c

-- a lawful header of RFC 3550, whose extension is laid out as its profile asks
pub record Lawful (p : Plan) : Type 0 where
  pub header : rtp.Lawful (plan_of p)
  pub content : LawfulPart p.content

-- RFC 8285 changes nothing of RFC 3550's header: its octets are those
abbrev pub octets : Plan → List ℕ
octets p = rtp.octets (plan_of p)

-- ---- contents that are not laid out so

-- what stands at the first octet that begins no lawful item, with the rest of the block
pub data Stray : Type 0 where
  -- section 4.2, one-byte form: the reserved id 15, whatever its length field
  reserved : (len : ℕ) (rest : List ℕ) → Stray
  -- section 4.1.2, one-byte form: id 0 with a length field above 0 (in the two-byte form an octet 0 in an id's place is padding)
  zero_id : (len : ℕ) (rest : List ℕ) → Stray
  -- an element of n bytes of which the block holds only `part`
  leaves : (id n : ℕ) (part : List ℕ) → Stray
  -- two-byte form: an id as the block's last octet
  alone : (id : ℕ) → Stray

-- which of these can stand in which form, and with which fields
abbrev pub LawfulStray : Form → Stray → Type 0
LawfulStray one_byte (reserved len rest) = len < 16
LawfulStray one_byte (zero_id len rest) = (1 ≤ len) × (len < 16)
LawfulStray one_byte (leaves id n part) = LawfulElement one_byte id n × (length part < n)
LawfulStray one_byte (alone id) = ⊥
LawfulStray (two_byte appbits) (reserved len rest) = ⊥
LawfulStray (two_byte appbits) (zero_id len rest) = ⊥
LawfulStray (two_byte appbits) (leaves id n part) = LawfulElement (two_byte appbits) id n × (length part < n)
LawfulStray (two_byte appbits) (alone id) = (1 ≤ id) × (id < 256)

-- the octet that begins no lawful item, and all of the block behind it
abbrev pub stray_octets : Form → Stray → List ℕ
stray_octets form (reserved len rest) = (15 * 16 + len) ∷ rest
stray_octets form (zero_id len rest) = len ∷ rest
stray_octets form (leaves id n part) = head_octets form id n ++ part
stray_octets form (alone id) = id ∷ []

-- s is laid out by lawful items
pub record LaidOut (form : Form) (s : List ℕ) : Type 0 where
  pub items : List Item
  pub lawful : AllLawful form items
  pub same : block_octets form items ≡ s

-- s is lawful items up to an octet that begins none
pub record StraysIn (form : Form) (s : List ℕ) : Type 0 where
  pub items : List Item
  pub lawful : AllLawful form items
  pub stray : Stray
  pub why : LawfulStray form stray
  pub same : block_octets form items ++ stray_octets form stray ≡ s

-- an extension that has the profile of one of the two forms, and whose content strays from it
pub record Strays (x : Extension) : Type 0 where
  pub form : Form
  pub lawful : LawfulForm form
  pub profile : profile_of form ≡ x.profile
  pub content : StraysIn form x.content
