-- How the reader goes through a header that may leave RFC 8285: which items it takes, how a block goes on behind them, and what is said of it then.
-- There are four ways, and each is told in the RFCs' terms. Assumes nothing.
use Rattle.std.specs.Prelude.{◌≡◌, true, false, List, [], ◌∷◌, ◌++◌, ◌⊎◌, ◌≢◌, ℕ, ◌+◌, ◌-◌, ◌*◌, ◌<◌, ◌≤◌, length}
use Rattle.std.proofs.Math.Option.{none, some}
use Rattle.error.specs.Said.{Said, says, refuse}
use Rattle.wire.specs.Each.{Each}
use Rattle.elements.specs.Elements.{Element}
use Rattle.header.specs.Read.{Reading}
use Rattle.rfc3550.specs.Rfc3550.{Fixed, LawfulFixed}
use Rattle.rfc3550.specs.Rfc3550 as rtp
use Rattle.rfc3550.specs.Rfc8285.{Form, one_byte, two_byte, profile_of, Item, padding, element, LawfulElement, head_octets, block_octets, extension_with}
use Rattle.header_rfc.specs.Says.{elements_among, pads_among, whole_element, reading_at, Within, Over, PlainForm, Fits}

-- ---- items that are taken

-- RFC 8285 4.1.2, one-byte form: an id 0 with a length field above 0. The RFC ends the elements there; the reader takes an element of 2 to 16 bytes
pub record ZeroId (id n : ℕ) : Type 0 where
  pub is_zero : id ≡ 0
  pub enough : 2 ≤ n
  pub fits : n ≤ 16

-- an element of n bytes that the reader takes: a lawful one, or an id 0 with a length
abbrev pub TakenElement : Form → ℕ → ℕ → Type 0
TakenElement one_byte id n = LawfulElement one_byte id n ⊎ ZeroId id n
TakenElement (two_byte appbits) id n = LawfulElement (two_byte appbits) id n

-- an octet of padding is always taken for one
abbrev pub TakenItem : Form → Item → Type 0
TakenItem form padding = Unit
TakenItem form (element id bytes) = TakenElement form id (length bytes)

-- items that are read one by one, whatever stands behind them
abbrev pub AllTaken : Form → List Item → Type 0
AllTaken form is = Each (TakenItem form) is

-- ---- how a block goes on behind them

pub data Ending : Type 0 where
  -- it ends
  ends : Ending
  -- RFC 8285 4.2, one-byte form: the reserved id 15, whatever its length field; `rest` is what the block has behind it
  fifteen : (len : ℕ) (rest : List ℕ) → Ending
  -- an element of which the block holds `part` of the data alone; the payload begins with `more`, the others
  leaving : (id : ℕ) (part more : List ℕ) → Ending
  -- RFC 8285 4.3, two-byte form: an id as the block's last octet; the payload begins with a length octet and that many bytes
  lone : (id : ℕ) (bytes : List ℕ) → Ending

-- which of these can stand in which form
abbrev pub LawfulEnding : Form → Ending → Type 0
LawfulEnding form ends = Unit
LawfulEnding one_byte (fifteen len rest) = len < 16
LawfulEnding (two_byte appbits) (fifteen len rest) = ⊥
LawfulEnding form (leaving id part more) = TakenElement form id (length (part ++ more)) × (1 ≤ length more)
LawfulEnding one_byte (lone id bytes) = ⊥
LawfulEnding (two_byte appbits) (lone id bytes) = TakenElement (two_byte appbits) id (length bytes)

-- the block's octets from there on
abbrev pub ending_octets : Form → Ending → List ℕ
ending_octets form ends = []
ending_octets form (fifteen len rest) = (15 * 16 + len) ∷ rest
ending_octets form (leaving id part more) = head_octets form id (length (part ++ more)) ++ part
ending_octets form (lone id bytes) = id ∷ []

-- the octets of the payload that go to the last element: "An element may run past the block into the payload."
abbrev pub borrowed : Ending → List ℕ
borrowed ends = []
borrowed (fifteen len rest) = []
borrowed (leaving id part more) = more
borrowed (lone id bytes) = length bytes ∷ bytes

-- the octets of the block that go to the payload: "Id 15 ends reading at once: the rest of the block stays unread and becomes payload."
abbrev pub unread : Ending → List ℕ
unread ends = []
unread (fifteen len rest) = rest
unread (leaving id part more) = []
unread (lone id bytes) = []

-- the last element
abbrev pub last_element : Ending → List Element
last_element ends = []
last_element (fifteen len rest) = []
last_element (leaving id part more) = record { id = id; bytes = part ++ more } ∷ []
last_element (lone id bytes) = record { id = id; bytes = bytes } ∷ []

-- ---- a header that is taken

-- a header whose extension has this profile and these octets
abbrev pub header_with : Fixed → ℕ → List ℕ → rtp.Plan
header_with f profile content = record { fixed = f; extension = some (extension_with profile content) }

-- its fixed fields, the form that its profile tells, the items of its block that are taken, and how the block goes on behind them
pub record Taken : Type 0 where
  pub fixed : Fixed
  pub form : Form
  pub items : List Item
  pub ending : Ending

-- the whole block
abbrev pub content_taken : Taken → List ℕ
content_taken t = block_octets t.form t.items ++ ending_octets t.form t.ending

-- the header as RFC 3550 has it
abbrev pub header_taken : Taken → rtp.Plan
header_taken t = header_with t.fixed (profile_of t.form) (content_taken t)

-- a lawful header of RFC 3550, whose profile the reader knows as that of the form
pub record LawfulTaken (t : Taken) : Type 0 where
  pub header : rtp.Lawful (header_taken t)
  pub plain : PlainForm t.form
  pub items : AllTaken t.form t.items
  pub ending : LawfulEnding t.form t.ending

-- the header, and behind it what its last element takes of the payload, and the rest of it
abbrev pub packet_taken : Taken → List ℕ → List ℕ
packet_taken t after = rtp.octets (header_taken t) ++ (borrowed t.ending ++ after)

-- the elements among the items, and the last
abbrev pub elements_taken : Taken → List Element
elements_taken t = elements_among t.items ++ last_element t.ending

-- what is read as payload
abbrev pub payload_taken : Taken → List ℕ → List ℕ
payload_taken t after = unread t.ending ++ after

-- where that begins: behind what is borrowed, and before what is unread
abbrev pub place_taken : Taken → ℕ
place_taken t = length (rtp.octets (header_taken t)) + length (borrowed t.ending) - length (unread t.ending)

-- what is said of it
abbrev pub reading_taken : Taken → Reading
reading_taken t = reading_at t.fixed true (profile_of t.form) (elements_taken t) (pads_among t.items) (place_taken t)

-- ---- an element that the packet does not hold

pub data Lacking : Type 0 where
  -- it has n bytes of data, of which the block holds `part`
  data_lack : (id n : ℕ) (part : List ℕ) → Lacking
  -- two-byte form: the block holds its id alone
  length_lacks : (id : ℕ) → Lacking

-- the payload does not hold the others: fewer bytes of data, or no length octet
abbrev pub LawfulLacking : Form → Lacking → List ℕ → Type 0
LawfulLacking form (data_lack id n part) payload = TakenElement form id n × (length (part ++ payload) < n)
LawfulLacking one_byte (length_lacks id) payload = ⊥
LawfulLacking (two_byte appbits) (length_lacks id) [] = (1 ≤ id) × (id < 256)
LawfulLacking (two_byte appbits) (length_lacks id) (n ∷ rest) = TakenElement (two_byte appbits) id n × (length rest < n)

-- the block's octets from there on
abbrev pub lacking_octets : Form → Lacking → List ℕ
lacking_octets form (data_lack id n part) = head_octets form id n ++ part
lacking_octets form (length_lacks id) = id ∷ []

-- the whole block
abbrev pub content_lacking : Form → List Item → Lacking → List ℕ
content_lacking form is x = block_octets form is ++ lacking_octets form x

-- ---- the four ways

-- the header has no extension
pub record Bare (s : List ℕ) : Type 0 where
  pub fixed : Fixed
  pub lawful : LawfulFixed fixed
  pub payload : List ℕ
  pub same : rtp.octets (record { fixed = fixed; extension = none }) ++ payload ≡ s

-- it has one in a form that the reader knows, and the packet holds all its elements
pub record TakenIn (s : List ℕ) : Type 0 where
  pub taken : Taken
  pub lawful : LawfulTaken taken
  pub after : List ℕ
  pub same : packet_taken taken after ≡ s

-- behind items that are taken the packet does not hold an element
pub record LackingIn (s : List ℕ) : Type 0 where
  pub fixed : Fixed
  pub form : Form
  pub plain : PlainForm form
  pub items : List Item
  pub taken : AllTaken form items
  pub lacking : Lacking
  pub payload : List ℕ
  pub why : LawfulLacking form lacking payload
  pub lawful : rtp.Lawful (header_with fixed (profile_of form) (content_lacking form items lacking))
  pub same : rtp.octets (header_with fixed (profile_of form) (content_lacking form items lacking)) ++ payload ≡ s

-- the extension has another profile: "one element, id 0, the whole block"
pub record WordsIn (s : List ℕ) : Type 0 where
  pub fixed : Fixed
  pub profile : ℕ
  pub not_one_byte : profile ≢ 0xBEDE
  pub not_two_byte : profile ≢ 0x1000
  pub words : List ℕ
  pub lawful : rtp.Lawful (header_with fixed profile words)
  pub payload : List ℕ
  pub same : rtp.octets (header_with fixed profile words) ++ payload ≡ s

pub data Course (s : List ℕ) : Type 0 where
  bare : Bare s → Course s
  takes : TakenIn s → Course s
  lacks : LackingIn s → Course s
  words : WordsIn s → Course s

-- the elements that are read; 7 is judged on them
abbrev pub elements_in : {s : List ℕ} → Course s → List Element
elements_in (bare b) = []
elements_in (takes t) = elements_taken t.taken
elements_in (lacks l) = elements_among l.items
elements_in (words w) = whole_element w.words ∷ []

-- what is said of words: the payload is that of RFC 3550
abbrev pub reading_words : {s : List ℕ} → WordsIn s → Reading
reading_words w =
    reading_at w.fixed true w.profile (whole_element w.words ∷ []) 0 (length (rtp.octets (header_with w.fixed w.profile w.words)))

-- the answer where they are within the limits: "3: an element's byte lies past the packet"
abbrev pub answer_in : {s : List ℕ} → Course s → Said Reading
answer_in (bare b) = says (reading_at b.fixed false 0 [] 0 (length (rtp.octets (record { fixed = b.fixed; extension = none }))))
answer_in (takes t) = says (reading_taken t.taken)
answer_in (lacks l) = refuse 3
answer_in (words w) = says (reading_words w)

-- the octets from the payload's place on, where there is an answer
abbrev pub payload_in : {s : List ℕ} → Course s → List ℕ
payload_in (bare b) = b.payload
payload_in (takes t) = payload_taken t.taken t.after
payload_in (lacks l) = []
payload_in (words w) = w.payload

-- ---- what is asked of a reader

-- it answers what the way through the octets says, and 7 where the elements pass the limits
pub record Follows (read : List ℕ → Said Reading) : Type 0 where
  pub within : (s : List ℕ) (c : Course s) → Fits s → Within (elements_in c) → read s ≡ answer_in c
  pub over : (s : List ℕ) (c : Course s) → Fits s → Over (elements_in c) → read s ≡ refuse 7

-- where 3 is given
pub record PastPacket (s : List ℕ) : Type 0 where
  pub lacking : LackingIn s
  pub within : Within (elements_among lacking.items)

-- where 7 is given
pub record OverLimits (s : List ℕ) : Type 0 where
  pub course : Course s
  pub over : Over (elements_in course)
