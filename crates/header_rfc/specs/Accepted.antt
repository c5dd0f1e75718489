-- What is told of every header that a reader accepts, in the RFCs' terms. Assumes nothing.
use Rattle.std.specs.Prelude.{◌≡◌, true, List, ◌⊎◌, drop, ℕ}
use Rattle.std.proofs.Common.{inl, inr}
use Rattle.error.specs.Said.{Said, says}
use Rattle.elements.specs.Elements.{Element}
use Rattle.header.specs.declared.Unmarshalled.{Unmarshalled}
use Rattle.header.specs.Fields.{Fields, lay_out}
use Rattle.header.specs.Read.{Reading, read_header}
use Rattle.rfc3550.specs.Rfc3550.{Octets, Fixed}
use Rattle.rfc3550.specs.Rfc8285.{StraysIn}
use Rattle.header_rfc.specs.Says.{fields_with, AppBits, Conforming}
use Rattle.header_rfc.specs.Taken.{content_taken, reading_taken, payload_taken, TakenIn, WordsIn, reading_words}

-- the extension strays from the form that its profile asks for, with the place and the reason; this is what is taken of it, and r says that
pub record Strayed (s : List ℕ) (r : Reading) : Type 0 where
  pub header : TakenIn s
  pub why : StraysIn header.taken.form (content_taken header.taken)
  pub said : r ≡ reading_taken header.taken

-- its profile is one of the two-byte form that the reader takes for another, and r says so
pub record Unformed (s : List ℕ) (r : Reading) : Type 0 where
  pub header : WordsIn s
  pub bits : AppBits header.profile
  pub said : r ≡ reading_words header

-- s has a lawful header of RFC 3550 in front, whose extension leaves RFC 8285
abbrev pub Deviating : List ℕ → Reading → Type 0
Deviating s r = Strayed s r ⊎ Unformed s r

-- the payload of such a packet
abbrev pub payload_left : {s : List ℕ} {r : Reading} → Deviating s r → List ℕ
payload_left (inl d) = payload_taken d.header.taken d.header.after
payload_left (inr d) = d.header.payload

-- a well-formed header that says r, or one that leaves RFC 8285
abbrev pub Told : List ℕ → Reading → Type 0
Told s r = Conforming s r ⊎ Deviating s r

-- whatever is accepted is told so
abbrev pub Sound : (List ℕ → Said Reading) → Type 0
Sound read = (s : List ℕ) (r : Reading) → Octets s → read s ≡ says r → Told s r

-- the code accepted s, with the payload at `place`, and its record is laid out from what is told
pub record CodeTold (s : List ℕ) (u : Unmarshalled) (place : ℕ) : Type 0 where
  pub reading : Reading
  pub told : Told s reading
  pub payload : reading.place ≡ place
  pub header : u.header ≡ lay_out reading.fields

-- ---- reading by parts

-- s is read with these fields, and its payload is `payload`
pub record ReadAs (s : List ℕ) (f : Fixed) (profile : ℕ) (es : List Element) (pads : ℕ) (payload : List ℕ) : Type 0 where
  pub place : ℕ
  pub read : read_header s ≡ says (record { fields = fields_with f true profile es pads; place = place })
  pub rest : drop place s ≡ payload

-- there are octets that are read with the profile and the elements of f
pub record IsRead (f : Fields) : Type 0 where
  pub s : List ℕ
  pub octets : Octets s
  pub reading : Reading
  pub read : read_header s ≡ says reading
  pub profile : reading.fields.profile ≡ f.profile
  pub elements : reading.fields.elements ≡ f.elements
