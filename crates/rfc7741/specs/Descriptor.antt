-- RFC 7741, section 4.2: what a VP8 payload descriptor is. A plan says the fields; the octets are a function of the plan. It knows
-- of no reader and no sender. Assumes nothing.
use Rattle.std.specs.Prelude.{◌≡◌, List, [], ◌∷◌, ◌++◌, ℕ, ◌+◌, ◌*◌, ◌/◌, ◌%◌, ◌<◌, ◌≤◌}
use Rattle.std.proofs.Math.Option.{Option, none, some}

-- each is an octet
abbrev pub Octets : List ℕ → Type 0
Octets [] = Unit
Octets (b ∷ s) = (b < 256) × Octets s

-- the first octet, which every descriptor has. R is a reserved bit: any value for a receiver, 0 for a sender
pub record Required : Type 0 where
  -- R behind X
  pub r : ℕ
  -- N: the frame can be discarded
  pub n : ℕ
  -- S: start of a VP8 partition
  pub s : ℕ
  -- R behind S
  pub r2 : ℕ
  -- PID: partition index
  pub pid : ℕ

-- I and M: no PictureID, one of 7 bits, one of 15 bits
pub data PictureId : Type 0 where
  absent : PictureId
  short : ℕ → PictureId
  long : ℕ → PictureId

-- the octet that T and K share. A part whose flag is clear is there all the same, and is to be ignored
pub record Indices : Type 0 where
  pub tid : ℕ
  pub y : ℕ
  pub keyidx : ℕ

-- T and K: the octet is there where one of them is set, or both
pub data Layers : Type 0 where
  neither : Layers
  only_t : Indices → Layers
  only_k : Indices → Layers
  both_tk : Indices → Layers

-- what X announces: the flags I, L, T, K are those of the fields that are there
pub record Extension : Type 0 where
  pub picture_id : PictureId
  pub tl0picidx : Option ℕ
  pub layers : Layers
  pub rsv : ℕ

-- X clear: all optional fields are left out. X set: the extension octet follows the first
pub data Descriptor : Type 0 where
  plain : Required → Descriptor
  extended : Required → Extension → Descriptor

-- ---- the flags of the extension octet

abbrev pub flag_i : PictureId → ℕ
flag_i absent = 0
flag_i (short p) = 1
flag_i (long p) = 1

abbrev pub flag_l : Option ℕ → ℕ
flag_l none = 0
flag_l (some index) = 1

abbrev pub flag_t : Layers → ℕ
flag_t neither = 0
flag_t (only_t o) = 1
flag_t (only_k o) = 0
flag_t (both_tk o) = 1

abbrev pub flag_k : Layers → ℕ
flag_k neither = 0
flag_k (only_t o) = 0
flag_k (only_k o) = 1
flag_k (both_tk o) = 1

-- ---- the octets
--
--       0 1 2 3 4 5 6 7                      0 1 2 3 4 5 6 7
--      +-+-+-+-+-+-+-+-+                   +-+-+-+-+-+-+-+-+
--      |X|R|N|S|R| PID | (REQUIRED)        |X|R|N|S|R| PID | (REQUIRED)
--      +-+-+-+-+-+-+-+-+                   +-+-+-+-+-+-+-+-+
-- X:   |I|L|T|K| RSV   | (OPTIONAL)   X:   |I|L|T|K| RSV   | (OPTIONAL)
--      +-+-+-+-+-+-+-+-+                   +-+-+-+-+-+-+-+-+
-- I:   |M| PictureID   | (OPTIONAL)   I:   |M| PictureID   | (OPTIONAL)
--      +-+-+-+-+-+-+-+-+                   +-+-+-+-+-+-+-+-+
-- L:   |   TL0PICIDX   | (OPTIONAL)        |   PictureID   |
--      +-+-+-+-+-+-+-+-+                   +-+-+-+-+-+-+-+-+
-- T/K: |TID|Y| KEYIDX  | (OPTIONAL)   L:   |   TL0PICIDX   | (OPTIONAL)
--      +-+-+-+-+-+-+-+-+                   +-+-+-+-+-+-+-+-+
--                                     T/K: |TID|Y| KEYIDX  | (OPTIONAL)
--                                          +-+-+-+-+-+-+-+-+

abbrev pub first_octet : ℕ → Required → ℕ
first_octet x d = x * 128 + d.r * 64 + d.n * 32 + d.s * 16 + d.r2 * 8 + d.pid

abbrev pub extension_octet : Extension → ℕ
extension_octet e =
    flag_i e.picture_id * 128 + flag_l e.tl0picidx * 64 + flag_t e.layers * 32 + flag_k e.layers * 16 + e.rsv

-- M clear, then 7 bits; M set, then 15 bits, the most significant first
abbrev pub id_octets : PictureId → List ℕ
id_octets absent = []
id_octets (short p) = p ∷ []
id_octets (long p) = (128 + p / 256) ∷ p % 256 ∷ []

abbrev pub tl0_octets : Option ℕ → List ℕ
tl0_octets none = []
tl0_octets (some index) = index ∷ []

abbrev pub indices_octet : Indices → ℕ
indices_octet o = o.tid * 64 + o.y * 32 + o.keyidx

abbrev pub layers_octets : Layers → List ℕ
layers_octets neither = []
layers_octets (only_t o) = indices_octet o ∷ []
layers_octets (only_k o) = indices_octet o ∷ []
layers_octets (both_tk o) = indices_octet o ∷ []

abbrev pub optional_octets : Extension → List ℕ
optional_octets e = id_octets e.picture_id ++ (tl0_octets e.tl0picidx ++ layers_octets e.layers)

abbrev pub octets : Descriptor → List ℕ
octets (plain d) = first_octet 0 d ∷ []
octets (extended d e) = first_octet 1 d ∷ extension_octet e ∷ optional_octets e

-- ---- what is formed: each field is within its bits

pub record FormedRequired (d : Required) : Type 0 where
  pub r : d.r < 2
  pub n : d.n < 2
  pub s : d.s < 2
  pub r2 : d.r2 < 2
  pub pid : d.pid < 8

abbrev pub FormedId : PictureId → Type 0
FormedId absent = Unit
FormedId (short p) = p < 128
FormedId (long p) = p < 32768

abbrev pub FormedTl0 : Option ℕ → Type 0
FormedTl0 none = Unit
FormedTl0 (some index) = index < 256

pub record FormedIndices (o : Indices) : Type 0 where
  pub tid : o.tid < 4
  pub y : o.y < 2
  pub keyidx : o.keyidx < 32

abbrev pub FormedLayers : Layers → Type 0
FormedLayers neither = Unit
FormedLayers (only_t o) = FormedIndices o
FormedLayers (only_k o) = FormedIndices o
FormedLayers (both_tk o) = FormedIndices o

pub record FormedExtension (e : Extension) : Type 0 where
  pub picture_id : FormedId e.picture_id
  pub tl0picidx : FormedTl0 e.tl0picidx
  pub layers : FormedLayers e.layers
  pub rsv : e.rsv < 16

abbrev pub Formed : Descriptor → Type 0
Formed (plain d) = FormedRequired d
Formed (extended d e) = FormedRequired d × FormedExtension e

-- ---- what is lawful: formed, and by the rule on the flags

-- 4.2: where L is 1, T must be 1 too
abbrev pub LWithT : Extension → Type 0
LWithT e = flag_l e.tl0picidx ≤ flag_t e.layers

abbrev pub Rules : Descriptor → Type 0
Rules (plain d) = Unit
Rules (extended d e) = LWithT e

pub record Lawful (d : Descriptor) : Type 0 where
  pub formed : Formed d
  pub rules : Rules d

-- ---- what strays: formed, but L is 1 and T is 0

pub record LWithoutT (e : Extension) : Type 0 where
  pub l : flag_l e.tl0picidx ≡ 1
  pub t : flag_t e.layers ≡ 0

abbrev pub Broken : Descriptor → Type 0
Broken (plain d) = ⊥
Broken (extended d e) = LWithoutT e

pub record Strays (d : Descriptor) : Type 0 where
  pub formed : Formed d
  pub broken : Broken d
