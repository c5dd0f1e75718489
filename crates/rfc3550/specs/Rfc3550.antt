-- RFC 3550: the RTP header (section 5.1) and its extension (section 5.3.1). A header is a plan, which is its fields; its octets are a
-- function of the plan. Assumes nothing.
use Rattle.std.specs.Prelude.{◌≡◌, Bool, true, false, List, [], ◌∷◌, ◌++◌, ℕ, ◌+◌, ◌*◌, ◌/◌, ◌%◌, ◌<◌, ◌≤◌, length, get_or}
use Rattle.std.proofs.Math.Option.{Option, none, some}
use Rattle.wire.specs.Each.{Each}
use Rattle.wire.specs.Net.{be16, be32, u16_at}

-- each number of a list is below n
abbrev pub AllBelow : ℕ → List ℕ → Type 0
AllBelow n xs = Each (λ (x : ℕ). x < n) xs

-- a list of octets
abbrev pub Octets : List ℕ → Type 0
Octets s = AllBelow 256 s

-- ---- section 5.1, the fixed header and the CSRC list
--
--    0                   1                   2                   3
--    0 1 2 3 4 5 6 7 8 9 0 1 2 3 4 5 6 7 8 9 0 1 2 3 4 5 6 7 8 9 0 1
--   +-+-+-+-+-+-+-+-+-+-+-+-+-+-+-+-+-+-+-+-+-+-+-+-+-+-+-+-+-+-+-+-+
--   |V=2|P|X|  CC   |M|     PT      |       sequence number         |
--   +-+-+-+-+-+-+-+-+-+-+-+-+-+-+-+-+-+-+-+-+-+-+-+-+-+-+-+-+-+-+-+-+
--   |                           timestamp                           |
--   +-+-+-+-+-+-+-+-+-+-+-+-+-+-+-+-+-+-+-+-+-+-+-+-+-+-+-+-+-+-+-+-+
--   |           synchronization source (SSRC) identifier            |
--   +=+=+=+=+=+=+=+=+=+=+=+=+=+=+=+=+=+=+=+=+=+=+=+=+=+=+=+=+=+=+=+=+
--   |            contributing source (CSRC) identifiers             |
--   |                             ....                              |
--   +-+-+-+-+-+-+-+-+-+-+-+-+-+-+-+-+-+-+-+-+-+-+-+-+-+-+-+-+-+-+-+-+

pub record Fixed : Type 0 where
  pub version : ℕ
  pub padding : Bool
  pub marker : Bool
  pub payload_type : ℕ
  pub sequence_number : ℕ
  pub timestamp : ℕ
  pub ssrc : ℕ
  pub csrcs : List ℕ

-- V 2 bits, CC 4 bits, PT 7 bits, sequence number 16 bits, timestamp, SSRC and each CSRC 32 bits
pub record LawfulFixed (f : Fixed) : Type 0 where
  pub version : f.version < 4
  pub payload_type : f.payload_type < 128
  pub sequence_number : f.sequence_number < 65536
  pub timestamp : f.timestamp < 4294967296
  pub ssrc : f.ssrc < 4294967296
  pub count : length f.csrcs < 16
  pub csrcs : AllBelow 4294967296 f.csrcs

-- a bit of the figure
abbrev pub one_if : Bool → ℕ
one_if true = 1
one_if false = 0

-- V, P, X, CC
abbrev pub first_octet : Fixed → Bool → ℕ
first_octet f x = f.version * 64 + one_if f.padding * 32 + one_if x * 16 + length f.csrcs

-- M, PT
abbrev pub second_octet : Fixed → ℕ
second_octet f = one_if f.marker * 128 + f.payload_type

-- 0 to 15 CSRCs, each of 32 bits, in the list's order
abbrev pub csrc_octets : List ℕ → List ℕ
csrc_octets [] = []
csrc_octets (c ∷ cs) = be32 c ++ csrc_octets cs

-- the octets of the figure; x is the extension bit
unfoldable pub fixed_octets : Fixed → Bool → List ℕ
fixed_octets f x =
    (first_octet f x ∷ second_octet f ∷ [])
    ++ (be16 f.sequence_number ++ (be32 f.timestamp ++ (be32 f.ssrc ++ csrc_octets f.csrcs)))

-- ---- section 5.3.1, the header extension
--
--    0                   1                   2                   3
--    0 1 2 3 4 5 6 7 8 9 0 1 2 3 4 5 6 7 8 9 0 1 2 3 4 5 6 7 8 9 0 1
--   +-+-+-+-+-+-+-+-+-+-+-+-+-+-+-+-+-+-+-+-+-+-+-+-+-+-+-+-+-+-+-+-+
--   |      defined by profile       |           length              |
--   +-+-+-+-+-+-+-+-+-+-+-+-+-+-+-+-+-+-+-+-+-+-+-+-+-+-+-+-+-+-+-+-+
--   |                        header extension                       |
--   |                             ....                              |

pub record Extension : Type 0 where
  -- the 16 bits defined by profile
  pub profile : ℕ
  -- the length field
  pub words : ℕ
  -- the header extension, without the four octets in front of it
  pub content : List ℕ

-- the length counts 32-bit words, and leaves the four octets in front out: 0 is a valid length
pub record LawfulExtension (x : Extension) : Type 0 where
  pub profile : x.profile < 65536
  pub words : x.words < 65536
  pub content : length x.content ≡ 4 * x.words

-- the octets of the figure
unfoldable pub extension_octets : Extension → List ℕ
extension_octets x = be16 x.profile ++ (be16 x.words ++ x.content)

-- ---- the header

-- the extension bit is set exactly where an extension follows, and there is at most one
pub record Plan : Type 0 where
  pub fixed : Fixed
  pub extension : Option Extension

-- what the bits X and P say of the part that may follow
abbrev pub present : {A : Type 0} → Option A → Bool
present none = false
present (some a) = true

-- a header may have no extension
abbrev pub LawfulPart : Option Extension → Type 0
LawfulPart none = Unit
LawfulPart (some x) = LawfulExtension x

-- every field fits its bits, and the extension has the length that it tells
pub record Lawful (p : Plan) : Type 0 where
  pub fixed : LawfulFixed p.fixed
  pub extension : LawfulPart p.extension

-- without an extension nothing follows the CSRC list
abbrev pub part_octets : Option Extension → List ℕ
part_octets none = []
part_octets (some x) = extension_octets x

-- the extension follows the CSRC list
unfoldable pub octets : Plan → List ℕ
octets p = fixed_octets p.fixed (present p.extension) ++ part_octets p.extension

-- s is the octets of a lawful plan, and then a payload
pub record Begins (s : List ℕ) : Type 0 where
  pub plan : Plan
  pub lawful : Lawful plan
  pub payload : List ℕ
  pub same : octets plan ++ payload ≡ s

-- s begins with a header of RTP as the RFC defines it: the version is two
pub record IsRtp (s : List ℕ) : Type 0 where
  pub begins : Begins s
  pub version : begins.plan.fixed.version ≡ 2

-- ---- octets that no header begins

-- the fields by which a header tells its own length, where they stand: CC, X, and the extension's length
abbrev pub count_at : List ℕ → ℕ
count_at s = get_or s 0 0 % 16

-- X, the fourth bit
abbrev pub extension_bit : List ℕ → ℕ
extension_bit s = get_or s 0 0 / 16 % 2

-- where the extension begins
abbrev pub extension_at : List ℕ → ℕ
extension_at s = 12 + 4 * count_at s

-- the length field, behind the 16 bits defined by profile
abbrev pub words_at : List ℕ → ℕ
words_at s = u16_at s (extension_at s + 2)

-- s ends before the header that it begins
pub data CutShort (s : List ℕ) : Type 0 where
  -- within the twelve octets that every header has
  fixed_cut : length s < 12 → CutShort s
  -- within the CSRC list
  csrcs_cut : 12 ≤ length s → length s < extension_at s → CutShort s
  -- within the four octets in front of the extension's content
  head_cut : extension_bit s ≡ 1 → extension_at s ≤ length s → length s < extension_at s + 4 → CutShort s
  -- within the content
  content_cut : extension_bit s ≡ 1 → extension_at s + 4 ≤ length s → length s < extension_at s + 4 + 4 * words_at s → CutShort s
