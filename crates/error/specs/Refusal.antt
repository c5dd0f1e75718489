-- The paper's refusals: the number of each, and the values it carries.
-- Assumes nothing.
use Rattle.std.specs.Prelude.{List, [], ◌∷◌, ℕ}
use Rattle.error.specs.declared.Error.{Error}
use Rattle.error.specs.declared.Error.TheVariants.{ErrHeaderSizeInsufficient, ErrHeaderSizeInsufficientForExtension, ElementPastPacket, ErrShortPacket, ErrBufferTooSmall, GatherTooSmall, OverLimits, OutsideDomain, HeaderExtensionPayloadNot32BitWords, ErrRfc3550headerIdrange, ErrRfc8285oneByteHeaderIdrange, ErrRfc8285oneByteHeaderSize, ErrRfc8285twoByteHeaderIdrange, ErrRfc8285twoByteHeaderSize, ErrHeaderExtensionNotFound, ErrHeaderExtensionsNotEnabled, StapASizeLargerThanBuffer, StapASizeCut, NaluTypeIsNotHandled, OtherSource, StartAndEnd, AlreadyClosed, ClosingTooFar, MissedTotalFull, OtherTime}

-- a refusal as the paper has it: a number, and what it carries
pub record Refusal : Type 0 where
  pub number : ℕ
  pub carried : List ℕ

-- the paper's table "Refusal numbers", by the Rust's names where it has one, and 25 of E4
abbrev pub number_of : Error → ℕ
number_of ErrHeaderSizeInsufficient = 1
number_of ErrHeaderSizeInsufficientForExtension = 2
number_of ElementPastPacket = 3
number_of ErrShortPacket = 4
number_of ErrBufferTooSmall = 5
number_of GatherTooSmall = 6
number_of OverLimits = 7
number_of OutsideDomain = 8
number_of HeaderExtensionPayloadNot32BitWords = 9
number_of ErrRfc3550headerIdrange = 10
number_of ErrRfc8285oneByteHeaderIdrange = 11
number_of ErrRfc8285oneByteHeaderSize = 12
number_of ErrRfc8285twoByteHeaderIdrange = 13
number_of ErrRfc8285twoByteHeaderSize = 14
number_of ErrHeaderExtensionNotFound = 15
number_of ErrHeaderExtensionsNotEnabled = 16
number_of (StapASizeLargerThanBuffer size left) = 17
number_of StapASizeCut = 18
number_of (NaluTypeIsNotHandled type) = 19
number_of OtherSource = 20
number_of StartAndEnd = 21
number_of AlreadyClosed = 22
number_of ClosingTooFar = 23
number_of MissedTotalFull = 24
number_of OtherTime = 25

-- "17 .. (carries size and bytes left)", "19 .. (carries it)"; no other carries anything
abbrev pub carried_by : Error → List ℕ
carried_by ErrHeaderSizeInsufficient = []
carried_by ErrHeaderSizeInsufficientForExtension = []
carried_by ElementPastPacket = []
carried_by ErrShortPacket = []
carried_by ErrBufferTooSmall = []
carried_by GatherTooSmall = []
carried_by OverLimits = []
carried_by OutsideDomain = []
carried_by HeaderExtensionPayloadNot32BitWords = []
carried_by ErrRfc3550headerIdrange = []
carried_by ErrRfc8285oneByteHeaderIdrange = []
carried_by ErrRfc8285oneByteHeaderSize = []
carried_by ErrRfc8285twoByteHeaderIdrange = []
carried_by ErrRfc8285twoByteHeaderSize = []
carried_by ErrHeaderExtensionNotFound = []
carried_by ErrHeaderExtensionsNotEnabled = []
carried_by (StapASizeLargerThanBuffer size left) = size ∷ left ∷ []
carried_by StapASizeCut = []
carried_by (NaluTypeIsNotHandled type) = type ∷ []
carried_by OtherSource = []
carried_by StartAndEnd = []
carried_by AlreadyClosed = []
carried_by ClosingTooFar = []
carried_by MissedTotalFull = []
carried_by OtherTime = []

abbrev pub refusal_of : Error → Refusal
refusal_of e = record { number = number_of e; carried = carried_by e }
