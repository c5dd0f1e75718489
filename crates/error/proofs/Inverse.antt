-- No two refusals have one number and one list of carried values: `refusal_of` has an inverse, which goes through the numbers. So no
-- two results say the same. Assumes nothing.
use mathlib.Core.Path.{◌≡◌, refl, ap}
use mathlib.Core.Bool.{cond}
use Prim.Native.Nat.{ℕ}
use lib.Dec.{eqb}
use lib.ListN.{get_or}
use Rattle.std.specs.Prelude.{Result, Ok, Err}
use Rattle.error.specs.declared.Error.{Error}
use Rattle.error.specs.declared.Error.TheVariants.{ErrHeaderSizeInsufficient, ErrHeaderSizeInsufficientForExtension, ElementPastPacket, ErrShortPacket, ErrBufferTooSmall, GatherTooSmall, OverLimits, OutsideDomain, HeaderExtensionPayloadNot32BitWords, ErrRfc3550headerIdrange, ErrRfc8285oneByteHeaderIdrange, ErrRfc8285oneByteHeaderSize, ErrRfc8285twoByteHeaderIdrange, ErrRfc8285twoByteHeaderSize, ErrHeaderExtensionNotFound, ErrHeaderExtensionsNotEnabled, StapASizeLargerThanBuffer, StapASizeCut, NaluTypeIsNotHandled, OtherSource, StartAndEnd, AlreadyClosed, ClosingTooFar, MissedTotalFull, OtherTime}
use Rattle.error.specs.Refusal.{Refusal, refusal_of}
use Rattle.error.specs.Said.{Said, says, refused, said}

-- the refusal of a number, carrying a and b where it carries any
abbrev numbered : ℕ → ℕ → ℕ → Error
numbered n a b =
    cond (eqb n 1) ErrHeaderSizeInsufficient (
    cond (eqb n 2) ErrHeaderSizeInsufficientForExtension (
    cond (eqb n 3) ElementPastPacket (
    cond (eqb n 4) ErrShortPacket (
    cond (eqb n 5) ErrBufferTooSmall (
    cond (eqb n 6) GatherTooSmall (
    cond (eqb n 7) OverLimits (
    cond (eqb n 8) OutsideDomain (
    cond (eqb n 9) HeaderExtensionPayloadNot32BitWords (
    cond (eqb n 10) ErrRfc3550headerIdrange (
    cond (eqb n 11) ErrRfc8285oneByteHeaderIdrange (
    cond (eqb n 12) ErrRfc8285oneByteHeaderSize (
    cond (eqb n 13) ErrRfc8285twoByteHeaderIdrange (
    cond (eqb n 14) ErrRfc8285twoByteHeaderSize (
    cond (eqb n 15) ErrHeaderExtensionNotFound (
    cond (eqb n 16) ErrHeaderExtensionsNotEnabled (
    cond (eqb n 17) (StapASizeLargerThanBuffer a b) (
    cond (eqb n 18) StapASizeCut (
    cond (eqb n 19) (NaluTypeIsNotHandled a) (
    cond (eqb n 20) OtherSource (
    cond (eqb n 21) StartAndEnd (
    cond (eqb n 22) AlreadyClosed (
    cond (eqb n 23) ClosingTooFar (
    cond (eqb n 24) MissedTotalFull OtherTime)))))))))))))))))))))))

abbrev pub error_of : Refusal → Error
error_of r = numbered r.number (get_or r.carried 0 0) (get_or r.carried 1 0)

pub error_of_refusal_of : (e : Error) → error_of (refusal_of e) ≡ e
error_of_refusal_of ErrHeaderSizeInsufficient = refl
error_of_refusal_of ErrHeaderSizeInsufficientForExtension = refl
error_of_refusal_of ElementPastPacket = refl
error_of_refusal_of ErrShortPacket = refl
error_of_refusal_of ErrBufferTooSmall = refl
error_of_refusal_of GatherTooSmall = refl
error_of_refusal_of OverLimits = refl
error_of_refusal_of OutsideDomain = refl
error_of_refusal_of HeaderExtensionPayloadNot32BitWords = refl
error_of_refusal_of ErrRfc3550headerIdrange = refl
error_of_refusal_of ErrRfc8285oneByteHeaderIdrange = refl
error_of_refusal_of ErrRfc8285oneByteHeaderSize = refl
error_of_refusal_of ErrRfc8285twoByteHeaderIdrange = refl
error_of_refusal_of ErrRfc8285twoByteHeaderSize = refl
error_of_refusal_of ErrHeaderExtensionNotFound = refl
error_of_refusal_of ErrHeaderExtensionsNotEnabled = refl
error_of_refusal_of (StapASizeLargerThanBuffer size left) = refl
error_of_refusal_of StapASizeCut = refl
error_of_refusal_of (NaluTypeIsNotHandled type) = refl
error_of_refusal_of OtherSource = refl
error_of_refusal_of StartAndEnd = refl
error_of_refusal_of AlreadyClosed = refl
error_of_refusal_of ClosingTooFar = refl
error_of_refusal_of MissedTotalFull = refl
error_of_refusal_of OtherTime = refl

-- the result that says this
abbrev pub unsaid : {A : Type 0} → Said A → Result A Error
unsaid (says x) = Ok x
unsaid (refused r) = Err (error_of r)

pub unsaid_said : {A : Type 0} (r : Result A Error) → unsaid (said r) ≡ r
unsaid_said (Ok x) = refl
unsaid_said (Err e) = ap Err (error_of_refusal_of e)
