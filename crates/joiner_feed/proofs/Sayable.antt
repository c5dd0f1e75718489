-- Each refusal of an H.264 payload's checks, and by the run, is one of `Error`: 4, 19, 21, 17, 18 and 25 are. Assumes nothing.
use mathlib.Core.Path.{refl}
use mathlib.Core.Bool.{Bool, true, false}
use mathlib.Core.List.{List}
use Prim.Native.Nat.{ℕ}
use lib.Dec.{eqb}
use Rattle.error.specs.Said.{Said, says, refused}
use Rattle.error.proofs.Only.{Sayable, either_sayable, passed}
use Rattle.nal_read.specs.Kind.{Shape, short, unknown, plain, aggregate, fragment, shape}
use Rattle.nal_read.specs.Unpack.{unpack}
use Rattle.nal_read.proofs.Sayable.{unpack_sayable}
use Rattle.joiner_step.specs.Run.{Units, Run, none, gathering}
use Rattle.joiner_feed.specs.Content.{Fragment, Content, whole, start, middle, end, timed, Note, fed}
use Rattle.joiner_feed.specs.H264.{whole_said, fragmented, check_by, check}

whole_sayable : (x : Said Units) → Sayable x → Sayable (whole_said x)
whole_sayable (says units) s = refl
whole_sayable (refused r) s = passed {A = Units} {r = r} s

fragmented_sayable : (first last : Bool) (head : ℕ) (f : Fragment) → Sayable (fragmented first last head f)
fragmented_sayable true true head f = refl
fragmented_sayable true false head f = refl
fragmented_sayable false true head f = refl
fragmented_sayable false false head f = refl

pub check_sayable : (payload : List ℕ) → Sayable (check payload)
unfolding check
check_sayable payload = go (shape payload)
  where
    go : (s : Shape) → Sayable (check_by s payload)
    go short = refl
    go (unknown t) = refl
    go plain = refl
    go aggregate = whole_sayable (unpack payload) (unpack_sayable payload)
    go (fragment first last head) = fragmented_sayable first last head _

pub timed_sayable : (time : ℕ) (x : Said Content) → Sayable x → Sayable (timed time x)
timed_sayable time (says x) s = refl
timed_sayable time (refused r) s = passed {A = Content} {r = r} s

pub fed_sayable : (run : Run Note) (time : ℕ) (x : Content) → Sayable (fed run time x)
fed_sayable run time (whole units) = refl
fed_sayable run time (start f) = refl
fed_sayable none time (middle f) = refl
fed_sayable (gathering note bytes) time (middle f) = either_sayable (eqb time note.time) refl refl
fed_sayable none time (end head f) = refl
fed_sayable (gathering note bytes) time (end head f) = either_sayable (eqb time note.time) refl refl
