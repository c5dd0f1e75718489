-- A packet hands out at most 16,777,220 bytes: the longest unit, 16,777,216 bytes, behind its prefix. The units of an STAP-A take less than twice the
-- packet's bytes. Assumes nothing.
use mathlib.Core.Path.{◌≡◌, refl, subst}
use mathlib.Core.Bool.{Bool, true, false, cond}
use mathlib.Core.List.{List, [], ◌∷◌, ◌++◌}
use Prim.Native.Nat.{ℕ, ◌≤◌}
use native.Mathlib.Omega.{arith}
use lib.Dec.{eqb}
use lib.ListN.{length, drop, length-append, length-drop}
use Rattle.error.specs.Said.{Said, says, refused, refuse}
use Rattle.nal.specs.Fed.{prefixed}
use Rattle.nal.proofs.Handing.{length_prefixed, length_one}
use Rattle.nal.proofs.Unpacking.{unpack_bound}
use Rattle.nal_read.specs.Kind.{Shape, short, unknown, plain, aggregate, fragment, shape}
use Rattle.nal_read.specs.Unpack.{unpack}
use Rattle.nal_read.proofs.Stap.{sizes_right}
use Rattle.joiner_step.specs.Run.{Units, Run, none, gathering, Does, fed_by}
use Rattle.joiner_feed.specs.Content.{Fragment, Content, whole, start, middle, end, Note, onward, topped, in_time, fed}
use Rattle.joiner_feed.specs.H264.{whole_said, fragmented, check_by, check}

module _ (avc : Bool) where
  abbrev Small : Units → Type 0
  Small units = length (prefixed avc units) ≤ 16777220

  -- what a packet holds: units that are small, or a header of a byte
  abbrev SmallContent : Content → Type 0
  SmallContent (whole units) = Small units
  SmallContent (start f) = Unit {0}
  SmallContent (middle f) = Unit {0}
  SmallContent (end head f) = length head ≤ 1

  abbrev SmallSaid : Said Content → Type 0
  SmallSaid (says x) = SmallContent x
  SmallSaid (refused r) = Unit {0}

  fragment_small : (first last : Bool) (head : ℕ) (f : Fragment) → SmallSaid (fragmented first last head f)
  fragment_small true true head f = tt
  fragment_small true false head f = tt
  fragment_small false false head f = tt
  fragment_small false true head f = omega arith

  unpacked_small : (payload : List ℕ) → length payload ≤ 65535 → (x : Said Units) → unpack payload ≡ x → SmallSaid (whole_said x)
  unpacked_small payload h (refused r) e = tt
  unpacked_small payload h (says units) e =
      omega (arith, unpack_bound (drop 1 payload) units (sizes_right payload units e), length-drop 1 payload, length_prefixed avc units)

  check_small : (payload : List ℕ) → length payload ≤ 65535 → SmallSaid (check payload)
  unfolding check
  check_small payload h = go (shape payload)
    where
      go : (s : Shape) → SmallSaid (check_by s payload)
      go short = tt
      go (unknown t) = tt
      go plain = omega (arith, length_one avc payload)
      go aggregate = unpacked_small payload h (unpack payload) refl
      go (fragment first last head) = fragment_small first last head _

  -- what that does to a run, where what is gathered is not too long
  abbrev SmallDone : Said (Does Note) → Type 0
  SmallDone (says y) = length (fed_by y).kept ≤ 16777215 → Small (fed_by y).handed
  SmallDone (refused r) = Unit {0}

  in_time_small : (note : Note) (time : ℕ) (y : Does Note) → SmallDone (says y) → SmallDone (in_time note time y)
  in_time_small note time y h = go (eqb time note.time)
    where
      go : (b : Bool) → SmallDone (cond b (says y) (refuse 25))
      go true = h
      go false = tt

  length_topped : (set : Bool) (head : List ℕ) → length (topped set head) ≡ length head
  length_topped set [] = refl
  length_topped set (b ∷ bytes) = refl

  fed_small : (run : Run Note) (time : ℕ) (x : Content) → SmallContent x → SmallDone (fed run time x)
  fed_small run time (whole units) s = λ few. s
  fed_small run time (start f) s = λ few. omega arith
  fed_small none time (middle f) s = λ few. omega arith
  fed_small (gathering note bytes) time (middle f) s = in_time_small note time _ (λ few. omega arith)
  fed_small none time (end head f) s = λ few. omega arith
  fed_small (gathering note bytes) time (end head f) s =
      in_time_small note time _
      (λ few. omega (arith, length_one avc (topped (onward note f).marked head ++ (bytes ++ f.part)), length-append (topped (onward note f).marked head) (bytes ++ f.part), length_topped (onward note f).marked head))

  pub few_handed : (payload : List ℕ) → length payload ≤ 65535 → (x : Content) → check payload ≡ says x → (run : Run Note) (time : ℕ) (y : Does Note) →
      fed run time x ≡ says y → length (fed_by y).kept ≤ 16777215 → Small (fed_by y).handed
  few_handed payload h x passes run time y does =
      subst SmallDone does (fed_small run time x (subst SmallSaid passes (check_small payload h)))
