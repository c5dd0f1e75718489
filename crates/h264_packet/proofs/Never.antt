-- What a call shows always lies where it is shown: a plain unit has its first byte, and a fragment for which the gather buffer has no room is
-- refused. Assumes nothing.
use mathlib.Core.Path.{◌≡◌, refl, ◌∙◌}
use mathlib.Core.Bool.{Bool, true, false}
use mathlib.Core.List.{List, [], ◌∷◌, ◌++◌}
use mathlib.Core.Logic.{inl, inr}
use Prim.Native.Nat.{ℕ, ◌+◌, ◌-◌, ◌≤◌}
use native.Mathlib.Decide.{dec_le}
use native.Mathlib.Omega.{arith}
use lib.ListN.{length, drop, length-append, length-drop}
use Rattle.error.specs.Said.{Said, says, refused}
use Rattle.error.proofs.Refusing.{not_says}
use Rattle.nal.specs.Fed.{Laid}
use Rattle.nal.specs.Ran.{RanOn, lay_run}
use Rattle.nal.proofs.Handing.{both_long}
use Rattle.nal_read.specs.Kind.{Shape, short, unknown, plain, aggregate, fragment, shape}
use Rattle.nal_read.proofs.Shapes.{Facts, told}
use Rattle.h264_packet.specs.declared.H264Packet.{H264Packet}
use Rattle.h264_packet.specs.Run.{gathered, run_of, recorded}
use Rattle.h264_packet.specs.Depacketize.{read_by, read_payload, depacketized, shown_of, Lies}
use Rattle.h264_packet.specs.Said.{reading_heard, depacketized_heard}
use Rattle.h264_packet.proofs.Depacketizing.{length_run, by_domain}

module _ (avc : Bool) (n : ℕ) (payload gather out : List ℕ) (within : n ≤ length gather) (r : RanOn ℕ) where
  by_shape : (s : Shape) → Facts payload s → (lay_run recorded avc gather out (read_by s (run_of n gather) payload)).answer ≡ says r →
      Lies (shown_of s n (length payload)) (length payload) (length gather)
  by_shape short f e = tt
  by_shape (unknown t) f e = tt
  by_shape plain f e = elim f.long [ inl h ↦ omega arith | inr h ↦ omega arith ]
  by_shape aggregate f e = tt
  by_shape (fragment first false head) f e = tt
  by_shape (fragment first true head) f e =
      let bytes : List ℕ = gathered (run_of n gather) ++ drop 2 payload in
      let long : length bytes ≡ n + (length payload - 2) =
      length-append (gathered (run_of n gather)) (drop 2 payload) ∙ omega (arith, length_run n gather within, length-drop 2 payload) in
      elim (dec_le (length bytes) (length gather)) [
        | yes room ↦ omega arith
        | no over ↦ absurd (not_says (rw (both_long avc gather out bytes ((head ∷ bytes) ∷ []) (inl (omega arith))) at e))
      ]

pub shown_lies : (p : H264Packet) (payload gather out : List ℕ) →
    Lies (depacketized_heard p payload (depacketized p.is_avc p.gathered payload gather out)).showing (length payload) (length gather)
unfolding read_payload
shown_lies p payload gather out =
    by_domain (λ (l : Laid (RanOn ℕ)). Lies (depacketized_heard p payload l).showing (length payload) (length gather))
    p.is_avc p.gathered payload gather out tt
    (λ few within small. if_said _ _ _ (λ r. by_shape p.is_avc p.gathered payload gather out within r (shape payload) (told payload)))
  where
    -- a refusal shows nothing
    if_said : (g o : List ℕ) (x : Said (RanOn ℕ)) →
        ((r : RanOn ℕ) → x ≡ says r → Lies (shown_of (shape payload) p.gathered (length payload)) (length payload) (length gather)) →
        Lies (reading_heard p payload g o x).showing (length payload) (length gather)
    if_said g o (says r) h = h r refl
    if_said g o (refused r) h = tt
