-- The code's calls, one after the other, by `depacketize`'s contract alone. Assumes nothing.
use Rattle.std.specs.Prelude.{◌≡◌, Bool, List, [], ◌∷◌, map, ℕ, suc, take}
use Rattle.error.specs.Said.{Said, says, refused, said}
use Rattle.wire.specs.Each.{Each}
use Rattle.h264_packet.specs.declared.H264Packet.{H264Packet}
use Rattle.h264_packet.specs.declared.Depacketized.{Depacketized}
use Rattle.h264_packet.specs.Depacketize.{depacketized}
use Rattle.h264_packet.specs.Said.{heard, depacketized_heard}

-- what a call hands back: its result, and both buffers at exit
pub record Result : Type 0 where
  pub answer : Depacketized
  pub gather : List ℕ
  pub out : List ℕ

-- a call's result meets the contract
abbrev pub MeetsContract : H264Packet → List ℕ → List ℕ → List ℕ → Result → Type 0
MeetsContract p payload gather out r =
    heard r.answer r.gather r.out ≡ depacketized_heard p payload (depacketized p.is_avc p.gathered payload gather out)

-- the results of calls, one for each payload: each has the record and the gather buffer that the one before left
abbrev pub Meets : H264Packet → List ℕ → (ℕ → List ℕ) → List (List ℕ) → List Result → Type 0
Meets p gather outs [] [] = Unit {0}
Meets p gather outs [] (r ∷ rs) = ⊥
Meets p gather outs (s ∷ ss) [] = ⊥
Meets p gather outs (s ∷ ss) (r ∷ rs) = MeetsContract p s gather (outs 0) r × Meets r.answer.packet r.gather (λ i. outs (suc i)) ss rs

-- the bytes that a call handed out
abbrev pub taken_from : Said ℕ → List ℕ → List ℕ
taken_from (says n) out = take n out
taken_from (refused r) out = []

abbrev pub handed_out : Result → List ℕ
handed_out r = taken_from (said r.answer.answer) r.out

-- a call that is not refused
abbrev pub AnsweredCall : Result → Type 0
AnsweredCall r = (n : ℕ) × (said r.answer.answer ≡ says n)

-- the record behind the last call
abbrev pub record_behind : H264Packet → List Result → H264Packet
record_behind p [] = p
record_behind p (r ∷ rs) = record_behind r.answer.packet rs

-- no call is refused, each hands out what is expected of it, and no run is left
pub record CodeHears (p : H264Packet) (rs : List Result) (expected : List (List ℕ)) : Type 0 where
  pub answered : Each AnsweredCall rs
  pub handed : map handed_out rs ≡ expected
  pub no_run : (record_behind p rs).gathered ≡ 0

-- a record without a run
abbrev pub idle : Bool → H264Packet
idle avc = record { is_avc = avc; gathered = 0 }
