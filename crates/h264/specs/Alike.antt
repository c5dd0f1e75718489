-- Two senders that have the same saved, one in its record and one in lent buffers, and their calls side by side. Assumes nothing.
use Rattle.std.specs.Prelude.{◌≡◌, List, [], ◌∷◌, ℕ}
use Rattle.h264.specs.declared.send.H264Payloader.{H264Payloader}
use Rattle.h264.specs.Payload.{saved_in, Lent, saved_lent, LeftIn, Left, payload_of, lent_of}

pub record Alike (h : H264Payloader) (l : Lent) : Type 0 where
  pub of_sps : h.sps.len ≡ l.sender.sps_len
  pub of_pps : h.pps.len ≡ l.sender.pps_len
  pub saved : saved_in h ≡ saved_lent l

-- two calls say the same, write the same, and leave senders that are alike
pub record SameCall (a : Left) (b : LeftIn Lent) : Type 0 where
  pub answer : a.answer ≡ b.answer
  pub out : a.out ≡ b.out
  pub ends : a.ends ≡ b.ends
  pub alike : Alike a.sender b.sender

-- a frame to be sent, and the output and the table that its call is lent
pub record Asked : Type 0 where
  pub mtu : ℕ
  pub frame : List ℕ
  pub out : List ℕ
  pub ends : List ℕ

abbrev pub by_value : H264Payloader → Asked → Left
by_value h a = payload_of h a.mtu a.frame a.out a.ends

abbrev pub in_buffers : Lent → Asked → LeftIn Lent
in_buffers l a = lent_of l a.mtu a.frame a.out a.ends

-- each call of the one is the same as that of the other, the state of each going on to its next
abbrev pub SameCalls : H264Payloader → Lent → List Asked → Type 0
SameCalls h l [] = Unit {0}
SameCalls h l (a ∷ more) = SameCall (by_value h a) (in_buffers l a) × SameCalls (by_value h a).sender (in_buffers l a).sender more
