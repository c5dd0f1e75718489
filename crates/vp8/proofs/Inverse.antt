-- No two answers say the same: what each answer says has an inverse, which goes through the refusals' own. Assumes nothing.
use mathlib.Core.Path.{◌≡◌, ap}
use mathlib.Core.Bool.{Bool}
use mathlib.Core.List.{List}
use Prim.Native.Nat.{ℕ}
use Rattle.std.specs.Prelude.{Result}
use Rattle.error.specs.declared.Error.{Error}
use Rattle.error.specs.Said.{Said}
use Rattle.error.proofs.Inverse.{unsaid, unsaid_said}
use Rattle.vp8_read.specs.declared.Vp8Depacketized.{Vp8Depacketized}
use Rattle.vp8_send.specs.declared.Vp8Sent.{Vp8Sent}
use Rattle.vp8_send.specs.declared.Vp8Payloaded.{Vp8Payloaded}
use Rattle.vp8_read.specs.Read.{Reading}
use Rattle.vp8_read.specs.ReadAnswer.{reading}
use Rattle.vp8_send.specs.Send.{Sending}
use Rattle.vp8_send.specs.SendAnswer.{sending}

abbrev pub depacketized_of : Reading → Vp8Depacketized
depacketized_of r = record { packet = r.packet; read = unsaid r.said }

pub depacketized_of_reading : (a : Vp8Depacketized) → depacketized_of (reading a) ≡ a
depacketized_of_reading a = ap (λ (r : Result ℕ Error). record { packet = a.packet; read = r }) (unsaid_said a.read)

abbrev pub head_of : Said Bool → Result Bool Error
head_of = unsaid

-- the result beside both buffers as they are left
abbrev pub Left : Type 0
Left = Vp8Payloaded × List ℕ × List ℕ

abbrev pub sending_of : Left → Sending
sending_of a = sending a.0 a.1 a.2

abbrev pub left_of : Sending → Left
left_of s = (record { payloader = s.payloader; answer = unsaid s.said }, s.out, s.ends)

pub left_of_sending_of : (a : Left) → left_of (sending_of a) ≡ a
left_of_sending_of a =
    ap (λ (w : Result Vp8Sent Error). (record { payloader = a.0.payloader; answer = w }, a.1, a.2)) (unsaid_said a.0.answer)
