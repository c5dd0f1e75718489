-- What the sender's answers say, in the paper's numbers. Assumes nothing.
use Rattle.std.specs.Prelude.{List, ℕ, Ok, Err}
use Rattle.error.specs.declared.Error.{Error}
use Rattle.error.specs.Said.{said}
use Rattle.vp8_send.specs.declared.Vp8Payloader.{Vp8Payloader}
use Rattle.vp8_send.specs.declared.Vp8Payloaded.{Vp8Payloaded}
use Rattle.vp8_send.specs.Send.{Sending}

abbrev pub refused_by : Vp8Payloader → Error → Vp8Payloaded
refused_by v e = record { payloader = v; answer = Err e }

abbrev pub sent_by : Vp8Payloader → ℕ → ℕ → Vp8Payloaded
sent_by v packets bytes = record { payloader = v; answer = Ok (record { packets = packets; bytes = bytes }) }

-- the result, with both buffers as they are left
abbrev pub sending : Vp8Payloaded → List ℕ → List ℕ → Sending
sending r out ends = record { payloader = r.payloader; said = said r.answer; out = out; ends = ends }
