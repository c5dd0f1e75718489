-- The sets that wait then are laid out anew; beside a refusal the record is as it came.
use mathlib.Core.Path.{refl, ap₂}
use Rattle.std.specs.Prelude.{Ok, Err}
use Rattle.h264.specs.declared.send.ParameterSet.{ParameterSet}
use Rattle.h264.specs.Payload.{lay_out, saved_in, outside, payload_of}
use Rattle.h264.proofs.Calls.{call_stated}
use Rattle.h264.proofs.send.H264Payloader.payload.Goals as goal

pub returns-in-Ok : goal.returns-in-Ok
unfolding payload_of
returns-in-Ok c =
    let a = c.args in
    call_stated a.self lay_out (outside a.self a.mtu a.frame.now) (saved_in a.self) a.mtu a.frame.now a.out.now a.ends.now _ (Ok c.in-Ok.delivered.written) _ _
    c.in-Ok.ensures.1 _ (ap₂ (λ (s p : ParameterSet). record { sps = s; pps = p }) c.keep.ensures c.keep-in-Ok.ensures)

pub returns-in-Err : goal.returns-in-Err
unfolding payload_of
returns-in-Err c =
    let a = c.args in
    call_stated a.self lay_out (outside a.self a.mtu a.frame.now) (saved_in a.self) a.mtu a.frame.now a.out.now a.ends.now (saved_in a.self) (Err c.in-Err.e) _ _
    c.in-Err.ensures _ refl
