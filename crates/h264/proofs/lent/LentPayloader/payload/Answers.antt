-- The sets that wait then are put in front of their buffers; beside a refusal all is as it came.
use mathlib.Core.Path.{refl, ap₂, ◌∙◌}
use mathlib.Core.List.{List}
use Prim.Native.Nat.{ℕ}
use Rattle.std.specs.Prelude.{Ok, Err}
use Rattle.h264.specs.Payload.{Lent, saved_lent, lend_out, outside_by, lent_of}
use Rattle.h264.proofs.State.{lent_back}
use Rattle.h264.proofs.Calls.{call_stated}
use Rattle.h264.proofs.lent.LentPayloader.payload.Goals as goal

pub returns-in-Ok : goal.returns-in-Ok
unfolding lent_of
returns-in-Ok c =
    let a = c.args in
    let l : Lent = record { sender = a.self; sps = a.sps.now; pps = a.pps.now } in
    let w = c.in-Ok.delivered.waiting in
    call_stated l (lend_out l) (outside_by a.self.sps_len a.self.pps_len a.mtu a.frame.now) (saved_lent l) a.mtu a.frame.now a.out.now a.ends.now _ (Ok c.in-Ok.delivered.written) _ _
    c.in-Ok.ensures.1 _
    (ap₂ (λ (x y : List ℕ). record { sender = record { sps_len = w.sps.len; pps_len = w.pps.len }; sps = x; pps = y }) c.store.ensures c.store-in-Ok.ensures
    ∙ lent_back a.sps.now a.pps.now a.frame.now w c.in-Ok.ensures.0 a.self)

pub returns-in-Err : goal.returns-in-Err
unfolding lent_of
returns-in-Err c =
    let a = c.args in
    let l : Lent = record { sender = a.self; sps = a.sps.now; pps = a.pps.now } in
    call_stated l (lend_out l) (outside_by a.self.sps_len a.self.pps_len a.mtu a.frame.now) (saved_lent l) a.mtu a.frame.now a.out.now a.ends.now (saved_lent l) (Err c.in-Err.e) _ _
    c.in-Err.ensures _ refl
