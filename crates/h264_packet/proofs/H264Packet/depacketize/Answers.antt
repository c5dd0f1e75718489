-- The tests are those of `depacketized`; then the payload's fate is put into the record and the answer.
use mathlib.Core.Path.{◌≡◌, sym, ap, ◌∙◌}
use mathlib.Core.List.{List}
use mathlib.Core.Logic.{inl, inr}
use Prim.Native.Nat.{ℕ}
use Rattle.std.specs.Prelude.{Result, Ok, Err}
use mathlib.Core.Bool.{Bool}
use Rattle.error.specs.declared.Error.{Error}
use Rattle.nal.specs.Ran.{lay_run}
use Rattle.error.specs.Refusal.{Refusal}
use Rattle.error.specs.Said.{Said, says, refused}
use Rattle.h264_packet.specs.declared.H264Packet.{H264Packet}
use Rattle.h264_packet.specs.declared.Ran.{Ran}
use Rattle.h264_packet.specs.Depacketize.{read_payload, depacketized, Showing, nowhere}
use Rattle.h264_packet.specs.Run.{run_of, recorded}
use Rattle.h264_packet.specs.Said.{ran_said, Heard, reading_heard, depacketized_heard}
use Rattle.h264_packet.proofs.Depacketizing.{read_outside, read_inside}
use Rattle.h264_packet.proofs.H264Packet.depacketize.Goals as goal
use Rattle.h264_packet.proofs.H264Packet.depacketize.Goals.{After-read_payload, then-payload-gt65535-via-then-payload-gt65535, then-payload-gt65535-via-else-payload-gt65535+then-gather-run, then-payload-gt65535-via-else-payload-gt65535+else-gather-run+then-run-gt16777215}

-- a refusal beside the record as it came
refusal_heard : (p q : H264Packet) (payload g o : List ℕ) (a : Said ℕ) (s : Showing) (r : Refusal) →
    (q ≡ p) × (a ≡ refused r) × (s ≡ nowhere) →
    ◌≡◌ {A = Heard} (record { packet = q; answer = a; showing = s; gather = g; out = o }) (reading_heard p payload g o (refused r))
refusal_heard p q payload g o a s r e i = record { packet = e.0 i; answer = e.1 i; showing = e.2 i; gather = g; out = o }

pub returns-then-payload-gt65535 : goal.returns-then-payload-gt65535
returns-then-payload-gt65535 c =
    let a = c.args in
    refusal_heard a.self _ a.payload.now a.gather.now a.out.now _ _ _ c.refused.ensures
    ∙ sym (ap (depacketized_heard a.self a.payload.now) (read_outside a.self.is_avc a.self.gathered a.payload.now a.gather.now a.out.now
    (elim c.then-payload-gt65535.branch [
      | then-payload-gt65535-via-then-payload-gt65535 w ↦ inl w.if-payload-gt65535.true
      | then-payload-gt65535-via-else-payload-gt65535+then-gather-run w ↦ inr (inl w.if-gather-run.true)
      | then-payload-gt65535-via-else-payload-gt65535+else-gather-run+then-run-gt16777215 w ↦ inr (inr w.if-run-gt16777215.true)
    ])))

-- a call within the domain, by what `read_payload` answers
inside : (c : After-read_payload) (x : Result Ran Error) → c.read_payload.result ≡ x →
    let a = c.args in
    reading_heard a.self a.payload.now c.read_payload.new.gather c.read_payload.new.out (ran_said x)
    ≡ depacketized_heard a.self a.payload.now (depacketized a.self.is_avc a.self.gathered a.payload.now a.gather.now a.out.now)
inside c x e =
    let a = c.args in
    let p = a.payload.now in
    let g = c.read_payload.new.gather in
    let o = c.read_payload.new.out in
    sym (ap (λ (r : Result Ran Error). reading_heard a.self p g o (ran_said r)) e)
    ∙ ap (depacketized_heard a.self p)
    (c.read_payload.ensures.0
    ∙ ap (λ (avc : Bool). lay_run recorded avc a.gather.now a.out.now (read_payload (run_of a.self.gathered a.gather.now) p)) c.prefix.ensures
    ∙ sym (read_inside a.self.is_avc a.self.gathered p a.gather.now a.out.now c.if-payload-gt65535.false c.if-gather-run.false c.if-run-gt16777215.false))

pub returns-in-Ok : goal.returns-in-Ok
returns-in-Ok c =
    let a = c.args in
    let ran = c.in-Ok.ran in
    ap (λ (s : Showing). record { packet = record { is_avc = a.self.is_avc; gathered = ran.gathered }; answer = says ran.bytes; showing = s; gather = c.read_payload.new.gather; out = c.read_payload.new.out })
    c.in-Ok.ensures.1
    ∙ inside (goal.at.returns-in-Ok c).After-read_payload (Ok ran) c.in-Ok.is

pub returns-in-Err : goal.returns-in-Err
returns-in-Err c =
    let a = c.args in
    refusal_heard a.self _ a.payload.now c.read_payload.new.gather c.read_payload.new.out _ _ _ c.refused-in-Err.ensures
    ∙ inside (goal.at.returns-in-Err c).After-read_payload (Err c.in-Err.e) c.in-Err.is
