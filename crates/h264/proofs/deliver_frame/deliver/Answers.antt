-- One law for each way through the code: outside the domain, no unit, a set too long, no room, and all sent.
use mathlib.Core.Path.{◌≡◌, sym, ap, subst, ◌∙◌}
use mathlib.Core.List.{List}
use mathlib.Core.Bool.{Bool, true, false}
use Prim.Native.Nat.{ℕ}
use native.Mathlib.Nat.{le_trans}
use Rattle.std.specs.Prelude.{Result, Ok, Err}
use Rattle.error.specs.declared.Error.{Error}
use Rattle.error.specs.declared.Error.TheVariants.{OutsideDomain, OverLimits, ErrBufferTooSmall}
use Rattle.wire.specs.Packets.{Room, put_all}
use Rattle.annexb.specs.Units.{units}
use Rattle.h264_put.specs.Groups.{Saved, keep_all, groups_of, packets_of}
use Rattle.h264_put.specs.Outcomes.{outcomes_of, drops_in}
use Rattle.h264_put.specs.Step.{empty_sink}
use Rattle.h264_measure.specs.Measured.{Lengths}
use Rattle.h264_walk.specs.declared.places.Waiting.{Waiting}
use Rattle.h264_walk.specs.Waiting.{saved_at, Waits}
use Rattle.h264.specs.declared.deliver_frame.Delivered.{Delivered}
use Rattle.h264.specs.declared.send.Written.{Written}
use Rattle.h264.specs.Payload.{held_in, outside_by, left_with, sending_of}
use Rattle.h264.specs.Step.{Delivers}
use Rattle.h264.proofs.State.{Before, before}
use Rattle.h264.proofs.Calls.{Judged, inside_sps, inside_pps, inside_frame, call_outside, call_by, call_nothing, call_long, call_small, call_limit, call_room, call_sent}
use Rattle.h264.proofs.deliver_frame.deliver.Goals as goal
use Rattle.h264.proofs.deliver_frame.deliver.Goals.{After-measure_frame-m, After-saved-2, Start}

-- ---- what is to be shown, of a call with these arguments
-- what is saved before, and whether the call is outside the domain

held : Start → Saved
held start = let a = start.args in held_in a.sps.now a.sps_len a.pps.now a.pps_len

is_outside : Start → Bool
is_outside start = let a = start.args in outside_by a.sps_len a.pps_len a.mtu a.frame.now

-- what the contract says of an answer and the buffers
abbrev Answers : Start → Result Delivered Error → (out ends : List ℕ) → Type 0
Answers start r out ends =
    let a = start.args in
    Delivers a.sps.now a.pps.now a.frame.now (held start)
    (sending_of (is_outside start) (held start) a.mtu a.frame.now a.out.now a.ends.now) r out ends

-- a refusal
refusing : (start : Start) (o : Bool) → is_outside start ≡ o → (e : Error) →
    left_with (held start) (Err e) start.args.out.now start.args.ends.now
    ≡ sending_of o (held start) start.args.mtu start.args.frame.now start.args.out.now start.args.ends.now →
    Answers start (Err e) start.args.out.now start.args.ends.now
refusing start o side e q =
    let a = start.args in
    call_by (is_outside start) o side (held start) a.mtu a.frame.now a.out.now a.ends.now _ q

-- an answer: what is saved then
answering : (start : Start) → is_outside start ≡ false → (w : Waiting) (x y : Written) (out ends : List ℕ) →
    x ≡ y → Waits start.args.sps.now start.args.pps.now start.args.frame.now w →
    left_with (saved_at start.args.sps.now start.args.pps.now start.args.frame.now w) (Ok y) out ends
    ≡ sending_of false (held start) start.args.mtu start.args.frame.now start.args.out.now start.args.ends.now →
    Answers start (Ok (record { waiting = w; written = x })) out ends
answering start side w x y out ends e waits q =
    let a = start.args in
    let all : Answers start (Ok (record { waiting = w; written = y })) out ends =
    (waits, call_by (is_outside start) false side (held start) a.mtu a.frame.now a.out.now a.ends.now _ q) in
    subst (λ (z : Written). Answers start (Ok (record { waiting = w; written = z })) out ends) (sym e) all

-- ---- what the code knows on its way

was : (c : After-saved-2) →
    let a = c.args in
    Before a.sps.now a.pps.now a.frame.now a.sps_len a.pps_len (record { sps = c.saved.result; pps = c.saved-2.result })
unfolding is_outside
was c =
    let a = c.args in
    let n = inside_sps a.sps_len a.pps_len a.mtu a.frame.now (sym c.is_outside.ensures ∙ c.if-is_outside.false) in
    let m = inside_pps a.sps_len a.pps_len a.mtu a.frame.now (sym c.is_outside.ensures ∙ c.if-is_outside.false) in
    before a.sps.now a.pps.now a.frame.now a.sps_len a.pps_len n m (le_trans n c.requires.0) (le_trans m c.requires.1) _ _
    c.saved.ensures c.saved-2.ensures

judged : (c : After-measure_frame-m) →
    let a = c.args in
    let saved = held_in a.sps.now a.sps_len a.pps.now a.pps_len in
    Lengths saved a.sps_len a.pps_len → Judged saved a.mtu a.frame.now c.measure_frame-m.result
judged c lengths =
    let a = c.args in
    record {
      some = sym c.is_nothing.ensures ∙ c.if-is_nothing.false;
      sps = a.sps_len;
      pps = a.pps_len;
      measure = c.measure_frame-m.ensures (held_in a.sps.now a.sps_len a.pps.now a.pps_len) lengths;
    }

-- ---- the ways through the code
pub returns-then-is_outside : goal.returns-then-is_outside
unfolding held is_outside
returns-then-is_outside c =
    refusing (goal.at.returns-then-is_outside c).Start true (sym c.is_outside.ensures ∙ c.if-is_outside.true) OutsideDomain
    (call_outside (held (goal.at.returns-then-is_outside c).Start) c.args.mtu c.args.frame.now c.args.out.now c.args.ends.now)

pub returns-then-is_nothing : goal.returns-then-is_nothing
unfolding held is_outside
returns-then-is_nothing c =
    let a = c.args in
    let w = was (goal.at.returns-then-is_nothing c).After-saved-2 in
    answering (goal.at.returns-then-is_nothing c).Start (sym c.is_outside.ensures ∙ c.if-is_outside.false) _ _ _ _ _ c.written.ensures w.waits
    (ap (λ (x : Saved). left_with x (Ok (record { packets = 0; bytes = 0; units_dropped = 0; pairs_dropped = 0 })) a.out.now a.ends.now) w.saved
    ∙ call_nothing (held (goal.at.returns-then-is_nothing c).Start) a.mtu a.frame.now a.out.now a.ends.now (sym c.is_nothing.ensures ∙ c.if-is_nothing.true))

pub returns-then-m : goal.returns-then-m
unfolding held is_outside
returns-then-m c =
    refusing (goal.at.returns-then-m c).Start false (sym c.is_outside.ensures ∙ c.if-is_outside.false) OverLimits
    (call_long (judged (goal.at.returns-then-m c).After-measure_frame-m (was (goal.at.returns-then-m c).After-saved-2).lengths) c.args.out.now c.args.ends.now c.if-m.true)

pub returns-then-is_too_small : goal.returns-then-is_too_small
unfolding held is_outside
returns-then-is_too_small c =
    refusing (goal.at.returns-then-is_too_small c).Start false (sym c.is_outside.ensures ∙ c.if-is_outside.false) ErrBufferTooSmall
    (call_small (judged (goal.at.returns-then-is_too_small c).After-measure_frame-m (was (goal.at.returns-then-is_too_small c).After-saved-2).lengths) c.args.out.now c.args.ends.now c.if-m.false (sym c.is_too_small.ensures ∙ c.if-is_too_small.true))

pub walk-sent-requires : goal.walk-sent-requires
unfolding held is_outside
walk-sent-requires c =
    let short = c.if-m.false in
    let w = was (goal.at.walk-sent-requires c).After-saved-2 in
    let j = judged (goal.at.walk-sent-requires c).After-measure_frame-m w.lengths in
    let a = c.args in record {
      waits = (w.waits, call_limit j a.out.now a.ends.now short, inside_frame a.sps_len a.pps_len a.mtu a.frame.now (sym c.is_outside.ensures ∙ c.if-is_outside.false));
      first_in_bounds = c.first_unit-first.ensures;
      room =
          subst (λ (x : Saved). Room (empty_sink a.out.now a.ends.now) (packets_of (groups_of a.mtu x (units a.frame.now)))) (sym w.saved)
          (call_room j a.out.now a.ends.now short (sym c.is_too_small.ensures ∙ c.if-is_too_small.false));
    }

pub returns : goal.returns
unfolding held is_outside
returns c =
    let a = c.args in
    let us = units a.frame.now in
    let saved = (was (goal.at.returns c).After-saved-2).saved in
    let walked = c.walk-sent in
    answering (goal.at.returns c).Start (sym c.is_outside.ensures ∙ c.if-is_outside.false) _ _ _ _ _ c.written-2.ensures walked.ensures.done.waits
    (call_sent (judged (goal.at.returns c).After-measure_frame-m (was (goal.at.returns c).After-saved-2).lengths) a.out.now a.ends.now c.if-m.false (sym c.is_too_small.ensures ∙ c.if-is_too_small.false)
    _ _ walked.result.drops
    (walked.ensures.done.state ∙ ap (λ (x : Saved). keep_all x us) saved)
    (walked.ensures.done.put ∙ ap (λ (x : Saved). put_all (empty_sink a.out.now a.ends.now) (packets_of (groups_of a.mtu x us))) saved)
    (walked.ensures.drops_value ∙ ap (λ (x : Saved). drops_in (outcomes_of a.mtu x us)) saved))
