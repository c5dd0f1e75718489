-- One law of the definition for each way through the code.
use mathlib.Core.Logic.{⊎_elim, inl, inr}
use mathlib.Core.Path.{◌≡◌, ◌∙◌}
use Rattle.h264_put.proofs.Outcomes.{both_there, one_missing}
use Rattle.h264_put.specs.Step.{sink_at}
use Rattle.h264_walk.proofs.Pairs.{waiting_none, waiting_not_due, waiting_over, waiting_dropped, waiting_room, waiting_sent, waiting_told}
use native.Mathlib.Omega.{arith}
use Rattle.h264_walk.proofs.step.put_waiting.Goals as goal

pub returns-then-of_sps-eq0 : goal.returns-then-of_sps-eq0
returns-then-of_sps-eq0 c =
    let s = sink_at c.args.out.now c.args.ends.now c.args.to in
    let e = one_missing c.args.waiting.sps.len c.args.waiting.pps.len (⊎_elim inl (λ (x : (c.args.waiting.sps.len ≡ 0 → ⊥) × (c.args.waiting.pps.len ≡ 0)). inr x.1) c.then-of_sps-eq0.either) in record {
      place_after = waiting_none c.requires.0 c.args.mtu s e;
      outcome_value = waiting_not_due c.requires.0 c.args.mtu s e;
    }

pub returns-then-mtu-of_sps : goal.returns-then-mtu-of_sps
returns-then-mtu-of_sps c =
    let s = sink_at c.args.out.now c.args.ends.now c.args.to in
    let e = both_there c.args.waiting.sps.len c.args.waiting.pps.len (omega arith) (omega arith) in record {
      place_after = waiting_over c.requires.0 c.args.mtu s e c.if-mtu-of_sps.true;
      outcome_value = waiting_dropped c.requires.0 c.args.mtu s e c.if-mtu-of_sps.true;
    }

pub put_pair-requires : goal.put_pair-requires
put_pair-requires c =
    let s = sink_at c.args.out.now c.args.ends.now c.args.to in
    let room = waiting_room c.requires.0 c.args.mtu s
    (both_there c.args.waiting.sps.len c.args.waiting.pps.len (omega arith) (omega arith)) c.if-mtu-of_sps.false
    _ _ c.bytes.ensures c.bytes-2.ensures c.requires.1 in
    record { sps_len_bound = room.0; pps_in_bounds = room.1 }

pub returns : goal.returns
returns c =
    let s = sink_at c.args.out.now c.args.ends.now c.args.to in
    let e = both_there c.args.waiting.sps.len c.args.waiting.pps.len (omega arith) (omega arith) in record {
      place_after = c.put_pair.ensures
          ∙ waiting_sent c.requires.0 c.args.mtu s e c.if-mtu-of_sps.false
          _ _ c.bytes.ensures c.bytes-2.ensures;
      outcome_value = waiting_told c.requires.0 c.args.mtu s e c.if-mtu-of_sps.false;
    }
