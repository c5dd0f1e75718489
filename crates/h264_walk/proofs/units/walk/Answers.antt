use mathlib.Core.Path.{refl, ◌∙◌}
use native.Mathlib.Omega.{arith}
use Rattle.annexb.specs.Units.{units}
use Rattle.annexb.proofs.Pieces.{piece_onward}
use Rattle.h264_put.proofs.Outcomes.{units_grow, pairs_grow}
use Rattle.h264_walk.proofs.Walks.{leads_first, piece_ready, walk_on, walk_end}
use Rattle.h264_walk.proofs.units.walk.Goals as goal

pub emit-e-requires : goal.emit-e-requires
emit-e-requires c =
    let at_head = c.loop-next in
    let piece = c.unit_at-piece in
    piece_ready c.args.sps.now c.args.pps.now c.args.frame.now at_head.start at_head.waits at_head.invariant.2
    piece.ensures at_head.invariant.1 c.requires.waits.2

pub loop-next-preserved : goal.loop-next-preserved
loop-next-preserved c =
    let frame = c.args.frame.now in
    let at_head = c.loop-next in
    let piece = c.unit_at-piece in
    let sent = c.emit-e in
    let counts = c.and-drops in
    let onward = piece_onward frame at_head.start piece.result piece.ensures _ c.in-Some.is in (
      onward.1,
      sent.ensures.done.waits,
      walk_on c.args.sps.now c.args.pps.now frame at_head.start at_head.waits at_head.invariant.2 piece.ensures _ _ _ _
          sent.ensures.done
          sent.ensures.outcome_value counts.ensures _ c.in-Some.is,
      sent.auto.out ∙ at_head.invariant.3,
      sent.auto.ends ∙ at_head.invariant.4,
      omega (
        arith,
        at_head.invariant.5,
        units_grow at_head.drops counts.result sent.result.outcome counts.ensures,
        onward.0,
        piece.ensures.from,
      ),
      omega (
        arith,
        at_head.invariant.6,
        pairs_grow at_head.drops counts.result sent.result.outcome counts.ensures,
        onward.0,
        piece.ensures.from,
      ),
    )

pub returns : goal.returns
returns c =
    let frame = c.args.frame.now in
    let at_head = c.loop-next in
    let piece = c.unit_at-piece in
    let sent = c.emit-e in
    let ended = walk_end c.args.sps.now c.args.pps.now frame at_head.start at_head.waits at_head.invariant.2 piece.ensures _ _ _ _
    sent.ensures.done sent.ensures.outcome_value c.and-drops.ensures c.in_default.is in record {
      done = record { waits = sent.ensures.done.waits; state = ended.0; put = ended.1 };
      drops_value = ended.2;
    }
