use native.Mathlib.Omega.{arith}
use Rattle.annexb.proofs.Pieces.{piece_length, piece_onward}
use Rattle.h264_measure.proofs.Measures.{measuring_first, measuring_on, measuring_last}
use borrow.Author.Rules.{rules}
use Rattle.h264_measure.proofs.measure_frame.Goals as goal

pub loop-next-init : goal.loop-next-init
loop-next-init c =
    measuring_first c.args.frame.now c.args.mtu c.args.sps c.args.pps c.args.first (search rules)
    (search rules) c.requires.first_in_bounds.0 c.requires.first_in_bounds.1

pub loop-next-preserved : goal.loop-next-preserved
loop-next-preserved c =
    let start = c.args in
    let at_head = c.loop-next in
    let piece = c.unit_at-piece in
    let added = c.add-m in
    measuring_on start.frame.now start.mtu start.sps start.pps at_head.start at_head.m at_head.invariant piece.result
    piece.ensures added.result added.ensures.0 added.ensures.1 _ c.in-Some.is

pub returns : goal.returns
returns c =
    let start = c.args in
    let at_head = c.loop-next in
    let piece = c.unit_at-piece in
    let added = c.add-m in
    measuring_last start.frame.now start.mtu start.sps start.pps at_head.start at_head.m at_head.invariant piece.result
    piece.ensures added.result added.ensures.0 added.ensures.1 c.in_default.is
