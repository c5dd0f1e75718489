-- One law for each fate: what it leaves, and what became of the unit and of the pair.
use mathlib.Core.Path.{sym, ap, ap₂, ◌∙◌}
use borrow.Author.Rules.{rules}
use Rattle.h264_put.specs.declared.fate.Fate.TheVariants.{Empty, Dropped, Sps, Pps, Coded}
use Rattle.h264_put.specs.declared.outcome.UnitOutcome.{UnitOutcome}
use Rattle.h264_put.specs.declared.outcome.PairOutcome.{PairOutcome}
use Rattle.h264_put.specs.Step.{sink_at}
use Rattle.h264_walk.proofs.Pairs.{forget_waits}
use Rattle.h264_walk.proofs.Steps.{told_by, done_empty, done_dropped, done_sps, done_pps, room_pair, room_unit, done_coded}
use Rattle.h264_walk.proofs.step.emit.Goals as goal

pub put_waiting-pair-requires : goal.put_waiting-pair-requires
put_waiting-pair-requires c =
    let e = sym c.fate_of.ensures ∙ c.in-Coded.is in
    (c.requires.waits, room_pair c.requires e)

pub put_unit-put-requires : goal.put_unit-put-requires
put_unit-put-requires c =
    let e = sym c.fate_of.ensures ∙ c.in-Coded.is in
    room_unit c.requires e _ c.put_waiting-pair.ensures.place_after

pub returns-in-Empty : goal.returns-in-Empty
returns-in-Empty c =
    let e = sym c.fate_of.ensures ∙ c.in-Empty.is in
    let left = c.unsent in record {
      done = done_empty c.requires left.result.waiting _ (ap (sink_at c.args.out.now c.args.ends.now) left.ensures.1) e left.ensures.0;
      outcome_value = told_by c.requires Empty e left.result.outcome left.ensures.2;
    }

pub returns-in-Dropped : goal.returns-in-Dropped
returns-in-Dropped c =
    let e = sym c.fate_of.ensures ∙ c.in-Dropped.is in
    let left = c.unsent-in-Dropped in record {
      done = done_dropped c.requires left.result.waiting _ (ap (sink_at c.args.out.now c.args.ends.now) left.ensures.1) e left.ensures.0;
      outcome_value = told_by c.requires Dropped e left.result.outcome left.ensures.2;
    }

pub returns-in-Sps : goal.returns-in-Sps
returns-in-Sps c =
    let e = sym c.fate_of.ensures ∙ c.in-Sps.is in
    let left = c.unsent-in-Sps in record {
      done = done_sps c.requires left.result.waiting _ (ap (sink_at c.args.out.now c.args.ends.now) left.ensures.1) e _ c.unit-sps.ensures (left.ensures.0 ∙ (search rules));
      outcome_value = told_by c.requires Sps e left.result.outcome left.ensures.2;
    }

pub returns-in-Pps : goal.returns-in-Pps
returns-in-Pps c =
    let e = sym c.fate_of.ensures ∙ c.in-Pps.is in
    let left = c.unsent-in-Pps in record {
      done = done_pps c.requires left.result.waiting _ (ap (sink_at c.args.out.now c.args.ends.now) left.ensures.1) e _ c.unit-pps.ensures left.ensures.0;
      outcome_value = told_by c.requires Pps e left.result.outcome left.ensures.2;
    }

pub returns-in-Coded : goal.returns-in-Coded
returns-in-Coded c =
    let e = sym c.fate_of.ensures ∙ c.in-Coded.is in
    let waiting = c.put_waiting-pair in
    let put = c.put_unit-put in record {
      done = done_coded c.requires e _ _ c.forget.result waiting.ensures.place_after put.ensures.place_after
          (forget_waits c.requires.waits c.forget.result c.forget.ensures);
      outcome_value = told_by c.requires Coded e _
          (ap₂ (λ (u : UnitOutcome) (p : PairOutcome). record { unit = u; pair = p }) put.ensures.outcome_value waiting.ensures.outcome_value);
    }
