-- One law of the definition for each way through the code.
use mathlib.Core.Path.{sym, ap, subst, ◌∙◌}
use mathlib.Core.List.{List, []}
use Rattle.wire.specs.Packets.{Room, put_all}
use Rattle.wire.proofs.Packets.{room_first}
use Rattle.h264_put.specs.Groups.{Group, packets_of}
use Rattle.h264_put.specs.Step.{sink_at}
use Rattle.h264_put.proofs.Sizes.{unit_alone, unit_dropped, unit_divided}
use Rattle.h264_put.proofs.Outcomes.{sent_alone, dropped_under, sent_divided}
use borrow.Author.Rules.{rules}
use Rattle.h264_put.proofs.put.put_unit.Goals as goal

pub put_plain-requires : goal.put_plain-requires
put_plain-requires c =
    let s = sink_at c.args.out.now c.args.ends.now c.args.to in
    room_first s c.args.unit.now []
    (subst (λ (gs : List Group). Room s (packets_of gs)) (unit_alone c.args.mtu c.args.unit.now c.if-unit-mtu.true) c.requires)

pub returns-then-unit-mtu : goal.returns-then-unit-mtu
returns-then-unit-mtu c =
    let s = sink_at c.args.out.now c.args.ends.now c.args.to in
    let fits = c.if-unit-mtu.true in record {
      place_after = c.put_plain.ensures
          ∙ sym (ap (λ (gs : List Group). put_all s (packets_of gs)) (unit_alone c.args.mtu c.args.unit.now fits));
      outcome_value = sent_alone c.args.mtu c.args.unit.now fits;
    }

pub returns-then-mtu-lt3 : goal.returns-then-mtu-lt3
returns-then-mtu-lt3 c =
    let s = sink_at c.args.out.now c.args.ends.now c.args.to in
    let over = c.if-unit-mtu.false in record {
      place_after = sym (ap (λ (gs : List Group). put_all s (packets_of gs)) (unit_dropped c.args.mtu c.args.unit.now over c.if-mtu-lt3.true));
      outcome_value = dropped_under c.args.mtu c.args.unit.now over c.if-mtu-lt3.true;
    }

pub put_fragments-requires : goal.put_fragments-requires
put_fragments-requires c =
    let s = sink_at c.args.out.now c.args.ends.now c.args.to in (
      search rules,
      search rules,
      subst (λ (gs : List Group). Room s (packets_of gs))
          (unit_divided c.args.mtu c.args.unit.now c.if-unit-mtu.false c.if-mtu-lt3.false)
          c.requires,
    )

pub returns : goal.returns
returns c =
    let s = sink_at c.args.out.now c.args.ends.now c.args.to in
    let over = c.if-unit-mtu.false in
    let three = c.if-mtu-lt3.false in record {
      place_after = c.put_fragments.ensures
          ∙ sym (ap (λ (gs : List Group). put_all s (packets_of gs)) (unit_divided c.args.mtu c.args.unit.now over three));
      outcome_value = sent_divided c.args.mtu c.args.unit.now over three;
    }
