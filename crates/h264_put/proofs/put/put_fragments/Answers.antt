use mathlib.Core.Path.{refl, ◌∙◌}
use Rattle.h264_put.specs.Step.{sink_at}
use Rattle.h264_put.proofs.Fragments.{room_first_part, going_first, room_next, going_on, room_last, going_last}
use borrow.Author.Rules.{rules}
use Rattle.h264_put.proofs.put.put_fragments.Goals as goal

pub put_fragment-p-requires : goal.put_fragment-p-requires
put_fragment-p-requires c =
    let room = room_first_part c.args.unit.now c.args.size (sink_at c.args.out.now c.args.ends.now c.args.to) (search rules) c.requires.2
    _ _ c.split_at.ensures.front c.split_at.ensures.back in
    (search rules, room.bytes, room.place)

pub loop-rest-init : goal.loop-rest-init
loop-rest-init c = (
  going_first c.args.unit.now c.args.size (sink_at c.args.out.now c.args.ends.now c.args.to) (search rules) c.requires.2 _ _
      c.split_at.ensures.front c.split_at.ensures.back _ c.put_fragment-p.ensures,
  refl,
  refl,
)

pub put_fragment-p-requires-in-loop-rest : goal.put_fragment-p-requires-in-loop-rest
put_fragment-p-requires-in-loop-rest c =
    let at_head = c.loop-rest in
    let room = room_next c.args.size _ _ (sink_at at_head.out at_head.ends at_head.p) at_head.rest.now at_head.invariant.0 c.requires.0 c.loop-rest-test.true _
    c.split_at-in-loop-rest.ensures.front in
    (search rules, room.bytes, room.place)

pub loop-rest-preserved : goal.loop-rest-preserved
loop-rest-preserved c =
    let at_head = c.loop-rest in
    let parts = c.split_at-in-loop-rest.ensures in
    let put = c.put_fragment-p-in-loop-rest in (
      going_on c.args.size _ _ (sink_at at_head.out at_head.ends at_head.p) at_head.rest.now at_head.invariant.0 c.requires.0 c.loop-rest-test.true _
          parts.front _ put.ensures _ parts.back,
      put.auto.out ∙ at_head.invariant.1,
      put.auto.ends ∙ at_head.invariant.2,
    )

pub put_fragment-requires : goal.put_fragment-requires
put_fragment-requires c =
    let at_head = c.loop-rest in
    let room = room_last c.args.size _ _ (sink_at at_head.out at_head.ends at_head.p) at_head.rest.now at_head.invariant.0 c.loop-rest-test.false in
    (search rules, room.bytes, room.place)

pub returns : goal.returns
returns c =
    let at_head = c.loop-rest in
    c.put_fragment.ensures
    ∙ going_last c.args.size _ _ (sink_at at_head.out at_head.ends at_head.p) at_head.rest.now at_head.invariant.0 c.loop-rest-test.false
