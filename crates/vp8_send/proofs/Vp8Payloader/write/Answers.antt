use mathlib.Core.Path.{◌≡◌, ap, ◌∙◌}
use mathlib.Core.Bool.{true}
use Prim.Native.Nat.{ℕ, ◌+◌, ◌≤◌, ◌<◌, min}
use lib.ListN.{length, length-set}
use borrow.Author.Rules.{rules}
use Rattle.std.specs.Slice.Iter.{chunks_rest}
use Rattle.wire.proofs.Packets.{put_all_whole}
use Rattle.vp8_send.specs.Send.{headed, parts_of, from0}
use Rattle.vp8_send.proofs.Parts.{some_headed}
use Rattle.vp8_send.proofs.Deliver.{all_sent}
use Rattle.vp8_send.proofs.Going.{piece, room_here, turn, ended}
use Rattle.vp8_send.proofs.Vp8Payloader.write.Goals as goal
use Rattle.vp8_send.proofs.Vp8Payloader.write.Goals.{In-Some}

-- the chunk is as long as a part, or the last
long : (c : In-Some) → length c.in-Some.part.now ≡ min c.args.size (length (chunks_rest c.loop-part.part-iterator))
long c = c.in-Some.ensures.steps.1.1 ∙ ap (λ (k : ℕ). min k (length (chunks_rest c.loop-part.part-iterator))) c.loop-part.invariant.2

-- the turn's packet and its end have room
room : (c : In-Some) →
    (c.loop-part.at + length (piece c.args.self c.loop-part.start c.in-Some.part.now) ≤ length c.loop-part.out)
    × (c.loop-part.n < length c.loop-part.ends)
room c =
    let steps = c.in-Some.ensures.steps.1 in
    room_here _ _ _ _ _ _ c.loop-part.invariant.3 _ _ steps.0 (long c) steps.2

pub put-at-requires : goal.put-at-requires
put-at-requires c = (c.requires.id, (room (goal.at.put-at-requires c).In-Some).0)

pub bounds-ends-n : goal.bounds-ends-n
bounds-ends-n c = (room (goal.at.bounds-ends-n c).In-Some).1

pub loop-part-preserved : goal.loop-part-preserved
loop-part-preserved c =
    let steps = c.in-Some.ensures.steps in
    let put = c.put-at in (
      search rules,
      tt,
      steps.0 ∙ c.loop-part.invariant.2,
      turn _ _ _ _ _ _ c.loop-part.invariant.3 _ _ steps.1.0 (long (goal.at.loop-part-preserved c).In-Some) steps.1.2
          c.requires.positive _ _ put.ensures.1 put.ensures.0,
      put.auto.out ∙ c.loop-part.invariant.4,
      simp length-set c.loop-part.invariant.5,
    )

pub returns : goal.returns
returns c =
    let a = c.args in
    let ps = headed a.self true (parts_of a.size a.frame.now) in
    let all = ended _ _ _ _ _ _ c.loop-part.invariant.3 c.in-None.ensures.steps.1.0
    ∙ put_all_whole (from0 a.out.now a.ends.now) ps c.requires.room in
    all_sent _ _ ps _ _ _ _ all (some_headed a.self a.size a.frame.now c.requires.positive c.requires.some)
    c.next-2.ensures c.sent.ensures
