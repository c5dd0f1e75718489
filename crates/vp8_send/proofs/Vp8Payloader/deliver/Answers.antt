-- Nothing to send, too little room, or written: the counts that decide are those of the packets (`Measured`).
use mathlib.Core.Path.{◌≡◌, sym, ap, ◌∙◌}
use mathlib.Core.List.{List, []}
use Prim.Native.Nat.{ℕ, ◌<◌}
use native.Mathlib.Omega.{arith}
use lib.ListN.{length}
use borrow.Author.Rules.{rules}
use Rattle.vp8_send.specs.declared.Vp8Payloaded.{Vp8Payloaded}
use Rattle.vp8_send.specs.Send.{sent_all, delivered, packets_of}
use Rattle.vp8_send.specs.SendAnswer.{sent_by, sending}
use Rattle.vp8_send.proofs.Deliver.{empty_frame, small_mtu, deliver_none, no_room_out, no_room_ends, has_room, Measured, measured, room}
use Rattle.vp8_send.proofs.Vp8Payloader.deliver.Goals as goal
use Rattle.vp8_send.proofs.Vp8Payloader.deliver.Goals.{After-count-packets, Start, then-is_empty-via-then-is_empty, then-is_empty-via-else-is_empty+then-mtu-header, then-out-frame-via-then-out-frame, then-out-frame-via-else-out-frame+then-ends-packets}

-- no packets: the answer of nothing
none : (c : Start) (r : Vp8Payloaded) → packets_of c.args.self c.args.mtu c.args.frame.now ≡ [] →
    r ≡ sent_by c.args.self 0 0 →
    sending r c.args.out.now c.args.ends.now
    ≡ delivered c.args.self (packets_of c.args.self c.args.mtu c.args.frame.now) c.args.out.now c.args.ends.now
none c r e q =
    ap (λ (r' : Vp8Payloaded). sending r' c.args.out.now c.args.ends.now) q
    ∙ sym (ap (λ (ps : List (List ℕ)). delivered c.args.self ps c.args.out.now c.args.ends.now) e
    ∙ deliver_none c.args.self c.args.out.now c.args.ends.now)

pub returns-then-is_empty : goal.returns-then-is_empty
returns-then-is_empty c =
    let nothing : packets_of c.args.self c.args.mtu c.args.frame.now ≡ [] =
    elim c.then-is_empty.branch [
      | then-is_empty-via-then-is_empty w ↦ empty_frame _ _ _ (search rules)
      | then-is_empty-via-else-is_empty+then-mtu-header w ↦ small_mtu _ _ _ (omega (arith, c.header_size-header.ensures, w.if-mtu-header.true))
    ] in
    none (goal.at.returns-then-is_empty c).Start _ nothing c.sent.ensures

-- the packets, counted
counted : (c : After-count-packets) → Measured c.args.self c.args.mtu c.args.frame.now c.header_size-header.result c.count-packets.result
counted c =
    let some : 0 < length c.args.frame.now = search rules in
    measured _ _ _ _ _ c.header_size-header.ensures c.count-packets.ensures.0 c.if-mtu-header.false some c.requires.frames

pub returns-then-out-frame : goal.returns-then-out-frame
returns-then-out-frame c =
    let m = counted (goal.at.returns-then-out-frame c).After-count-packets in
    let start = c.args in
    ap (λ (r : Vp8Payloaded). sending r start.out.now start.ends.now) c.refused.ensures
    ∙ sym (elim c.then-out-frame.branch [
      | then-out-frame-via-then-out-frame w ↦ no_room_out _ _ _ _ (omega (arith, m.bytes, w.if-out-frame.true))
      | then-out-frame-via-else-out-frame+then-ends-packets w ↦
          no_room_ends _ _ _ _ (omega (arith, m.bytes, w.if-out-frame.false)) (omega (arith, m.count, w.if-ends-packets.true))
    ])

pub write-requires : goal.write-requires
write-requires c =
    record {
      id = c.requires.ids;
      positive = omega (arith, c.if-mtu-header.false);
      some = search rules;
      room = room _ _ _ _ _ _ _ (counted (goal.at.write-requires c).After-count-packets) c.if-out-frame.false c.if-ends-packets.false;
    }

pub returns : goal.returns
returns c =
    let m = counted (goal.at.returns c).After-count-packets in
    let start = c.args in
    c.write.ensures
    ∙ ap (λ (ps : List (List ℕ)). sent_all start.self ps start.out.now start.ends.now) (sym m.are)
    ∙ sym (has_room _ _ _ _ (omega (arith, m.bytes, c.if-out-frame.false)) (omega (arith, m.count, c.if-ends-packets.false)))
