-- Each arm lends the part that `body_of` names.
use mathlib.Core.Path.{◌≡◌, refl, sym, ap, ◌∙◌}
use mathlib.Core.List.{List, [], ◌∷◌}
use Prim.Native.Nat.{ℕ, ◌-◌}
use native.Mathlib.Omega.{arith}
use lib.ListN.{length, drop, length-drop}
use lib.Seq.{take_all}
use borrow.Author.Tests.{le-leb, lt-leb, eqb-true}
use Rattle.h264_packet.specs.declared.Shown.{Shown}
use Rattle.h264_packet.specs.Depacketize.{body_of}
use Rattle.h264_packet.specs.Said.{said_shown}
use Rattle.h264_packet.proofs.view.body.Goals as goal
use Rattle.h264_packet.proofs.view.body.Goals.{Start}

by_shown : (c : Start) (s : Shown) → c.args.shown ≡ s →
    body_of (said_shown s) c.args.packet.now c.args.gather.now ≡ body_of (said_shown c.args.shown) c.args.packet.now c.args.gather.now
by_shown c s e = sym (ap (λ (s : Shown). body_of (said_shown s) c.args.packet.now c.args.gather.now) e)

pub returns-in-Nowhere : goal.returns-in-Nowhere
unfolding body_of
returns-in-Nowhere c = by_shown (goal.at.returns-in-Nowhere c).Start _ c.in-Nowhere.is

pub returns-in-Packet : goal.returns-in-Packet
unfolding body_of
returns-in-Packet c =
    let s = c.args.packet.now in
    let none : length s ≡ 0 = eqb-true _ 0 (sym c.is_empty.ensures ∙ c.if-is_empty.true) in
    empty s none ∙ by_shown (goal.at.returns-in-Packet c).Start _ c.in-Packet.is
  where
    empty : (s : List ℕ) → length s ≡ 0 → s ≡ drop 1 s
    empty [] e = refl
    empty (b ∷ s) e = absurd (omega arith)

pub returns-in-Packet-2 : goal.returns-in-Packet-2
unfolding body_of
returns-in-Packet-2 c =
    let s = c.args.packet.now in
    take_all (length s - 1) (drop 1 s) (rw (length-drop 1 s) (omega arith)) ∙ by_shown (goal.at.returns-in-Packet-2 c).Start _ c.in-Packet.is

pub returns-in-Gather : goal.returns-in-Gather
unfolding body_of
returns-in-Gather c =
    let n = c.in-Gather.len in
    sym (rw (le-leb n (length c.args.gather.now) c.if-len-gather.true)) ∙ by_shown (goal.at.returns-in-Gather c).Start _ c.in-Gather.is

pub returns-in-Gather-2 : goal.returns-in-Gather-2
unfolding body_of
returns-in-Gather-2 c =
    let n = c.in-Gather.len in
    sym (rw (lt-leb n (length c.args.gather.now) c.if-len-gather.false)) ∙ by_shown (goal.at.returns-in-Gather-2 c).Start _ c.in-Gather.is
