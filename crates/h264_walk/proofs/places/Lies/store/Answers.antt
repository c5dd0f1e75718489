-- A set of the frame is copied to the front; one that was saved before stands there already.
use mathlib.Core.Path.{◌≡◌, sym, ap, ◌∙◌}
use Prim.Native.Nat.{ℕ, ◌+◌, ◌-◌}
use native.Mathlib.Omega.{arith}
use lib.ListN.{take, drop}
use Rattle.wire.specs.Part.{splice}
use Rattle.h264_walk.proofs.Bytes.{saved_bytes, here_bytes, saved_within, splice_front}
use Rattle.h264_walk.proofs.places.Lies.store.Goals as goal

pub returns-in-Some : goal.returns-in-Some
returns-in-Some c =
    let held = c.args.held.now in
    let l = c.args.self in
    let at = c.in-Some.at in
    let n : at + l.len - at ≡ l.len = omega arith in
    c.copy_at.ensures
    ∙ ap (splice held 0) (ap (λ (k : ℕ). take k (drop at c.args.frame.now)) n ∙ sym (here_bytes held c.args.frame.now l at c.in-Some.is))

pub returns-in_default : goal.returns-in_default
returns-in_default c =
    let held = c.args.held.now in
    let frame = c.args.frame.now in
    let l = c.args.self in
    sym (ap (splice held 0) (saved_bytes held frame l c.in_default.is) ∙ splice_front held l.len (saved_within held frame l c.requires c.in_default.is))
