-- The place tells which of the two the set is a part of.
use mathlib.Core.Path.{◌≡◌, sym, ap, ◌∙◌}
use Prim.Native.Nat.{ℕ, ◌+◌, ◌-◌}
use native.Mathlib.Omega.{arith}
use lib.ListN.{take, drop}
use Rattle.h264_walk.proofs.Bytes.{saved_bytes, here_bytes}
use Rattle.h264_walk.proofs.places.Lies.bytes.Goals as goal

pub returns-in-Some : goal.returns-in-Some
returns-in-Some c =
    let l = c.args.self in
    let at = c.in-Some.at in
    let n : at + l.len - at ≡ l.len = omega arith in
    ap (λ (k : ℕ). take k (drop at c.args.frame.now)) n ∙ sym (here_bytes c.args.held.now c.args.frame.now l at c.in-Some.is)

pub returns-in-None : goal.returns-in-None
returns-in-None c =
    let l = c.args.self in
    sym (saved_bytes c.args.held.now c.args.frame.now l c.in-None.is)
