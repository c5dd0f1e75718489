use mathlib.Core.Path.{◌≡◌, refl, sym, ap, ap₂, ◌∙◌}
use mathlib.Core.List.{[]}
use Prim.Native.Nat.{ℕ, ◌+◌, ◌-◌}
use native.Mathlib.Omega.{arith}
use lib.ListN.{length}
use borrow.Author.Rules.{rules}
use Rattle.wire.specs.Net.{u16_at}
use Rattle.nal.specs.Said.{measure_of}
use Rattle.nal.specs.Unpack.{right, past}
use Rattle.nal.proofs.Unpacking.{going_first, going_end, going_cut, going_past, measuring_unit}
use Rattle.nal.proofs.aggregate.measure.Goals as goal
use Rattle.nal.proofs.aggregate.measure.Goals.{After-from-size}

pub loop-at-init : goal.loop-at-init
loop-at-init c =
    record { units = []; going = going_first _; many = refl; long = refl; fewer_than = omega arith; shorter = omega arith }

pub returns-then-sized-at : goal.returns-then-sized-at
returns-then-sized-at c =
    let m = c.loop-at.invariant in
    sym (ap measure_of (going_cut _ _ _ m.units m.going (search rules) c.if-sized-at.true))

-- the size that the code reads is the one that the packet says
size : (c : After-from-size) →
    c.from-size.result ≡ u16_at c.args.sized.now c.loop-at.at
size c = c.from-size.ensures ∙ c.get_u16.ensures

pub returns-then-left-size : goal.returns-then-left-size
returns-then-left-size c =
    let s = c.args.sized.now in
    let at = c.loop-at.at in
    let m = c.loop-at.invariant in
    let e = size (goal.at.returns-then-left-size c).After-from-size in
    ap (λ (n : ℕ). past n (length s - (at + 2))) e
    ∙ sym (ap measure_of (going_past s _ at m.units m.going (search rules) (omega (arith, e, c.if-left-size.true))))

pub loop-at-preserved : goal.loop-at-preserved
loop-at-preserved c =
    measuring_unit _ _ _ _ _ c.loop-at.invariant (search rules) (size (goal.at.loop-at-preserved c).After-from-size) c.if-left-size.false

pub returns : goal.returns
returns c =
    let h = c.loop-at in
    let m = h.invariant in
    ap₂ (λ (n b : ℕ). right (record { count = n; bytes = b })) m.many m.long
    ∙ sym (ap measure_of (going_end _ _ _ m.units m.going c.loop-at-test.false))
