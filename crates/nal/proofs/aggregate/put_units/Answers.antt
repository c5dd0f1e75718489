use mathlib.Core.Path.{◌≡◌, ap, ◌∙◌}
use mathlib.Core.List.{◌++◌}
use Prim.Native.Nat.{ℕ, ◌+◌, ◌-◌, ◌≤◌, ◌<◌}
use native.Mathlib.Omega.{arith}
use lib.ListN.{length, take, drop}
use Rattle.wire.specs.Net.{u16_at}
use Rattle.wire.specs.Part.{splice}
use Rattle.nal.specs.Said.{is_avc}
use Rattle.nal.specs.Fed.{prefix_of, prefixed}
use Rattle.nal.proofs.Unpacking.{Units, size_there, size_fits, going_end, length_unit_at}
use Rattle.nal.proofs.Putting.{putting_first, putting_unit, unit_fits, all_written}
use Rattle.nal.proofs.aggregate.put_units.Goals as goal
use Rattle.nal.proofs.aggregate.put_units.Goals.{After-from-size, In-loop-at}

pub loop-at-init : goal.loop-at-init
loop-at-init c = record { room = c.requires; putting = putting_first _ _ _ c.requires }

-- there is a size in front of the next unit
there : (c : In-loop-at) → c.loop-at.at + 1 < length c.args.sized.now
there c = size_there _ _ _ _ c.loop-at.invariant.putting.going c.loop-at-test.true

-- the size that the code reads is the one that the packet says, and lies within the packet
size : (c : After-from-size) →
    (c.from-size.result ≡ u16_at c.args.sized.now c.loop-at.at)
    × (c.from-size.result ≤ length c.args.sized.now - (c.loop-at.at + 2))
size c =
    let e : c.from-size.result ≡ u16_at c.args.sized.now c.loop-at.at = c.from-size.ensures ∙ c.get_u16.ensures in
    let f = size_fits _ _ _ _ c.loop-at.invariant.putting.going c.loop-at-test.true in
    (e, omega (arith, e, f))

-- the next unit fits the output
fits : (c : After-from-size) → c.loop-at.to + 4 + c.from-size.result ≤ length c.args.out.now
fits c =
    let w = c.loop-at.invariant in
    omega (arith, (size c).0, w.putting.long, unit_fits _ _ _ w.room _ _ _ w.putting c.loop-at-test.true)

pub put_unit-requires : goal.put_unit-requires
put_unit-requires c =
    let s = c.args.sized.now in
    let h = c.loop-at in
    let e = size (goal.at.put_unit-requires c).After-from-size in
    let back : h.at + 2 + c.from-size.result - (h.at + 2) ≡ u16_at s h.at = omega (arith, e.0) in
    let n : length (take (u16_at s h.at) (drop (h.at + 2) s)) ≡ u16_at s h.at = length_unit_at s h.at (omega (arith, e.0, e.1)) in
    rw back (omega (arith, n, e.0, fits (goal.at.put_unit-requires c).After-from-size, h.invariant.putting.long), omega (arith, n, e.0, c.from-size.ensures, c.get_u16.type_inv))

pub loop-at-preserved : goal.loop-at-preserved
loop-at-preserved c =
    let a = c.args in
    let s = a.sized.now in
    let h = c.loop-at in
    let w = h.invariant in
    let n = c.from-size.result in
    let e = (size (goal.at.loop-at-preserved c).After-from-size).0 in
    let back : h.at + 2 + n - (h.at + 2) ≡ u16_at s h.at = omega (arith, e) in
    rw e
    (record {
      room = w.room;
      putting =
          putting_unit s (is_avc a.prefix) a.out.now w.room h.at h.to h.out w.putting c.loop-at-test.true c.put_unit.new.out
          (c.put_unit.ensures
          ∙ ap (λ (k : ℕ). splice h.out h.to (prefix_of (is_avc a.prefix) (take k (drop (h.at + 2) s)) ++ take k (drop (h.at + 2) s))) back)
          c.put_unit.auto.out;
    })

pub returns : goal.returns
returns c =
    let a = c.args in
    let w = c.loop-at.invariant in
    let e = going_end _ _ _ _ w.putting.going c.loop-at-test.false in
    w.putting.written ∙ ap (λ (us : Units). splice a.out.now 0 (prefixed (is_avc a.prefix) us)) (all_written _ _ _ w.room e)

pub get_u16-requires : goal.get_u16-requires
get_u16-requires c = omega (arith, there (goal.at.get_u16-requires c).In-loop-at)

pub slice_bounds-put_unit-end : goal.slice_bounds-put_unit-end
slice_bounds-put_unit-end c = omega (arith, there (goal.at.slice_bounds-put_unit-end c).In-loop-at, (size (goal.at.slice_bounds-put_unit-end c).After-from-size).1)

pub overflow_add-to : goal.overflow_add-to
overflow_add-to c = omega (arith, fits (goal.at.overflow_add-to c).After-from-size, c.well_formed)

pub overflow_add-to-in-loop-at : goal.overflow_add-to-in-loop-at
overflow_add-to-in-loop-at c = omega (arith, fits (goal.at.overflow_add-to-in-loop-at c).After-from-size, c.well_formed)
