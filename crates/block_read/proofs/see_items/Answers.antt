use mathlib.Core.Path.{◌≡◌, refl, sym, ap, ◌∙◌}
use mathlib.Core.List.{[], ◌∷◌, ◌++◌}
use mathlib.Core.Logic.{◌⊎◌}
use Prim.Native.Nat.{◌+◌, ◌<◌, ◌≤◌}
use native.Mathlib.Omega.{arith}
use lib.ListN.{length, drop, length-drop, length-append}
use borrow.Author.Rules.{rules}
use Rattle.block_read.specs.Read.{element, is_two, items_by}
use Rattle.block_read.specs.Said.{block_seen}
use Rattle.block_read.proofs.Reading.{element_at, going_first, going_end, going_stop, going_past, going_full, going_pad, going_element, seen_here, item_bound}
use Rattle.block_read.proofs.see_items.Goals as goal
use Rattle.block_read.proofs.see_items.Goals.{In-Element}

pub loop-at-init : goal.loop-at-init
loop-at-init c =
    let a = c.args in
    record { es = []; counts = refl; going = going_first a.packet.now (is_two c.args.form) a.start a.len (search rules) }

pub loop-at-preserved-in-Pad : goal.loop-at-preserved-in-Pad
loop-at-preserved-in-Pad c =
    let i = c.loop-at.invariant in
    record {
      es = i.es;
      counts = i.counts;
      going = going_pad _ _ _ _ _ _ _ _ i.going (search rules) (sym c.in-Pad.ensures) (search rules);
    }

pub returns-in-Stop : goal.returns-in-Stop
returns-in-Stop c =
    let h = c.loop-at in
    seen_here _ _ _ _ _ _ _ _ h.invariant (h.at + 1)
    (going_stop _ _ _ _ _ _ _ _ h.invariant.going (search rules) (sym c.in-Stop.ensures))
    (search rules)

pub returns-in-Past : goal.returns-in-Past
returns-in-Past c =
    let s = c.args.packet.now in
    sym
    (ap (block_seen (length s))
    (going_past _ _ _ _ _ _ _ _ c.loop-at.invariant.going (search rules)
    (sym c.in-Past.ensures)))

-- the element that was found
found : (c : In-Element) →
    items_by (is_two c.args.form)
    (drop c.loop-at.at c.args.packet.now)
    ≡ element c.in-Element.head c.in-Element.id c.in-Element.n
found c = sym c.in-Element.ensures

-- it lies within the packet
reach : (c : In-Element) →
    (1 ≤ c.in-Element.head)
    × (c.loop-at.at + c.in-Element.head + c.in-Element.n
    ≤ length c.args.packet.now)
reach c =
    let s = c.args.packet.now in
    let at = c.loop-at.at in
    let bound : (1 ≤ c.in-Element.head) × (c.in-Element.head + c.in-Element.n ≤ length (drop at s)) = item_bound (is_two c.args.form) (drop at s) c.in-Element.head c.in-Element.id c.in-Element.n (found c) in
    let inside = c.loop-at.invariant.going.inside in
    (bound.0, omega (arith, bound.1, length-drop at s, inside))

pub returns-then-count-gt32 : goal.returns-then-count-gt32
returns-then-count-gt32 c =
    let i = c.loop-at.invariant in
    let over : (32 < length i.es + 1) ⊎ (1024 < c.loop-at.used + c.in-Element.n) =
    grind (arith, c.then-count-gt32.branch) in
    sym
    (ap (block_seen (length c.args.packet.now))
    (going_full _ _ _ _ _ _ _ _ i.going c.loop-at-test.true _ _ _ (found (goal.at.returns-then-count-gt32 c).In-Element) over))

pub loop-at-preserved : goal.loop-at-preserved
loop-at-preserved c =
    let s = c.args.packet.now in
    let h = c.loop-at in
    let i = h.invariant in
    let one = element_at s h.at c.in-Element.head c.in-Element.id c.in-Element.n in
    record {
      es = i.es ++ (one ∷ []);
      counts = length-append i.es (one ∷ []) ∙ omega (arith, i.counts);
      going =
          going_element s _ _ _ h.at i.es h.used h.padding i.going c.loop-at-test.true
          c.in-Element.head c.in-Element.id c.in-Element.n (found (goal.at.loop-at-preserved c).In-Element) (omega (arith, i.counts, c.if-count-gt32.false)) (search rules);
    }

pub returns : goal.returns
returns c =
    let h = c.loop-at in
    seen_here _ _ _ _ _ _ _ _ h.invariant h.at (going_end _ _ _ _ _ _ _ _ h.invariant.going c.loop-at-test.false) h.invariant.going.inside

pub overflow_add-used : goal.overflow_add-used
overflow_add-used c = omega (arith, (reach (goal.at.overflow_add-used c).In-Element).1)

pub overflow_add-at-in-Element : goal.overflow_add-at-in-Element
overflow_add-at-in-Element c = omega (arith, (reach (goal.at.overflow_add-at-in-Element c).In-Element).1)

pub overflow_add-at-in-Element-2 : goal.overflow_add-at-in-Element-2
overflow_add-at-in-Element-2 c = omega (arith, (reach (goal.at.overflow_add-at-in-Element-2 c).In-Element).1)

pub loop-at-smaller : goal.loop-at-smaller
loop-at-smaller c = omega (arith, reach (goal.at.loop-at-smaller c).In-Element)
