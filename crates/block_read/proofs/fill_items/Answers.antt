use mathlib.Core.Path.{◌≡◌, sym, ap, ◌∙◌}
use mathlib.Core.Logic.{⊎_elim}
use Prim.Native.Nat.{◌+◌, ◌-◌}
use native.Mathlib.Omega.{arith}
use lib.ListN.{drop}
use borrow.Author.Rules.{rules}
use Rattle.block_read.specs.Read.{element, is_two, items_by}
use Rattle.block_read.specs.Said.{item_of}
use Rattle.block_read.proofs.Filling.{Room, filling_end, filling_stop, filling_past, filling_pad, filling_room, filling_element}
use Rattle.block_read.proofs.fill_items.Goals as goal
use Rattle.block_read.proofs.fill_items.Goals.{In-Element}

pub loop-at-preserved-in-Pad : goal.loop-at-preserved-in-Pad
loop-at-preserved-in-Pad c =
    filling_pad _ _ _ _ _ _ _ _ _ _ c.loop-at.invariant (search rules)
    (sym c.in-Pad.ensures)
    (search rules)

pub returns-in-Stop : goal.returns-in-Stop
returns-in-Stop c =
    let h = c.loop-at.invariant in
    let here = c.loop-at-test.true in
    let next = c.next_at in
    ⊎_elim (λ e. filling_stop _ _ _ _ _ _ _ _ _ _ h here (sym next.ensures ∙ ap item_of e))
    (λ e. absurd (filling_past _ _ _ _ _ _ _ _ _ _ h c.requires.answers here (sym next.ensures ∙ ap item_of e)))
    c.in-Stop.is

-- the element that was found
found : (c : In-Element) →
    items_by (is_two c.args.form) (drop c.loop-at.at c.args.packet.now)
    ≡ element c.in-Element.head c.in-Element.id c.in-Element.n
found c = sym c.in-Element.ensures

-- the room for it
room : (c : In-Element) →
    Room c.args.packet.now
    (c.loop-at.at + c.in-Element.head) c.in-Element.n c.in-Element.head
    c.loop-at.count c.loop-at.used
room c =
    filling_room _ _ _ _ _ _ _ _ _ _ c.loop-at.invariant c.requires.answers c.loop-at-test.true _ _ _ (found c)

pub loop-at-preserved : goal.loop-at-preserved
loop-at-preserved c =
    let s = c.args.packet.now in
    let h = c.loop-at in
    let from = h.at + c.in-Element.head in
    let whole : from + c.in-Element.n - from ≡ c.in-Element.n = omega arith in
    rw (c.copy_at.ensures, whole)
    (filling_element s _ _ _ h.at h.count h.used _ _ _ h.invariant c.requires.answers
    c.loop-at-test.true
    c.in-Element.head c.in-Element.id c.in-Element.n (found (goal.at.loop-at-preserved c).In-Element))

pub returns : goal.returns
returns c = filling_end _ _ _ _ _ _ _ _ _ _ c.loop-at.invariant c.loop-at-test.false

pub overflow_add-from : goal.overflow_add-from
overflow_add-from c = omega (arith, (room (goal.at.overflow_add-from c).In-Element).inside)

pub bounds-ids-count : goal.bounds-ids-count
bounds-ids-count c = omega (arith, (room (goal.at.bounds-ids-count c).In-Element).few)

pub overflow_cast-lens : goal.overflow_cast-lens
overflow_cast-lens c = omega (arith, (room (goal.at.overflow_cast-lens c).In-Element).fits)

pub bounds-lens-count : goal.bounds-lens-count
bounds-lens-count c = omega (arith, (room (goal.at.bounds-lens-count c).In-Element).few)

pub overflow_add-from-in-Element : goal.overflow_add-from-in-Element
overflow_add-from-in-Element c = omega (arith, (room (goal.at.overflow_add-from-in-Element c).In-Element).inside)

pub slice_bounds-copy_at-end : goal.slice_bounds-copy_at-end
slice_bounds-copy_at-end c = omega (arith, (room (goal.at.slice_bounds-copy_at-end c).In-Element).inside)

pub copy_at-requires : goal.copy_at-requires
copy_at-requires c = omega (arith, (room (goal.at.copy_at-requires c).In-Element).fits)

pub overflow_add-at-in-Element : goal.overflow_add-at-in-Element
overflow_add-at-in-Element c = omega (arith, (room (goal.at.overflow_add-at-in-Element c).In-Element).inside)

pub loop-at-smaller : goal.loop-at-smaller
loop-at-smaller c = omega (arith, (room (goal.at.loop-at-smaller c).In-Element).forth)
