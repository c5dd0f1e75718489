use Rattle.std.proofs.Common.{arith, ◌≡◌, Bool, cond, ◌&&◌, List, ℕ, ◌+◌, ◌<◌, ◌≤◌, length, take, drop, get_or, sym, ap, ap₂, ◌∙◌}
use lib.ListN.{drop_of_length-le}
use lib.Seq.{length-take-le}
use Rattle.std.specs.Prelude.{Some, None}
use Rattle.wire.proofs.Part.{drop_front}
use Rattle.elements.specs.Elements.{sum}
use Rattle.block.specs.declared.Form.{Form}
use Rattle.block_write.specs.Write.{fits, all_fit, weight}
use Rattle.block_write.proofs.Front.{front}
use Rattle.block_write.proofs.weigh.Goals as goal

-- a turn decides on the first of the rest
here : (form : Form) (ids lens : List ℕ) (count i : ℕ) → i < length ids → i < count → count ≤ length lens →
    all_fit form (drop i ids) (drop i (take count lens))
    ≡ (fits form (get_or ids i 0) (get_or lens i 0) && all_fit form (drop (i + 1) ids) (drop (i + 1) (take count lens)))
here form ids lens count i h k p = ap₂ (all_fit form) (drop_front ids i h) (front count lens i k p)

pub returns-then-not-fits : goal.returns-then-not-fits
unfolding weight
returns-then-not-fits c =
    let a = c.args in
    let i = c.loop-i.i in
    let ids = take a.count a.ids.now in
    let lens = take a.count a.lens.now in
    let long : length ids ≡ a.count = length-take-le a.count a.ids.now (omega arith) in
    sym
    (ap (λ (b : Bool). cond b (Some (sum lens)) None)
    (c.loop-i.invariant.fits
    ∙ here a.form ids a.lens.now a.count i (omega arith) (omega arith) (omega arith)
    ∙ ap (λ (b : Bool). b && all_fit a.form (drop (i + 1) ids) (drop (i + 1) lens)) (sym c.fits.ensures ∙ c.if-not-fits.true)))

pub overflow_add-bytes : goal.overflow_add-bytes
overflow_add-bytes c =
    let a = c.args in
    omega (arith, c.loop-i.invariant.small, length-take-le a.count a.ids.now (omega arith), c.from-bytes.ensures, c.fits-lens c.loop-i.i)

pub loop-i-preserved : goal.loop-i-preserved
loop-i-preserved c =
    let a = c.args in
    let h = c.loop-i in
    let ids = take a.count a.ids.now in
    let lens = take a.count a.lens.now in
    let long : length ids ≡ a.count = length-take-le a.count a.ids.now (omega arith) in
    record {
      fits =
          h.invariant.fits
          ∙ here a.form ids a.lens.now a.count h.i (omega arith) (omega arith) (omega arith)
          ∙ ap (λ (b : Bool). b && all_fit a.form (drop (h.i + 1) ids) (drop (h.i + 1) lens)) (sym c.fits.ensures ∙ c.if-not-fits.false);
      left = omega (arith, h.invariant.left, ap sum (front a.count a.lens.now h.i (omega arith) (omega arith)), c.from-bytes.ensures);
      small = omega (arith, h.invariant.small, c.from-bytes.ensures, c.fits-lens h.i);
    }

pub returns : goal.returns
unfolding weight
returns c =
    let a = c.args in
    let h = c.loop-i in
    let ids = take a.count a.ids.now in
    let lens = take a.count a.lens.now in
    let long : length ids ≡ a.count = length-take-le a.count a.ids.now (omega arith) in
    let long_lens : length lens ≡ a.count = length-take-le a.count a.lens.now (omega arith) in
    let none = drop_of_length-le ids {i = h.i} (omega arith) in
    let zero = ap sum (drop_of_length-le lens {i = h.i} (omega arith)) in
    sym
    (ap (λ (b : Bool). cond b (Some (sum lens)) None)
    (h.invariant.fits ∙ ap (λ (l : List ℕ). all_fit a.form l (drop h.i lens)) none)
    ∙ ap (λ (n : ℕ). Some n) (omega (arith, h.invariant.left, zero)))
