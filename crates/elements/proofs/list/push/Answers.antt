-- Each array gets its store, and the data are one part more.
use Rattle.std.proofs.Common.{List, ℕ, refl, ◌+◌, length, set, ap}
use Rattle.wire.proofs.Part.{put_whole}
use Rattle.elements.specs.Elements.{pushed}
use Rattle.elements.proofs.list.push.Goals as goal

pub returns : goal.returns
unfolding pushed
returns c =
    let a = c.args in
    let x = a.list in
    let n = length a.«data».now in
    ap (λ (b : List ℕ). record { count = x.count + 1; ids = set x.ids x.count a.id; lens = set x.lens x.count n; bytes = b })
    (put_whole a.used (a.used + n) x.bytes c.copy_from_slice.new.self a.«data».now c.copy_from_slice.ensures.after refl)
