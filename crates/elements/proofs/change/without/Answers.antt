-- The elements in front of the run, then those behind it.
use mathlib.Core.Path.{◌≡◌, ap, ap₂, ◌∙◌}
use native.Mathlib.Omega.{arith}
use lib.ListN.{take}
use borrow.Author.Rules.{rules}
use Rattle.elements.specs.declared.Extensions.{Extensions}
use Rattle.elements.specs.declared.Run.{Run}
use Rattle.elements.specs.Elements.{lay_elements, sum}
use Rattle.elements.specs.Runs.{kept, behind}
use Rattle.elements.proofs.Packed.{PackedIn}
use Rattle.elements.proofs.Runs.{packed_by, bounded, front_many, without_laid}
use Rattle.elements.proofs.change.without.Goals as goal
use Rattle.elements.proofs.change.without.Goals.{Start}

packed_self : (c : Start) → PackedIn c.args.list.now
packed_self c = packed_by c.args.list.now c.args.run (search rules) (search rules) (search rules) c.requires

pub behind-behind-requires : goal.behind-behind-requires
behind-behind-requires c =
    let x = c.args.list.now in
    let r = c.args.run in
    omega (arith, bounded x (packed_self (goal.at.behind-behind-requires c).Start) r c.requires, c.total.ensures)

pub keep-requires : goal.keep-requires
unfolding lay_elements
keep-requires c =
    let x = c.args.list.now in
    let r = c.args.run in
    let count : c.front.result.count ≡ r.first =
    ap (λ (y : Extensions). y.count) c.front.ensures ∙ front_many x (packed_self (goal.at.keep-requires c).Start) r c.requires in
    rw (c.behind-behind.ensures, c.total.ensures)
    (omega (arith, bounded x (packed_self (goal.at.keep-requires c).Start) r c.requires))

pub returns : goal.returns
returns c =
    let x = c.args.list.now in
    let r = c.args.run in
    let last : c.behind-behind.result ≡ behind r x.count (sum (take x.count x.lens)) =
    c.behind-behind.ensures ∙ ap (behind r x.count) c.total.ensures in
    c.keep.ensures
    ∙ ap₂ (λ (y : Extensions) (b : Run). kept y r.at x b) c.front.ensures last
    ∙ without_laid x (packed_self (goal.at.returns c).Start) r c.requires
