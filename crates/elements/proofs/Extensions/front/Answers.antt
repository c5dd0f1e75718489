-- The elements in front of the run, behind none.
use mathlib.Core.Path.{◌≡◌, ap, ◌∙◌}
use native.Mathlib.Omega.{arith}
use borrow.Author.Rules.{rules}
use Rattle.elements.specs.declared.Extensions.{Extensions}
use Rattle.elements.specs.Elements.{lay_elements}
use Rattle.elements.specs.Runs.{kept, before}
use Rattle.elements.proofs.Packed.{PackedIn}
use Rattle.elements.proofs.Runs.{packed_by, bounded, front_laid}
use Rattle.elements.proofs.Extensions.front.Goals as goal
use Rattle.elements.proofs.Extensions.front.Goals.{Start}

packed_self : (c : Start) → PackedIn c.args.self.now
packed_self c = packed_by c.args.self.now c.args.run (search rules) (search rules) (search rules) c.requires

pub keep-requires : goal.keep-requires
unfolding lay_elements
keep-requires c =
    let x = c.args.self.now in
    let r = c.args.run in
    let none : c.new.result.count ≡ 0 = ap (λ (y : Extensions). y.count) c.new.ensures in
    omega (arith, bounded x (packed_self (goal.at.keep-requires c).Start) r c.requires)

pub returns : goal.returns
returns c =
    let x = c.args.self.now in
    let r = c.args.run in
    c.keep.ensures
    ∙ ap (λ (y : Extensions). kept y 0 x (before r)) c.new.ensures
    ∙ front_laid x (packed_self (goal.at.returns c).Start) r c.requires
