-- The elements in front of the run, then the new one, then those behind it.
use mathlib.Core.Path.{◌≡◌, ap, ap₂, ◌∙◌}
use mathlib.Core.List.{[], ◌∷◌, ◌++◌}
use Prim.Native.Nat.{ℕ, ◌+◌}
use native.Mathlib.Omega.{arith}
use lib.ListN.{length, take}
use borrow.Author.Rules.{rules}
use Rattle.elements.specs.declared.Extensions.{Extensions}
use Rattle.elements.specs.declared.Run.{Run}
use Rattle.elements.specs.Elements.{lay_elements, elements_of, sum, pushed}
use Rattle.elements.specs.Runs.{element, kept, behind}
use Rattle.elements.proofs.Packed.{PackedIn}
use Rattle.elements.proofs.Runs.{packed_by, bounded, front_many, put_laid, with_laid}
use Rattle.elements.proofs.change.replaced.Goals as goal
use Rattle.elements.proofs.change.replaced.Goals.{Start}

packed_self : (c : Start) → PackedIn c.args.list.now
packed_self c = packed_by c.args.list.now c.args.run (search rules) (search rules) (search rules) c.requires.holds

pub behind-behind-requires : goal.behind-behind-requires
behind-behind-requires c =
    let x = c.args.list.now in
    let r = c.args.run in
    omega (arith, bounded x (packed_self (goal.at.behind-behind-requires c).Start) r c.requires.holds, c.total.ensures)

pub push-put-requires : goal.push-put-requires
unfolding lay_elements
push-put-requires c =
    let x = c.args.list.now in
    let r = c.args.run in
    let count : c.front.result.count ≡ r.first =
    ap (λ (y : Extensions). y.count) c.front.ensures ∙ front_many x (packed_self (goal.at.push-put-requires c).Start) r c.requires.holds in
    omega (arith, count, bounded x (packed_self (goal.at.push-put-requires c).Start) r c.requires.holds, c.requires.count_bound)

pub overflow_add-run : goal.overflow_add-run
overflow_add-run c =
    let x = c.args.list.now in
    let r = c.args.run in
    omega (arith, bounded x (packed_self (goal.at.overflow_add-run c).Start) r c.requires.holds, c.requires.count_bound)

pub keep-requires : goal.keep-requires
unfolding lay_elements pushed
keep-requires c =
    let x = c.args.list.now in
    let r = c.args.run in
    let count : c.push-put.result.count ≡ r.first + 1 =
    ap (λ (y : Extensions). y.count) c.push-put.ensures
    ∙ ap (λ (y : Extensions). y.count + 1) c.front.ensures
    ∙ ap (λ (n : ℕ). n + 1) (front_many x (packed_self (goal.at.keep-requires c).Start) r c.requires.holds) in
    rw (c.behind-behind.ensures, c.total.ensures)
    (omega (arith, count, bounded x (packed_self (goal.at.keep-requires c).Start) r c.requires.holds, c.requires.count_bound))

pub returns : goal.returns
returns c =
    let x = c.args.list.now in
    let r = c.args.run in
    let id = c.args.id in
    let bytes = c.args.«data».now in
    let p = packed_self (goal.at.returns c).Start in
    let last : c.behind-behind.result ≡ behind r x.count (sum (take x.count x.lens)) =
    c.behind-behind.ensures
    ∙ ap (behind r x.count) c.total.ensures in
    let put : c.push-put.result ≡ lay_elements (take r.first (elements_of x) ++ (element id bytes ∷ [])) =
    c.push-put.ensures
    ∙ ap (λ (y : Extensions). pushed y r.at id bytes) c.front.ensures
    ∙ put_laid x p r c.requires.holds id bytes c.requires.count_bound c.requires.data_bound in
    c.keep.ensures
    ∙ ap₂ (λ (y : Extensions) (b : Run). kept y (r.at + length bytes) x b) put last
    ∙ with_laid x p r c.requires.holds id bytes c.requires.count_bound c.requires.data_bound
