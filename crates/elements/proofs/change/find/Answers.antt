-- The place of the id among the elements' is that of the first of it, whose data begin behind those of the elements in front.
use Rattle.std.proofs.Common.{◌≡◌, ℕ, take, ap₂, sym, ◌∙◌}
use Rattle.std.specs.Prelude.{Some, None, eqb}
use Rattle.std.specs.List.{position_from}
use Rattle.elements.proofs.Runs.{run_found, run_none}
use Rattle.elements.proofs.change.find.Goals as goal

pub returns-in_err-first : goal.returns-in_err-first
returns-in_err-first c =
    λ es s.
    let a = c.args in
    let p : position_from (λ (n : ℕ). eqb n a.id) 0 (take a.count a.ids.now) ≡ None = sym c.place_of.ensures.place ∙ c.in_err-first.was in
    c.from_residual.ensures ∙ sym (run_none a.id a.count a.ids.now a.lens.now es s p)

pub returns : goal.returns
returns c =
    λ es s.
    let a = c.args in
    let p : position_from (λ (n : ℕ). eqb n a.id) 0 (take a.count a.ids.now) ≡ Some c.in_ok-first.first = sym c.place_of.ensures.place ∙ c.in_ok-first.was in
    ap₂ (λ (m n : ℕ). Some (record { first = c.in_ok-first.first; count = 1; at = m; len = n })) c.total.ensures c.from.ensures
    ∙ sym (run_found a.id a.count a.ids.now a.lens.now es s c.in_ok-first.first p)
