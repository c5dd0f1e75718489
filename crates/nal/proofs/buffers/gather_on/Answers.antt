-- What stood before and the fragment's part are one part of the gather buffer: `splice_from`.
use mathlib.Core.Path.{sym, ap, ◌∙◌}
use mathlib.Core.List.{List, ◌++◌}
use mathlib.Core.Path.{◌≡◌}
use Prim.Native.Nat.{ℕ, ◌+◌, ◌≤◌}
use lib.ListN.{length, take}
use borrow.Author.Rules.{rules}
use Rattle.std.proofs.lemmas.Result.{err_from_is_err_and}
use Rattle.error.specs.Said.{Said, says}
use Rattle.wire.proofs.Part.{splice_from}
use Rattle.nal.proofs.Handing.{length_gathered, gather_long, gather_fits, end_long, end_fits}
use Rattle.nal.proofs.buffers.gather_on.Goals as goal
use Rattle.nal.proofs.buffers.gather_on.Goals.{In_ok-run_end}

pub returns-in_err-run_end : goal.returns-in_err-run_end
returns-in_err-run_end c =
    let a = c.args in
    let g = a.gather.now in
    let n = length_gathered g a.part.now a.at (search rules) in
    let e = end_long g (take a.at g ++ a.part.now) (a.at + length a.part.now) _ n c.in_err-run_end.ensures in
    let p = err_from_is_err_and c.from_residual.result c.from_residual.ensures.1 in
    rw (p.1, p.2) (ap (λ (x : Said ℕ). record { answer = x; gather = g }) e.0 ∙ sym (gather_long g (take a.at g ++ a.part.now) e.1))

-- the fragment fits
fits : (c : In_ok-run_end) →
    (length (take c.args.at c.args.gather.now ++ c.args.part.now) ≡ c.args.at + length c.args.part.now)
    × (length (take c.args.at c.args.gather.now ++ c.args.part.now) ≤ length c.args.gather.now)
    × (length (take c.args.at c.args.gather.now ++ c.args.part.now) ≤ 16777215)
fits c =
    let a = c.args in
    let n = length_gathered a.gather.now a.part.now a.at (search rules) in
    let e = end_fits a.gather.now (take a.at a.gather.now ++ a.part.now) (a.at + length a.part.now) _ n c.in_ok-run_end.ensures in
    (n, e.1, e.2)

pub returns : goal.returns
returns c =
    let a = c.args in
    let g = a.gather.now in
    let p = a.part.now in
    let f = fits (goal.at.returns c).In_ok-run_end in
    ap (λ (l : List ℕ). record { answer = says 0; gather = l }) (c.copy_at.ensures ∙ sym (splice_from g a.at p (search rules)))
    ∙ sym (gather_fits g (take a.at g ++ p) f.1 f.2)
