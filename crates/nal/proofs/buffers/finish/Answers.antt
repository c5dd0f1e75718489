-- The fragment is gathered as by `gather_on`, and the whole run is then the unit's body.
use mathlib.Core.Path.{◌≡◌, sym, ap, ◌∙◌}
use mathlib.Core.Bool.{Bool}
use mathlib.Core.List.{List, [], ◌∷◌, ◌++◌}
use Prim.Native.Nat.{ℕ, ◌+◌, ◌-◌, ◌≤◌}
use native.Mathlib.Omega.{arith}
use lib.ListN.{length, take, length-append}
use borrow.Author.Rules.{rules}
use Rattle.std.proofs.lemmas.Result.{err_from_is_err_and}
use Rattle.error.specs.Said.{Said, says, refuse}
use Rattle.wire.specs.Part.{splice}
use Rattle.wire.proofs.Part.{splice_from}
use Rattle.nal.specs.Said.{is_avc}
use Rattle.nal.specs.Fed.{prefixed}
use Rattle.nal.proofs.Handing.{length_gathered, length_one, end_long, end_fits, both_long, both_by, bytes_short, bytes_fit, run_of, laid_path}
use Rattle.nal.proofs.buffers.finish.Goals as goal
use Rattle.nal.proofs.buffers.finish.Goals.{In_ok-end}

-- what is gathered then
abbrev kept : List ℕ → ℕ → List ℕ → List ℕ
kept gather at part = take at gather ++ part

abbrev unit : List ℕ → List ℕ → ℕ → List ℕ → List ℕ
unit head gather at part = head ++ kept gather at part

length_kept : (gather : List ℕ) (at : ℕ) (part : List ℕ) → at ≤ length gather → length (kept gather at part) ≡ at + length part
length_kept gather at part h = length_gathered gather part at h

-- the unit behind its prefix
length_whole : (avc : Bool) (head gather : List ℕ) (at : ℕ) (part : List ℕ) → at ≤ length gather →
    length (prefixed avc (unit head gather at part ∷ [])) ≡ 4 + length head + (at + length part)
length_whole avc head gather at part h =
    length_one avc (unit head gather at part) ∙ omega (arith, length-append head (kept gather at part), length_kept gather at part h)

pub returns-in_err-end : goal.returns-in_err-end
returns-in_err-end c =
    let a = c.args in
    let e = end_long a.gather.now (kept a.gather.now a.at a.part.now) (a.at + length a.part.now) _ (length_kept a.gather.now a.at a.part.now (search rules)) c.in_err-end.ensures in
    let p = err_from_is_err_and c.from_residual.result c.from_residual.ensures.1 in
    rw (p.1, p.2)
    (ap (λ (x : Said ℕ). record { answer = x; gather = a.gather.now; out = a.out.now }) e.0
    ∙ sym (both_long (is_avc a.prefix) a.gather.now a.out.now (kept a.gather.now a.at a.part.now) (unit a.head.now a.gather.now a.at a.part.now ∷ []) e.1))

-- the run fits, and ends there
fits : (c : In_ok-end) →
    (c.in_ok-end.end ≡ c.args.at + length c.args.part.now)
    × (length (kept c.args.gather.now c.args.at c.args.part.now) ≤ length c.args.gather.now)
    × (length (kept c.args.gather.now c.args.at c.args.part.now) ≤ 16777215)
fits c =
    let a = c.args in
    end_fits a.gather.now (kept a.gather.now a.at a.part.now) (a.at + length a.part.now) _ (length_kept a.gather.now a.at a.part.now (search rules)) c.in_ok-end.ensures

pub returns-then-out-n : goal.returns-then-out-n
returns-then-out-n c =
    let a = c.args in
    let u = unit a.head.now a.gather.now a.at a.part.now in
    let f = fits (goal.at.returns-then-out-n c).In_ok-end in
    sym
    (both_by (is_avc a.prefix) a.gather.now a.out.now (kept a.gather.now a.at a.part.now) (u ∷ []) (record { answer = refuse 5; out = a.out.now }) f.1 f.2
    (bytes_short a.out.now (prefixed (is_avc a.prefix) (u ∷ [])) (omega (arith, f.0, length_whole (is_avc a.prefix) a.head.now a.gather.now a.at a.part.now (search rules), c.if-out-n.true))))

-- the gather buffer when the fragment was put into it
gathered : (gather : List ℕ) (at : ℕ) (part now : List ℕ) → at ≤ length gather → now ≡ splice gather at part → now ≡ splice gather 0 (kept gather at part)
gathered gather at part now h e = e ∙ sym (splice_from gather at part h)

-- the unit's body, as the code lends it on
body : (gather : List ℕ) (at : ℕ) (part now : List ℕ) (end : ℕ) → end ≡ at + length part → at ≤ length gather → now ≡ splice gather at part →
    take (end - 0) now ≡ kept gather at part
body gather at part now end n h e =
    let same : end - 0 ≡ at + length part = omega (arith, n) in
    ap (λ (n : ℕ). take n now) same ∙ ap (take (at + length part)) (gathered gather at part now h e) ∙ run_of gather part at h

pub returns : goal.returns
returns c =
    let a = c.args in
    let u = unit a.head.now a.gather.now a.at a.part.now in
    let f = fits (goal.at.returns c).In_ok-end in
    let n = length_whole (is_avc a.prefix) a.head.now a.gather.now a.at a.part.now (search rules) in
    laid_path (omega (arith, f.0, n)) (gathered a.gather.now a.at a.part.now c.copy_at.new.dst (search rules) c.copy_at.ensures)
    (c.put_joined.ensures
    ∙ ap (λ (b : List ℕ). splice a.out.now 0 (prefixed (is_avc a.prefix) ((a.head.now ++ b) ∷ []))) (body a.gather.now a.at a.part.now c.copy_at.new.dst c.in_ok-end.end f.0 (search rules) c.copy_at.ensures))
    ∙ sym
    (both_by (is_avc a.prefix) a.gather.now a.out.now (kept a.gather.now a.at a.part.now) (u ∷ [])
    (record { answer = says (length (prefixed (is_avc a.prefix) (u ∷ []))); out = splice a.out.now 0 (prefixed (is_avc a.prefix) (u ∷ [])) }) f.1 f.2
    (bytes_fit a.out.now (prefixed (is_avc a.prefix) (u ∷ [])) (omega (arith, f.0, n, c.if-out-n.false))))
