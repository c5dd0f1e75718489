-- The fragment goes behind what was gathered; the last hands the unit out behind its header.
use mathlib.Core.Path.{◌≡◌, refl, sym, ap, ◌∙◌}
use mathlib.Core.Bool.{Bool}
use mathlib.Core.List.{List, ◌++◌}
use Prim.Native.Nat.{ℕ, ◌+◌, ◌-◌}
use lib.ListN.{length, take, drop}
use borrow.Author.Rules.{rules}
use Rattle.std.specs.Prelude.{Option, Some, Result, Ok, Err}
use Rattle.std.proofs.lemmas.Result.{err_from_is_err_and}
use Rattle.error.specs.declared.Error.{Error}
use Rattle.error.specs.Said.{says, said}
use Rattle.nal.specs.Fed.{lay_gather, Laid}
use Rattle.nal.specs.Said.{is_avc, gather_heard}
use Rattle.nal.specs.Ran.{RanOn, with_run}
use Rattle.nal.proofs.Handing.{rest_of, length_gathered}
use Rattle.nal.proofs.Running.{ongoing_heard}
use Rattle.joiner_step.specs.Run.{gathering}
use Rattle.joiner_feed.specs.declared.Run.{Run}
use Rattle.joiner_feed.specs.Ran.{note_of, recorded, lay_does, goes_on}
use Rattle.joiner_feed.proofs.feed_later.Goals as goal
use Rattle.joiner_feed.proofs.feed_later.Goals.{Else-last}

-- not the last, with what `gather_on` answers
gathered : (c : Else-last) (x : Result ℕ Error) (g' : List ℕ) →
    let a = c.args in
    let n = length a.payload.now - 2 in
    gather_heard x g' ≡ lay_gather a.gather.now (take a.run.gathered a.gather.now ++ take n (drop 2 a.payload.now)) →
    ◌≡◌ {A = Laid (RanOn (Option Run))}
    (record {
      answer = with_run (Some (record { gathered = a.run.gathered + length (take n (drop 2 a.payload.now)); marked = a.run.marked; time = a.run.time })) (said x);
      gather = g';
      out = a.out.now;
    })
    (lay_does (is_avc a.prefix) a.gather.now a.out.now (says (goes_on a.last a.head (note_of a.run) (take a.run.gathered a.gather.now ++ drop 2 a.payload.now))))
gathered c x g' e =
    let a = c.args in
    let g = a.gather.now in
    let at = a.run.gathered in
    let bytes = take at g ++ drop 2 a.payload.now in
    ongoing_heard recorded (is_avc a.prefix) g a.out.now (gathering (note_of a.run) bytes) bytes _ _ (said x) g' refl
    (e ∙ ap (λ (l : List ℕ). lay_gather g (take at g ++ l)) (rest_of 2 a.payload.now))
    (ap (λ (n : ℕ). Some (record { gathered = n; marked = a.run.marked; time = a.run.time }))
    (rw (rest_of 2 a.payload.now) (sym (length_gathered g (drop 2 a.payload.now) at (search rules)))))
    ∙ sym (ap (λ (l : Bool). lay_does (is_avc a.prefix) g a.out.now (says (goes_on l a.head (note_of a.run) bytes))) c.if-last.false)

pub returns-in_err-bytes-2 : goal.returns-in_err-bytes-2
returns-in_err-bytes-2 c =
    let p = err_from_is_err_and c.from_residual-in_err-bytes-2.result c.from_residual-in_err-bytes-2.ensures.1 in
    rw (p.1, p.2) (gathered (goal.at.returns-in_err-bytes-2 c).Else-last (Err _) _ c.in_err-bytes-2.ensures)

pub returns : goal.returns
returns c = gathered (goal.at.returns c).Else-last (Ok _) _ c.in_ok-bytes-2.ensures
