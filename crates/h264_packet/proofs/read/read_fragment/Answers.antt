-- The fragment goes behind what was gathered; the end bit hands the unit out, whose body is then all that is gathered.
use mathlib.Core.Path.{◌≡◌, refl, sym, ap, ◌∙◌}
use mathlib.Core.Bool.{Bool}
use mathlib.Core.List.{List, ◌++◌}
use Prim.Native.Nat.{ℕ, ◌+◌, ◌-◌}
use lib.ListN.{length, take, drop}
use borrow.Author.Rules.{rules}
use Rattle.std.specs.Prelude.{Result, Ok, Err}
use Rattle.std.proofs.lemmas.Result.{err_from_is_err_and}
use Rattle.error.specs.declared.Error.{Error}
use Rattle.error.specs.Said.{says, said}
use Rattle.nal.specs.Fed.{Laid, lay_gather}
use Rattle.nal.specs.Said.{is_avc, gather_heard}
use Rattle.nal.specs.Ran.{RanOn, with_run, lay_run}
use Rattle.nal.proofs.Handing.{rest_of, length_gathered}
use Rattle.nal.proofs.Running.{ongoing_heard}
use Rattle.h264_packet.specs.Run.{gathering, recorded}
use Rattle.h264_packet.specs.Depacketize.{gathered_on}
use Rattle.h264_packet.proofs.read.read_fragment.Goals as goal
use Rattle.h264_packet.proofs.read.read_fragment.Goals.{Then-last, Else-last}

-- another, with what `gather_on` answers
goes_on : (c : Else-last) (x : Result ℕ Error) (g' : List ℕ) →
    let a = c.args in
    gather_heard x g' ≡ lay_gather a.gather.now (take a.run a.gather.now ++ take (length a.payload.now - 2) (drop 2 a.payload.now)) →
    ◌≡◌ {A = Laid (RanOn ℕ)} (record { answer = with_run (a.run + length (take (length a.payload.now - 2) (drop 2 a.payload.now))) (said x); gather = g'; out = a.out.now })
    (lay_run recorded (is_avc a.prefix) a.gather.now a.out.now (says (gathered_on (take a.run a.gather.now ++ drop 2 a.payload.now) a.last a.head)))
goes_on c x g' e =
    let a = c.args in
    let g = a.gather.now in
    let p = a.payload.now in
    let bytes = take a.run g ++ drop 2 p in
    ongoing_heard recorded (is_avc a.prefix) g a.out.now (gathering bytes) bytes (a.run + length (take (length p - 2) (drop 2 p))) _ _ _ refl
    (e ∙ ap (λ (l : List ℕ). lay_gather g (take a.run g ++ l)) (rest_of 2 p))
    (rw (rest_of 2 p) (sym (length_gathered g (drop 2 p) a.run (search rules))))
    ∙ sym (ap (λ (l : Bool). lay_run recorded (is_avc a.prefix) g a.out.now (says (gathered_on bytes l a.head))) c.if-last.false)

pub returns-in_err-bytes-2 : goal.returns-in_err-bytes-2
returns-in_err-bytes-2 c =
    let p = err_from_is_err_and c.from_residual-in_err-bytes-2.result c.from_residual-in_err-bytes-2.ensures.1 in
    rw (p.1, p.2) (goes_on (goal.at.returns-in_err-bytes-2 c).Else-last (Err _) _ c.in_err-bytes-2.ensures, tt)

pub returns : goal.returns
returns c =
    (goes_on (goal.at.returns c).Else-last (Ok _) _ c.in_ok-bytes-2.ensures, rw c.if-last.false)
