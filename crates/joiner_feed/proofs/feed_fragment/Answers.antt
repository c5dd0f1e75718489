-- 21 and 25 are told by the bits and the times; a start fragment opens a run with its own mark and time; a later one that is left is of the run's
-- time, or there is no run.
use mathlib.Core.Path.{◌≡◌, refl, sym, ap, ap₂, ◌∙◌}
use mathlib.Core.Bool.{Bool, true, false, true≢false}
use mathlib.Core.Logic.{◌⊎◌, inl, inr}
use mathlib.Core.List.{List}
use Prim.Native.Nat.{ℕ, ◌-◌}
use lib.ListN.{length, take, drop}
use borrow.Author.Rules.{rules}
use Rattle.std.specs.Prelude.{Option, Some, Result, Ok, Err}
use Rattle.std.proofs.lemmas.Result.{err_from_is_err_and}
use Rattle.error.specs.declared.Error.{Error}
use Rattle.error.specs.Said.{said}
use Rattle.nal.specs.Fed.{lay_gather, Laid}
use Rattle.nal.specs.Said.{is_avc, gather_heard}
use Rattle.nal.specs.Ran.{RanOn, with_run}
use Rattle.nal.proofs.Handing.{rest_of}
use Rattle.nal.proofs.Running.{ongoing_heard}
use Rattle.joiner_step.specs.Run.{gathering}
use Rattle.joiner_feed.specs.declared.Run.{Run}
use Rattle.joiner_feed.specs.Content.{fed_after}
use Rattle.joiner_feed.specs.H264.{forbidden, fragment_in, fragmented}
use Rattle.joiner_feed.specs.Ran.{run_of, recorded, lay_does}
use Rattle.joiner_feed.proofs.Feeding.{run_idle}
use Rattle.joiner_feed.proofs.Order.{without_run}
use Rattle.joiner_feed.proofs.feed_fragment.Goals as goal
use Rattle.joiner_feed.proofs.feed_fragment.Goals.{Start, Then-first-2}

-- what the fragment does, laid into both buffers, by the run and the two bits
abbrev laid : Start → Option Run → (first last : Bool) → Laid (RanOn (Option Run))
laid c run first last =
    let a = c.args in
    lay_does (is_avc a.prefix) a.gather.now a.out.now
    (fed_after (run_of run a.gather.now) a.time (fragmented first last a.head (fragment_in a.payload.now)))

-- a start fragment opens a run of its own mark and time, with what `gather_on` answers
starts : (c : Start) → c.args.first ≡ true → c.args.last ≡ false → (x : Result ℕ Error) (g' : List ℕ) (run : Run) →
    let a = c.args in
    let part = take (length a.payload.now - 2) (drop 2 a.payload.now) in
    gather_heard x g' ≡ lay_gather a.gather.now part →
    run ≡ record { gathered = length part; marked = forbidden a.payload.now; time = a.time } →
    ◌≡◌ {A = Laid (RanOn (Option Run))}
    (record { answer = with_run (Some run) (said x); gather = g'; out = a.out.now })
    (laid c a.run a.first a.last)
starts c e f x g' run h own =
    let a = c.args in
    let g = a.gather.now in
    let p = a.payload.now in
    ongoing_heard recorded (is_avc a.prefix) g a.out.now (gathering (record { marked = forbidden p; time = a.time }) (drop 2 p)) (drop 2 p) _ _ (said x) g' refl
    (h ∙ ap (lay_gather g) (rest_of 2 p))
    (ap (λ (r : Run). Some r) own ∙ ap (λ (l : List ℕ). Some (record { gathered = length l; marked = forbidden p; time = a.time })) (rest_of 2 p))
    ∙ sym (ap₂ (laid c a.run) e f)

-- both bits are not set
not_last : (first last : Bool) → first ≡ true → (first ≡ true × last ≡ false) ⊎ (first ≡ false) → last ≡ false
not_last first last e (inl h) = h.1
not_last first last e (inr h) = absurd (true≢false (sym e ∙ h))

pub returns-in_err-bytes : goal.returns-in_err-bytes
returns-in_err-bytes c =
    let p = err_from_is_err_and c.from_residual.result c.from_residual.ensures.1 in
    rw (p.1, p.2) (starts (goal.at.returns-in_err-bytes c).Start c.if-first-2.true (not_last _ _ c.if-first-2.true c.else-first.either) (Err _) _ _ c.in_err-bytes.ensures refl)

pub returns-then-first-2 : goal.returns-then-first-2
returns-then-first-2 c = starts (goal.at.returns-then-first-2 c).Start c.if-first-2.true (not_last _ _ c.if-first-2.true c.else-first.either) (Ok _) _ _ c.in_ok-bytes.ensures (search rules)

pub returns-in-None : goal.returns-in-None
returns-in-None c =
    let s = (goal.at.returns-in-None c).Start in
    let a = s.args in
    sym (run_idle (is_avc a.prefix) a.gather.now a.out.now)
    ∙ sym (ap (lay_does (is_avc a.prefix) a.gather.now a.out.now) (without_run a.time a.last a.head (fragment_in a.payload.now)))
    ∙ sym (ap₂ (λ (r : Option Run) (b : Bool). laid s r b a.last) c.in-None.is c.if-first-2.false)
