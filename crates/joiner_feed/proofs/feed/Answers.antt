-- By the payload's kind, each as its own function has it.
use mathlib.Core.Path.{◌≡◌, sym, ap, ◌∙◌}
use mathlib.Core.List.{[], ◌∷◌}
use Prim.Native.Nat.{ℕ}
use native.Mathlib.Omega.{arith}
use borrow.Author.Rules.{rules}
use Rattle.std.specs.Prelude.{Option, Ok, Err}
use Rattle.std.proofs.lemmas.Result.{err_from_is_err_and}
use Rattle.error.specs.Said.{says, said}
use Rattle.nal.specs.Fed.{Laid}
use Rattle.nal.specs.Said.{is_avc}
use Rattle.nal.specs.Ran.{RanOn}
use Rattle.nal_read.specs.declared.Kind.{Kind}
use Rattle.nal_read.specs.Kind.{Shape, shape}
use Rattle.nal_read.specs.Said.{shape_said}
use Rattle.nal_read.specs.Unpack.{unpack}
use Rattle.nal_read.proofs.Shapes.{aggregate_long, fragment_long}
use Rattle.joiner_feed.specs.declared.Run.{Run}
use Rattle.joiner_feed.specs.Content.{fed_after}
use Rattle.joiner_feed.specs.H264.{check_by, check}
use Rattle.joiner_feed.specs.Ran.{run_of, lay_does}
use Rattle.joiner_feed.proofs.Feeding.{units_alone}
use Rattle.joiner_feed.proofs.feed.Goals as goal
use Rattle.joiner_feed.proofs.feed.Goals.{Start}

-- what a payload of this shape does, laid into both buffers
abbrev laid : Start → Shape → Laid (RanOn (Option Run))
laid c shape =
    lay_does (is_avc c.args.prefix) c.args.gather.now c.args.out.now
    (fed_after (run_of c.args.run c.args.gather.now) c.args.time (check_by shape c.args.payload.now))

-- the shape that the code goes by is the payload's
by_shape : (s : Start) (result k : Kind) → shape_said result ≡ shape s.args.payload.now → result ≡ k →
    laid s (shape_said k)
    ≡ lay_does (is_avc s.args.prefix) s.args.gather.now s.args.out.now
    (fed_after (run_of s.args.run s.args.gather.now) s.args.time (check s.args.payload.now))
unfolding check
by_shape s result k e f = ap (laid s) (sym (sym e ∙ ap shape_said f))

pub hand_stap_a-requires : goal.hand_stap_a-requires
hand_stap_a-requires c =
    let long = aggregate_long c.args.payload.now (sym c.kind_of-kind.ensures ∙ ap shape_said c.in-Aggregate.is) in
    (omega (arith, long), search rules)

pub feed_fragment-requires : goal.feed_fragment-requires
feed_fragment-requires c =
    let long = fragment_long c.args.payload.now _ _ _ (sym c.kind_of-kind.ensures ∙ ap shape_said c.in-Fragment.is) in
    (omega (arith, long), search rules, search rules)

-- ---- 4, 19
pub returns-in-Short : goal.returns-in-Short
returns-in-Short c = by_shape (goal.at.returns-in-Short c).Start _ _ c.kind_of-kind.ensures c.in-Short.is

pub returns-in-Unknown : goal.returns-in-Unknown
returns-in-Unknown c = by_shape (goal.at.returns-in-Unknown c).Start _ _ c.kind_of-kind.ensures c.in-Unknown.is

-- ---- units, behind which no run is open
pub returns-in_err-bytes-in-Plain : goal.returns-in_err-bytes-in-Plain
returns-in_err-bytes-in-Plain c =
    let a = c.args in
    let p = err_from_is_err_and c.from_residual.result c.from_residual.ensures.1 in
    rw (p.1, p.2)
    (units_alone (is_avc a.prefix) a.run a.time a.gather.now a.out.now (says (a.payload.now ∷ [])) (said {A = ℕ} (Err _)) _ c.in_err-bytes-in-Plain.ensures
    ∙ by_shape (goal.at.returns-in_err-bytes-in-Plain c).Start _ _ c.kind_of-kind.ensures c.in-Plain.is)

pub returns-in_ok-bytes-in-Plain : goal.returns-in_ok-bytes-in-Plain
returns-in_ok-bytes-in-Plain c =
    let a = c.args in
    units_alone (is_avc a.prefix) a.run a.time a.gather.now a.out.now (says (a.payload.now ∷ [])) (said (Ok _)) _ c.in_ok-bytes-in-Plain.ensures
    ∙ by_shape (goal.at.returns-in_ok-bytes-in-Plain c).Start _ _ c.kind_of-kind.ensures c.in-Plain.is

pub returns-in_err-bytes-in-Aggregate : goal.returns-in_err-bytes-in-Aggregate
returns-in_err-bytes-in-Aggregate c =
    let a = c.args in
    let p = err_from_is_err_and c.from_residual-in_err-bytes-in-Aggregate.result c.from_residual-in_err-bytes-in-Aggregate.ensures.1 in
    rw (p.1, p.2)
    (units_alone (is_avc a.prefix) a.run a.time a.gather.now a.out.now (unpack a.payload.now) (said {A = ℕ} (Err _)) _ c.in_err-bytes-in-Aggregate.ensures
    ∙ by_shape (goal.at.returns-in_err-bytes-in-Aggregate c).Start _ _ c.kind_of-kind.ensures c.in-Aggregate.is)

pub returns-in_ok-bytes-in-Aggregate : goal.returns-in_ok-bytes-in-Aggregate
returns-in_ok-bytes-in-Aggregate c =
    let a = c.args in
    units_alone (is_avc a.prefix) a.run a.time a.gather.now a.out.now (unpack a.payload.now) (said (Ok _)) _ c.in_ok-bytes-in-Aggregate.ensures
    ∙ by_shape (goal.at.returns-in_ok-bytes-in-Aggregate c).Start _ _ c.kind_of-kind.ensures c.in-Aggregate.is

pub returns-in-Fragment : goal.returns-in-Fragment
returns-in-Fragment c =
    c.feed_fragment.ensures
    ∙ by_shape (goal.at.returns-in-Fragment c).Start _ _ c.kind_of-kind.ensures c.in-Fragment.is
