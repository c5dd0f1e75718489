-- By the payload's kind, each as its own function has it.
use mathlib.Core.Path.{◌≡◌, refl, sym, ap, subst, ◌∙◌}
use mathlib.Core.Bool.{Bool, true, false}
use mathlib.Core.List.{List, [], ◌∷◌, ◌++◌}
use Prim.Native.Nat.{ℕ, ◌≤◌}
use native.Mathlib.Omega.{arith}
use lib.ListN.{length, drop}
use borrow.Author.Rules.{rules}
use Rattle.std.specs.Prelude.{Result, Ok, Err}
use Rattle.std.proofs.lemmas.Result.{err_from_is_err_and}
use Rattle.error.specs.declared.Error.{Error}
use Rattle.error.specs.Said.{Said, says, said}
use Rattle.nal.specs.Fed.{prefixed, OutLaid, lay_bytes, lay_units, Laid}
use Rattle.nal.specs.Said.{is_avc, out_heard}
use Rattle.nal.specs.Ran.{handing, RanOn, with_run, lay_run}
use Rattle.nal.proofs.Running.{units_heard}
use Rattle.nal_read.specs.declared.Kind.{Kind}
use Rattle.nal_read.specs.Kind.{Shape, plain, aggregate, fragment, shape}
use Rattle.nal_read.specs.Said.{shape_said}
use Rattle.nal_read.specs.Unpack.{unpack}
use Rattle.nal_read.proofs.Shapes.{aggregate_long, fragment_long}
use Rattle.h264_packet.specs.Run.{run_of, recorded}
use Rattle.h264_packet.specs.declared.Ran.{Ran}
use Rattle.h264_packet.specs.declared.Shown.TheVariants as shown
use Rattle.h264_packet.specs.Depacketize.{beside, gathered_on, read_by, read_payload, shown_of}
use Rattle.h264_packet.specs.Said.{Shows}
use Rattle.h264_packet.proofs.Depacketizing.{gathered_run, length_run}
use Rattle.h264_packet.proofs.read.read_payload.Goals as goal
use Rattle.h264_packet.proofs.read.read_payload.Goals.{After-kind_of-kind}

-- the shape that the code goes by is the payload's
by_shape : (c : After-kind_of-kind) (k : Kind) → c.kind_of-kind.result ≡ k →
    lay_run recorded (is_avc c.args.prefix) c.args.gather.now c.args.out.now (read_payload (run_of c.args.run c.args.gather.now) c.args.payload.now)
    ≡ lay_run recorded (is_avc c.args.prefix) c.args.gather.now c.args.out.now
    (read_by (shape_said k) (run_of c.args.run c.args.gather.now) c.args.payload.now)
unfolding read_payload
by_shape c k e =
    let a = c.args in
    ap (λ (x : Shape). lay_run recorded (is_avc a.prefix) a.gather.now a.out.now (read_by x (run_of a.run a.gather.now) a.payload.now))
    (sym c.kind_of-kind.ensures ∙ ap shape_said e)

-- .. and so is what shows the body
shows_by : (c : After-kind_of-kind) (k : Kind) (r : Result Ran Error) → c.kind_of-kind.result ≡ k →
    let a = c.args in
    Shows r (shown_of (shape_said k) a.run (length a.payload.now)) → Shows r (shown_of (shape a.payload.now) a.run (length a.payload.now))
shows_by c k r e h =
    let a = c.args in
    subst (λ (s : Shape). Shows r (shown_of s a.run (length a.payload.now))) (sym (ap shape_said e) ∙ c.kind_of-kind.ensures) h

-- the start bit counts for nothing
start_apart : (first last : Bool) (head n len : ℕ) → shown_of (fragment false last head) n len ≡ shown_of (fragment first last head) n len
start_apart first true head n len = refl
start_apart first false head n len = refl

-- units that leave the run as it is
beside_heard : (avc : Bool) (g o : List ℕ) (n : ℕ) (x : Said (List (List ℕ))) (answer : Said (RanOn ℕ)) (handed : Said ℕ) (o' : List ℕ) →
    answer ≡ with_run n handed → ◌≡◌ {A = OutLaid} (record { answer = handed; out = o' }) (lay_units avc o x) →
    n ≤ length g → n ≤ 16777215 →
    ◌≡◌ {A = Laid (RanOn ℕ)} (record { answer = answer; gather = g; out = o' }) (lay_run recorded avc g o (beside (run_of n g) x))
beside_heard avc g o n x answer handed o' e l h k =
    units_heard recorded avc g o n (run_of n g) x answer handed o' (e ∙ sym (ap (λ (m : ℕ). with_run m handed) (length_run n g h))) l h k
    ∙ sym (ap (λ (m : List ℕ). lay_run recorded avc g o (handing (run_of n g) m x)) (gathered_run n g))

pub hand_stap_a-requires : goal.hand_stap_a-requires
hand_stap_a-requires c =
    let long = aggregate_long c.args.payload.now (sym c.kind_of-kind.ensures ∙ ap shape_said c.in-Aggregate.is) in
    (omega (arith, long), search rules)

pub read_fragment-requires : goal.read_fragment-requires
read_fragment-requires c = (
  fragment_long c.args.payload.now _ _ _ (sym c.kind_of-kind.ensures ∙ ap shape_said c.in-Fragment.is),
  search rules,
  search rules,
)

pub returns-in-Short : goal.returns-in-Short
returns-in-Short c = (sym (by_shape (goal.at.returns-in-Short c).After-kind_of-kind _ c.in-Short.is), tt)

pub returns-in-Unknown : goal.returns-in-Unknown
returns-in-Unknown c = (sym (by_shape (goal.at.returns-in-Unknown c).After-kind_of-kind _ c.in-Unknown.is), tt)

-- a unit by itself, with what `hand_plain` answers
alone : (c : After-kind_of-kind) (k : Kind) → c.kind_of-kind.result ≡ k → shape_said k ≡ plain → (x : Result ℕ Error) (o' : List ℕ) →
    let a = c.args in
    out_heard x o' ≡ lay_bytes a.out.now (prefixed (is_avc a.prefix) (a.payload.now ∷ [])) →
    ◌≡◌ {A = Laid (RanOn ℕ)} (record { answer = with_run a.run (said x); gather = a.gather.now; out = o' })
    (lay_run recorded (is_avc a.prefix) a.gather.now a.out.now (read_payload (run_of a.run a.gather.now) a.payload.now))
alone c k f q x o' e =
    let a = c.args in
    beside_heard (is_avc a.prefix) a.gather.now a.out.now a.run (says (a.payload.now ∷ [])) _ (said x) o' refl e (search rules) (search rules)
    ∙ sym (by_shape c k f ∙ ap (λ (x : Shape). lay_run recorded (is_avc a.prefix) a.gather.now a.out.now (read_by x (run_of a.run a.gather.now) a.payload.now)) q)

-- the units of a STAP-A, with what `hand_stap_a` answers
aggregated : (c : After-kind_of-kind) (k : Kind) → c.kind_of-kind.result ≡ k → shape_said k ≡ aggregate → (x : Result ℕ Error) (o' : List ℕ) →
    let a = c.args in
    out_heard x o' ≡ lay_units (is_avc a.prefix) a.out.now (unpack a.payload.now) →
    ◌≡◌ {A = Laid (RanOn ℕ)} (record { answer = with_run a.run (said x); gather = a.gather.now; out = o' })
    (lay_run recorded (is_avc a.prefix) a.gather.now a.out.now (read_payload (run_of a.run a.gather.now) a.payload.now))
aggregated c k f q x o' e =
    let a = c.args in
    beside_heard (is_avc a.prefix) a.gather.now a.out.now a.run (unpack a.payload.now) _ (said x) o' refl e (search rules) (search rules)
    ∙ sym (by_shape c k f ∙ ap (λ (x : Shape). lay_run recorded (is_avc a.prefix) a.gather.now a.out.now (read_by x (run_of a.run a.gather.now) a.payload.now)) q)

pub returns-in_err-bytes-in-Plain : goal.returns-in_err-bytes-in-Plain
returns-in_err-bytes-in-Plain c =
    let p = err_from_is_err_and c.from_residual.result c.from_residual.ensures.1 in
    rw (p.1, p.2) (alone (goal.at.returns-in_err-bytes-in-Plain c).After-kind_of-kind _ c.in-Plain.is refl (Err _) _ c.in_err-bytes-in-Plain.ensures, tt)

pub returns-in_ok-bytes-in-Plain : goal.returns-in_ok-bytes-in-Plain
returns-in_ok-bytes-in-Plain c = (
  alone (goal.at.returns-in_ok-bytes-in-Plain c).After-kind_of-kind _ c.in-Plain.is refl (Ok _) _ c.in_ok-bytes-in-Plain.ensures,
  shows_by (goal.at.returns-in_ok-bytes-in-Plain c).After-kind_of-kind _ (Ok (record { gathered = c.args.run; bytes = c.in_ok-bytes-in-Plain.bytes; shown = shown.Packet })) c.in-Plain.is refl,
)

pub returns-in_err-bytes-in-Aggregate : goal.returns-in_err-bytes-in-Aggregate
returns-in_err-bytes-in-Aggregate c =
    let p = err_from_is_err_and c.from_residual-in_err-bytes-in-Aggregate.result c.from_residual-in_err-bytes-in-Aggregate.ensures.1 in
    rw (p.1, p.2) (aggregated (goal.at.returns-in_err-bytes-in-Aggregate c).After-kind_of-kind _ c.in-Aggregate.is refl (Err _) _ c.in_err-bytes-in-Aggregate.ensures, tt)

pub returns-in_ok-bytes-in-Aggregate : goal.returns-in_ok-bytes-in-Aggregate
returns-in_ok-bytes-in-Aggregate c = (
  aggregated (goal.at.returns-in_ok-bytes-in-Aggregate c).After-kind_of-kind _ c.in-Aggregate.is refl (Ok _) _ c.in_ok-bytes-in-Aggregate.ensures,
  shows_by (goal.at.returns-in_ok-bytes-in-Aggregate c).After-kind_of-kind _ (Ok (record { gathered = c.args.run; bytes = c.in_ok-bytes-in-Aggregate.bytes; shown = shown.Nowhere })) c.in-Aggregate.is refl,
)

pub returns-in-Fragment : goal.returns-in-Fragment
returns-in-Fragment c =
    let a = c.args in
    let k = c.in-Fragment in
    let fed = c.read_fragment in (
      fed.ensures.0
          ∙ sym
          (by_shape (goal.at.returns-in-Fragment c).After-kind_of-kind _ k.is
          ∙ ap (λ (l : List ℕ). lay_run recorded (is_avc a.prefix) a.gather.now a.out.now (says (gathered_on (l ++ drop 2 a.payload.now) k.last k.head))) (gathered_run a.run a.gather.now)),
      shows_by (goal.at.returns-in-Fragment c).After-kind_of-kind _ fed.result k.is (subst (Shows fed.result) (start_apart k.first k.last k.head a.run (length a.payload.now)) fed.ensures.1),
    )
