-- A pair before the unit or not, by the code's tests.
use mathlib.Core.Logic.{⊎_elim, inl, inr}
use mathlib.Core.Path.{◌≡◌}
use native.Mathlib.Omega.{arith}
use Rattle.h264_put.proofs.Outcomes.{both_there, one_missing}
use Rattle.h264_measure.proofs.Measures.{coded_none, coded_over, coded_sent}
use borrow.Author.Rules.{rules}
use Rattle.h264_measure.proofs.Measure.coded.Goals as goal

pub returns-then-self-eq0 : goal.returns-then-self-eq0
returns-then-self-eq0 c =
    let m = c.args.self in
    let unit = c.unit_size-unit in
    (search rules, λ v u l e k. coded_none m c.args.mtu v u l k unit.result (unit.ensures.2 u e) (one_missing m.sps m.pps (⊎_elim inl (λ (x : (m.sps ≡ 0 → ⊥) × (m.pps ≡ 0)). inr x.1) c.then-self-eq0.either)))

pub returns-then-mtu-pair : goal.returns-then-mtu-pair
returns-then-mtu-pair c =
    let m = c.args.self in
    let unit = c.unit_size-unit in
    (search rules, λ v u l e k. coded_over m c.args.mtu v u l k unit.result (unit.ensures.2 u e) (both_there m.sps m.pps (omega arith) (omega arith)) c.if-mtu-pair.true)

pub returns : goal.returns
returns c =
    let m = c.args.self in
    let unit = c.unit_size-unit in
    (search rules, λ v u l e k. coded_sent m c.args.mtu v u l k unit.result (unit.ensures.2 u e) (both_there m.sps m.pps (omega arith) (omega arith)) c.if-mtu-pair.false)
