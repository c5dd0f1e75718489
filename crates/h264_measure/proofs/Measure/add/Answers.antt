-- One law for each fate.
use mathlib.Core.Bool.{Bool, true, false, ◌||◌}
use mathlib.Core.Logic.{⊎_elim}
use mathlib.Core.Path.{◌≡◌, refl, sym, ap, ◌∙◌}
use Prim.Native.Nat.{ℕ}
use lib.Dec.{ltb}
use lib.ListN.{length}
use Rattle.h264_measure.proofs.Measures.{measured_empty, measured_dropped, measured_sps, measured_pps}
use Rattle.h264_put.proofs.UnitFates.{coded_some}
use borrow.Author.Rules.{rules}
use Rattle.h264_measure.proofs.Measure.add.Goals as goal

pub returns-in-Empty : goal.returns-in-Empty
returns-in-Empty c =
    let a = c.args in
    let is = sym c.fate_of.ensures in (
      search rules,
      λ v l. ⊎_elim (λ e. measured_empty a.self a.mtu v a.unit.now l (is ∙ e)) (λ e. measured_dropped a.self a.mtu v a.unit.now l (is ∙ e)) c.in-Empty.is,
    )

-- a set is over the limit where one before it was, or where it is too long
over_before : (before : Bool) (len : ℕ) → before ≡ true → before ≡ (before || ltb 1024 len)
over_before before len e = e ∙ sym (ap (λ (t : Bool). t || ltb 1024 len) e)

over_now : (before : Bool) (len : ℕ) → before ≡ false → ltb 1024 len ≡ (before || ltb 1024 len)
over_now before len e = sym (ap (λ (t : Bool). t || ltb 1024 len) e)

pub returns-then-self : goal.returns-then-self
returns-then-self c =
    let a = c.args in
    (search rules, λ v l. measured_sps a.self a.mtu v a.unit.now l (sym c.fate_of.ensures ∙ c.in-Sps.is) _ (over_before a.self.long (length a.unit.now) c.if-self.true))

pub returns-else-self : goal.returns-else-self
returns-else-self c =
    let a = c.args in
    (search rules, λ v l. measured_sps a.self a.mtu v a.unit.now l (sym c.fate_of.ensures ∙ c.in-Sps.is) _ (over_now a.self.long (length a.unit.now) c.if-self.false))

pub returns-then-self-2 : goal.returns-then-self-2
returns-then-self-2 c =
    let a = c.args in
    (search rules, λ v l. measured_pps a.self a.mtu v a.unit.now l (sym c.fate_of.ensures ∙ c.in-Pps.is) _ (over_before a.self.long (length a.unit.now) c.if-self-2.true))

pub returns-else-self-2 : goal.returns-else-self-2
returns-else-self-2 c =
    let a = c.args in
    (search rules, λ v l. measured_pps a.self a.mtu v a.unit.now l (sym c.fate_of.ensures ∙ c.in-Pps.is) _ (over_now a.self.long (length a.unit.now) c.if-self-2.false))
