-- The records of the in-place entry as the machine holds them: the one value of a joiner, of an answer, of a slice and of a Step, each of
-- its MIR type, by the laws that `rattle check` makes of a declared type. No field of a Joiner is named. Assumes nothing.
use Prim.Native.Nat.{ℕ}
use mathlib.Core.List.{List, [], ◌∷◌}
use lib.Dec.{T as Holds}
use lib.ListN.{length}
use seplogic.Ra.Ura.{Ura}
use mir.Val.{Val, has_ty, WT}
use types.Logic.{Logic}
use denote.RattleType.{RattleType}
use denote.Param.{layout}
use denote.Laws.{Is}
use denote.Ref.{Bor}
use denote.Slice.{slice_val}
use denote.Struct.Laws as LL
use denote.Enum.Declared.{Declared}
use denote.Enum.Laws as EL
use Rattle.std.specs.Prelude.{Result}
use Rattle.std.specs.contracts.result.Result as R
use Rattle.std.proofs.result.Result.TheLaws as R'
use Rattle.error.specs.declared.Error.{Error}
use Rattle.error.specs.contracts.Error as E
use Rattle.error.proofs.Error.TheLaws as E'
use Rattle.joiner.specs.declared.Joiner.{Joiner}
use Rattle.joiner.specs.declared.Joined.{Joined}
use Rattle.joiner.specs.declared.Step.{Step}
use Rattle.joiner.specs.contracts.Joiner as J
use Rattle.joiner.proofs.Joiner.TheLaws as J'
use Rattle.joiner.specs.contracts.Joined as A
use Rattle.joiner.proofs.Joined.TheLaws as A'
use Rattle.joiner.specs.contracts.Step as S
use Rattle.joiner.proofs.Step.TheLaws as S'

abbrev pub val : Joiner → Val
val = LL.val J.the_type J'.the_laws

abbrev pub vals : Joiner → List Val
vals h = val h ∷ []

-- an answer's type
abbrev pub answer_row : RattleType
answer_row = R.the_row A.the_row E.the_row

abbrev answer_type : Declared
answer_type = R.the_type A.the_row E.the_row

abbrev answer_laws : EL.Laws answer_type
answer_laws = R'.the_laws A.the_row E.the_row A'.the_row_laws E'.the_row_laws A'.the_told E'.the_told

abbrev pub answer : Result Joined Error → Val
answer = EL.val answer_type answer_laws

abbrev pub slice : Bor (List ℕ) → Val
slice x = slice_val x.ref_ptr (length x.now)

abbrev pub step : Joiner → Result Joined Error → Step
step h r = record { joiner = h; answer = r }

abbrev pub step_val : Joiner → Result Joined Error → Val
step_val h r = LL.val S.the_type S'.the_laws (step h r)

-- what whoever holds a Step knows of its joiner and of its answer
pub parts : (r : Step) (w : Val) → Is S.the_row r (w ∷ []) → Is J.the_row r.joiner (vals r.joiner) × Is answer_row r.answer (answer r.answer ∷ [])
parts r w is =
    let fields = LL.owed S.the_type S'.the_laws r (w ∷ []) is in
    (fields.0, fields.1.0)

-- and what whoever makes one owes
pub made : (h : Joiner) (r : Result Joined Error) → Is J.the_row h (vals h) → Is answer_row r (answer r ∷ []) → Is S.the_row (step h r) (step_val h r ∷ [])
made h r is-h is_r = LL.owes S.the_type S'.the_laws (step h r) (is-h, (is_r, tt))

-- what is held has its MIR type
module _ {M : Type 1} {𝓤 : Ura M} (𝓛 : Logic 𝓤) where
  pub typed : (h : Joiner) → Is J.the_row h (vals h) → Holds (has_ty J'.mir (val h)) × WT (val h)
  typed h is = ((LL.lawful J.the_type J'.the_laws 𝓛).typed h (vals h) is).0

  pub typed_step : (r : Step) (w : Val) → Is S.the_row r (w ∷ []) → Holds (has_ty S'.mir w) × WT w
  typed_step r w is = ((LL.lawful S.the_type S'.the_laws 𝓛).typed r (w ∷ []) is).0

  pub typed_answer : (r : Result Joined Error) (w : Val) → Is answer_row r (w ∷ []) → Holds (has_ty (layout answer_row) w) × WT w
  typed_answer r w is = ((EL.lawful answer_type answer_laws 𝓛 tt).typed r (w ∷ []) is).0
