-- A joiner each of whose calls stands for a call of the joiner for any rule, reader and codec is, call after call, that joiner. Assumes
-- nothing.
use mathlib.Core.Path.{◌≡◌, refl, sym, ap, ap₂, subst, ◌∙◌}
use mathlib.Core.Bool.{Bool}
use mathlib.Core.List.{List, [], ◌∷◌, ◌++◌, map, map-map, map-append, map_congr_left}
use Prim.Native.Nat.{ℕ, suc}
use lib.ListN.{length}
use Rattle.error.specs.Refusal.{Refusal}
use Rattle.error.specs.Said.{Said, says, refused}
use Rattle.wire.specs.Each.{Each}
use Rattle.nal.specs.Fed.{prefixed}
use Rattle.sequence.specs.Joiner.{Parts, Now, Made, Answer, refuses, too_late, takes, is_taken, answers, final, handed_by, call}
use Rattle.sequence.specs.Joiner as any
use Rattle.joiner_step.specs.Run.{Units}
use Rattle.joiner_step.specs.Step.{accepted, late, Stepped}
use Rattle.joiner_step.specs.Step as step
use Rattle.joiner_step.specs.General.{Room, seen_by, as_bytes}
use Rattle.joiner_step.specs.Play.{steps, joiner_after, is_accepted, is_refused, handed_in, handed_out}

-- ---- what is seen of the answers

abbrev pub told : {J : Type 0} → Stepped J → Answer Refusal (List ℕ)
told st = seen_by st.answer st.out

module _ {J : Type 0} (avc : Bool) (sts : List (Stepped J)) (l : List (Answer Refusal Units)) (same : map told sts ≡ map (as_bytes avc) l) where
  -- what can be told of an answer call by call
  seen_as : {C : Type 0} (f : Said step.Answer → C) (g : Answer Refusal (List ℕ) → C) (h : Answer Refusal Units → C) →
      ((a : Said step.Answer) (out : List ℕ) → f a ≡ g (seen_by a out)) → ((a : Answer Refusal Units) → g (as_bytes avc a) ≡ h a) →
      map (λ (st : Stepped J). f st.answer) sts ≡ map h l
  seen_as f g h e d =
      map_congr_left {f = λ (st : Stepped J). f st.answer} {g = λ (st : Stepped J). g (told st)} {l = sts} (λ st there. e st.answer st.out)
      ∙ sym (map-map g told sts)
      ∙ ap (map g) same
      ∙ map-map g (as_bytes avc) l
      ∙ map_congr_left {f = λ (a : Answer Refusal Units). g (as_bytes avc a)} {g = h} {l = l} (λ a there. d a)

  pub accepted_as : map (λ (st : Stepped J). is_accepted st.answer) sts ≡ map is_taken l
  accepted_as = seen_as is_accepted is_taken is_taken one other
    where
      one : (a : Said step.Answer) (out : List ℕ) → is_accepted a ≡ is_taken (seen_by a out)
      one (says (accepted a)) out = refl
      one (says late) out = refl
      one (refused r) out = refl

      other : (a : Answer Refusal Units) → is_taken (as_bytes avc a) ≡ is_taken a
      other (refuses r) = refl
      other too_late = refl
      other (takes count out) = refl

  pub refused_as : map (λ (st : Stepped J). is_refused st.answer) sts ≡ map any.is_refused l
  refused_as = seen_as is_refused any.is_refused any.is_refused one other
    where
      one : (a : Said step.Answer) (out : List ℕ) → is_refused a ≡ any.is_refused (seen_by a out)
      one (says (accepted a)) out = refl
      one (says late) out = refl
      one (refused r) out = refl

      other : (a : Answer Refusal Units) → any.is_refused (as_bytes avc a) ≡ any.is_refused a
      other (refuses r) = refl
      other too_late = refl
      other (takes count out) = refl

handed_told : {J : Type 0} (sts : List (Stepped J)) → handed_out sts ≡ any.handed_out (map told sts)
handed_told [] = refl
handed_told (st ∷ sts) = ap₂ (λ (l r : List (List ℕ)). l ++ r) (one st.answer) (handed_told sts)
  where
    one : (a : Said step.Answer) → handed_in a st.out ≡ handed_by (seen_by a st.out)
    one (says (accepted a)) = refl
    one (says late) = refl
    one (refused r) = refl

handed_bytes : (avc : Bool) (l : List (Answer Refusal Units)) → any.handed_out (map (as_bytes avc) l) ≡ map (prefixed avc) (any.handed_out l)
handed_bytes avc [] = refl
handed_bytes avc (a ∷ l) =
    ap₂ (λ (x y : List (List ℕ)). x ++ y) (one a) (handed_bytes avc l) ∙ sym (map-append (prefixed avc) (handed_by a) (any.handed_out l))
  where
    one : (a : Answer Refusal Units) → handed_by (as_bytes avc a) ≡ map (prefixed avc) (handed_by a)
    one (refuses r) = refl
    one too_late = refl
    one (takes count out) = refl

-- what was handed out: the bytes of the units that the other joiner hands out
pub handed_as : {J : Type 0} (avc : Bool) (sts : List (Stepped J)) (l : List (Answer Refusal Units)) → map told sts ≡ map (as_bytes avc) l →
    handed_out sts ≡ map (prefixed avc) (any.handed_out l)
handed_as avc sts l same = handed_told sts ∙ ap any.handed_out same ∙ handed_bytes avc l

-- ---- call after call

abbrev pub rooms : ℕ → (ℕ → List ℕ) → ℕ → Room
rooms len outs i = record { gather = len; out = length (outs i) }

-- `standing` is the state that a record and a gather buffer stand for, `Good` what must be so of them
module _ {J P C R : Type 0} (p : Parts (List ℕ) Room Refusal P C R Units) (avc : Bool) (standing : J → List ℕ → Now p) (Good : J → List ℕ → Type 0) where
  -- what a call left stands for what a call of the other joiner says
  pub record Stands (len : ℕ) (st : Stepped J) (m : Made p) : Type 0 where
    pub state : standing st.joiner st.gather ≡ m.state
    pub answer : told st ≡ as_bytes avc m.answer
    pub good : Good st.joiner st.gather
    pub same_length : length st.gather ≡ len

  module _ (step : J → List ℕ → List ℕ → List ℕ → Stepped J)
      (one : (j : J) (packet gather out : List ℕ) → Good j gather → Stands (length gather) (step j packet gather out) (call p (record { gather = length gather; out = length out }) (standing j gather) packet)) where
    pub record Plays (len : ℕ) (j : J) (gather : List ℕ) (outs : ℕ → List ℕ) (bytes : List (List ℕ)) : Type 0 where
      pub tells : map told (steps step j gather outs bytes) ≡ map (as_bytes avc) (answers p (rooms len outs) (standing j gather) bytes)
      pub each : Each (λ (st : Stepped J). Good st.joiner st.gather × (length st.gather ≡ len)) (steps step j gather outs bytes)
      -- the record after the calls, and the gather buffer then
      pub last : List ℕ
      pub state : standing (joiner_after step j gather outs bytes) last ≡ final p (rooms len outs) (standing j gather) bytes
      pub good : Good (joiner_after step j gather outs bytes) last
      pub same_length : length last ≡ len

    pub plays : (bytes : List (List ℕ)) (j : J) (gather : List ℕ) (outs : ℕ → List ℕ) → Good j gather → Plays (length gather) j gather outs bytes
    plays [] j gather outs good = record { tells = refl; each = tt; last = gather; state = refl; good = good; same_length = refl }
    plays (b ∷ bytes) j gather outs good =
        on h
        (subst (λ (len : ℕ). Plays len now.joiner now.gather (λ i. outs (suc i)) bytes) h.same_length
        (plays bytes now.joiner now.gather (λ i. outs (suc i)) h.good))
      where
        len : ℕ
        len = length gather

        now : Stepped J
        now = step j b gather (outs 0)

        later : ℕ → List ℕ
        later i = outs (suc i)

        h : Stands len now (call p (rooms len outs 0) (standing j gather) b)
        h = one j b gather (outs 0) good

        on : Stands len now (call p (rooms len outs 0) (standing j gather) b) → Plays len now.joiner now.gather later bytes → Plays len j gather outs (b ∷ bytes)
        on h l =
            record {
              tells =
                  ap₂ (λ (a : Answer Refusal (List ℕ)) (rest : List (Answer Refusal (List ℕ))). a ∷ rest) h.answer
                  (l.tells ∙ ap (λ (s : Now p). map (as_bytes avc) (answers p (rooms len later) s bytes)) h.state);
              each = ((h.good, h.same_length), l.each);
              last = l.last;
              state = l.state ∙ ap (λ (s : Now p). final p (rooms len later) s bytes) h.state;
              good = l.good;
              same_length = l.same_length;
            }
