-- A unit cut into pieces is a group: the first piece starts a run, each other one goes on, and the last hands the unit out.
-- Assumes nothing.
use Rattle.std.proofs.Common.{List, [], ◌∷◌, ◌++◌, map}
use Rattle.wire.specs.Each.{Each}
use Rattle.sequence.specs.Group.{Group}
use Rattle.sequence.specs.Codec.{Codec, Does, HandsOut, Quiet, Owes, Cuts}

-- the pieces put behind what is gathered, one after the other, then the last
abbrev pub gathered_to : {A : Type 0} → (A → A → A) → A → List A → A → A
gathered_to on before [] last = on before last
gathered_to on before (s ∷ between) last = gathered_to on (on before s) between last

module _ {K E P C Run O : Type 0} (codec : Codec K E P C Run O) (Enough : K → Type 0) {A : Type 0} (on : A → A → A) (gathering : A → Run)
    (start middle end : A → P) (unit : A → O) (Piece Fits : A → Type 0)
    (cuts : Cuts codec Enough on gathering start middle end unit Piece Fits) where
  abbrev pub others : List A → A → List P
  others between last = map middle between ++ (end last ∷ [])

  abbrev pub cut_group : A → List A → A → Group P O
  cut_group first between last =
      record { first = start first; others = others between last; handed = unit (gathered_to on first between last) }

  quiet : (between : List A) (last : A) → Each Piece between → Piece last → Quiet codec Enough (others between last)
  quiet [] last ps p = (cuts.end_quiet last p, tt)
  quiet (s ∷ between) last ps p = (cuts.middle_quiet s ps.0, quiet between last ps.1 p)

  -- what fits at the end fits before
  fits_before : (before : A) (between : List A) (last : A) → Fits (gathered_to on before between last) → Fits before
  fits_before before [] last fits = cuts.shorter before last fits
  fits_before before (s ∷ between) last fits = cuts.shorter before s (fits_before (on before s) between last fits)

  -- behind a packet that leads from one run to another and hands nothing out
  behind : (run next : Run) (p : P) (between : List A) (last : A) (o : O) →
      Does codec Enough run p next [] → HandsOut codec Enough next (others between last) o → HandsOut codec Enough run (p ∷ others between last) o
  behind run next p [] last o d h = (next, d, h)
  behind run next p (s ∷ between) last o d h = (next, d, h)

  goes_on : (before : A) (between : List A) (last : A) → Each Piece between → Piece last → Fits (gathered_to on before between last) →
      HandsOut codec Enough (gathering before) (others between last) (unit (gathered_to on before between last))
  goes_on before [] last ps p fits = cuts.ends before last p fits
  goes_on before (s ∷ between) last ps p fits =
      behind (gathering before) (gathering (on before s)) (middle s) between last (unit (gathered_to on (on before s) between last))
      (cuts.continues before s ps.0 (fits_before (on before s) between last fits))
      (goes_on (on before s) between last ps.1 p fits)

  pub cut_owes : (first : A) (between : List A) (last : A) → Piece first → Each Piece between → Piece last →
      Fits (gathered_to on first between last) → Owes codec Enough (cut_group first between last)
  cut_owes first between last p ps q fits =
      record {
        hands =
            λ run. behind run (gathering first) (start first) between last (unit (gathered_to on first between last))
            (cuts.starts run first p (fits_before first between last fits)) (goes_on first between last ps q fits);
        quiet = quiet between last ps q;
      }
