-- What a payload does to both buffers, from what it does to one. Assumes nothing.
use mathlib.Core.Path.{◌≡◌, refl, sym, ap, ◌∙◌}
use mathlib.Core.Bool.{Bool}
use mathlib.Core.List.{List, [], ◌∷◌, ◌++◌, append-nil}
use mathlib.Core.Logic.{◌⊎◌, inl, inr}
use Prim.Native.Nat.{ℕ, ◌≤◌, ◌<◌}
use native.Mathlib.Decide.{dec_le}
use native.Mathlib.Nat.{lt_of_not-le}
use native.Mathlib.Omega.{arith}
use lib.ListN.{length, take}
use lib.Seq.{length-take-le}
use Rattle.error.specs.Said.{Said, says, refused}
use Rattle.wire.specs.Part.{splice}
use Rattle.wire.proofs.Part.{splice_nothing, splice_from}
use Rattle.nal.specs.Fed.{prefixed, OutLaid, lay_bytes, lay_units, GatherLaid, lay_gather, gather_after, Laid, lay_both, ongoing, finished}
use Rattle.nal.specs.Ran.{handing, RanOn, with_run, lay_run}
use Rattle.nal.proofs.Handing.{bytes_fit, gather_long, gather_fits, both_long, both_by}

pub nothing_out : (out : List ℕ) → lay_bytes out [] ≡ record { answer = says 0; out = out }
nothing_out out = bytes_fit out [] (omega arith) ∙ ap (λ (o : List ℕ). record { answer = says 0; out = o }) (splice_nothing out 0)

-- what stands in front of the gather buffer, put there again
own_part : (gather : List ℕ) (n : ℕ) → n ≤ length gather → splice gather 0 (take n gather) ≡ gather
own_part gather n h =
    ap (splice gather 0) (sym (append-nil (take n gather))) ∙ splice_from gather n [] h ∙ splice_nothing gather n

stays : (gather : List ℕ) (n : ℕ) → n ≤ length gather → (answer : Said ℕ) → gather_after gather (take n gather) answer ≡ gather
stays gather n h (says k) = own_part gather n h
stays gather n h (refused r) = refl

-- bytes gathered, and nothing handed out: the gather buffer's answer decides
gathered_only : (avc : Bool) (gather out bytes : List ℕ) →
    lay_both avc gather out bytes []
    ≡ record { answer = (lay_gather gather bytes).answer; gather = (lay_gather gather bytes).gather; out = out }
gathered_only avc gather out bytes = by (dec_le (length bytes) (length gather)) (dec_le (length bytes) 16777215)
  where
    long : (length gather < length bytes) ⊎ (16777215 < length bytes) →
        lay_both avc gather out bytes []
        ≡ record { answer = (lay_gather gather bytes).answer; gather = (lay_gather gather bytes).gather; out = out }
    long h =
        both_long avc gather out bytes [] h
        ∙ sym (ap (λ (l : GatherLaid). record { answer = l.answer; gather = l.gather; out = out }) (gather_long gather bytes h))

    by : Dec (length bytes ≤ length gather) → Dec (length bytes ≤ 16777215) →
        lay_both avc gather out bytes []
        ≡ record { answer = (lay_gather gather bytes).answer; gather = (lay_gather gather bytes).gather; out = out }
    by (yes h) (yes g) =
        both_by avc gather out bytes [] (record { answer = says 0; out = out }) h g (nothing_out out)
        ∙ sym (ap (λ (l : GatherLaid). record { answer = l.answer; gather = l.gather; out = out }) (gather_fits gather bytes h g))
    by (yes h) (no g) = long (inr (lt_of_not-le g))
    by (no h) (yes g) = long (inl (lt_of_not-le h))
    by (no h) (no g) = long (inl (lt_of_not-le h))

-- `recorded` says what a record keeps of a run
module _ {Run R : Type 0} (recorded : Run → R) (avc : Bool) (gather out : List ℕ) where
  -- units handed out, where the first n bytes gathered stay: the output's answer decides
  pub run_beside : (n : ℕ) (run : Run) (units : List (List ℕ)) → n ≤ length gather → n ≤ 16777215 →
      lay_run recorded avc gather out (says (record { run = run; kept = take n gather; handed = units }))
      ≡ record {
        answer = with_run (recorded run) (lay_bytes out (prefixed avc units)).answer;
        gather = gather;
        out = (lay_bytes out (prefixed avc units)).out;
      }
  run_beside n run units h g =
      let m : length (take n gather) ≡ n = length-take-le n gather h in
      ap (λ (x : Laid ℕ). record { answer = with_run (recorded run) x.answer; gather = x.gather; out = x.out })
      (both_by avc gather out (take n gather) units (lay_bytes out (prefixed avc units)) (omega arith) (omega arith) refl)
      ∙ ap (λ (l : List ℕ). record { answer = with_run (recorded run) (lay_bytes out (prefixed avc units)).answer; gather = l; out = (lay_bytes out (prefixed avc units)).out })
      (stays gather n h (lay_bytes out (prefixed avc units)).answer)

  -- the answers of `gather_on` and `finish`, and those of units handed out, with the run beside them, are those of the whole; `k` is what
  -- the code keeps of the run

  pub ongoing_heard : (run : Run) (bytes : List ℕ) (k : R) (answer : Said (RanOn R)) (handed : Said ℕ) (gather' : List ℕ) →
      answer ≡ with_run k handed →
      ◌≡◌ {A = GatherLaid} (record { answer = handed; gather = gather' }) (lay_gather gather bytes) →
      k ≡ recorded run →
      ◌≡◌ {A = Laid (RanOn R)} (record { answer = answer; gather = gather'; out = out }) (lay_run recorded avc gather out (says (ongoing run bytes)))
  ongoing_heard run bytes k answer handed gather' e l f =
      ap (λ (x : Said (RanOn R)). record { answer = x; gather = gather'; out = out }) e
      ∙ ap (λ (x : GatherLaid). record { answer = with_run k x.answer; gather = x.gather; out = out }) l
      ∙ ap (λ (m : R). record { answer = with_run m (lay_gather gather bytes).answer; gather = (lay_gather gather bytes).gather; out = out }) f
      ∙ sym
      (ap (λ (x : Laid ℕ). record { answer = with_run (recorded run) x.answer; gather = x.gather; out = x.out }) (gathered_only avc gather out bytes))

  pub finished_heard : (run : Run) (head bytes : List ℕ) (answer : Said (RanOn R)) (handed : Said ℕ) (gather' out' : List ℕ) →
      answer ≡ with_run (recorded run) handed →
      ◌≡◌ {A = Laid ℕ} (record { answer = handed; gather = gather'; out = out' }) (lay_both avc gather out bytes ((head ++ bytes) ∷ [])) →
      ◌≡◌ {A = Laid (RanOn R)} (record { answer = answer; gather = gather'; out = out' }) (lay_run recorded avc gather out (says (finished run head bytes)))
  finished_heard run head bytes answer handed gather' out' e l =
      ap (λ (x : Said (RanOn R)). record { answer = x; gather = gather'; out = out' }) e
      ∙ ap (λ (x : Laid ℕ). record { answer = with_run (recorded run) x.answer; gather = x.gather; out = x.out }) l

  -- units, or why there are none, where the first n bytes gathered stay
  pub units_heard : (n : ℕ) (run : Run) (x : Said (List (List ℕ))) (answer : Said (RanOn R)) (handed : Said ℕ) (out' : List ℕ) →
      answer ≡ with_run (recorded run) handed →
      ◌≡◌ {A = OutLaid} (record { answer = handed; out = out' }) (lay_units avc out x) →
      n ≤ length gather → n ≤ 16777215 →
      ◌≡◌ {A = Laid (RanOn R)} (record { answer = answer; gather = gather; out = out' }) (lay_run recorded avc gather out (handing run (take n gather) x))
  units_heard n run x answer handed out' e l h g =
      ap (λ (y : Said (RanOn R)). record { answer = y; gather = gather; out = out' }) e
      ∙ ap (λ (y : OutLaid). record { answer = with_run (recorded run) y.answer; gather = gather; out = y.out }) l
      ∙ by x
    where
      by : (y : Said (List (List ℕ))) →
          ◌≡◌ {A = Laid (RanOn R)} (record { answer = with_run (recorded run) (lay_units avc out y).answer; gather = gather; out = (lay_units avc out y).out })
          (lay_run recorded avc gather out (handing run (take n gather) y))
      by (says us) = sym (run_beside n run us h g)
      by (refused r) = refl
