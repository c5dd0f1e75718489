-- What a payload does to the buffers: what a record then keeps of the run, and how many bytes were handed out. `R` is what a record keeps of
-- a run. Assumes nothing.
use Rattle.std.specs.Prelude.{Bool, List, ℕ}
use Rattle.error.specs.Said.{Said, says, refused}
use Rattle.nal.specs.Fed.{Fed, Laid, lay_both}

-- units handed out, or why there are none, with the run and what is kept of the gather buffer
abbrev pub handing : {Run : Type 0} → Run → List ℕ → Said (List (List ℕ)) → Said (Fed Run)
handing run kept (says units) = says (record { run = run; kept = kept; handed = units })
handing run kept (refused r) = refused r

pub record RanOn (R : Type 0) : Type 0 where
  pub run : R
  pub bytes : ℕ

abbrev pub with_run : {R : Type 0} → R → Said ℕ → Said (RanOn R)
with_run run (says bytes) = says (record { run = run; bytes = bytes })
with_run run (refused r) = refused r

-- `recorded` says what a record keeps of a run
abbrev pub lay_run : {Run R : Type 0} → (recorded : Run → R) → Bool → List ℕ → List ℕ → Said (Fed Run) → Laid (RanOn R)
lay_run recorded avc gather out (says f) =
    record {
      answer = with_run (recorded f.run) (lay_both avc gather out f.kept f.handed).answer;
      gather = (lay_both avc gather out f.kept f.handed).gather;
      out = (lay_both avc gather out f.kept f.handed).out;
    }
lay_run recorded avc gather out (refused r) = record { answer = refused r; gather = gather; out = out }
