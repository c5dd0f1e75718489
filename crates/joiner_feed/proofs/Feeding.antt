-- Where no run is open afterwards and nothing is gathered, the gather buffer stays and the output's answer decides. Assumes nothing.
use mathlib.Core.Path.{◌≡◌, refl, ap, ◌∙◌}
use mathlib.Core.Bool.{Bool}
use mathlib.Core.List.{List, []}
use native.Mathlib.Omega.{arith}
use Prim.Native.Nat.{ℕ}
use Rattle.std.specs.Prelude.{Option, None}
use Rattle.error.specs.Said.{Said, says, refused}
use Rattle.nal.specs.Fed.{OutLaid, lay_units, Laid}
use Rattle.nal.specs.Ran.{handing, RanOn, with_run, lay_run}
use Rattle.nal.proofs.Running.{run_beside, nothing_out, units_heard}
use Rattle.joiner_step.specs.Run.{Units, none, hands}
use Rattle.joiner_feed.specs.declared.Run.{Run}
use Rattle.joiner_feed.specs.Content.{fed_after}
use Rattle.joiner_feed.specs.H264.{whole_said}
use Rattle.joiner_feed.specs.Ran.{recorded, run_of, lay_does}

-- nothing is handed out either
pub run_idle : (avc : Bool) (gather out : List ℕ) →
    lay_does avc gather out (says (hands []))
    ≡ record { answer = says (record { run = None; bytes = 0 }); gather = gather; out = out }
run_idle avc gather out =
    run_beside recorded avc gather out 0 none [] (omega arith) (omega arith)
    ∙ ap (λ (l : OutLaid). record { answer = with_run (recorded none) l.answer; gather = gather; out = l.out }) (nothing_out out)

-- units by themselves, or why there are none
pub units_alone : (avc : Bool) (run : Option Run) (time : ℕ) (gather out : List ℕ) (x : Said Units) (handed : Said ℕ) (out' : List ℕ) →
    ◌≡◌ {A = OutLaid} (record { answer = handed; out = out' }) (lay_units avc out x) →
    ◌≡◌ {A = Laid (RanOn (Option Run))} (record { answer = with_run None handed; gather = gather; out = out' })
    (lay_does avc gather out (fed_after (run_of run gather) time (whole_said x)))
units_alone avc run time gather out x handed out' l =
    units_heard recorded avc gather out 0 none x (with_run None handed) handed out' refl l (omega arith) (omega arith)
    ∙ go x
  where
    go : (y : Said Units) → lay_run recorded avc gather out (handing none [] y) ≡ lay_does avc gather out (fed_after (run_of run gather) time (whole_said y))
    go (says units) = refl
    go (refused r) = refl
