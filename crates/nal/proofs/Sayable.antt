-- Whatever a payload does, each refusal that the definitions give is one of `Error`. Assumes nothing.
use mathlib.Core.Path.{refl}
use mathlib.Core.Bool.{Bool}
use mathlib.Core.List.{List}
use Prim.Native.Nat.{ℕ}
use lib.Dec.{ltb}
use lib.ListN.{length}
use Rattle.error.specs.Said.{Said, says, refused, refuse}
use Rattle.error.proofs.Only.{Sayable, passed, tested}
use Rattle.wire.specs.Part.{splice}
use Rattle.nal.specs.Fed.{Fed, prefixed, OutLaid, lay_bytes, too_long, gather_after, Laid, lay_both}
use Rattle.nal.specs.Ran.{handing, with_run, lay_run}
use Rattle.nal.proofs.Unpacking.{Units}

pub handing_sayable : {Run : Type 0} (run : Run) (kept : List ℕ) (x : Said Units) → Sayable x → Sayable (handing run kept x)
handing_sayable run kept (says units) e = refl
handing_sayable run kept (refused r) e = passed {A = Units} {r = r} e

-- ---- the buffers: 6, then 5

bytes_sayable : (out bytes : List ℕ) → Sayable (lay_bytes out bytes).answer
unfolding lay_bytes
bytes_sayable out bytes =
    tested (λ (l : OutLaid). l.answer) (record { answer = refuse 5; out = out })
    (record { answer = says (length bytes); out = splice out 0 bytes }) (ltb (length out) (length bytes)) refl refl

pub both_sayable : (avc : Bool) (gather out kept : List ℕ) (handed : Units) → Sayable (lay_both avc gather out kept handed).answer
unfolding lay_both
both_sayable avc gather out kept handed =
    let l : OutLaid = lay_bytes out (prefixed avc handed) in
    tested (λ (x : Laid ℕ). x.answer) (record { answer = refuse 6; gather = gather; out = out })
    (record { answer = l.answer; gather = gather_after gather kept l.answer; out = l.out }) (too_long gather kept) refl
    (bytes_sayable out (prefixed avc handed))

with_run_sayable : {R : Type 0} (run : R) (x : Said ℕ) → Sayable x → Sayable (with_run run x)
with_run_sayable run (says bytes) e = refl
with_run_sayable run (refused r) e = passed {A = ℕ} {r = r} e

pub run_sayable : {Run R : Type 0} (recorded : Run → R) (avc : Bool) (gather out : List ℕ) (x : Said (Fed Run)) → Sayable x →
    Sayable (lay_run recorded avc gather out x).answer
run_sayable recorded avc gather out (says f) e =
    with_run_sayable (recorded f.run) (lay_both avc gather out f.kept f.handed).answer (both_sayable avc gather out f.kept f.handed)
run_sayable {Run} recorded avc gather out (refused r) e = passed {A = Fed Run} {r = r} e
