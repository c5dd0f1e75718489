-- Each refusal of a STAP-A is one of `Error`: 17 and 18 are. Assumes nothing.
use mathlib.Core.Path.{refl}
use mathlib.Core.List.{List}
use Prim.Native.Nat.{ℕ}
use lib.ListN.{drop}
use Rattle.error.proofs.Only.{Sayable}
use Rattle.nal.specs.Unpack.{Unpacked, right, past, lone}
use Rattle.nal.specs.Unpack as any
use Rattle.nal_read.specs.Unpack.{stap_said, unpack}

stap_sayable : (x : Unpacked (List (List ℕ))) → Sayable (stap_said x)
stap_sayable (right units) = refl
stap_sayable (past size left) = refl
stap_sayable lone = refl

pub unpack_sayable : (s : List ℕ) → Sayable (unpack s)
unfolding unpack
unpack_sayable s = stap_sayable (any.unpack (drop 1 s))
