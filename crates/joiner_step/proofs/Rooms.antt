-- A call that hands out one group at most has room for it where it has room for each. Assumes nothing.
use mathlib.Core.Path.{◌≡◌, ap, ◌∙◌}
use mathlib.Core.Bool.{Bool, false}
use mathlib.Core.List.{List, [], ◌∷◌, append-nil}
use Prim.Native.Nat.{ℕ, ◌≤◌}
use native.Mathlib.Omega.{arith}
use lib.Dec.{ltb}
use lib.ListN.{length}
use borrow.Author.Tests.{le-ltb}
use Rattle.nal.specs.Fed.{prefixed}
use Rattle.sequence.proofs.Feeding.{AtMost}
use Rattle.joiner_step.specs.Run.{Units}
use Rattle.joiner_step.specs.Choice.{Choice}
use Rattle.joiner_step.specs.General.{Room, Enough, too_much}

-- units that are handed out in `largest` bytes at most
abbrev pub Small : Bool → ℕ → Units → Type 0
Small avc largest us = length (prefixed avc us) ≤ largest

module _ {P C N : Type 0} (c : Choice P C N) (most largest : ℕ) where
  pub small_enough : (k : Room) (out : List Units) → Enough most largest k → AtMost (Small c.avc largest) 1 out → too_much c k out ≡ false
  small_enough k [] enough a = le-ltb k.out 0 (omega arith)
  small_enough k (us ∷ []) enough a =
      ap (λ (l : List ℕ). ltb k.out (length l)) (append-nil (prefixed c.avc us))
      ∙ le-ltb k.out (length (prefixed c.avc us)) (omega (arith, a.each.0, enough.out))
  small_enough k (us ∷ vs ∷ out) enough a = absurd (omega (arith, a.few))
