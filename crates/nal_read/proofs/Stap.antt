-- A STAP-A's measure is that of its sizes, with 17 and 18 as its refusals. Assumes nothing.
use mathlib.Core.Path.{◌≡◌, refl, sym, ap, ◌∙◌}
use mathlib.Core.List.{List}
use Prim.Native.Nat.{ℕ, ◌-◌}
use lib.ListN.{length, take, drop}
use Rattle.error.specs.Refusal.{Refusal}
use Rattle.error.specs.Said.{Said, says, refused, said}
use Rattle.error.proofs.Refusing.{not_says}
use Rattle.wire.specs.Packets.{joined}
use Rattle.std.specs.Prelude.{Result, Ok, Err, MatchResult, IsErrAnd}
use Rattle.std.proofs.lemmas.Result.{err_from_is_err_and}
use Rattle.error.specs.declared.Error.{Error}
use Rattle.nal.specs.declared.Measured.{Measured}
use Rattle.nal.specs.declared.WrongSize.{WrongSize}
use Rattle.nal.specs.Said as sizes
use Rattle.nal.specs.Unpack.{Unpacked, right, past, lone, units_in}
use Rattle.nal.specs.Unpack as any
use Rattle.nal.proofs.Handing.{rest_of}
use Rattle.nal.proofs.Unpacking.{Units}
use Rattle.nal_read.specs.Said.{measure_of}
use Rattle.nal_read.specs.Unpack.{stap_said, unpack}

measure_by : (x : Unpacked Units) → stap_said (sizes.measure_of x) ≡ measure_of (stap_said x)
measure_by (right us) = refl
measure_by (past size left) = refl
measure_by lone = refl

-- from what the sizes behind the first byte give
pub measure_said_lem : (s : List ℕ) (m : Result Measured WrongSize) → sizes.measure_said m ≡ sizes.measure_of (any.unpack (take (length s - 1) (drop 1 s))) →
    stap_said (sizes.measure_said m) ≡ measure_of (unpack s)
unfolding unpack
measure_said_lem s m e =
    ap stap_said e
    ∙ ap (λ (l : List ℕ). stap_said (sizes.measure_of (any.unpack l))) (rest_of 1 s)
    ∙ measure_by (any.unpack (drop 1 s))

-- with the refusals in place of what is wrong
pub with_refusals : (m : Result Measured WrongSize) (r : Result Measured Error) →
    MatchResult m (λ x. r ≡ Ok x) (λ w. IsErrAnd r (λ e. said {A = Measured} (Err e) ≡ stap_said (sizes.measure_said (Err w)))) →
    said r ≡ stap_said (sizes.measure_said m)
with_refusals (Ok x) r e = rw e
with_refusals (Err w) r e = let p = err_from_is_err_and r e in rw p.1 p.2

-- ---- back

-- a measure is that of the sizes, which are then right
measured_by : (x : Unpacked Units) (m : Measured) → measure_of (stap_said x) ≡ says m → (sizes.measure_of x ≡ right m) × (stap_said x ≡ says (units_in x))
measured_by (right us) m e =
    let f : says (record { count = length us; bytes = length (joined us) }) ≡ says m = e in
    let same : record { count = length us; bytes = length (joined us) } ≡ m = cc in
    (ap right same, refl)
measured_by (past size left) m e = absurd (not_says e)
measured_by lone m e = absurd (not_says e)

pub measured : (s : List ℕ) (m : Measured) → measure_of (unpack s) ≡ says m →
    (sizes.measure_of (any.unpack (take (length s - 1) (drop 1 s))) ≡ right m)
    × (unpack s ≡ says (units_in (any.unpack (take (length s - 1) (drop 1 s)))))
unfolding unpack
measured s m e = rw (rest_of 1 s) (measured_by (any.unpack (drop 1 s)) m e)

-- the units of a STAP-A are those behind its first byte
pub sizes_right : (s : List ℕ) (us : Units) → unpack s ≡ says us → any.unpack (drop 1 s) ≡ right us
unfolding unpack
sizes_right s us e = go (any.unpack (drop 1 s)) e
  where
    go : (x : Unpacked Units) → stap_said x ≡ says us → x ≡ right us
    go (right vs) f =
        let g : says vs ≡ says us = f in
        let same : vs ≡ us = cc in
        ap right same
    go (past size left) f = absurd (not_says f)
    go lone f = absurd (not_says f)

-- a STAP-A that has no measure has no units
pub unmeasured : (x : Said Units) (r : Refusal) → measure_of x ≡ refused r → x ≡ refused r
unmeasured (says us) r e = absurd (not_says (sym e))
unmeasured (refused n) r e = let same : n ≡ r = cc in ap refused same
