-- What goes out for a frame is what goes out for the units that an encoder wrote into it. An empty frame or mtu 0 gives nothing and
-- saves nothing. Assumes nothing.
use mathlib.Core.Path.{◌≡◌, refl, ap, ap₂, ◌∙◌}
use mathlib.Core.List.{List, [], ◌∷◌}
use mathlib.Core.Bool.{Bool, cond, ◌||◌, or-true}
use Prim.Native.Nat.{ℕ, ◌<◌}
use native.Mathlib.Omega.{arith}
use lib.Dec.{eqb}
use lib.ListN.{length}
use borrow.Author.Tests.{ne_eqb}
use Rattle.rfc6184.specs.Sending.{Each}
use Rattle.annexb.specs.Units.{units, units_at}
use Rattle.annexb.specs.AnnexB.{Prefixed, written, Apart, units_written}
use Rattle.annexb.proofs.Written.{units_found, frame_some}
use Rattle.h264_put.specs.Groups.{Saved, keep_all, groups_of}
use Rattle.h264.specs.Conformance.{units_in, goes_out, those_that}
use Rattle.h264.proofs.LeftOut.{left_out_lem}

-- the units that count are those written
pub units_written_lem : (mtu end : ℕ) (c : Prefixed) (cs : List Prefixed) → 0 < mtu → Each (λ (x : Prefixed). Apart x.unit) (c ∷ cs) →
    units_at mtu (written end (c ∷ cs)) ≡ units_written end (c ∷ cs)
unfolding units_at
units_written_lem mtu end c cs h p =
    let frame : List ℕ = written end (c ∷ cs) in
    ap₂ (λ (a b : Bool). cond (a || b) [] (units frame)) (ne_eqb (length frame) 0 (frame_some end c cs)) (ne_eqb mtu 0 (λ e. omega arith))
    ∙ units_found end c cs p

-- what goes out for a frame: of the units written, all that are not left out
pub frame_sent : (mtu : ℕ) (v : Saved) (end : ℕ) (c : Prefixed) (cs : List Prefixed) → 0 < mtu → Each (λ (x : Prefixed). Apart x.unit) (c ∷ cs) →
    units_in (groups_of mtu v (units_at mtu (written end (c ∷ cs)))) ≡ those_that (goes_out mtu) (units_written end (c ∷ cs))
frame_sent mtu v end c cs h p =
    left_out_lem mtu v (units_at mtu (written end (c ∷ cs))) ∙ ap (those_that (goes_out mtu)) (units_written_lem mtu end c cs h p)

-- "An empty frame or mtu 0 gives no packets and saves nothing."
pub empty_frame : (mtu : ℕ) (v : Saved) → (groups_of mtu v (units_at mtu []) ≡ []) × (keep_all v (units_at mtu []) ≡ v)
unfolding units_at
empty_frame mtu v = (refl, refl)

pub mtu_zero : (v : Saved) (frame : List ℕ) → (groups_of 0 v (units_at 0 frame) ≡ []) × (keep_all v (units_at 0 frame) ≡ v)
unfolding units_at
mtu_zero v frame =
    let none : units_at 0 frame ≡ [] = ap (λ (b : Bool). cond b [] (units frame)) (or-true (eqb (length frame) 0)) in
    (ap (groups_of 0 v) none, ap (keep_all v) none)
