-- The units of a frame that count have what every unit has, and those that go out what every coded unit has. Assumes nothing.
use mathlib.Core.Bool.{Bool, true, false, cond, ◌&&◌, ◌||◌}
use mathlib.Core.List.{List, [], ◌∷◌}
use Prim.Native.Nat.{ℕ, ◌≤◌}
use native.Mathlib.Omega.{arith}
use lib.Dec.{leb}
use lib.ListN.{length}
use Rattle.rfc6184.specs.Sending.{Each}
use Rattle.rfc6184.proofs.Each.{each_by}
use Rattle.h264_put.specs.declared.fate.Fate.{Fate}
use Rattle.h264_put.specs.declared.fate.Fate.TheVariants.{Empty, Dropped, Sps, Pps, Coded}
use Rattle.annexb.specs.Units.{units, no_units, units_at}
use Rattle.h264_put.specs.Groups.{fate_of}
use Rattle.h264.specs.Conformance.{Octets, is_coded, goes_out, those_that}
use Rattle.h264.specs.Frames.{WhereCoded}
use Rattle.annexb.proofs.Within.{units_short, units_octets}

-- ---- the units that count

-- what every unit has
counted : (P : List ℕ → Type 0) (mtu : ℕ) (frame : List ℕ) → Each P (units frame) → Each P (units_at mtu frame)
unfolding units_at
counted P mtu frame w = go (no_units mtu (length frame))
  where
    go : (none : Bool) → Each P (cond none [] (units frame))
    go true = tt
    go false = w

units_at_short : (mtu : ℕ) (frame : List ℕ) → Each (λ (u : List ℕ). length u ≤ length frame) (units_at mtu frame)
units_at_short mtu frame = counted (λ (u : List ℕ). length u ≤ length frame) mtu frame (units_short frame)

pub units_at_octets : (mtu : ℕ) (frame : List ℕ) → Octets frame → Each Octets (units_at mtu frame)
units_at_octets mtu frame o = counted Octets mtu frame (units_octets frame o)

-- ---- the units that go out

those_coded : (P : List ℕ → Type 0) (mtu : ℕ) (us : List (List ℕ)) → Each (λ (u : List ℕ). WhereCoded P (fate_of u) u) us →
    Each P (those_that (goes_out mtu) us)
those_coded P mtu [] w = tt
those_coded P mtu (u ∷ us) w = go (fate_of u) (leb (length u) mtu || leb 3 mtu) w.0 (those_coded P mtu us w.1)
  where
    go : (k : Fate) (small : Bool) → WhereCoded P k u → Each P (those_that (goes_out mtu) us) →
        Each P (cond (is_coded k && small) (u ∷ those_that (goes_out mtu) us) (those_that (goes_out mtu) us))
    go Empty small h rest = rest
    go Dropped small h rest = rest
    go Sps small h rest = rest
    go Pps small h rest = rest
    go Coded true h rest = (h, rest)
    go Coded false h rest = rest

coded_both : (P Q : List ℕ → Type 0) (k : Fate) (u : List ℕ) → WhereCoded P k u → Q u → WhereCoded (λ (u : List ℕ). P u × Q u) k u
coded_both P Q Empty u w h = tt
coded_both P Q Dropped u w h = tt
coded_both P Q Sps u w h = tt
coded_both P Q Pps u w h = tt
coded_both P Q Coded u w h = (w, h)

each_coded_both : (P Q : List ℕ → Type 0) (us : List (List ℕ)) → Each (λ (u : List ℕ). WhereCoded P (fate_of u) u) us → Each Q us →
    Each (λ (u : List ℕ). WhereCoded (λ (u : List ℕ). P u × Q u) (fate_of u) u) us
each_coded_both P Q [] w h = tt
each_coded_both P Q (u ∷ us) w h = (coded_both P Q (fate_of u) u w.0 h.0, each_coded_both P Q us w.1 h.1)

-- of a frame of `most` bytes at most
pub those_short : (P : List ℕ → Type 0) (mtu most : ℕ) (frame : List ℕ) → length frame ≤ most →
    Each (λ (u : List ℕ). WhereCoded P (fate_of u) u) (units_at mtu frame) →
    Each (λ (u : List ℕ). P u × (length u ≤ most)) (those_that (goes_out mtu) (units_at mtu frame))
those_short P mtu most frame h w =
    let us : List (List ℕ) = units_at mtu frame in
    those_coded (λ (u : List ℕ). P u × (length u ≤ most)) mtu us
    (each_coded_both P (λ (u : List ℕ). length u ≤ most) us w
    (each_by (λ (u : List ℕ). length u ≤ most) (λ (u : List ℕ). length u ≤ length frame) (λ u k. omega (arith, h)) us (units_at_short mtu frame)))
