-- A formed descriptor is lawful or strays, since L and T are bits; and no octets are those of both, since they have one reading.
-- Assumes nothing.
use mathlib.Core.Path.{◌≡◌, subst}
use mathlib.Core.Logic.{◌⊎◌, inl, inr}
use mathlib.Core.List.{List, ◌++◌}
use Prim.Native.Nat.{ℕ}
use native.Mathlib.Decide.{dec_le}
use native.Mathlib.Omega.{arith}
use Rattle.rfc7741.specs.Descriptor.{Descriptor, plain, extended, flag_l, flag_t, octets, Formed, Lawful, Strays}
use Rattle.rfc7741.proofs.Fields.{flag_l<, flag_t<}
use Rattle.rfc7741.proofs.Unambiguous.{unambiguous}

pub lawful_or_strays : (d : Descriptor) → Formed d → Lawful d ⊎ Strays d
lawful_or_strays (plain d) h = inl (record { formed = h; rules = tt })
lawful_or_strays (extended d e) h =
    let l = flag_l< e.tl0picidx in
    let t = flag_t< e.layers in
    elim (dec_le (flag_l e.tl0picidx) (flag_t e.layers)) [
      | yes w ↦ inl (record { formed = h; rules = omega arith })
      | no w ↦ inr (record { formed = h; broken = record { l = omega arith; t = omega arith } })
    ]

-- no descriptor is both ..
not_both : (d : Descriptor) → Lawful d → Strays d → ⊥
not_both (plain d) h w = w.broken
not_both (extended d e) h w = omega (arith, h.rules, w.broken.l, w.broken.t)

-- .. and no octets are those of a lawful one and of one that strays, whatever stands behind each
pub never_both : (d e : Descriptor) (p q : List ℕ) → Lawful d → Strays e → octets d ++ p ≡ octets e ++ q → ⊥
never_both d e p q h w same = not_both e (subst Lawful (unambiguous d e p q h.formed w.formed same).0 h) w
