-- A NAL unit and its octets say each other: no field is lost, and every octet has fields. Assumes nothing.
use mathlib.Core.Path.{◌≡◌, ap}
use mathlib.Core.List.{List, ◌∷◌}
use Prim.Native.Nat.{ℕ, ◌+◌, ◌/◌, ◌%◌, ◌<◌}
use native.Mathlib.Omega.{arith}
use lib.ListN.{length}
use Rattle.rfc6184.specs.Sending.{Nal, octet, octets_of, nal_of, fu_header, Formed, FormedNal}

pub octet_below : (f nri type : ℕ) → Formed f nri type → octet f nri type < 256
unfolding octet
octet_below f nri type w = omega arith

-- every octet is one of fields that fit
pub formed_fields : (b : ℕ) → b < 256 → Formed (b / 128) (b / 32 % 4) (b % 32)
formed_fields b h = record { f_bit = omega arith; nri_bits = omega arith; type_bits = omega arith }

pub octet_of_fields : (b : ℕ) → b < 256 → octet (b / 128) (b / 32 % 4) (b % 32) ≡ b
unfolding octet
octet_of_fields b h = omega arith

pub octets_of_nal : (b : ℕ) (s : List ℕ) → b < 256 → octets_of (nal_of b s) ≡ b ∷ s
unfolding octets_of
octets_of_nal b s h = ap (λ (x : ℕ). x ∷ s) (octet_of_fields b h)

-- and the fields are told by the octet
pub fields_of_octet : (f nri type : ℕ) → Formed f nri type →
    (octet f nri type / 128 ≡ f) × (octet f nri type / 32 % 4 ≡ nri) × (octet f nri type % 32 ≡ type)
unfolding octet
fields_of_octet f nri type w = (omega arith, omega arith, omega arith)

pub nal_of_octets : (u : Nal) → FormedNal u → nal_of (octet u.f u.nri u.type) u.payload ≡ u
nal_of_octets u w i =
    let e = fields_of_octet u.f u.nri u.type w in
    record { f = e.0 i; nri = e.1 i; type = e.2 i; payload = u.payload }

pub length_octets : (u : Nal) → length (octets_of u) ≡ 1 + length u.payload
unfolding octets_of
length_octets u = omega arith

-- the FU header tells its four fields
pub fields_of_header : (s e r type : ℕ) → s < 2 → e < 2 → r < 2 → type < 32 →
    (fu_header s e r type / 128 ≡ s)
    × (fu_header s e r type / 64 % 2 ≡ e)
    × (fu_header s e r type / 32 % 2 ≡ r)
    × (fu_header s e r type % 32 ≡ type)
fields_of_header s e r type hs he hr ht = (omega arith, omega arith, omega arith, omega arith)
