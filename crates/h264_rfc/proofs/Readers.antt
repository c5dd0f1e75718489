-- Readers that COMPLETE shuts out: two single units that differ in one octet must both be handed out, and be told apart. Assumes nothing.
use mathlib.Core.Path.{◌≡◌, sym, ap, ◌∙◌}
use mathlib.Core.Bool.{Bool, false}
use mathlib.Core.List.{List, [], ◌∷◌}
use mathlib.Core.Logic.{◌⊎◌, inl, inr}
use Prim.Native.Nat.{ℕ}
use native.Mathlib.Omega.{arith}
use lib.ListN.{get_or, replicate}
use Rattle.error.specs.Refusal.{Refusal}
use Rattle.error.specs.Said.{refused}
use Rattle.error.proofs.Refusing.{not_says}
use Rattle.rfc6184.specs.Sending.{Nal, octet, octets_of, single}
use Rattle.h264_rfc.specs.Reading.{Reader, fresh, handed_by, Hears, handed_as, Complete}

-- a unit of three octets
abbrev small : ℕ → Nal
small x = record { f = 0; nri = 2; type = 1; payload = x ∷ 0 ∷ [] }

abbrev outs : ℕ → List ℕ
outs i = replicate 7 0

-- a complete reader hands it out
hears_small : (read : Reader) → Complete read → (x : ℕ) → Hears read false (fresh []) outs (octets_of (small x) ∷ []) (handed_as false (small x ∷ []) ∷ [])
unfolding octets_of octet
hears_small read c x =
    c false [] outs (single (small x) ∷ [])
    (record { f_bit = omega arith; nri_bits = omega arith; type_bits = omega arith }, tt)
    (record { type = record { low = omega arith; high = omega arith }; long = inl (omega arith) }, tt)
    (record { short = (omega arith, tt); run = omega arith; gather_room = omega arith; out_room = λ i. omega arith }, tt)

-- "a reader that refuses all"
pub no_refuser : (read : Reader) →
    ((avc : Bool) (n : ℕ) (payload gather out : List ℕ) → (why : Refusal) × ((read avc n payload gather out).answer ≡ refused why)) →
    Complete read → ⊥
no_refuser read refuses c =
    let a = (hears_small read c 0).answered.0 in
    let w = refuses false 0 (octets_of (small 0)) [] (outs 0) in
    not_says (sym w.1 ∙ a.1)

-- a reader that hands out nothing, or always the same bytes
pub no_fixed_output : (bytes : List ℕ) (read : Reader) →
    ((avc : Bool) (n : ℕ) (payload gather out : List ℕ) →
    (handed_by (read avc n payload gather out) ≡ []) ⊎ (handed_by (read avc n payload gather out) ≡ bytes)) →
    Complete read → ⊥
unfolding octets_of octet
no_fixed_output bytes read always c =
    let zero_octet : 0 ≡ get_or bytes 5 0 = told 0 in
    let one_octet : 1 ≡ get_or bytes 5 0 = told 1 in
    omega arith
  where
    told : (x : ℕ) → x ≡ get_or bytes 5 0
    told x = by (always false 0 (octets_of (small x)) [] (outs 0))
      where
        handed : handed_by (read false 0 (octets_of (small x)) [] (outs 0)) ≡ handed_as false (small x ∷ [])
        handed = ap (λ (l : List (List ℕ)). get_or l 0 []) (hears_small read c x).handed

        by : (handed_by (read false 0 (octets_of (small x)) [] (outs 0)) ≡ []) ⊎ (handed_by (read false 0 (octets_of (small x)) [] (outs 0)) ≡ bytes) →
            x ≡ get_or bytes 5 0
        by (inl e) =
            let z : ◌≡◌ {A = ℕ} 1 0 = ap (λ (l : List ℕ). get_or l 3 0) (sym handed ∙ e) in
            absurd (omega arith)
        by (inr e) = ap (λ (l : List ℕ). get_or l 5 0) (sym handed ∙ e)
