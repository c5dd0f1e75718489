-- Octets are laid out by a plan: from the flags and the octets behind them, each optional field can be told, where there are octets
-- enough. Assumes nothing.
use mathlib.Core.Path.{◌≡◌, refl, ap, ap₂, ◌∙◌}
use mathlib.Core.List.{List, [], ◌∷◌, ◌++◌}
use mathlib.Core.Option.{Option, none, some}
use Prim.Native.Nat.{ℕ, zero, suc, ◌+◌, ◌-◌, ◌*◌, ◌/◌, ◌%◌, ◌≤◌, ◌<◌}
use native.Mathlib.Nat.{not-suc-le-zero}
use native.Mathlib.Decide.{dec_lt}
use native.Mathlib.Omega.{arith}
use lib.ListN.{length}
use Rattle.rfc7741.specs.Descriptor.{Octets, PictureId, absent, short, long, Layers, neither, only_t, only_k, both_tk, flag_i, flag_l, flag_t, flag_k, first_octet, id_octets, tl0_octets, indices_octet, layers_octets, FormedRequired, FormedId, FormedTl0, FormedIndices, FormedLayers}
use Rattle.rfc7741.proofs.Fields.{required_at, indices_at}

-- a field's plan at the front of s: formed, with this flag, and octets behind it
pub record IdAt (flag : ℕ) (s : List ℕ) : Type 0 where
  pub plan : PictureId
  pub behind : List ℕ
  pub formed : FormedId plan
  pub says : flag_i plan ≡ flag
  pub laid : s ≡ id_octets plan ++ behind
  pub rest : Octets behind

pub record Tl0At (flag : ℕ) (s : List ℕ) : Type 0 where
  pub plan : Option ℕ
  pub behind : List ℕ
  pub formed : FormedTl0 plan
  pub says : flag_l plan ≡ flag
  pub laid : s ≡ tl0_octets plan ++ behind
  pub rest : Octets behind

pub record LayersAt (t k : ℕ) (s : List ℕ) : Type 0 where
  pub plan : Layers
  pub behind : List ℕ
  pub formed : FormedLayers plan
  pub says_t : flag_t plan ≡ t
  pub says_k : flag_k plan ≡ k
  pub laid : s ≡ layers_octets plan ++ behind

-- an octet is its bits: four of them, and the number of the last four
pub bits : (b : ℕ) → b ≡ b / 128 * 128 + b / 64 % 2 * 64 + b / 32 % 2 * 32 + b / 16 % 2 * 16 + b % 16
bits b =
    sum b (b / 16) (b / 32) (b / 64) (b / 128) (b / 16 % 2) (b / 32 % 2) (b / 64 % 2) (b % 16) (omega arith) (omega arith) (omega arith) (omega arith)
  where
    sum : (b q16 q32 q64 q128 m16 m32 m64 r : ℕ) → b ≡ q16 * 16 + r → q16 ≡ q32 * 2 + m16 → q32 ≡ q64 * 2 + m32 → q64 ≡ q128 * 2 + m64 →
        b ≡ q128 * 128 + m64 * 64 + m32 * 32 + m16 * 16 + r
    sum b q16 q32 q64 q128 m16 m32 m64 r e16 e32 e64 e128 = omega arith

-- the first octet, X set
pub required_laid : (b : ℕ) → 128 ≤ b → b < 256 → FormedRequired (required_at b) × (b ≡ first_octet 1 (required_at b))
required_laid b x h =
    let one : b / 128 ≡ 1 = omega arith in
    let last : b % 16 ≡ b / 8 % 2 * 8 + b % 8 = omega arith in (
      record { r = omega arith; n = omega arith; s = omega arith; r2 = omega arith; pid = omega arith },
      bits b ∙ sum (b / 128) (b / 64 % 2) (b / 32 % 2) (b / 16 % 2) (b % 16) (b / 8 % 2) (b % 8) one last,
    )
  where
    sum : (x r n s l r2 pid : ℕ) → x ≡ 1 → l ≡ r2 * 8 + pid →
        x * 128 + r * 64 + n * 32 + s * 16 + l ≡ 1 * 128 + r * 64 + n * 32 + s * 16 + r2 * 8 + pid
    sum x r n s l r2 pid e f = omega arith

pub id_laid : (flag : ℕ) (s : List ℕ) → flag < 2 → 2 ≤ length s → Octets s → IdAt flag s
id_laid zero s f h o = record { plan = absent; behind = s; formed = tt; says = refl; laid = refl; rest = o }
id_laid (suc n) [] f h o = absurd (omega arith)
id_laid (suc n) (b ∷ []) f h o = absurd (omega arith)
id_laid (suc n) (b ∷ c ∷ s) f h o =
    let one : 1 ≡ suc n = omega arith in
    elim (dec_lt b 128) [
      | yes m ↦ record { plan = short b; behind = c ∷ s; formed = m; says = one; laid = refl; rest = o.1 }
      | no m ↦
          let v : ℕ = (b - 128) * 256 + c in
          let high : b ≡ 128 + v / 256 = omega (arith, o.1.0) in
          let low : c ≡ v % 256 = omega (arith, o.1.0) in
          let small : v < 32768 = omega (arith, o.0, o.1.0) in
          record { plan = long v; behind = s; formed = small; says = one; laid = ap₂ (λ (x y : ℕ). x ∷ y ∷ s) high low; rest = o.1.1 }
    ]

pub tl0_laid : (flag : ℕ) (s : List ℕ) → flag < 2 → 0 < length s → Octets s → Tl0At flag s
tl0_laid zero s f h o = record { plan = none; behind = s; formed = tt; says = refl; laid = refl; rest = o }
tl0_laid (suc n) [] f h o = absurd (not-suc-le-zero h)
tl0_laid (suc n) (b ∷ s) f h o =
    let one : 1 ≡ suc n = omega arith in
    record { plan = some b; behind = s; formed = o.0; says = one; laid = refl; rest = o.1 }

indices_laid : (b : ℕ) → b < 256 → FormedIndices (indices_at b) × (b ≡ indices_octet (indices_at b))
indices_laid b h = (record { tid = omega arith; y = omega arith; keyidx = omega arith }, omega arith)

pub layers_laid : (t k : ℕ) (s : List ℕ) → t < 2 → k < 2 → 0 < length s → Octets s → LayersAt t k s
layers_laid t k [] ht hk h o = absurd (not-suc-le-zero h)
layers_laid zero zero (b ∷ s) ht hk h o =
    record { plan = neither; behind = b ∷ s; formed = tt; says_t = refl; says_k = refl; laid = refl }
layers_laid (suc t) zero (b ∷ s) ht hk h o =
    let i = indices_laid b o.0 in
    let one : 1 ≡ suc t = omega arith in
    record { plan = only_t (indices_at b); behind = s; formed = i.0; says_t = one; says_k = refl; laid = ap (λ (x : ℕ). x ∷ s) i.1 }
layers_laid zero (suc k) (b ∷ s) ht hk h o =
    let i = indices_laid b o.0 in
    let one : 1 ≡ suc k = omega arith in
    record { plan = only_k (indices_at b); behind = s; formed = i.0; says_t = refl; says_k = one; laid = ap (λ (x : ℕ). x ∷ s) i.1 }
layers_laid (suc t) (suc k) (b ∷ s) ht hk h o =
    let i = indices_laid b o.0 in
    let one : 1 ≡ suc t = omega arith in
    let one' : 1 ≡ suc k = omega arith in
    record { plan = both_tk (indices_at b); behind = s; formed = i.0; says_t = one; says_k = one'; laid = ap (λ (x : ℕ). x ∷ s) i.1 }
