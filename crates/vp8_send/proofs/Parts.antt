-- A frame cut into parts: the first part and the others, how many they are, and that they make up the frame. Assumes nothing.
use mathlib.Core.Path.{◌≡◌, refl, sym, ap, ◌∙◌}
use mathlib.Core.Bool.{Bool, true, false}
use mathlib.Core.List.{List, [], ◌∷◌, ◌++◌, append-nil}
use Prim.Native.Nat.{ℕ, zero, suc, ◌+◌, ◌-◌, ◌*◌, ◌/◌, ◌≤◌, ◌<◌, min}
use native.Mathlib.Nat.{not-suc-le-zero, min-eq_left, div-eq_of_lt, div-eq-sub-div, suc-mul}
use native.Mathlib.Decide.{dec_le}
use native.Mathlib.Omega.{arith}
use lib.ListN.{length, take, drop, length-append, length-drop, take-append-drop, drop_of_length-le}
use lib.Seq.{take_all, take_at, drop_at}
use Rattle.wire.specs.Packets.{joined}
use Rattle.vp8_send.specs.declared.Vp8Payloader.{Vp8Payloader}
use Rattle.vp8_send.specs.Send.{header_size, parts_by, parts_of, headed}
use Rattle.vp8_send.proofs.Header.{length_descriptor}

pub parts_none : (fuel size : ℕ) (s : List ℕ) → length s ≤ 0 → parts_by fuel size s ≡ []
unfolding parts_by
parts_none zero size s h = refl
parts_none (suc fuel) size [] h = refl
parts_none (suc fuel) size (b ∷ s) h = absurd (not-suc-le-zero h)

pub parts_more : (fuel size : ℕ) (s : List ℕ) → 0 < length s → length s ≤ fuel →
    parts_by fuel size s ≡ take size s ∷ parts_by (fuel - 1) size (drop size s)
unfolding parts_by
parts_more fuel size [] h g = absurd (not-suc-le-zero h)
parts_more zero size (b ∷ s) h g = absurd (not-suc-le-zero g)
parts_more (suc fuel) size (b ∷ s) h g =
    let e : fuel ≡ suc fuel - 1 = omega arith in
    ap (λ (f : ℕ). take size (b ∷ s) ∷ parts_by f size (drop size (b ∷ s))) e

-- the next chunk is the first part, and what is left behind it are the others
chunk : (size : ℕ) (part behind : List ℕ) → length part ≡ min size (length (part ++ behind)) →
    (take size (part ++ behind) ≡ part) × (drop size (part ++ behind) ≡ behind)
chunk size part behind l = elim (dec_le size (length (part ++ behind))) [
  | yes h ↦ let whole : length part ≡ size = l ∙ min-eq_left h in (take_at part behind size whole, drop_at part behind size whole)
  | no h ↦ last behind (omega arith) (omega (arith, l, length-append part behind))
]
  where
    last : (b : List ℕ) → length (part ++ b) ≤ size → length b ≡ 0 → (take size (part ++ b) ≡ part) × (drop size (part ++ b) ≡ b)
    last [] short none = (take_all size (part ++ []) short ∙ append-nil part, drop_of_length-le (part ++ []) short)
    last (x ∷ b) short none = absurd (omega arith)

module _ (size : ℕ) (rest part behind : List ℕ) (e : rest ≡ part ++ behind) (l : length part ≡ min size (length rest)) where
  pub part_here : take size rest ≡ part
  part_here = ap (take size) e ∙ (chunk size part behind (l ∙ ap (λ (r : List ℕ). min size (length r)) e)).0

  pub part_behind : drop size rest ≡ behind
  part_behind = ap (drop size) e ∙ (chunk size part behind (l ∙ ap (λ (r : List ℕ). min size (length r)) e)).1

-- the parts make up the frame
pub joined_parts : (fuel size : ℕ) (s : List ℕ) → 0 < size → length s ≤ fuel → joined (parts_by fuel size s) ≡ s
unfolding parts_by
joined_parts zero size [] z h = refl
joined_parts zero size (b ∷ s) z h = absurd (not-suc-le-zero h)
joined_parts (suc fuel) size [] z h = refl
joined_parts (suc fuel) size (b ∷ s) z h =
    let l : length (drop size (b ∷ s)) ≡ length (b ∷ s) - size = length-drop size (b ∷ s) in
    ap (λ (r : List ℕ). take size (b ∷ s) ++ r) (joined_parts fuel size (drop size (b ∷ s)) z (omega arith))
    ∙ take-append-drop size (b ∷ s)

-- one part for each `size` bytes begun
div_more : (n size : ℕ) → 0 < size → size < n → (n - 1) / size ≡ (n - size - 1) / size + 1
div_more n size z h =
    let e : n - 1 - size ≡ n - size - 1 = omega arith in
    div-eq-sub-div z (omega arith) ∙ ap (λ (k : ℕ). k / size + 1) e

pub count_parts : (fuel size : ℕ) (s : List ℕ) → 0 < size → 0 < length s → length s ≤ fuel →
    length (parts_by fuel size s) ≡ (length s - 1) / size + 1
count_parts zero size s z p h = absurd (omega arith)
count_parts (suc fuel) size s z p h =
    let l : length (drop size s) ≡ length s - size = length-drop size s in
    let k : fuel ≡ suc fuel - 1 = omega arith in
    ap length (parts_more (suc fuel) size s p h ∙ ap (λ (f : ℕ). take size s ∷ parts_by f size (drop size s)) (sym k))
    ∙ elim (dec_le (length s) size) [
      | yes g ↦
          let none : length (parts_by fuel size (drop size s)) ≡ 0 = ap length (parts_none fuel size (drop size s) (omega arith)) in
          let first : (length s - 1) / size ≡ 0 = div-eq_of_lt (omega arith) in
          omega (arith, none, first)
      | no g ↦
          let more = count_parts fuel size (drop size s) z (omega arith) (omega arith) in
          let step = div_more (length s) size z (omega arith) in
          omega (arith, more ∙ ap (λ (n : ℕ). (n - 1) / size + 1) l, step)
    ]

-- ---- with their headers

pub length_headed : (v : Vp8Payloader) (start : Bool) (ps : List (List ℕ)) → length (headed v start ps) ≡ length ps
unfolding headed
length_headed v start [] = refl
length_headed v start (p ∷ ps) = ap suc (length_headed v false ps)

pub some_headed : (v : Vp8Payloader) (size : ℕ) (s : List ℕ) → 0 < size → 0 < length s → 0 < length (headed v true (parts_of size s))
some_headed v size s z some =
    let n = length_headed v true (parts_of size s) ∙ count_parts (length s) size s z some (omega arith) in
    omega arith

pub bytes_headed : (v : Vp8Payloader) (start : Bool) (ps : List (List ℕ)) →
    length (joined (headed v start ps)) ≡ length (joined ps) + length ps * header_size v
unfolding headed
bytes_headed v start [] = omega arith
bytes_headed v start (p ∷ ps) =
    let d = length_descriptor v start in
    let more = bytes_headed v false ps in
    let times : suc (length ps) * header_size v ≡ length ps * header_size v + header_size v = suc-mul (length ps) (header_size v) in
    simp length-append (omega arith)
