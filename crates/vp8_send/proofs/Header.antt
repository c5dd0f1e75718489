-- The header's three forms: no id, an id in 7 bits, one in 15; and its size. Assumes nothing.
use mathlib.Core.Path.{◌≡◌, refl, ap}
use mathlib.Core.Bool.{Bool, true, false, cond}
use mathlib.Core.List.{[], ◌∷◌}
use Prim.Native.Nat.{◌+◌, ◌≤◌, ◌<◌}
use native.Mathlib.Omega.{arith}
use lib.Dec.{ltb, lit≤}
use lib.ListN.{length}
use borrow.Author.Tests.{lt-ltb, le-ltb}
use Rattle.wire.specs.Net.{be16}
use Rattle.vp8_send.specs.declared.Vp8Payloader.{Vp8Payloader}
use Rattle.vp8_send.specs.Send.{header_size, start_octet, descriptor_of}

module _ (v : Vp8Payloader) (start : Bool) where
  pub no_id : v.enable_picture_id ≡ false → descriptor_of v start ≡ start_octet start ∷ []
  unfolding descriptor_of
  no_id e = rw e

  pub id7 : v.enable_picture_id ≡ true → v.picture_id < 128 →
      descriptor_of v start ≡ (128 + start_octet start) ∷ 128 ∷ v.picture_id ∷ []
  unfolding descriptor_of
  id7 e h = rw (e, lt-ltb v.picture_id 128 h)

  pub id15 : v.enable_picture_id ≡ true → 128 ≤ v.picture_id →
      descriptor_of v start ≡ (128 + start_octet start) ∷ 128 ∷ be16 (32768 + v.picture_id)
  unfolding descriptor_of
  id15 e h = rw (e, le-ltb v.picture_id 128 h)

  pub length_descriptor : length (descriptor_of v start) ≡ header_size v
  unfolding descriptor_of header_size be16
  length_descriptor = by_cases v.enable_picture_id (ltb v.picture_id 128)
    where
      by_cases : (shown short : Bool) →
          length (cond shown ((128 + start_octet start) ∷ 128 ∷ cond short (v.picture_id ∷ []) (be16 (32768 + v.picture_id))) (start_octet start ∷ []))
          ≡ cond shown (cond short 3 4) 1
      by_cases true true = refl
      by_cases true false = refl
      by_cases false true = refl
      by_cases false false = refl

  -- where the id is shown, three bytes at least are written
  pub shown_length : v.enable_picture_id ≡ true → 3 ≤ length (descriptor_of v start)
  unfolding header_size
  shown_length e = rw (length_descriptor, e) (by_cases (ltb v.picture_id 128))
    where
      by_cases : (short : Bool) → 3 ≤ cond short 3 4
      by_cases true = lit≤ tt
      by_cases false = lit≤ tt

  pub length7 : v.enable_picture_id ≡ true → v.picture_id < 128 → length (descriptor_of v start) ≡ 3
  length7 e h = ap length (id7 e h)

  pub length15 : v.enable_picture_id ≡ true → 128 ≤ v.picture_id → length (descriptor_of v start) ≡ 4
  unfolding be16
  length15 e h = ap length (id15 e h)

-- 1 to 4 bytes
pub header_bounds : (v : Vp8Payloader) → (1 ≤ header_size v) × (header_size v ≤ 4)
unfolding header_size
header_bounds v = by_cases v.enable_picture_id (ltb v.picture_id 128)
  where
    by_cases : (shown short : Bool) → (1 ≤ cond shown (cond short 3 4) 1) × (cond shown (cond short 3 4) 1 ≤ 4)
    by_cases true true = (omega arith, omega arith)
    by_cases true false = (omega arith, omega arith)
    by_cases false true = (omega arith, omega arith)
    by_cases false false = (omega arith, omega arith)
