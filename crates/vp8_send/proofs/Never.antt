-- The Rust tests whether the picture id is 0 before it tests whether it is under 128. The first test decides nothing: 0 is under 128.
-- Assumes nothing.
--
-- codecs/vp8/mod.rs, `payload`:
--
--     let using_header_size = if self.enable_picture_id {
--         if self.picture_id == 0 || self.picture_id < 128 { VP8_HEADER_SIZE + 2 } else { VP8_HEADER_SIZE + 3 }
--     } else {
--         VP8_HEADER_SIZE
--     };
use mathlib.Core.Path.{◌≡◌, refl}
use mathlib.Core.Bool.{Bool, true, false, cond, ◌||◌}
use Prim.Native.Nat.{ℕ}
use native.Mathlib.Omega.{arith}
use lib.Dec.{ltb, eqb}
use borrow.Author.Tests.{lt-ltb, eqb-true}
use Rattle.vp8_send.specs.declared.Vp8Payloader.{Vp8Payloader}
use Rattle.vp8_send.specs.Send.{header_size}

-- the header's size by the Rust's tests
abbrev pub rust_size : Vp8Payloader → ℕ
rust_size v = cond v.enable_picture_id (cond (eqb v.picture_id 0 || ltb v.picture_id 128) 3 4) 1

-- where the first test holds, so does the second
pub zero_is_under_128 : (id : ℕ) → eqb id 0 ≡ true → ltb id 128 ≡ true
zero_is_under_128 id e =
    let zero : id ≡ 0 = eqb-true id 0 e in
    lt-ltb id 128 (omega arith)

-- so that with it and without it the size is the same, for every id and both settings
pub sizes_alike : (v : Vp8Payloader) → rust_size v ≡ header_size v
unfolding header_size
sizes_alike v = go (eqb v.picture_id 0) refl
  where
    go : (zero : Bool) → eqb v.picture_id 0 ≡ zero →
        ◌≡◌ {A = ℕ} (cond v.enable_picture_id (cond (zero || ltb v.picture_id 128) 3 4) 1)
        (cond v.enable_picture_id (cond (ltb v.picture_id 128) 3 4) 1)
    go true e = rw (zero_is_under_128 v.picture_id e)
    go false e = refl
