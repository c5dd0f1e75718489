-- The fields of a descriptor stand in its octets where the figure has them: each is had back by a division and a remainder.
-- Assumes nothing.
use mathlib.Core.Path.{◌≡◌, refl, ap, ◌∙◌}
use mathlib.Core.List.{List, ◌++◌, append_assoc}
use mathlib.Core.Option.{Option, none, some}
use Prim.Native.Nat.{ℕ, ◌+◌, ◌*◌, ◌/◌, ◌%◌, ◌<◌, ◌≤◌}
use native.Mathlib.Omega.{arith}
use lib.Dec.{lit<, lit≤}
use lib.ListN.{length}
use Rattle.rfc7741.specs.Descriptor.{Required, PictureId, absent, short, long, Indices, Layers, neither, only_t, only_k, both_tk, Extension, flag_i, flag_l, flag_t, flag_k, first_octet, extension_octet, id_octets, tl0_octets, indices_octet, layers_octets, optional_octets, FormedRequired, FormedIndices, FormedExtension}

-- the fields that the first octet says, and those of the octet of T and K
abbrev pub required_at : ℕ → Required
required_at b = record { r = b / 64 % 2; n = b / 32 % 2; s = b / 16 % 2; r2 = b / 8 % 2; pid = b % 8 }

abbrev pub indices_at : ℕ → Indices
indices_at b = record { tid = b / 64; y = b / 32 % 2; keyidx = b % 32 }

-- the first octet says X and its fields
pub record Firsts (extended : ℕ) (d : Required) (b : ℕ) : Type 0 where
  pub x : b / 128 ≡ extended
  pub r : b / 64 % 2 ≡ d.r
  pub n : b / 32 % 2 ≡ d.n
  pub s : b / 16 % 2 ≡ d.s
  pub r2 : b / 8 % 2 ≡ d.r2
  pub pid : b % 8 ≡ d.pid

pub firsts : (x : ℕ) (d : Required) → x < 2 → FormedRequired d → Firsts x d (first_octet x d)
firsts x d hx h =
    record {
      x = omega (arith, h.r, h.n, h.s, h.r2, h.pid);
      r = omega (arith, h.r, h.n, h.s, h.r2, h.pid);
      n = omega (arith, h.r, h.n, h.s, h.r2, h.pid);
      s = omega (arith, h.r, h.n, h.s, h.r2, h.pid);
      r2 = omega (arith, h.r, h.n, h.s, h.r2, h.pid);
      pid = omega (arith, h.r, h.n, h.s, h.r2, h.pid);
    }

-- a flag is a bit
flag_i< : (p : PictureId) → flag_i p < 2
flag_i< absent = lit< tt
flag_i< (short p) = lit< tt
flag_i< (long p) = lit< tt

pub flag_l< : (l : Option ℕ) → flag_l l < 2
flag_l< none = lit< tt
flag_l< (some index) = lit< tt

pub flag_t< : (l : Layers) → flag_t l < 2
flag_t< neither = lit< tt
flag_t< (only_t o) = lit< tt
flag_t< (only_k o) = lit< tt
flag_t< (both_tk o) = lit< tt

flag_k< : (l : Layers) → flag_k l < 2
flag_k< neither = lit< tt
flag_k< (only_t o) = lit< tt
flag_k< (only_k o) = lit< tt
flag_k< (both_tk o) = lit< tt

-- the extension octet says the flags
pub record Flags (e : Extension) (b : ℕ) : Type 0 where
  pub i : b / 128 ≡ flag_i e.picture_id
  pub l : b / 64 % 2 ≡ flag_l e.tl0picidx
  pub t : b / 32 % 2 ≡ flag_t e.layers
  pub k : b / 16 % 2 ≡ flag_k e.layers
  pub rsv : b % 16 ≡ e.rsv

four : (i l t k rsv : ℕ) → i < 2 → l < 2 → t < 2 → k < 2 → rsv < 16 → (b : ℕ) → b ≡ i * 128 + l * 64 + t * 32 + k * 16 + rsv →
    (b / 128 ≡ i) × (b / 64 % 2 ≡ l) × (b / 32 % 2 ≡ t) × (b / 16 % 2 ≡ k) × (b % 16 ≡ rsv)
four i l t k rsv hi hl ht hk hr b e = (omega arith, omega arith, omega arith, omega arith, omega arith)

pub flags : (e : Extension) → FormedExtension e → Flags e (extension_octet e)
flags e h =
    let all =
    four (flag_i e.picture_id) (flag_l e.tl0picidx) (flag_t e.layers) (flag_k e.layers) e.rsv (flag_i< e.picture_id)
    (flag_l< e.tl0picidx) (flag_t< e.layers) (flag_k< e.layers) h.rsv (extension_octet e) refl in
    record { i = all.0; l = all.1; t = all.2; k = all.3; rsv = all.4 }

-- the octet of T and K says its three parts
pub record IndexParts (o : Indices) (b : ℕ) : Type 0 where
  pub tid : b / 64 ≡ o.tid
  pub y : b / 32 % 2 ≡ o.y
  pub keyidx : b % 32 ≡ o.keyidx

pub index_parts : (o : Indices) → FormedIndices o → IndexParts o (indices_octet o)
index_parts o h =
    record {
      tid = omega (arith, h.tid, h.y, h.keyidx);
      y = omega (arith, h.tid, h.y, h.keyidx);
      keyidx = omega (arith, h.tid, h.y, h.keyidx);
    }

-- the optional fields stand one behind the other, each in front of what is behind it
pub apart : (e : Extension) (s : List ℕ) →
    optional_octets e ++ s ≡ id_octets e.picture_id ++ (tl0_octets e.tl0picidx ++ (layers_octets e.layers ++ s))
apart e s =
    append_assoc (id_octets e.picture_id) (tl0_octets e.tl0picidx ++ layers_octets e.layers) s
    ∙ ap (λ (r : List ℕ). id_octets e.picture_id ++ r) (append_assoc (tl0_octets e.tl0picidx) (layers_octets e.layers) s)

-- a PictureID takes two octets at most, TL0PICIDX one
pub id_size : (i : PictureId) → length (id_octets i) ≤ 2
id_size absent = lit≤ tt
id_size (short n) = lit≤ tt
id_size (long n) = lit≤ tt

pub tl0_size : (l : Option ℕ) → length (tl0_octets l) ≤ 1
tl0_size none = lit≤ tt
tl0_size (some index) = lit≤ tt
