-- UNAMBIGUOUS: two formed descriptors with the same octets, whatever stands behind each, are the same descriptor, and the same stands
-- behind them. It holds because the octets can be read back, field by field, without knowing where they end. Assumes nothing.
use mathlib.Core.Path.{◌≡◌, refl, sym, ap, ◌∙◌}
use mathlib.Core.Bool.{Bool, true, false, cond}
use mathlib.Core.List.{List, [], ◌∷◌, ◌++◌}
use mathlib.Core.Option.{Option, none, some}
use Prim.Native.Nat.{ℕ, ◌+◌, ◌-◌, ◌*◌, ◌/◌, ◌%◌, ◌<◌}
use native.Mathlib.Omega.{arith}
use lib.Dec.{eqb, leb, lit<}
use borrow.Author.Tests.{le-leb, lt-leb}
use Rattle.rfc7741.specs.Descriptor.{Required, PictureId, absent, short, long, Indices, Layers, neither, only_t, only_k, both_tk, Extension, Descriptor, plain, extended, flag_i, flag_l, flag_t, flag_k, first_octet, id_octets, tl0_octets, indices_octet, layers_octets, optional_octets, octets, FormedRequired, FormedId, FormedIndices, FormedLayers, FormedExtension, Formed}
use Rattle.rfc7741.proofs.Fields.{required_at, indices_at, firsts, flags, index_parts, apart}

-- ---- a decoder, one for each field: the field's flag and the octets, to the field and the octets behind it

decode_m : Bool → ℕ → List ℕ → PictureId × List ℕ
decode_m false b s = (short b, s)
decode_m true b [] = (absent, [])
decode_m true b (c ∷ s) = (long ((b - 128) * 256 + c), s)

decode_id : ℕ → List ℕ → PictureId × List ℕ
decode_id flag [] = (absent, [])
decode_id flag (b ∷ s) = cond (eqb flag 1) (decode_m (leb 128 b) b s) (absent, b ∷ s)

decode_tl0 : ℕ → List ℕ → Option ℕ × List ℕ
decode_tl0 flag [] = (none, [])
decode_tl0 flag (b ∷ s) = cond (eqb flag 1) (some b, s) (none, b ∷ s)

decode_layers : ℕ → ℕ → List ℕ → Layers × List ℕ
decode_layers t k [] = (neither, [])
decode_layers t k (b ∷ s) =
    cond (eqb t 1) (cond (eqb k 1) (both_tk (indices_at b), s) (only_t (indices_at b), s))
    (cond (eqb k 1) (only_k (indices_at b), s) (neither, b ∷ s))

id_back : (p : PictureId) (s : List ℕ) → FormedId p → decode_id (flag_i p) (id_octets p ++ s) ≡ (p, s)
unfolding decode_id decode_m
id_back absent [] h = refl
id_back absent (b ∷ s) h = refl
id_back (short p) s h = ap (λ (t : Bool). decode_m t p s) (lt-leb 128 p h)
id_back (long p) s h =
    let e : (128 + p / 256 - 128) * 256 + p % 256 ≡ p = omega arith in
    ap (λ (t : Bool). decode_m t (128 + p / 256) (p % 256 ∷ s)) (le-leb 128 (128 + p / 256) (omega arith))
    ∙ ap (λ (k : ℕ). (long k, s)) e

tl0_back : (l : Option ℕ) (s : List ℕ) → decode_tl0 (flag_l l) (tl0_octets l ++ s) ≡ (l, s)
unfolding decode_tl0
tl0_back none [] = refl
tl0_back none (b ∷ s) = refl
tl0_back (some index) s = refl

indices_back : (o : Indices) → FormedIndices o → indices_at (indices_octet o) ≡ o
indices_back o h = let p = index_parts o h in λ i. record { tid = p.tid i; y = p.y i; keyidx = p.keyidx i }

layers_back : (l : Layers) (s : List ℕ) → FormedLayers l → decode_layers (flag_t l) (flag_k l) (layers_octets l ++ s) ≡ (l, s)
unfolding decode_layers
layers_back neither [] h = refl
layers_back neither (b ∷ s) h = refl
layers_back (only_t o) s h = ap (λ (o' : Indices). (only_t o', s)) (indices_back o h)
layers_back (only_k o) s h = ap (λ (o' : Indices). (only_k o', s)) (indices_back o h)
layers_back (both_tk o) s h = ap (λ (o' : Indices). (both_tk o', s)) (indices_back o h)

-- ---- the whole descriptor, read back

required_back : (x : ℕ) (d : Required) → x < 2 → FormedRequired d → required_at (first_octet x d) ≡ d
required_back x d hx h =
    let f = firsts x d hx h in
    λ i. record { r = f.r i; n = f.n i; s = f.s i; r2 = f.r2 i; pid = f.pid i }

-- the optional fields, each with the octets behind it, from the four flags
decode_optional : ℕ → ℕ → ℕ → ℕ → ℕ → List ℕ → Extension × List ℕ
decode_optional i l t k rsv s =
    let id = decode_id i s in
    let tl0 = decode_tl0 l id.1 in
    let layers = decode_layers t k tl0.1 in
    (record { picture_id = id.0; tl0picidx = tl0.0; layers = layers.0; rsv = rsv }, layers.1)

optional_back : (e : Extension) (s : List ℕ) → FormedExtension e →
    decode_optional (flag_i e.picture_id) (flag_l e.tl0picidx) (flag_t e.layers) (flag_k e.layers) e.rsv (optional_octets e ++ s)
    ≡ (e, s)
unfolding decode_optional
optional_back e s h =
    let behind : List ℕ = layers_octets e.layers ++ s in
    rw (apart e s, id_back e.picture_id (tl0_octets e.tl0picidx ++ behind) h.picture_id, tl0_back e.tl0picidx behind, layers_back e.layers s h.layers)

decode_x : Bool → ℕ → List ℕ → Descriptor × List ℕ
decode_x false b s = (plain (required_at b), s)
decode_x true b [] = (plain (required_at b), [])
decode_x true b (c ∷ s) =
    let o = decode_optional (c / 128) (c / 64 % 2) (c / 32 % 2) (c / 16 % 2) (c % 16) s in
    (extended (required_at b) o.0, o.1)

decode : List ℕ → Descriptor × List ℕ
decode [] = (plain (required_at 0), [])
decode (b ∷ s) = decode_x (eqb (b / 128) 1) b s

decode_octets : (d : Descriptor) (s : List ℕ) → Formed d → decode (octets d ++ s) ≡ (d, s)
unfolding decode decode_x
decode_octets (plain d) s h =
    rw (firsts 0 d (lit< tt) h).x (ap (λ (d' : Required). (plain d', s)) (required_back 0 d (lit< tt) h))
decode_octets (extended d e) s h =
    let f = flags e h.1 in
    rw (
      (firsts 1 d (lit< tt) h.0).x,
      f.i,
      f.l,
      f.t,
      f.k,
      f.rsv,
      optional_back e s h.1,
    )
    (ap (λ (d' : Required). (extended d' e, s)) (required_back 1 d (lit< tt) h.0))

pub unambiguous : (d e : Descriptor) (p q : List ℕ) → Formed d → Formed e → octets d ++ p ≡ octets e ++ q → (d ≡ e) × (p ≡ q)
unambiguous d e p q hd he same =
    let one : ◌≡◌ {A = Descriptor × List ℕ} (d, p) (e, q) = sym (decode_octets d p hd) ∙ ap decode same ∙ decode_octets e q he in
    (ap (λ (x : Descriptor × List ℕ). x.0) one, ap (λ (x : Descriptor × List ℕ). x.1) one)
