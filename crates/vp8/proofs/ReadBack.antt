-- A descriptor's octets, stage by stage: each stage takes the octets of its field, whatever stands behind them, and tells the field.
-- Assumes nothing.
use mathlib.Core.Path.{◌≡◌, refl, sym, ap, ap₂, subst, ◌∙◌}
use mathlib.Core.List.{List, [], ◌∷◌, ◌++◌}
use mathlib.Core.Option.{Option, none, some}
use Prim.Native.Nat.{ℕ, ◌+◌, ◌*◌, ◌/◌, ◌%◌, ◌≤◌, ◌<◌}
use native.Mathlib.Nat.{add-zero}
use native.Mathlib.Omega.{arith}
use lib.Dec.{lit<}
use lib.ListN.{length, length-append}
use borrow.Author.Tests.{eq-eqb, ne_eqb}
use Rattle.error.specs.Said.{says, refuse}
use Rattle.wire.specs.Net.{u16_at}
use Rattle.rfc7741.specs.Descriptor.{Required, PictureId, absent, short, long, Indices, Layers, neither, only_t, only_k, both_tk, Extension, extended, flag_i, flag_l, flag_t, flag_k, first_octet, extension_octet, id_octets, tl0_octets, indices_octet, layers_octets, octets, FormedRequired, FormedId, FormedLayers, FormedExtension}
use Rattle.rfc7741.proofs.Fields.{firsts, flags, index_parts, apart}
use Rattle.vp8_read.specs.declared.Vp8Packet.{Vp8Packet}
use Rattle.vp8_read.specs.Read.{put_required, put_flags, put_picture_id, put_tl0, put_tid, put_key, set_required, set_flags, set_tid, set_key, with_picture_id, with_tl0, with_layers, third, second, read_on}
use Rattle.vp8.specs.Conform.{TellsId, TellsTl0, TellsLayers, tell_id, tell_tl0, tell_layers, fields_flags, fields_id, fields_tl0, fields}
use Rattle.vp8_read.proofs.Stages.{flags_yes, id_no, id_short, id_long, tl0_no, tl0_yes, layers_no, layers_t, layers_k, left_over, none_left, begun}

-- 0 is not 1
flag_clear : {n : ℕ} → n ≡ 0 → n ≡ 1 → ⊥
flag_clear a b = omega arith

pub id_stage : (i : PictureId) (q : Vp8Packet) (at : ℕ) (r : List ℕ) → FormedId i → q.i ≡ flag_i i →
    with_picture_id (record { packet = q; at = at; rest = id_octets i ++ r }) ≡ record { packet = tell_id i q; at = at + length (id_octets i); rest = r }
unfolding u16_at
id_stage absent q at r h f = id_no _ (flag_clear f) ∙ ap (λ (n : ℕ). record { packet = q; at = n; rest = r }) (sym (add-zero at))
id_stage (short n) q at r h f = id_short _ f h
id_stage (long n) q at r h f =
    let m : 128 ≤ 128 + n / 256 = omega arith in
    let e : ((128 + n / 256) * 256 + n % 256) % 32768 ≡ n = omega arith in
    id_long (record { packet = q; at = at; rest = (128 + n / 256) ∷ n % 256 ∷ r }) f m
    ∙ ap (λ (k : ℕ). record { packet = put_picture_id k q; at = at + 2; rest = r }) e

pub tl0_stage : (l : Option ℕ) (q : Vp8Packet) (at : ℕ) (r : List ℕ) → q.l ≡ flag_l l →
    with_tl0 (record { packet = q; at = at; rest = tl0_octets l ++ r }) ≡ record { packet = tell_tl0 l q; at = at + length (tl0_octets l); rest = r }
tl0_stage none q at r f = tl0_no _ (flag_clear f) ∙ ap (λ (n : ℕ). record { packet = q; at = n; rest = r }) (sym (add-zero at))
tl0_stage (some n) q at r f = tl0_yes _ f

-- the octet of T and K sets what the flags say
tid_set : (b : ℕ) (q : Vp8Packet) (o : Indices) → q.t ≡ 1 → b / 64 ≡ o.tid → b / 32 % 2 ≡ o.y → set_tid b q ≡ put_tid o.tid o.y q
unfolding set_tid
tid_set b q o f t y = rw (eq-eqb q.t 1 f) (ap₂ (λ (m n : ℕ). put_tid m n q) t y)

tid_kept : (b : ℕ) (q : Vp8Packet) → q.t ≡ 0 → set_tid b q ≡ q
unfolding set_tid
tid_kept b q f = rw (ne_eqb q.t 1 (flag_clear f))

key_set : (b : ℕ) (q : Vp8Packet) (o : Indices) → q.k ≡ 1 → b % 32 ≡ o.keyidx → set_key b q ≡ put_key o.keyidx q
unfolding set_key
key_set b q o f e = rw (eq-eqb q.k 1 f) (ap (λ (n : ℕ). put_key n q) e)

key_kept : (b : ℕ) (q : Vp8Packet) → q.k ≡ 0 → set_key b q ≡ q
unfolding set_key
key_kept b q f = rw (ne_eqb q.k 1 (flag_clear f))

pub layers_stage : (l : Layers) (q : Vp8Packet) (at : ℕ) (r : List ℕ) → FormedLayers l → q.t ≡ flag_t l → q.k ≡ flag_k l →
    with_layers (record { packet = q; at = at; rest = layers_octets l ++ r })
    ≡ record { packet = tell_layers l q; at = at + length (layers_octets l); rest = r }
unfolding put_tid
layers_stage neither q at r h t k =
    layers_no _ (flag_clear t) (flag_clear k) ∙ ap (λ (n : ℕ). record { packet = q; at = n; rest = r }) (sym (add-zero at))
layers_stage (only_t o) q at r h t k =
    let p = index_parts o h in
    layers_t _ t
    ∙ ap (λ (q' : Vp8Packet). record { packet = q'; at = at + 1; rest = r })
    (ap (set_key (indices_octet o)) (tid_set (indices_octet o) q o t p.tid p.y) ∙ key_kept (indices_octet o) (put_tid o.tid o.y q) k)
layers_stage (only_k o) q at r h t k =
    let p = index_parts o h in
    layers_k _ k
    ∙ ap (λ (q' : Vp8Packet). record { packet = q'; at = at + 1; rest = r })
    (ap (set_key (indices_octet o)) (tid_kept (indices_octet o) q t) ∙ key_set (indices_octet o) q o k p.keyidx)
layers_stage (both_tk o) q at r h t k =
    let p = index_parts o h in
    layers_t _ t
    ∙ ap (λ (q' : Vp8Packet). record { packet = q'; at = at + 1; rest = r })
    (ap (set_key (indices_octet o)) (tid_set (indices_octet o) q o t p.tid p.y)
    ∙ key_set (indices_octet o) (put_tid o.tid o.y q) o k p.keyidx)

-- ---- what the optional fields do not touch

-- the required fields and the flags
pub record Head : Type 0 where
  pub x : ℕ
  pub n : ℕ
  pub s : ℕ
  pub pid : ℕ
  pub i : ℕ
  pub l : ℕ
  pub t : ℕ
  pub k : ℕ

abbrev pub head_of : Vp8Packet → Head
head_of p = record { x = p.x; n = p.n; s = p.s; pid = p.pid; i = p.i; l = p.l; t = p.t; k = p.k }

pub id_head : (i : PictureId) (q : Vp8Packet) → head_of (tell_id i q) ≡ head_of q
unfolding put_picture_id
id_head absent q = refl
id_head (short n) q = refl
id_head (long n) q = refl

pub tl0_head : (l : Option ℕ) (q : Vp8Packet) → head_of (tell_tl0 l q) ≡ head_of q
unfolding put_tl0
tl0_head none q = refl
tl0_head (some n) q = refl

layers_head : (l : Layers) (q : Vp8Packet) → head_of (tell_layers l q) ≡ head_of q
unfolding put_tid put_key
layers_head neither q = refl
layers_head (only_t o) q = refl
layers_head (only_k o) q = refl
layers_head (both_tk o) q = refl

-- ---- what `fields` tells

id_told : (i : PictureId) (q : Vp8Packet) → TellsId i (tell_id i q).picture_id
unfolding put_picture_id
id_told absent q = tt
id_told (short n) q = refl
id_told (long n) q = refl

tl0_told : (l : Option ℕ) (q : Vp8Packet) → TellsTl0 l (tell_tl0 l q).tl0_pic_idx
unfolding put_tl0
tl0_told none q = tt
tl0_told (some n) q = refl

layers_told : (y : Layers) (q : Vp8Packet) → TellsLayers y (tell_layers y q)
unfolding put_tid put_key
layers_told neither q = tt
layers_told (only_t o) q = (refl, refl)
layers_told (only_k o) q = refl
layers_told (both_tk o) q = (refl, refl, refl)

tl0_keeps : (l : Option ℕ) (q : Vp8Packet) → (tell_tl0 l q).picture_id ≡ q.picture_id
unfolding put_tl0
tl0_keeps none q = refl
tl0_keeps (some n) q = refl

layers_keep : (y : Layers) (q : Vp8Packet) → ((tell_layers y q).picture_id ≡ q.picture_id) × ((tell_layers y q).tl0_pic_idx ≡ q.tl0_pic_idx)
unfolding put_tid put_key
layers_keep neither q = (refl, refl)
layers_keep (only_t o) q = (refl, refl)
layers_keep (only_k o) q = (refl, refl)
layers_keep (both_tk o) q = (refl, refl)

module _ (d : Required) (e : Extension) (old : Vp8Packet) where
  pub fields_head : head_of (fields d e old)
      ≡ record {
        x = 1;
        n = d.n;
        s = d.s;
        pid = d.pid;
        i = flag_i e.picture_id;
        l = flag_l e.tl0picidx;
        t = flag_t e.layers;
        k = flag_k e.layers;
      }
  unfolding put_flags put_required
  fields_head = layers_head e.layers _ ∙ tl0_head e.tl0picidx _ ∙ id_head e.picture_id _

  pub fields_id_lem : TellsId e.picture_id (fields d e old).picture_id
  fields_id_lem =
      subst (TellsId e.picture_id) (sym ((layers_keep e.layers _).0 ∙ tl0_keeps e.tl0picidx _)) (id_told e.picture_id _)

  pub fields_tl0_lem : TellsTl0 e.tl0picidx (fields d e old).tl0_pic_idx
  fields_tl0_lem = subst (TellsTl0 e.tl0picidx) (sym (layers_keep e.layers _).1) (tl0_told e.tl0picidx _)

  pub fields_layers : TellsLayers e.layers (fields d e old)
  fields_layers = layers_told e.layers _

-- ---- a descriptor with X set, whatever stands behind it

module _ (old : Vp8Packet) (d : Required) (e : Extension) (formed : FormedRequired d) (formed' : FormedExtension e) where
  flags_read : set_flags (extension_octet e) (set_required (first_octet 1 d) old) ≡ fields_flags d e old
  flags_read =
      let f = firsts 1 d (lit< tt) formed in
      let g = flags e formed' in
      λ i. put_flags (g.i i) (g.l i) (g.t i) (g.k i) (put_required (f.x i) (f.n i) (f.s i) (f.pid i) old)

  -- up to the picture id
  begun_front : (r : List ℕ) → begun old (first_octet 1 d ∷ extension_octet e ∷ (id_octets e.picture_id ++ r))
      ≡ record { packet = fields_id d e old; at = 2 + length (id_octets e.picture_id); rest = r }
  unfolding put_flags put_required
  begun_front r =
      let c = extension_octet e in
      let rest = id_octets e.picture_id ++ r in
      ap with_picture_id
      (flags_yes (record { packet = set_required (first_octet 1 d) old; at = 1; rest = c ∷ rest }) (firsts 1 d (lit< tt) formed).x
      ∙ ap (λ (q : Vp8Packet). record { packet = q; at = 2; rest = rest }) flags_read)
      ∙ id_stage e.picture_id (fields_flags d e old) 2 r formed'.picture_id refl

  -- TL0PICIDX, and then the octet of T and K
  to_second : (at : ℕ) (r : List ℕ) → with_tl0 (record { packet = fields_id d e old; at = at; rest = tl0_octets e.tl0picidx ++ r })
      ≡ record { packet = fields_tl0 d e old; at = at + length (tl0_octets e.tl0picidx); rest = r }
  unfolding put_flags
  to_second at r =
      tl0_stage e.tl0picidx (fields_id d e old) at r (ap (λ (h : Head). h.l) (id_head e.picture_id (fields_flags d e old)))

  to_third : (at : ℕ) (r : List ℕ) → with_layers (record { packet = fields_tl0 d e old; at = at; rest = layers_octets e.layers ++ r })
      ≡ record { packet = fields d e old; at = at + length (layers_octets e.layers); rest = r }
  unfolding put_flags
  to_third at r =
      let same : head_of (fields_tl0 d e old) ≡ head_of (fields_flags d e old) =
      tl0_head e.tl0picidx (fields_id d e old) ∙ id_head e.picture_id (fields_flags d e old) in
      layers_stage e.layers (fields_tl0 d e old) at r formed'.layers (ap (λ (h : Head). h.t) same) (ap (λ (h : Head). h.k) same)

  begun_octets : (payload : List ℕ) → begun old (octets (extended d e) ++ payload)
      ≡ record {
        packet = fields_id d e old;
        at = 2 + length (id_octets e.picture_id);
        rest = tl0_octets e.tl0picidx ++ (layers_octets e.layers ++ payload);
      }
  begun_octets payload =
      ap (λ (l : List ℕ). begun old (first_octet 1 d ∷ extension_octet e ∷ l)) (apart e payload)
      ∙ begun_front (tl0_octets e.tl0picidx ++ (layers_octets e.layers ++ payload))

  place : 2 + length (id_octets e.picture_id) + length (tl0_octets e.tl0picidx) + length (layers_octets e.layers)
      ≡ length (octets (extended d e))
  place = simp length-append (omega arith)

  -- with a payload behind it: its fields, and the payload's place
  pub reads : (payload : List ℕ) → 0 < length payload →
      read_on (begun old (octets (extended d e) ++ payload)) ≡ record { packet = fields d e old; said = says (length (octets (extended d e))) }
  unfolding read_on second third
  reads payload h =
      let three : 0 < length (layers_octets e.layers ++ payload) = rw length-append (omega arith) in
      let two : 0 < length (tl0_octets e.tl0picidx ++ (layers_octets e.layers ++ payload)) = rw length-append (omega arith) in
      ap read_on (begun_octets payload)
      ∙ left_over _ (λ c. second (with_tl0 c)) two
      ∙ ap second (to_second _ (layers_octets e.layers ++ payload))
      ∙ left_over _ (λ c. third (with_layers c)) three
      ∙ ap third (to_third _ payload)
      ∙ left_over _ (λ c. record { packet = c.packet; said = says c.at }) h
      ∙ ap (λ (n : ℕ). record { packet = fields d e old; said = says n }) place

  -- cut behind the picture id: the first test fails; cut behind TL0PICIDX: the second
  pub cut_first : read_on (begun old (first_octet 1 d ∷ extension_octet e ∷ (id_octets e.picture_id ++ [])))
      ≡ record { packet = fields_id d e old; said = refuse 4 }
  unfolding read_on
  cut_first = ap read_on (begun_front []) ∙ none_left _ _ (omega arith)

  pub cut_second : 0 < length (tl0_octets e.tl0picidx) →
      read_on (begun old (first_octet 1 d ∷ extension_octet e ∷ (id_octets e.picture_id ++ (tl0_octets e.tl0picidx ++ []))))
      ≡ record { packet = fields_tl0 d e old; said = refuse 4 }
  unfolding read_on second
  cut_second h =
      let one : 0 < length (tl0_octets e.tl0picidx ++ []) = rw length-append (omega arith) in
      ap read_on (begun_front (tl0_octets e.tl0picidx ++ []))
      ∙ left_over _ (λ c. second (with_tl0 c)) one
      ∙ ap second (to_second _ [])
      ∙ none_left _ _ (omega arith)

-- ---- nothing behind it: the test that fails is the one behind its last field, so its fields are told all the same

module _ (l : Option ℕ) (y : Layers) (q : Vp8Packet) (at : ℕ) (hl : q.l ≡ flag_l l) (ht : q.t ≡ flag_t y) (hk : q.k ≡ flag_k y) where
  -- the third test fails
  at_third : FormedLayers y → 0 < length (layers_octets y ++ []) →
      read_on (record { packet = q; at = at; rest = tl0_octets l ++ (layers_octets y ++ []) })
      ≡ record { packet = tell_layers y (tell_tl0 l q); said = refuse 4 }
  unfolding read_on second third
  at_third h there =
      let more : 0 < length (tl0_octets l ++ (layers_octets y ++ [])) = rw length-append (omega arith) in
      let same = tl0_head l q in
      left_over (record { packet = q; at = at; rest = tl0_octets l ++ (layers_octets y ++ []) }) (λ c. second (with_tl0 c)) more
      ∙ ap second (tl0_stage l q at (layers_octets y ++ []) hl)
      ∙ left_over _ (λ c. third (with_layers c)) there
      ∙ ap third
      (layers_stage y (tell_tl0 l q) (at + length (tl0_octets l)) [] h (ap (λ (h' : Head). h'.t) same ∙ ht) (ap (λ (h' : Head). h'.k) same ∙ hk))
      ∙ none_left _ _ (omega arith)

cut_short : (l : Option ℕ) (y : Layers) (q : Vp8Packet) (at : ℕ) → q.l ≡ flag_l l → q.t ≡ flag_t y → q.k ≡ flag_k y → FormedLayers y →
    read_on (record { packet = q; at = at; rest = tl0_octets l ++ (layers_octets y ++ []) })
    ≡ record { packet = tell_layers y (tell_tl0 l q); said = refuse 4 }
unfolding read_on second
cut_short none neither q at hl ht hk h = none_left _ _ (omega arith)
cut_short (some n) neither q at hl ht hk h =
    left_over _ (λ c. second (with_tl0 c)) (omega arith) ∙ ap second (tl0_stage (some n) q at [] hl) ∙ none_left _ _ (omega arith)
cut_short l (only_t o) q at hl ht hk h = at_third l (only_t o) q at hl ht hk h (omega arith)
cut_short l (only_k o) q at hl ht hk h = at_third l (only_k o) q at hl ht hk h (omega arith)
cut_short l (both_tk o) q at hl ht hk h = at_third l (both_tk o) q at hl ht hk h (omega arith)

pub reads_empty : (old : Vp8Packet) (d : Required) (e : Extension) → FormedRequired d → FormedExtension e →
    read_on (begun old (octets (extended d e) ++ [])) ≡ record { packet = fields d e old; said = refuse 4 }
unfolding put_flags
reads_empty old d e formed formed' =
    let same = id_head e.picture_id (fields_flags d e old) in
    ap read_on (begun_octets old d e formed formed' [])
    ∙ cut_short e.tl0picidx e.layers (fields_id d e old) _ (ap (λ (h : Head). h.l) same) (ap (λ (h : Head). h.t) same)
    (ap (λ (h : Head). h.k) same) formed'.layers
