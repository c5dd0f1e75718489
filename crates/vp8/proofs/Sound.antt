-- SOUND: whatever is accepted with X set is a descriptor and a payload behind it, and that payload's place is what is said; the descriptor
-- is lawful, or its L is 1 and its T is 0. Each test that was passed left octets for the next field, so a plan can be told from them, field
-- by field. Assumes nothing.
use mathlib.Core.Path.{◌≡◌, refl, sym, ap, subst, ◌∙◌}
use mathlib.Core.Bool.{Bool, true, false, cond}
use mathlib.Core.Logic.{◌⊎◌, inl, inr, ⊎_elim}
use mathlib.Core.List.{List, [], ◌∷◌, ◌++◌}
use Prim.Native.Nat.{ℕ, ◌+◌, ◌*◌, ◌/◌, ◌%◌, ◌≤◌, ◌<◌}
use native.Mathlib.Omega.{arith}
use lib.Dec.{ltb}
use lib.ListN.{length, get_or}
use borrow.Author.Tests.{ltb-true, ltb-false}
use Rattle.error.specs.Said.{Said, says, refuse}
use Rattle.rfc7741.specs.Descriptor.{Octets, Extension, Descriptor, extended, extension_octet, id_octets, tl0_octets, optional_octets, octets, FormedExtension, Formed, Lawful, Strays}
use Rattle.rfc7741.proofs.Fields.{required_at, apart}
use Rattle.rfc7741.proofs.Straying.{lawful_or_strays, never_both}
use Rattle.rfc7741.proofs.Laid.{bits, required_laid, IdAt, id_laid, Tl0At, tl0_laid, LayersAt, layers_laid}
use Rattle.vp8_read.specs.declared.Vp8Packet.{Vp8Packet}
use Rattle.vp8_read.specs.Read.{Stage, Reading, put_required, put_flags, set_required, set_flags, with_picture_id, with_tl0, with_layers, or_short, third, second, read_on, depacketized}
use Rattle.vp8.specs.Conform.{Readable, Bears, Conforms, Deviates, tell_id, tell_tl0}
use Rattle.vp8_read.proofs.Stages.{begun, flags_yes}
use Rattle.vp8.proofs.ReadBack.{Head, id_stage, tl0_stage, layers_stage, id_head, tl0_head}
use Rattle.vp8.proofs.Conform.{exactly}

refuse_says : {n at : ℕ} → ◌≡◌ {A = Said ℕ} (refuse n) (says at) → ⊥
refuse_says e = let z : ◌≡◌ {A = ℕ} 0 1 = cc in omega arith

says_same : {m n : ℕ} → ◌≡◌ {A = Said ℕ} (says m) (says n) → m ≡ n
says_same e = cc

-- a test was passed: a byte was left, and what follows accepts
took : (c : Stage) (go : Stage → Reading) (at : ℕ) → (or_short c go).said ≡ says at → (0 < length c.rest) × ((go c).said ≡ says at)
unfolding or_short
took c go at h = by_cases (ltb 0 (length c.rest)) refl h
  where
    by_cases : (b : Bool) → ltb 0 (length c.rest) ≡ b → (cond b (go c) (record { packet = c.packet; said = refuse 4 })).said ≡ says at →
        (0 < length c.rest) × ((go c).said ≡ says at)
    by_cases true e q = (ltb-true 0 (length c.rest) e, q)
    by_cases false e q = absurd (refuse_says q)

-- it was within the limits, and of 4 bytes or more
record Within (old : Vp8Packet) (s : List ℕ) (at : ℕ) : Type 0 where
  most : length s ≤ 65535
  id : old.picture_id ≤ 32767
  least : 4 ≤ length s
  on : (read_on (begun old s)).said ≡ says at

within : (old : Vp8Packet) (s : List ℕ) (at : ℕ) → (depacketized old s).said ≡ says at → Within old s at
unfolding depacketized
within old s at h = by_cases (ltb 65535 (length s)) (ltb 32767 old.picture_id) (ltb (length s) 4) refl refl refl h
  where
    by_cases : (l i f : Bool) → ltb 65535 (length s) ≡ l → ltb 32767 old.picture_id ≡ i → ltb (length s) 4 ≡ f →
        (cond l (record { packet = old; said = refuse 8 })
        (cond i (record { packet = old; said = refuse 8 }) (cond f (record { packet = old; said = refuse 4 }) (read_on (begun old s))))).said
        ≡ says at →
        Within old s at
    by_cases true i f el ei ef q = absurd (refuse_says q)
    by_cases false true f el ei ef q = absurd (refuse_says q)
    by_cases false false true el ei ef q = absurd (refuse_says q)
    by_cases false false false el ei ef q =
        record {
          most = ltb-false 65535 (length s) el;
          id = ltb-false 32767 old.picture_id ei;
          least = ltb-false (length s) 4 ef;
          on = q;
        }

-- ---- the plan, field by field

module _ (old : Vp8Packet) (b c : ℕ) (r : List ℕ) (at : ℕ) (x : 128 ≤ b) (hb : b < 256) (hc : c < 256) (hr : Octets r)
    (w : Within old (b ∷ c ∷ r) at) where
  -- the record when the flags have been read
  heading : Vp8Packet
  heading = set_flags c (set_required b old)

  flagged : begun old (b ∷ c ∷ r) ≡ with_picture_id (record { packet = heading; at = 2; rest = r })
  unfolding heading put_required
  flagged = ap with_picture_id (flags_yes (record { packet = set_required b old; at = 1; rest = c ∷ r }) (omega arith))

  id_at : IdAt (c / 128) r
  id_at = let l = w.least in id_laid (c / 128) r (omega arith) (omega arith) hr

  with_id : Vp8Packet
  with_id = tell_id id_at.plan heading

  first_stage : Stage
  first_stage = record { packet = with_id; at = 2 + length (id_octets id_at.plan); rest = id_at.behind }

  to_first : begun old (b ∷ c ∷ r) ≡ first_stage
  unfolding first_stage with_id heading put_flags
  to_first =
      flagged
      ∙ ap (λ (l : List ℕ). with_picture_id (record { packet = heading; at = 2; rest = l })) id_at.laid
      ∙ id_stage id_at.plan heading 2 id_at.behind id_at.formed (sym id_at.says)

  passed_first : (0 < length id_at.behind) × ((second (with_tl0 first_stage)).said ≡ says at)
  unfolding read_on first_stage
  passed_first =
      took first_stage (λ c'. second (with_tl0 c')) at (subst (λ (c' : Stage). (read_on c').said ≡ says at) to_first w.on)

  tl0_at : Tl0At (c / 64 % 2) id_at.behind
  tl0_at = tl0_laid (c / 64 % 2) id_at.behind (omega arith) passed_first.0 id_at.rest

  with_tl0_lem : Vp8Packet
  with_tl0_lem = tell_tl0 tl0_at.plan with_id

  second_stage : Stage
  second_stage =
      record { packet = with_tl0_lem; at = 2 + length (id_octets id_at.plan) + length (tl0_octets tl0_at.plan); rest = tl0_at.behind }

  to_second : with_tl0 first_stage ≡ second_stage
  unfolding first_stage second_stage with_tl0_lem with_id heading put_flags
  to_second =
      ap (λ (l : List ℕ). with_tl0 (record { packet = with_id; at = 2 + length (id_octets id_at.plan); rest = l })) tl0_at.laid
      ∙ tl0_stage tl0_at.plan with_id _ tl0_at.behind (ap (λ (h : Head). h.l) (id_head id_at.plan heading) ∙ sym tl0_at.says)

  passed_second : (0 < length tl0_at.behind) × ((third (with_layers second_stage)).said ≡ says at)
  unfolding second second_stage
  passed_second =
      took second_stage (λ c'. third (with_layers c')) at (subst (λ (c' : Stage). (second c').said ≡ says at) to_second passed_first.1)

  layers_at : LayersAt (c / 32 % 2) (c / 16 % 2) tl0_at.behind
  layers_at =
      layers_laid (c / 32 % 2) (c / 16 % 2) tl0_at.behind (omega arith) (omega arith) passed_second.0 tl0_at.rest

  passed_third : 0 < length layers_at.behind
  unfolding third second_stage with_tl0_lem with_id heading put_flags
  passed_third =
      let same = tl0_head tl0_at.plan with_id ∙ id_head id_at.plan heading in
      let to_third =
      ap (λ (l : List ℕ). with_layers (record { packet = with_tl0_lem; at = second_stage.at; rest = l })) layers_at.laid
      ∙ layers_stage layers_at.plan with_tl0_lem second_stage.at layers_at.behind layers_at.formed
      (ap (λ (h : Head). h.t) same ∙ sym layers_at.says_t) (ap (λ (h : Head). h.k) same ∙ sym layers_at.says_k) in
      (took _ (λ c'. record { packet = c'.packet; said = says c'.at }) at
      (subst (λ (c' : Stage). (third c').said ≡ says at) to_third passed_second.1)).0

  extension : Extension
  extension = record { picture_id = id_at.plan; tl0picidx = tl0_at.plan; layers = layers_at.plan; rsv = c % 16 }

  octet : c ≡ extension_octet extension
  unfolding extension
  octet =
      bits c
      ∙ (λ i. sym id_at.says i * 128 + sym tl0_at.says i * 64 + sym layers_at.says_t i * 32 + sym layers_at.says_k i * 16 + c % 16)

  laid : b ∷ c ∷ r ≡ octets (extended (required_at b) extension) ++ layers_at.behind
  unfolding extension
  laid =
      let rest : r ≡ optional_octets extension ++ layers_at.behind =
      id_at.laid
      ∙ ap (λ (l : List ℕ). id_octets id_at.plan ++ l) (tl0_at.laid ∙ ap (λ (l : List ℕ). tl0_octets tl0_at.plan ++ l) layers_at.laid)
      ∙ sym (apart extension layers_at.behind) in
      λ i. (required_laid b x hb).1 i ∷ octet i ∷ rest i

  formed : FormedExtension extension
  unfolding extension
  formed = record { picture_id = id_at.formed; tl0picidx = tl0_at.formed; layers = layers_at.formed; rsv = omega arith }

  readable : Readable Formed old (required_at b) extension layers_at.behind
  readable =
      record {
        descriptor = ((required_laid b x hb).0, formed);
        some = passed_third;
        least = subst (λ (l : List ℕ). 4 ≤ length l) laid w.least;
        most = subst (λ (l : List ℕ). length l ≤ 65535) laid w.most;
        id = w.id;
      }

  bears : (Such : Descriptor → Type 0) → Such (extended (required_at b) extension) → (depacketized old (b ∷ c ∷ r)).said ≡ says at →
      Bears Such (b ∷ c ∷ r) at
  bears Such such h =
      record {
        required = required_at b;
        extension = extension;
        payload = layers_at.behind;
        descriptor = such;
        laid = laid;
        some = passed_third;
        place =
            says_same
            (sym h
            ∙ ap (λ (l : List ℕ). (depacketized old l).said) laid
            ∙ ap (λ (a : Reading). a.said) (exactly old (required_at b) extension layers_at.behind readable));
      }

  conforms_or_deviates : (depacketized old (b ∷ c ∷ r)).said ≡ says at → Conforms (b ∷ c ∷ r) at ⊎ Deviates (b ∷ c ∷ r) at
  conforms_or_deviates h =
      ⊎_elim (λ (l : Lawful (extended (required_at b) extension)). inl (bears Lawful l h))
      (λ (w : Strays (extended (required_at b) extension)). inr (bears Strays w h))
      (lawful_or_strays (extended (required_at b) extension) ((required_laid b x hb).0, formed))

pub sound : (old : Vp8Packet) (s : List ℕ) (at : ℕ) → Octets s → 128 ≤ get_or s 0 0 → (depacketized old s).said ≡ says at →
    Conforms s at ⊎ Deviates s at
sound old [] at o x h = absurd (omega arith)
sound old (b ∷ []) at o x h = absurd (let l = (within old (b ∷ []) at h).least in omega arith)
sound old (b ∷ c ∷ r) at o x h = conforms_or_deviates old b c r at x o.0 o.1.0 o.1.1 (within old (b ∷ c ∷ r) at h) h

-- and no packet is both
pub not_both : (s : List ℕ) (at at' : ℕ) → Conforms s at → Deviates s at' → ⊥
not_both s at at' c d =
    never_both (extended c.required c.extension) (extended d.required d.extension) c.payload d.payload c.descriptor
    d.descriptor (sym c.laid ∙ d.laid)
