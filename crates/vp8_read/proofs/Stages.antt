-- The laws of the reader's stages: each takes its bytes where its flag is 1, and is passed over else. A stage over a packet s at a
-- place has the bytes from there on, so reading a byte goes one place on. Assumes nothing.
use mathlib.Core.Path.{◌≡◌, ap, ap₂, ◌∙◌}
use mathlib.Core.Bool.{Bool, cond, ◌||◌, or-true}
use mathlib.Core.List.{List}
use Prim.Native.Nat.{ℕ, ◌+◌, ◌%◌, ◌<◌, ◌≤◌}
use native.Mathlib.Nat.{add-zero}
use native.Mathlib.Omega.{arith}
use lib.Dec.{eqb}
use lib.ListN.{length, get_or, drop, length-drop}
use lib.Seq.{get_or-drop, drop-drop}
use borrow.Author.Tests.{lt-ltb, le-ltb, eq-eqb, ne_eqb}
use Rattle.error.specs.Said.{refuse}
use Rattle.wire.specs.Net.{u16_at}
use Rattle.wire.proofs.Net.{u16_at_drop}
use Rattle.vp8_read.specs.declared.Vp8Packet.{Vp8Packet}
use Rattle.vp8_read.specs.Read.{Stage, next, past, taken, set_required, set_flags, put_picture_id, put_tl0, set_indices, with_flags, with_picture_id, with_tl0, with_layers, Reading, or_short, read_on, depacketized}

-- a stage over the packet s, at a place of it
abbrev pub stage : Vp8Packet → ℕ → List ℕ → Stage
stage p at s = record { packet = p; at = at; rest = drop at s }

pub next_at : (p : Vp8Packet) (at : ℕ) (s : List ℕ) → next (stage p at s) ≡ get_or s at 0
next_at p at s = get_or-drop at s 0 0 ∙ ap (λ (k : ℕ). get_or s k 0) (add-zero at)

past_at : (n : ℕ) (q p : Vp8Packet) (at : ℕ) (s : List ℕ) → past n q (stage p at s) ≡ stage q (at + n) s
past_at n q p at s = ap (λ (l : List ℕ). record { packet = q; at = at + n; rest = l }) (drop-drop n at s)

pub taken_at : (f : ℕ → Vp8Packet → Vp8Packet) (p : Vp8Packet) (at : ℕ) (s : List ℕ) →
    taken f (stage p at s) ≡ stage (f (get_or s at 0) p) (at + 1) s
taken_at f p at s =
    ap (λ (b : ℕ). past 1 (f b p) (stage p at s)) (next_at p at s) ∙ past_at 1 (f (get_or s at 0) p) p at s

-- ---- passed over

pub flags_no : (c : Stage) → (c.packet.x ≡ 1 → ⊥) → with_flags c ≡ c
unfolding with_flags
flags_no c h = ap (λ (b : Bool). cond b (taken set_flags c) c) (ne_eqb c.packet.x 1 h)

pub id_no : (c : Stage) → (c.packet.i ≡ 1 → ⊥) → with_picture_id c ≡ c
unfolding with_picture_id
id_no c h = rw (ne_eqb c.packet.i 1 h)

pub tl0_no : (c : Stage) → (c.packet.l ≡ 1 → ⊥) → with_tl0 c ≡ c
unfolding with_tl0
tl0_no c h = ap (λ (b : Bool). cond b (taken put_tl0 c) c) (ne_eqb c.packet.l 1 h)

pub layers_no : (c : Stage) → (c.packet.t ≡ 1 → ⊥) → (c.packet.k ≡ 1 → ⊥) → with_layers c ≡ c
unfolding with_layers
layers_no c ht hk =
    ap₂ (λ (a b : Bool). cond (a || b) (taken set_indices c) c) (ne_eqb c.packet.t 1 ht) (ne_eqb c.packet.k 1 hk)

-- ---- taken

pub flags_yes : (c : Stage) → c.packet.x ≡ 1 → with_flags c ≡ taken set_flags c
unfolding with_flags
flags_yes c h = ap (λ (b : Bool). cond b (taken set_flags c) c) (eq-eqb c.packet.x 1 h)

pub flags_at : (p : Vp8Packet) (at : ℕ) (s : List ℕ) → p.x ≡ 1 →
    with_flags (stage p at s) ≡ stage (set_flags (get_or s at 0) p) (at + 1) s
flags_at p at s h = flags_yes (stage p at s) h ∙ taken_at set_flags p at s

pub id_short : (c : Stage) → c.packet.i ≡ 1 → next c < 128 → with_picture_id c ≡ taken put_picture_id c
unfolding with_picture_id
id_short c h m = rw (eq-eqb c.packet.i 1 h, lt-ltb (next c) 128 m)

pub id_short_at : (p : Vp8Packet) (at : ℕ) (s : List ℕ) → p.i ≡ 1 → get_or s at 0 < 128 →
    with_picture_id (stage p at s) ≡ stage (put_picture_id (get_or s at 0) p) (at + 1) s
id_short_at p at s h m = id_short (stage p at s) h (rw (next_at p at s) m) ∙ taken_at put_picture_id p at s

pub id_long : (c : Stage) → c.packet.i ≡ 1 → 128 ≤ next c →
    with_picture_id c ≡ past 2 (put_picture_id (u16_at c.rest 0 % 32768) c.packet) c
unfolding with_picture_id
id_long c h m = rw (eq-eqb c.packet.i 1 h, le-ltb (next c) 128 m)

pub id_long_at : (p : Vp8Packet) (at : ℕ) (s : List ℕ) → p.i ≡ 1 → 128 ≤ get_or s at 0 →
    with_picture_id (stage p at s) ≡ stage (put_picture_id (u16_at s at % 32768) p) (at + 2) s
id_long_at p at s h m =
    let u : u16_at (drop at s) 0 ≡ u16_at s at = u16_at_drop s at 0 ∙ ap (u16_at s) (add-zero at) in
    id_long (stage p at s) h (rw (next_at p at s) m)
    ∙ ap (λ (n : ℕ). past 2 (put_picture_id (n % 32768) p) (stage p at s)) u
    ∙ past_at 2 (put_picture_id (u16_at s at % 32768) p) p at s

pub tl0_yes : (c : Stage) → c.packet.l ≡ 1 → with_tl0 c ≡ taken put_tl0 c
unfolding with_tl0
tl0_yes c h = ap (λ (b : Bool). cond b (taken put_tl0 c) c) (eq-eqb c.packet.l 1 h)

pub tl0_at : (p : Vp8Packet) (at : ℕ) (s : List ℕ) → p.l ≡ 1 → with_tl0 (stage p at s) ≡ stage (put_tl0 (get_or s at 0) p) (at + 1) s
tl0_at p at s h = tl0_yes (stage p at s) h ∙ taken_at put_tl0 p at s

pub layers_t : (c : Stage) → c.packet.t ≡ 1 → with_layers c ≡ taken set_indices c
unfolding with_layers
layers_t c h = ap (λ (b : Bool). cond (b || eqb c.packet.k 1) (taken set_indices c) c) (eq-eqb c.packet.t 1 h)

pub layers_k : (c : Stage) → c.packet.k ≡ 1 → with_layers c ≡ taken set_indices c
unfolding with_layers
layers_k c h =
    ap (λ (b : Bool). cond (eqb c.packet.t 1 || b) (taken set_indices c) c) (eq-eqb c.packet.k 1 h)
    ∙ ap (λ (b : Bool). cond b (taken set_indices c) c) (or-true (eqb c.packet.t 1))

pub layers_t_at : (p : Vp8Packet) (at : ℕ) (s : List ℕ) → p.t ≡ 1 →
    with_layers (stage p at s) ≡ stage (set_indices (get_or s at 0) p) (at + 1) s
layers_t_at p at s h = layers_t (stage p at s) h ∙ taken_at set_indices p at s

pub layers_k_at : (p : Vp8Packet) (at : ℕ) (s : List ℕ) → p.k ≡ 1 →
    with_layers (stage p at s) ≡ stage (set_indices (get_or s at 0) p) (at + 1) s
layers_k_at p at s h = layers_k (stage p at s) h ∙ taken_at set_indices p at s

-- ---- the three tests

pub left_over : (c : Stage) (go : Stage → Reading) → 0 < length c.rest → or_short c go ≡ go c
unfolding or_short
left_over c go h = ap (λ (b : Bool). cond b (go c) (record { packet = c.packet; said = refuse 4 })) (lt-ltb 0 (length c.rest) h)

pub none_left : (c : Stage) (go : Stage → Reading) → length c.rest ≤ 0 →
    or_short c go ≡ record { packet = c.packet; said = refuse 4 }
unfolding or_short
none_left c go h = ap (λ (b : Bool). cond b (go c) (record { packet = c.packet; said = refuse 4 })) (le-ltb 0 (length c.rest) h)

module _ (p : Vp8Packet) (at : ℕ) (s : List ℕ) (go : Stage → Reading) where
  pub left_at : at < length s → or_short (stage p at s) go ≡ go (stage p at s)
  left_at h = left_over (stage p at s) go (rw length-drop (omega arith))

  pub none_at : length s ≤ at → or_short (stage p at s) go ≡ record { packet = p; said = refuse 4 }
  none_at h = none_left (stage p at s) go (rw length-drop (omega arith))

-- ---- the domain, and the first test

abbrev pub begun : Vp8Packet → List ℕ → Stage
begun p s = with_picture_id (with_flags (stage (set_required (get_or s 0 0) p) 1 s))

module _ (p : Vp8Packet) (s : List ℕ) where
  pub long_packet : 65535 < length s → depacketized p s ≡ record { packet = p; said = refuse 8 }
  unfolding depacketized
  long_packet h = rw (lt-ltb 65535 (length s) h)

  pub large_id : length s ≤ 65535 → 32767 < p.picture_id → depacketized p s ≡ record { packet = p; said = refuse 8 }
  unfolding depacketized
  large_id h g = rw (le-ltb 65535 (length s) h, lt-ltb 32767 p.picture_id g)

  pub under_four : p.picture_id ≤ 32767 → length s < 4 → depacketized p s ≡ record { packet = p; said = refuse 4 }
  unfolding depacketized
  under_four g f =
      let h : length s ≤ 65535 = omega arith in
      rw (le-ltb 65535 (length s) h, le-ltb 32767 p.picture_id g, lt-ltb (length s) 4 f)

  pub four_or_more : length s ≤ 65535 → p.picture_id ≤ 32767 → 4 ≤ length s → depacketized p s ≡ read_on (begun p s)
  unfolding depacketized
  four_or_more h g f = rw (le-ltb 65535 (length s) h, le-ltb 32767 p.picture_id g, le-ltb (length s) 4 f)
