-- How many packets and bytes a unit's groups take, from its length alone. Assumes nothing.
use mathlib.Core.Path.{◌≡◌, sym, ap, ap₂, subst, subst₂, ◌∙◌}
use mathlib.Core.List.{List, [], ◌∷◌, append-nil}
use Prim.Native.Nat.{ℕ, zero, suc, ◌+◌, ◌-◌, ◌*◌, ◌/◌, ◌≤◌, ◌<◌}
use native.Mathlib.Nat.{div-eq_of_lt, div-eq-sub-div}
use native.Mathlib.Decide.{dec_le}
use native.Mathlib.Omega.{arith}
use lib.ListN.{length, take, drop, get_or, length-append, length-drop}
use lib.Seq.{length-take-le}
use Rattle.wire.specs.Packets.{joined}
use Rattle.h264_put.specs.Groups.{Group, fragment, fragments_of, unit_for, packets_of}
use Rattle.h264_put.proofs.Sinks.{length_fragment}
use Rattle.h264_put.proofs.Fragments.{later, later_more, later_last, fragments_packets}
use Rattle.h264_put.proofs.Sizes.{unit_alone, unit_dropped, unit_divided}
use Rattle.h264_measure.specs.declared.Size.{Size}
use Rattle.h264_measure.specs.Measured.{size_of}

-- so many fragments, and two bytes more for each than the bytes that they carry
record Many (ps : List (List ℕ)) (bytes size : ℕ) : Type 0 where
  count : length ps ≡ (bytes - 1) / size + 1
  total : length (joined ps) ≡ bytes + 2 * length ps

many_one : (head bits size : ℕ) (s : List ℕ) → 0 < size → 0 < length s → length s ≤ size → Many (fragment head bits s ∷ []) (length s) size
many_one head bits size s pos some h =
    let k : (length s - 1) / size ≡ 0 = div-eq_of_lt (omega arith) in
    let f : length (fragment head bits s) ≡ 2 + length s = length_fragment head bits s in
    record {
      count = omega arith;
      total = ap length (append-nil (fragment head bits s)) ∙ omega arith;
    }

many_more : (head bits size bytes : ℕ) (s : List ℕ) (ps : List (List ℕ)) → 0 < size → 0 < bytes → length s ≡ size →
    Many ps bytes size → Many (fragment head bits s ∷ ps) (size + bytes) size
many_more head bits size bytes s ps pos some e m =
    let k : (size + bytes - 1) / size ≡ (size + bytes - 1 - size) / size + 1 = div-eq-sub-div pos (omega arith) in
    let same : size + bytes - 1 - size ≡ bytes - 1 = omega arith in
    let d : (size + bytes - 1 - size) / size ≡ (bytes - 1) / size = ap (λ (n : ℕ). n / size) same in
    let f : length (fragment head bits s) ≡ 2 + length s = length_fragment head bits s in
    record {
      count = omega (arith, m.count);
      total = length-append (fragment head bits s) (joined ps) ∙ omega (arith, m.total);
    }

later_many : (head fuel size : ℕ) (s : List ℕ) → 0 < size → 0 < length s → length s ≤ fuel → Many (later head fuel size s) (length s) size
later_many head zero size s pos some h = absurd (omega arith)
later_many head (suc fuel) size s pos some h =
    let left : length (drop size s) ≡ length s - size = length-drop size s in
    go (dec_le (length s) size) (λ g. later_many head fuel size (drop size s) pos (omega arith) (omega arith))
  where
    go : Dec (length s ≤ size) → ((length s ≤ size → ⊥) → Many (later head fuel size (drop size s)) (length (drop size s)) size) →
        Many (later head (suc fuel) size s) (length s) size
    go (yes g) again =
        subst (λ (ps : List (List ℕ)). Many ps (length s) size) (sym (later_last head (suc fuel) size s g)) (many_one head 64 size s pos some g)
    go (no g) again =
        let k : suc fuel - 1 ≡ fuel = omega arith in
        let whole : size + length (drop size s) ≡ length s = rw (length-drop size s) (omega arith) in
        let is : later head (suc fuel) size s ≡ fragment head 0 (take size s) ∷ later head fuel size (drop size s) =
        later_more head (suc fuel) size s (omega arith) (omega arith)
        ∙ ap (λ (f : ℕ). fragment head 0 (take size s) ∷ later head f size (drop size s)) k in
        subst₂ (λ (ps : List (List ℕ)) (n : ℕ). Many ps n size) (sym is) whole
        (many_more head 0 size (length (drop size s)) (take size s) (later head fuel size (drop size s)) pos
        (rw (length-drop size s) (omega arith)) (length-take-le size s (omega arith)) (again g))

-- all fragments of a unit
fragments_many : (size : ℕ) (u : List ℕ) → 0 < size → size + 1 < length u → Many (packets_of (fragments_of size u)) (length u - 1) size
fragments_many size u pos h =
    let left : length (drop size (drop 1 u)) ≡ length u - 1 - size = length-drop size (drop 1 u) ∙ ap (λ (n : ℕ). n - size) (length-drop 1 u) in
    let whole : size + length (drop size (drop 1 u)) ≡ length u - 1 = omega arith in
    let first : length (take size (drop 1 u)) ≡ size = length-take-le size (drop 1 u) (rw (length-drop 1 u) (omega arith)) in
    subst₂ (λ (ps : List (List ℕ)) (n : ℕ). Many ps n size) (sym (fragments_packets size u (omega arith))) whole
    (many_more (get_or u 0 0) 128 size (length (drop size (drop 1 u))) (take size (drop 1 u)) _ pos (omega arith) first
    (later_many (get_or u 0 0) (length u - 1) size (drop size (drop 1 u)) pos (omega arith) (omega arith)))

-- ---- a unit, in the order of the code's tests

module _ (mtu : ℕ) (u : List ℕ) where
  size_alone : length u ≤ mtu → size_of (packets_of (unit_for mtu u)) ≡ record { packets = 1; bytes = length u }
  unfolding size_of
  size_alone h =
      ap (λ (gs : List Group). size_of (packets_of gs)) (unit_alone mtu u h)
      ∙ ap (λ (l : List ℕ). record { packets = 1; bytes = length l }) (append-nil u)

  size_dropped : mtu < length u → mtu < 3 → size_of (packets_of (unit_for mtu u)) ≡ record { packets = 0; bytes = 0 }
  unfolding size_of
  size_dropped h g =
      ap (λ (gs : List Group). size_of (packets_of gs)) (unit_dropped mtu u h g)

  size_cut : mtu < length u → 3 ≤ mtu → size_of (packets_of (unit_for mtu u)) ≡
      record { packets = (length u - 1 - 1) / (mtu - 2) + 1; bytes = length u - 1 + 2 * ((length u - 1 - 1) / (mtu - 2) + 1) }
  unfolding size_of
  size_cut h g =
      let m = fragments_many (mtu - 2) u (omega arith) (omega arith) in
      ap (λ (gs : List Group). size_of (packets_of gs)) (unit_divided mtu u h g)
      ∙ ap₂ (λ (a b : ℕ). record { packets = a; bytes = b }) m.count (m.total ∙ ap (λ (k : ℕ). length u - 1 + 2 * k) m.count)

-- the same, of a unit whose length is told
module _ (mtu : ℕ) (u : List ℕ) (len : ℕ) (e : length u ≡ len) where
  taken : Size
  taken = size_of (packets_of (unit_for mtu u))

  pub alone : len ≤ mtu → ◌≡◌ {A = Size} (record { packets = 1; bytes = len }) (size_of (packets_of (unit_for mtu u)))
  unfolding taken
  alone = subst (λ (n : ℕ). n ≤ mtu → record { packets = 1; bytes = n } ≡ taken) e (λ h. sym (size_alone mtu u h))

  pub dropped : mtu < len → mtu < 3 → ◌≡◌ {A = Size} (record { packets = 0; bytes = 0 }) (size_of (packets_of (unit_for mtu u)))
  dropped h g = sym (size_dropped mtu u (rw e h) g)

  pub divided : (fragments : ℕ) → fragments ≡ (len - 1 - 1) / (mtu - 2) + 1 → mtu < len → 3 ≤ mtu → ◌≡◌ {A = Size}
      (record { packets = fragments; bytes = len - 1 + 2 * fragments }) (size_of (packets_of (unit_for mtu u)))
  unfolding taken
  divided fragments n =
      subst₂ (λ (k m : ℕ). mtu < k → 3 ≤ mtu → record { packets = m; bytes = k - 1 + 2 * m } ≡ taken)
      e (ap (λ (k : ℕ). (k - 1 - 1) / (mtu - 2) + 1) e ∙ sym n) (λ h g. sym (size_cut mtu u h g))
