-- The bytes that units are handed out as: how long they are, and that they grow unit by unit. Assumes nothing.
use mathlib.Core.Path.{◌≡◌, refl, sym, ap, ◌∙◌}
use mathlib.Core.Bool.{Bool, true, false, or-true}
use mathlib.Core.Logic.{◌⊎◌, inl, inr}
use mathlib.Core.List.{List, [], ◌∷◌, ◌++◌, append-nil, append_assoc}
use Prim.Native.Nat.{ℕ, ◌+◌, ◌*◌, ◌-◌, ◌<◌, ◌≤◌}
use native.Mathlib.Decide.{dec_le}
use native.Mathlib.Nat.{lt_of_not-le}
use native.Mathlib.Omega.{arith}
use lib.Dec.{ltb}
use lib.ListN.{length, take, drop, length-append, length-drop}
use lib.Seq.{length-take-le, take_all}
use borrow.Author.Tests.{lt-ltb, le-ltb}
use Rattle.error.specs.Refusal.{Refusal}
use Rattle.error.specs.Said.{Said, says, refused, refuse}
use Rattle.error.proofs.Refusing.{not_says, same_answer}
use Rattle.wire.specs.Part.{splice}
use Rattle.wire.specs.Packets.{joined}
use Rattle.wire.proofs.Net.{length_be32}
use Rattle.wire.proofs.Part.{splice_behind, take_through}
use Rattle.nal.specs.Fed.{prefix_for, prefix_of, prefixed, OutLaid, lay_bytes, end_of, too_long, lay_gather, gather_after, Laid, lay_both}

pub length_prefix_for : (avc : Bool) (n : ℕ) → length (prefix_for avc n) ≡ 4
length_prefix_for false n = refl
length_prefix_for true n = length_be32 n

pub prefixed_append : (avc : Bool) (us vs : List (List ℕ)) → prefixed avc (us ++ vs) ≡ prefixed avc us ++ prefixed avc vs
prefixed_append avc [] vs = refl
prefixed_append avc (u ∷ us) vs =
    ap (λ (l : List ℕ). prefix_of avc u ++ (u ++ l)) (prefixed_append avc us vs)
    ∙ ap (λ (l : List ℕ). prefix_of avc u ++ l) (sym (append_assoc u (prefixed avc us) (prefixed avc vs)))
    ∙ sym (append_assoc (prefix_of avc u) (u ++ prefixed avc us) (prefixed avc vs))

-- one unit alone
pub prefixed_one : (avc : Bool) (u : List ℕ) → prefixed avc (u ∷ []) ≡ prefix_of avc u ++ u
prefixed_one avc u = ap (λ (l : List ℕ). prefix_of avc u ++ l) (append-nil u)

pub length_unit : (avc : Bool) (u : List ℕ) → length (prefix_of avc u ++ u) ≡ 4 + length u
length_unit avc u = length-append (prefix_of avc u) u ∙ ap (λ (n : ℕ). n + length u) (length_prefix_for avc (length u))

pub length_prefixed : (avc : Bool) (us : List (List ℕ)) → length (prefixed avc us) ≡ length (joined us) + 4 * length us
length_prefixed avc [] = refl
length_prefixed avc (u ∷ us) =
    let a : length (prefix_of avc u ++ (u ++ prefixed avc us)) ≡ length (prefix_of avc u) + length (u ++ prefixed avc us) =
    length-append (prefix_of avc u) (u ++ prefixed avc us) in
    let b : length (u ++ prefixed avc us) ≡ length u + length (prefixed avc us) = length-append u (prefixed avc us) in
    let d : length (u ++ joined us) ≡ length u + length (joined us) = length-append u (joined us) in
    let four : length (prefix_of avc u) ≡ 4 = length_prefix_for avc (length u) in
    let ih : length (prefixed avc us) ≡ length (joined us) + 4 * length us = length_prefixed avc us in
    omega arith

pub length_one : (avc : Bool) (u : List ℕ) → length (prefixed avc (u ∷ [])) ≡ length u + 4
length_one avc u = ap length (prefixed_one avc u) ∙ omega (arith, length_unit avc u)

-- ---- the buffers

pub bytes_short : (out bytes : List ℕ) → length out < length bytes → lay_bytes out bytes ≡ record { answer = refuse 5; out = out }
unfolding lay_bytes
bytes_short out bytes h = rw (lt-ltb (length out) (length bytes) h)

pub bytes_fit : (out bytes : List ℕ) → length bytes ≤ length out →
    lay_bytes out bytes ≡ record { answer = says (length bytes); out = splice out 0 bytes }
unfolding lay_bytes
bytes_fit out bytes h = rw (le-ltb (length out) (length bytes) h)

too_long_lem : (gather kept : List ℕ) → (length gather < length kept) ⊎ (16777215 < length kept) → too_long gather kept ≡ true
too_long_lem gather kept (inl h) = rw (lt-ltb (length gather) (length kept) h)
too_long_lem gather kept (inr h) = rw (lt-ltb 16777215 (length kept) h) (or-true (ltb (length gather) (length kept)))

not_long : (gather kept : List ℕ) → length kept ≤ length gather → length kept ≤ 16777215 → too_long gather kept ≡ false
not_long gather kept h g = rw (le-ltb (length gather) (length kept) h, le-ltb 16777215 (length kept) g)

pub gather_long : (gather kept : List ℕ) → (length gather < length kept) ⊎ (16777215 < length kept) →
    lay_gather gather kept ≡ record { answer = refuse 6; gather = gather }
unfolding lay_gather
gather_long gather kept h = rw (too_long_lem gather kept h)

pub gather_fits : (gather kept : List ℕ) → length kept ≤ length gather → length kept ≤ 16777215 →
    lay_gather gather kept ≡ record { answer = says 0; gather = splice gather 0 kept }
unfolding lay_gather
gather_fits gather kept h g = rw (not_long gather kept h g)

-- what the test of how long the run is tells, by its answer: `n` is where the run ends
pub end_long : (gather kept : List ℕ) (n : ℕ) (r : Refusal) → length kept ≡ n → refused r ≡ end_of (length gather) n →
    (◌≡◌ {A = Said ℕ} (refused r) (refuse 6)) × ((length gather < length kept) ⊎ (16777215 < length kept))
end_long gather kept n r l e = by (dec_le n (length gather)) (dec_le n 16777215)
  where
    by : Dec (n ≤ length gather) → Dec (n ≤ 16777215) → (◌≡◌ {A = Said ℕ} (refused r) (refuse 6)) × ((length gather < length kept) ⊎ (16777215 < length kept))
    by (yes h) (yes g) = absurd (not_says {x = n} (e ∙ rw (le-ltb (length gather) n h, le-ltb 16777215 n g)))
    by (yes h) (no g) = (e ∙ rw (le-ltb (length gather) n h, lt-ltb 16777215 n (lt_of_not-le g)), inr (omega (arith, l, lt_of_not-le g)))
    by (no h) g = (e ∙ rw (lt-ltb (length gather) n (lt_of_not-le h)), inl (omega (arith, l, lt_of_not-le h)))

pub end_fits : (gather kept : List ℕ) (n m : ℕ) → length kept ≡ n → says m ≡ end_of (length gather) n →
    (m ≡ n) × (length kept ≤ length gather) × (length kept ≤ 16777215)
end_fits gather kept n m l e = by (dec_le n (length gather)) (dec_le n 16777215)
  where
    by : Dec (n ≤ length gather) → Dec (n ≤ 16777215) → (m ≡ n) × (length kept ≤ length gather) × (length kept ≤ 16777215)
    by (yes h) (yes g) =
        (same_answer _ m n (sym e) (rw (le-ltb (length gather) n h, le-ltb 16777215 n g)), omega (arith, l, h), omega (arith, l, g))
    by (yes h) (no g) = absurd (not_says {r = record { number = 6; carried = [] }} (sym (e ∙ rw (le-ltb (length gather) n h, lt-ltb 16777215 n (lt_of_not-le g)))))
    by (no h) g = absurd (not_says {r = record { number = 6; carried = [] }} (sym (e ∙ rw (lt-ltb (length gather) n (lt_of_not-le h)))))

module _ (avc : Bool) (gather out kept : List ℕ) (handed : List (List ℕ)) where
  pub both_long : (length gather < length kept) ⊎ (16777215 < length kept) →
      lay_both avc gather out kept handed ≡ record { answer = refuse 6; gather = gather; out = out }
  unfolding lay_both
  both_long h = rw (too_long_lem gather kept h)

  -- the gather buffer is long enough: what the output's answer is decides
  pub both_by : (l : OutLaid) → length kept ≤ length gather → length kept ≤ 16777215 → lay_bytes out (prefixed avc handed) ≡ l →
      lay_both avc gather out kept handed ≡ record { answer = l.answer; gather = gather_after gather kept l.answer; out = l.out }
  unfolding lay_both
  both_by l h g e =
      rw (not_long gather kept h g)
      (ap (λ (x : OutLaid). record { answer = x.answer; gather = gather_after gather kept x.answer; out = x.out }) e)

  -- where it answers, so many bytes are handed out, and no more were gathered than a run may have
  pub both_says : (n : ℕ) → (lay_both avc gather out kept handed).answer ≡ says n → (n ≡ length (prefixed avc handed)) × (length kept ≤ 16777215)
  both_says n e =
      elim (dec_le (length kept) (length gather)) [
        | no long ↦ absurd (not_says (sym (ap (λ (l : Laid ℕ). l.answer) (both_long (inl (lt_of_not-le long)))) ∙ e))
        | yes h ↦ elim (dec_le (length kept) 16777215) [
          | no many ↦ absurd (not_says (sym (ap (λ (l : Laid ℕ). l.answer) (both_long (inr (lt_of_not-le many)))) ∙ e))
          | yes g ↦ (by_room h g, g)
        ]
      ]
    where
      by_room : length kept ≤ length gather → length kept ≤ 16777215 → n ≡ length (prefixed avc handed)
      by_room h g =
          elim (dec_le (length (prefixed avc handed)) (length out)) [
            | no short ↦ absurd (not_says (sym (ap (λ (l : Laid ℕ). l.answer) (both_by _ h g (bytes_short out (prefixed avc handed) (lt_of_not-le short)))) ∙ e))
            | yes fits ↦ same_answer _ n (length (prefixed avc handed)) e (ap (λ (l : Laid ℕ). l.answer) (both_by _ h g (bytes_fit out (prefixed avc handed) fits)))
          ]

-- prefix, header and body, put one behind the other
pub joined_unit : (avc : Bool) (out head body : List ℕ) → 4 + length head + length body ≤ length out →
    splice (splice (splice out 0 (prefix_for avc (length head + length body))) 4 head) (4 + length head) body
    ≡ splice out 0 (prefixed avc ((head ++ body) ∷ []))
joined_unit avc out head body h =
    let four : length p ≡ 4 = length_prefix_for avc (length head + length body) in
    ap (λ (l : List ℕ). splice l (4 + length head) body) (splice_behind out 0 p 4 head (omega arith) (omega (arith, four)))
    ∙ splice_behind out 0 (p ++ head) (4 + length head) body (omega arith) (omega (arith, length-append p head, four))
    ∙ ap (splice out 0)
    (append_assoc p head body
    ∙ ap (λ (n : ℕ). prefix_for avc n ++ (head ++ body)) (sym (length-append head body))
    ∙ sym (prefixed_one avc (head ++ body)))
  where
    p : List ℕ
    p = prefix_for avc (length head + length body)

-- ---- a fragment behind what was gathered

-- all of a payload behind its first n bytes, as the code lends it on
pub rest_of : (n : ℕ) (p : List ℕ) → take (length p - n) (drop n p) ≡ drop n p
rest_of n p = take_all (length p - n) (drop n p) (rw (length-drop n p) (omega arith))

module _ (gather part : List ℕ) (at : ℕ) (h : at ≤ length gather) where
  pub length_gathered : length (take at gather ++ part) ≡ at + length part
  length_gathered = length-append (take at gather) part ∙ ap (λ (n : ℕ). n + length part) (length-take-le at gather h)

  -- the run is then in front of the gather buffer
  pub run_of : take (at + length part) (splice gather 0 (take at gather ++ part)) ≡ take at gather ++ part
  run_of =
      let n : at + length part ≡ 0 + length (take at gather ++ part) = omega (arith, length_gathered) in
      ap (λ (k : ℕ). take k (splice gather 0 (take at gather ++ part))) n
      ∙ take_through gather 0 (take at gather ++ part) (omega arith)

-- an answer with both buffers is its three parts
pub laid_path : {m n : ℕ} {g g' o o' : List ℕ} → m ≡ n → g ≡ g' → o ≡ o' →
    ◌≡◌ {A = Laid ℕ} (record { answer = says m; gather = g; out = o }) (record { answer = says n; gather = g'; out = o' })
laid_path e f h i = record { answer = says (e i); gather = f i; out = h i }
