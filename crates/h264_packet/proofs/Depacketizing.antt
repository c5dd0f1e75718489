-- How the reader's definitions go on, from the facts that the code tests. Assumes nothing.
use mathlib.Core.Path.{◌≡◌, refl, sym, ap, subst, ◌∙◌}
use mathlib.Core.Bool.{Bool, true, false, cond, or-true}
use mathlib.Core.List.{List}
use mathlib.Core.Logic.{◌⊎◌, inl, inr}
use Prim.Native.Nat.{ℕ, ◌≤◌, ◌<◌}
use native.Mathlib.Decide.{dec_le}
use native.Mathlib.Nat.{lt_of_not-le}
use lib.Dec.{ltb, eqb}
use lib.ListN.{length, take}
use lib.Seq.{length-take-le}
use borrow.Author.Tests.{lt-ltb, le-ltb, eqb-true}
use Rattle.error.specs.Said.{refuse}
use Rattle.nal.specs.Fed.{Laid}
use Rattle.nal.specs.Ran.{RanOn, lay_run}
use Rattle.h264_packet.specs.Run.{none, gathering, gathered, run_of, recorded}
use Rattle.h264_packet.specs.Depacketize.{outside, read_payload, depacketized}

-- the run that n bytes stand for is those bytes
pub gathered_run : (n : ℕ) (gather : List ℕ) → gathered (run_of n gather) ≡ take n gather
gathered_run n gather = go (eqb n 0) refl
  where
    go : (b : Bool) → eqb n 0 ≡ b → gathered (run_of n gather) ≡ take n gather
    go true e =
        ap (λ (b : Bool). gathered (cond b none (gathering (take n gather)))) e
        ∙ sym (ap (λ (k : ℕ). take k gather) (eqb-true n 0 e))
    go false e = ap (λ (b : Bool). gathered (cond b none (gathering (take n gather)))) e

pub length_run : (n : ℕ) (gather : List ℕ) → n ≤ length gather → length (gathered (run_of n gather)) ≡ n
length_run n gather h = ap length (gathered_run n gather) ∙ length-take-le n gather h

module _ (avc : Bool) (n : ℕ) (payload gather out : List ℕ) where
  pub read_outside : (65535 < length payload) ⊎ ((length gather < n) ⊎ (16777215 < n)) →
      depacketized avc n payload gather out ≡ record { answer = refuse 8; gather = gather; out = out }
  unfolding depacketized
  read_outside h =
      ap (λ (b : Bool). cond b (record { answer = refuse 8; gather = gather; out = out }) (lay_run recorded avc gather out (read_payload (run_of n gather) payload)))
      (far h)
    where
      far : (65535 < length payload) ⊎ ((length gather < n) ⊎ (16777215 < n)) → outside n payload gather ≡ true
      far (inl h) = rw (lt-ltb 65535 (length payload) h)
      far (inr (inl h)) = rw (lt-ltb (length gather) n h) (or-true (ltb 65535 (length payload)))
      far (inr (inr h)) =
          rw (lt-ltb 16777215 n h, or-true (ltb (length gather) n)) (or-true (ltb 65535 (length payload)))

  pub read_inside : length payload ≤ 65535 → n ≤ length gather → n ≤ 16777215 →
      depacketized avc n payload gather out ≡ lay_run recorded avc gather out (read_payload (run_of n gather) payload)
  unfolding depacketized
  read_inside h g k = rw (le-ltb 65535 (length payload) h, le-ltb (length gather) n g, le-ltb 16777215 n k)

-- a call outside the domain is 8, and one inside is told by what the payload does
pub by_domain : (P : Laid (RanOn ℕ) → Type 0) (avc : Bool) (n : ℕ) (payload gather out : List ℕ) → P (record { answer = refuse 8; gather = gather; out = out }) →
    (length payload ≤ 65535 → n ≤ length gather → n ≤ 16777215 → P (lay_run recorded avc gather out (read_payload (run_of n gather) payload))) →
    P (depacketized avc n payload gather out)
by_domain P avc n payload gather out outside inside = by (dec_le (length payload) 65535) (dec_le n (length gather)) (dec_le n 16777215)
  where
    far : (65535 < length payload) ⊎ ((length gather < n) ⊎ (16777215 < n)) → P (depacketized avc n payload gather out)
    far h = subst P (sym (read_outside avc n payload gather out h)) outside

    by : Dec (length payload ≤ 65535) → Dec (n ≤ length gather) → Dec (n ≤ 16777215) → P (depacketized avc n payload gather out)
    by (no h) g k = far (inl (lt_of_not-le h))
    by (yes h) (no g) k = far (inr (inl (lt_of_not-le g)))
    by (yes h) (yes g) (no k) = far (inr (inr (lt_of_not-le k)))
    by (yes h) (yes g) (yes k) = subst P (sym (read_inside avc n payload gather out h g k)) (inside h g k)
