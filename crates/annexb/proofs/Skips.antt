-- The search may go on several bytes ahead: what no turn of a run changes is the same at both its ends, and no start code ends in fewer
-- than three bytes. Assumes nothing.
use mathlib.Core.Path.{◌≡◌, refl, sym, ap, ap₂, ◌∙◌}
use mathlib.Core.List.{List, [], ◌∷◌}
use mathlib.Core.Bool.{Bool, true, false, cond}
use Prim.Native.Nat.{ℕ, zero, suc, ◌+◌, ◌-◌, ◌≤◌, ◌<◌}
use native.Mathlib.Omega.{arith}
use lib.Dec.{eqb, leb}
use lib.ListN.{length, drop, get_or, length-drop}
use borrow.Author.Tests.{lt-leb, eqb-true}
use Rattle.std.specs.Prelude.{Option, Some, None}
use Rattle.annexb.specs.declared.Code.{Code}
use Rattle.annexb.specs.Search.{zeros_by, ends_code, scan}
use Rattle.annexb.specs.Runs.{Run, Zero, Other, ZerosStart}
use Rattle.annexb.proofs.Codes.{scan_zero, scan_other, scan_code, on_by, no_one, few_zeros, one_after_zeros}

-- the search from i on, where z zeros stand before it
abbrev pub ahead : List ℕ → ℕ → ℕ → Option Code
ahead frame i z = scan (drop i frame) i z

-- a start code of so many bytes at a place
the_code : ℕ → ℕ → Option Code
the_code at len = Some (record { at = at; len = len })

-- ---- runs

-- what no turn changes is the same at both ends
through : (f : ℕ → Option Code) (n i : ℕ) → ((k : ℕ) → k < i + n → i ≤ k → f k ≡ f (k + 1)) → f i ≡ f (i + n)
through f zero i turn = ap f (omega arith)
through f (suc n) i turn =
    turn i (omega arith) (omega arith)
    ∙ through f n (i + 1) (λ k high low. turn k (omega arith) (omega arith))
    ∙ ap f (omega arith)

module _ (frame : List ℕ) (i e : ℕ) where
  by_turns : {P : ℕ → Type 0} → Run P frame i e → (f : ℕ → Option Code) →
      ((k : ℕ) → k < length frame → i ≤ k → P (get_or frame k 0) → f k ≡ f (k + 1)) → f i ≡ f e
  by_turns r f turn =
      let q : i + (e - i) ≡ e = omega (arith, r.from) in
      through f (e - i) i (λ k high low. turn k (omega (arith, r.within)) low (r.each k (omega arith) low)) ∙ ap f q

  pub past_others : Run Other frame i e → ahead frame i 0 ≡ ahead frame e 0
  past_others r =
      by_turns r (λ (k : ℕ). ahead frame k 0)
      (λ k h low p. scan_other frame k 0 h (λ q. omega arith) (no_one (get_or frame k 0) 0 (λ q. omega arith)))

  pub past_zeros : Run Zero frame i e → ahead frame i 0 ≡ ahead frame e (e - i)
  past_zeros r =
      ap (ahead frame i) (omega arith)
      ∙ by_turns r (λ (k : ℕ). ahead frame k (k - i))
      (λ k h low p. scan_zero frame k (k - i) h p ∙ ap (ahead frame (k + 1)) (omega arith))

  -- "A start code is two or more zeros and a 1"
  pub code_found : {n : ℕ} → n ≡ e - i + 1 → Run Zero frame i e → e < length frame → get_or frame e 0 ≡ 1 → leb 2 (e - i) ≡ true →
      Some (record { at = i; len = n }) ≡ ahead frame i 0
  unfolding the_code
  code_found q r h one two =
      ap₂ (λ (x y : ℕ). the_code x y) (omega (arith, r.from)) q
      ∙ sym (past_zeros r ∙ scan_code frame e (e - i) h (one_after_zeros (get_or frame e 0) (e - i) one two))

  pub no_code : Run Zero frame i e → e < length frame → (get_or frame e 0 ≡ 0 → ⊥) → ends_code (get_or frame e 0) (e - i) ≡ false →
      ahead frame i 0 ≡ ahead frame (e + 1) 0
  no_code r h n none = past_zeros r ∙ scan_other frame e (e - i) h n none

-- ---- three bytes

zeros_up : (t : Bool) (z : ℕ) → zeros_by t z ≤ z + 1
zeros_up true z = omega arith
zeros_up false z = omega arith

-- no start code ends where it had fewer than three bytes
short : (s : List ℕ) (at z : ℕ) → length s + z < 3 → scan s at z ≡ None
short [] at z h = refl
short (b ∷ s) at z h =
    let rest = scan s (at + 1) (zeros_by (eqb b 0) z) in
    ap (λ (t : Bool). cond t (Some (record { at = at - z; len = z + 1 })) rest) (few_zeros b z (lt-leb 2 z (omega arith)))
    ∙ short s (at + 1) (zeros_by (eqb b 0) z) (omega (arith, zeros_up (eqb b 0) z))

pub few_left : (frame : List ℕ) (i : ℕ) → length frame < i + 3 → ahead frame i 0 ≡ None
few_left frame i few = short (drop i frame) i 0 (omega (arith, length-drop i frame))

-- how many zeros stand in a row up to the byte at i, where z stood before it
abbrev up_to : List ℕ → ℕ → ℕ → ℕ
up_to frame i z = zeros_by (eqb (get_or frame i 0) 0) z

up_one : (frame : List ℕ) (i : ℕ) → up_to frame i 0 < 2
up_one frame i = omega (arith, zeros_up (eqb (get_or frame i 0) 0) 0)

module _ (frame : List ℕ) (i e z : ℕ) (q : e ≡ i + 1) (h : i < length frame) where
  -- a byte that ends no start code
  passed : (get_or frame i 0 ≡ 0 → ⊥) → ends_code (get_or frame i 0) z ≡ false → ahead frame i z ≡ ahead frame e 0
  passed n none = scan_other frame i z h n none ∙ ap (λ (k : ℕ). ahead frame k 0) (sym q)

  -- with fewer than two zeros before it no byte ends one
  cleared : z < 2 → (get_or frame i 0 ≡ 0 → ⊥) → ahead frame i z ≡ ahead frame e 0
  cleared few n = passed n (few_zeros (get_or frame i 0) z (lt-leb 2 z few))

  counted : z < 2 → ahead frame i z ≡ ahead frame e (up_to frame i z)
  counted few =
      on_by frame i z h (ends_code (get_or frame i 0) z) refl (few_zeros (get_or frame i 0) z (lt-leb 2 z few)) (eqb (get_or frame i 0) 0) refl
      ∙ ap (λ (k : ℕ). ahead frame k (up_to frame i z)) (sym q)

module _ (frame : List ℕ) (i : ℕ) (h : i + 3 ≤ length frame) where
  -- three bytes that end in no zero and are not 0, 0, 1
  pub past_three : (get_or frame (i + 2) 0 ≡ 0 → ⊥) →
      (get_or frame i 0 ≡ 0 → get_or frame (i + 1) 0 ≡ 0 → get_or frame (i + 2) 0 ≡ 1 → ⊥) → ahead frame i 0 ≡ ahead frame (i + 3) 0
  past_three n none =
      counted frame i (i + 1) 0 (omega arith) (omega arith) (omega arith)
      ∙ counted frame (i + 1) (i + 2) (up_to frame i 0) (omega arith) (omega arith) (up_one frame i)
      ∙ passed frame (i + 2) (i + 3) (up_to frame (i + 1) (up_to frame i 0)) (omega arith) (omega arith) n
      (go (eqb (get_or frame i 0) 0) (eqb (get_or frame (i + 1) 0) 0) refl refl)
    where
      go : (p q : Bool) → eqb (get_or frame i 0) 0 ≡ p → eqb (get_or frame (i + 1) 0) 0 ≡ q →
          ends_code (get_or frame (i + 2) 0) (zeros_by q (zeros_by p 0)) ≡ false
      go true true e f =
          no_one (get_or frame (i + 2) 0) (0 + 1 + 1) (none (eqb-true (get_or frame i 0) 0 e) (eqb-true (get_or frame (i + 1) 0) 0 f))
      go true false e f = few_zeros (get_or frame (i + 2) 0) 0 refl
      go false q e f = few_zeros (get_or frame (i + 2) 0) (zeros_by q 0) (lt-leb 2 (zeros_by q 0) (omega (arith, zeros_up q 0)))

  -- what stands before the zeros up to the one two places behind i
  pub to_zeros : (first : ℕ) → ZerosStart frame i first → ahead frame i 0 ≡ ahead frame first 0
  to_zeros first w = go (first - i) (omega (arith, w.from))
    where
      go : (n : ℕ) → first ≡ i + n → ahead frame i 0 ≡ ahead frame first 0
      go zero q = let p : i ≡ first = omega arith in ap (λ (k : ℕ). ahead frame k 0) p
      go (suc zero) q = cleared frame i first 0 (omega arith) (omega arith) (omega arith) (w.start i (omega arith) (omega arith))
      go (suc (suc zero)) q =
          counted frame i (i + 1) 0 (omega arith) (omega arith) (omega arith)
          ∙ cleared frame (i + 1) first (up_to frame i 0) (omega arith) (omega arith) (up_one frame i) (w.start (i + 1) (omega arith) (omega arith))
      go (suc (suc (suc n))) q = absurd (omega (arith, w.some))
