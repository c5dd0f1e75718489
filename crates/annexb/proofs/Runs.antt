-- Runs of bytes that are alike, put together: each byte of the whole lies in one of the parts. Assumes nothing.
use mathlib.Core.List.{List}
use mathlib.Core.Path.{◌≡◌, subst}
use Prim.Native.Nat.{ℕ, ◌+◌, ◌≤◌, ◌<◌}
use native.Mathlib.Decide.{dec_le}
use native.Mathlib.Omega.{arith}
use lib.ListN.{length, get_or}
use Rattle.annexb.specs.Runs.{Run}

module _ {P : ℕ → Type 0} {frame : List ℕ} where
  pub run_none : {i e : ℕ} → e ≡ i → i ≤ length frame → Run P frame i e
  run_none q h = record { from = omega arith; within = omega arith; each = λ k high low. absurd (omega arith) }

  pub run_one : {i e : ℕ} → e ≡ i + 1 → i < length frame → P (get_or frame i 0) → Run P frame i e
  run_one {i} q h p =
      record {
        from = omega arith;
        within = omega arith;
        each = λ k high low. let e : i ≡ k = omega arith in subst (λ (n : ℕ). P (get_or frame n 0)) e p;
      }

  -- one run behind another
  pub run_on : {a b c : ℕ} → Run P frame a b → Run P frame b c → Run P frame a c
  run_on {a} {b} {c} r s =
      record { from = omega (arith, r.from, s.from); within = s.within; each = λ k high low. go k high low (dec_le b k) }
    where
      go : (k : ℕ) → k < c → a ≤ k → Dec (b ≤ k) → P (get_or frame k 0)
      go k high low (yes h) = s.each k high h
      go k high low (no h) = r.each k (omega arith) low

-- of which P holds, of that holds what follows from P
pub run_as : {P Q : ℕ → Type 0} {frame : List ℕ} {i e : ℕ} → ((b : ℕ) → P b → Q b) → Run P frame i e → Run Q frame i e
run_as {P} {Q} {frame} f r =
    record { from = r.from; within = r.within; each = λ k high low. f (get_or frame k 0) (r.each k high low) }
