-- The laws of a text: a word has room, or it has none; what `write!` gave it stands behind it; a number is said in one way, by its fewest digits,
-- and these are what `decimal` says. Assumes nothing.
use Rattle.std.proofs.Common.{◌≡◌, ℕ, zero, suc, ◌+◌, ◌-◌, ◌*◌, ◌/◌, ◌%◌, ◌^◌, ◌<◌, ◌≤◌, Bool, cond, List, [], ◌∷◌, ◌++◌, length, decimal, Result, OnOk, sym, ap, ◌∙◌, le_antisymm, append_assoc, arith, le-leb, lt-ltb}
use Rattle.std.proofs.lemmas.Fmt.{decimal_by_steps_wide, contents_after_writes}
use Rattle.std.proofs.lemmas.Result.{on_ok_weaker}
use Rattle.std.specs.Fmt.{WritesInCalls}
use Rattle.arrayvec.specs.ArrayString.{ArrayString}
use native.Mathlib.Decide.{dec_le}
use native.Mathlib.Nat.{pow-le-pow_right}
use native.Mathlib.Numerals.{unary_clauses}
use borrow.Author.Tests.{lt-leb}
use Rattle.stream.specs.Digits.{hex_digit_ascii, last_digits, IsDigitCount}
use Rattle.stream.specs.Text.{no_text, with_word, word_on, Numbered}

module _ (room : ℕ) (t word : List ℕ) where
  pub word_fits : length t + length word ≤ room → word_on room t word ≡ with_word t word
  unfolding word_on
  word_fits h = ap (λ (b : Bool). cond b (with_word t word) t) (le-leb (length t + length word) room h)

  pub word_out : room < length t + length word → word_on room t word ≡ t
  unfolding word_on
  word_out h = ap (λ (b : Bool). cond b (with_word t word) t) (lt-leb (length t + length word) room h)

-- a write that has room appends
pub written : {E : Type 0} (r : Result Unit E) (t : ArrayString) (bs : List ℕ) (u : ArrayString) →
    OnOk r (WritesInCalls (λ s word v. v.bytes ≡ s.bytes ++ word) t bs u) → OnOk r (u.bytes ≡ t.bytes ++ bs)
written r t bs u = on_ok_weaker r (contents_after_writes _ (λ s. s.bytes) (λ _ _ _ h. h) t bs u)

-- ---- a number

-- no more digits than any that hold it
fewest : (n j k : ℕ) → IsDigitCount 10 1 n j → IsDigitCount 10 1 n k → k ≤ j
fewest n j k a b =
    go (dec_le k j)
  where
    go : Dec (k ≤ j) → k ≤ j
    go (yes h) = h
    go (no h) =
        let more : j < k = omega (arith, h) in
        let low : 10 ^ (k - 1) ≤ n = b.2 (omega (arith, a.0)) in
        let high : 10 ^ j ≤ 10 ^ (k - 1) = pow-le-pow_right (omega arith) (omega arith) in
        absurd (omega (arith, a.1))

-- a name and a number behind a text make one text
pub numbered_once : (t name : List ℕ) (n : ℕ) (r q : List ℕ) → Numbered t name n r → Numbered t name n q → r ≡ q
numbered_once t name n r q a b =
    let same : a.places ≡ b.places =
    le_antisymm (fewest n b.places a.places b.fewest a.fewest) (fewest n a.places b.places a.fewest b.fewest) in
    a.text ∙ ap (λ (k : ℕ). with_word (with_word t name) (last_digits 10 k n)) same ∙ sym b.text

last_digit : (n : ℕ) → hex_digit_ascii (n % 10) ≡ 48 + n % 10
last_digit n = ap (λ (b : Bool). cond b (48 + n % 10) (87 + n % 10)) (lt-ltb (n % 10) 10 (omega arith))

one_digit : (n : ℕ) → n < 10 → Numbered no_text [] n ((48 + n) ∷ [])
one_digit n h =
    let low : 48 + n ≡ 48 + n % 10 = omega arith in
    record { places = 1; fewest = (omega arith, omega arith, λ more. absurd (omega arith)); text = ap (λ (d : ℕ). d ∷ []) (low ∙ sym (last_digit n)) }

-- one digit more holds ten times as much, and where n has two digits or more it needs it
more_places : (n k : ℕ) → 10 ≤ n → IsDigitCount 10 1 (n / 10) k → IsDigitCount 10 1 n (suc k)
more_places n zero h c = absurd (omega (arith, c.0))
more_places n (suc zero) h c = (omega arith, omega (arith, c.1), λ more. omega arith)
more_places n (suc (suc k)) h c =
    let needed : 10 ^ k * 10 ≤ n / 10 = simp unary_clauses at (c.2 (omega arith)) in
    (omega arith, omega (arith, c.1), λ more. simp unary_clauses (omega (arith, needed)))

more_digits : (n : ℕ) (ds : List ℕ) → 10 ≤ n → Numbered no_text [] (n / 10) ds → Numbered no_text [] n (ds ++ ((48 + n % 10) ∷ []))
more_digits n ds h a = record {
  places = suc a.places;
  fewest = more_places n a.places h a.fewest;
  text = ap (λ (l : List ℕ). l ++ ((48 + n % 10) ∷ [])) a.text ∙ ap (λ (d : ℕ). last_digits 10 a.places (n / 10) ++ (d ∷ [])) (sym (last_digit n));
}

-- the text by which the clauses of the programs say a name and a number; it holds no further: `decimal` has room for 64 digits
pub numbered : (t name : List ℕ) (n : ℕ) → n < 10 ^ 64 → Numbered t name n (t ++ (name ++ decimal n))
numbered t name n h =
    let alone = decimal_by_steps_wide (Numbered no_text []) one_digit more_digits n h in
    record { places = alone.places; fewest = alone.fewest; text = sym (append_assoc t name (decimal n)) ∙ ap (with_word (with_word t name)) alone.text }
