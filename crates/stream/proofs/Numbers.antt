-- The laws of `number_from`: the digits end, one of them is none or one too many, one of them counts. Assumes nothing.
use Rattle.std.proofs.Common.{◌≡◌, ℕ, ◌+◌, ◌*◌, ◌<◌, ◌≤◌, Bool, true, false, cond, List, length, get_or, drop, None, Some, sym, ap, ◌∙◌, drop_of_length-le, le-leb}
use borrow.Author.Tests.{lt-leb}
use Rattle.wire.proofs.Part.{drop_front}
use Rattle.stream.specs.Argument.{digit_of, goes_on, number_from}

module _ (s : List ℕ) (i n : ℕ) where
  pub number_end : length s ≤ i → number_from (drop i s) n ≡ Some n
  number_end h = ap (λ (l : List ℕ). number_from l n) (drop_of_length-le s h)

  -- the digit d stands at i
  module _ (h : i < length s) (d : ℕ) (is : d ≡ digit_of (get_or s i 0)) where
    by_digit : (b : Bool) → goes_on d n ≡ b → number_from (drop i s) n ≡ cond b (number_from (drop (i + 1) s) (n * 10 + d)) None
    by_digit b so =
        ap (λ (l : List ℕ). number_from l n) (drop_front s i h)
        ∙ ap (λ (k : ℕ). cond (goes_on k n) (number_from (drop (i + 1) s) (n * 10 + k)) None) (sym is)
        ∙ ap (λ (t : Bool). cond t (number_from (drop (i + 1) s) (n * 10 + d)) None) so

    pub number_none : 9 < d → number_from (drop i s) n ≡ None
    number_none o = by_digit false (rw (lt-leb d 9 o))

    pub number_full : d ≤ 9 → 999999999 < n → number_from (drop i s) n ≡ None
    number_full o m = by_digit false (rw (le-leb d 9 o, lt-leb n 999999999 m))

    pub number_on : d ≤ 9 → n ≤ 999999999 → number_from (drop i s) n ≡ number_from (drop (i + 1) s) (n * 10 + d)
    number_on o m = by_digit true (rw (le-leb d 9 o, le-leb n 999999999 m))
