-- Text that is put together before it is written, as the list of its bytes. Assumes nothing.
use Rattle.std.specs.Prelude.{◌≡◌, ℕ, ◌+◌, cond, List, [], ◌++◌, length, nat_le}
use Rattle.stream.specs.Digits.{last_digits, IsDigitCount}

-- no text yet
abbrev pub no_text : List ℕ
no_text = []

-- a text with a word behind it
abbrev pub with_word : List ℕ → List ℕ → List ℕ
with_word t word = t ++ word

-- a text with a word behind it; one that has no room is left out
unfoldable pub word_on : ℕ → List ℕ → List ℕ → List ℕ
word_on room t word = cond (nat_le (length t + length word) room) (with_word t word) t

-- a text with a name and a number behind it, in as few decimal digits as say it
pub record Numbered (t : List ℕ) (name : List ℕ) (n : ℕ) (r : List ℕ) : Type 0 where
  pub places : ℕ
  pub fewest : IsDigitCount 10 1 n places
  pub text : r ≡ with_word (with_word t name) (last_digits 10 places n)
