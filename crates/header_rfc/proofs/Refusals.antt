-- 1 and 2 are given exactly where the octets are cut short, 3 and 7 exactly where the way that they go says so: what is cut short is refused by 1 or 2,
-- and what is not goes one of the four ways. Assumes nothing.
use mathlib.Core.Path.{◌≡◌, sym, ap, ◌∙◌}
use mathlib.Core.List.{List}
use mathlib.Core.Logic.{◌⊎◌, inl, inr}
use Prim.Native.Nat.{ℕ, ◌<◌}
use native.Mathlib.Nat.{lt_of_not-le}
use native.Mathlib.Decide.{dec_le}
use native.Mathlib.Omega.{arith}
use lib.ListN.{length}
use Rattle.error.specs.Said.{Said, says, refused, refuse}
use Rattle.rfc3550.specs.Rfc3550.{Octets, CutShort, fixed_cut, csrcs_cut, head_cut, content_cut}
use Rattle.header.specs.Read.{read_header}
use Rattle.header.proofs.Reading.{header_long}
use Rattle.header_rfc.specs.Says.{Within, Over, Fits}
use Rattle.header_rfc.specs.Taken.{Course, bare, takes, lacks, words, elements_in, answer_in, PastPacket, OverLimits}
use Rattle.header_rfc.proofs.Items.{within_or_over}
use Rattle.header_rfc.proofs.Sound.{cut_number, cut_refused}
use Rattle.header_rfc.proofs.Courses.{every_course}
use Rattle.header_rfc.proofs.Follows.{follows}

-- the number of a refusal; an answer has none
abbrev pub number_in : {A : Type 0} → Said A → ℕ
number_in (says a) = 0
number_in (refused r) = r.number

-- a refusal other than 8 is of a packet that is short enough
fits_refused : (s : List ℕ) (n : ℕ) → read_header s ≡ refuse n → (n ≡ 8 → ⊥) → Fits s
fits_refused s n e h =
    elim (dec_le (length s) 65535) [
      | yes k ↦ k
      | no k ↦ absurd (h (ap number_in (sym e ∙ header_long s (lt_of_not-le k))))
    ]

-- why a header got a number
data Why (s : List ℕ) (n : ℕ) : Type 0 where
  is_cut : (c : CutShort s) → n ≡ cut_number c → Why s n
  is_past : PastPacket s → n ≡ 3 → Why s n
  is_over : OverLimits s → n ≡ 7 → Why s n
  is_read : n ≡ 0 → Why s n

why : (s : List ℕ) → Octets s → Fits s → (n : ℕ) → number_in (read_header s) ≡ n → Why s n
why s o fits n e = go (every_course s o)
  where
    within : (c : Course s) → Within (elements_in c) → number_in (answer_in c) ≡ n → Why s n
    within (bare b) w q = is_read (sym q)
    within (takes t) w q = is_read (sym q)
    within (lacks l) w q = is_past (record { lacking = l; within = w }) (sym q)
    within (words x) w q = is_read (sym q)

    judged : (c : Course s) → Within (elements_in c) ⊎ Over (elements_in c) → Why s n
    judged c (inl w) = within c w (ap number_in (sym (follows.within s c fits w)) ∙ e)
    judged c (inr over) = is_over (record { course = c; over = over }) (sym e ∙ ap number_in (follows.over s c fits over))

    go : Course s ⊎ CutShort s → Why s n
    go (inl c) = judged c (within_or_over (elements_in c))
    go (inr c) = is_cut c (sym e ∙ ap number_in (cut_refused s fits c))

-- what is cut short gets 1 or 2
cut_not : {s : List ℕ} (c : CutShort s) (n : ℕ) → 2 < n → n ≡ cut_number c → ⊥
cut_not (fixed_cut h) n k e = omega arith
cut_not (csrcs_cut g h) n k e = omega arith
cut_not (head_cut x g h) n k e = omega arith
cut_not (content_cut x g h) n k e = omega arith

-- ---- 1 and 2: only where the octets are cut short

pub only_cut : (s : List ℕ) → Octets s → Fits s → (read_header s ≡ refuse 1) ⊎ (read_header s ≡ refuse 2) → CutShort s
only_cut s o fits e = number e
  where
    go : (n : ℕ) → (n ≡ 0 → ⊥) → (n ≡ 3 → ⊥) → (n ≡ 7 → ⊥) → Why s n → CutShort s
    go n h k m (is_cut c q) = c
    go n h k m (is_past x q) = absurd (k q)
    go n h k m (is_over x q) = absurd (m q)
    go n h k m (is_read q) = absurd (h q)

    number : (read_header s ≡ refuse 1) ⊎ (read_header s ≡ refuse 2) → CutShort s
    number (inl q) = go 1 (λ z. omega arith) (λ z. omega arith) (λ z. omega arith) (why s o fits 1 (ap number_in q))
    number (inr q) = go 2 (λ z. omega arith) (λ z. omega arith) (λ z. omega arith) (why s o fits 2 (ap number_in q))

-- and there one of them is given
pub cut_short : (s : List ℕ) → Fits s → CutShort s → (read_header s ≡ refuse 1) ⊎ (read_header s ≡ refuse 2)
cut_short s fits (fixed_cut h) = inl (cut_refused s fits (fixed_cut h))
cut_short s fits (csrcs_cut g h) = inl (cut_refused s fits (csrcs_cut g h))
cut_short s fits (head_cut x g h) = inr (cut_refused s fits (head_cut x g h))
cut_short s fits (content_cut x g h) = inr (cut_refused s fits (content_cut x g h))

-- ---- 3: exactly where the packet does not hold an element, and those before it are within the limits

pub past : (s : List ℕ) → Fits s → PastPacket s → read_header s ≡ refuse 3
past s fits p = follows.within s (lacks p.lacking) fits p.within

pub only_past : (s : List ℕ) → Octets s → read_header s ≡ refuse 3 → PastPacket s
only_past s o e = go (why s o (fits_refused s 3 e (λ z. omega arith)) 3 (ap number_in e))
  where
    go : Why s 3 → PastPacket s
    go (is_cut c q) = absurd (cut_not c 3 (omega arith) q)
    go (is_past p q) = p
    go (is_over x q) = absurd (omega arith)
    go (is_read q) = absurd (omega arith)

-- ---- 7: exactly where the elements that are read pass the limits

pub over : (s : List ℕ) → Fits s → OverLimits s → read_header s ≡ refuse 7
over s fits x = follows.over s x.course fits x.over

pub only_over : (s : List ℕ) → Octets s → read_header s ≡ refuse 7 → OverLimits s
only_over s o e = go (why s o (fits_refused s 7 e (λ z. omega arith)) 7 (ap number_in e))
  where
    go : Why s 7 → OverLimits s
    go (is_cut c q) = absurd (cut_not c 7 (omega arith) q)
    go (is_past p q) = absurd (omega arith)
    go (is_over x q) = x
    go (is_read q) = absurd (omega arith)
