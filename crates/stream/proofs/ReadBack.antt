-- What is written as records is read back as the same packets. Assumes nothing.
use Rattle.std.proofs.Common.{◌≡◌, ℕ, ◌+◌, ◌≤◌, Bool, false, cond, ltb, leb, List, [], ◌∷◌, ◌++◌, length, take, drop, refl, ap, ◌∙◌, ap₂, append_assoc, arith, length-append, take_at, drop_at, le-ltb}
use borrow.Author.Tests.{lt-leb}
use Rattle.wire.specs.Net.{be16, u16_at}
use Rattle.wire.specs.Part.{part}
use Rattle.wire.proofs.Net.{length_be16, u16_of_be16}
use Rattle.stream.specs.declared.framing.Record.{Record}
use Rattle.stream.specs.declared.framing.Record.TheVariants.{Packet, Cut, End}
use Rattle.stream.specs.Framing.{framed, record_of, record_at, file, before, packets_in}

module _ (p rest : List ℕ) (short : length p ≤ 65535) where
  long : length (framed p ++ rest) ≡ 2 + length p + length rest
  unfolding framed
  long =
      length-append (be16 (length p) ++ p) rest
      ∙ ap (λ (n : ℕ). n + length rest) (length-append (be16 (length p)) p ∙ ap (λ (n : ℕ). n + length p) (length_be16 (length p)))

  said : u16_at (framed p ++ rest) 0 ≡ length p
  unfolding framed
  said =
      ap (λ (l : List ℕ). u16_at l 0) (append_assoc (be16 (length p)) p rest)
      ∙ u16_of_be16 (length p) (p ++ rest) (omega arith)

  pub first_record : record_at (framed p ++ rest) 0 ≡ Packet 2 (length p)
  unfolding record_at
  first_record =
      let s = framed p ++ rest in
      let some : leb (length s) 0 ≡ false = lt-leb (length s) 0 (omega (arith, long)) in
      let two : ltb (length s) 2 ≡ false = le-ltb (length s) 2 (omega (arith, long)) in
      let all : ltb (length s) (2 + length p) ≡ false = le-ltb (length s) (2 + length p) (omega (arith, long)) in
      ap (λ (b : Bool). cond b End (cond (ltb (length s) 2) Cut (record_of s 0 (u16_at s 0)))) some
      ∙ ap (λ (b : Bool). cond b Cut (record_of s 0 (u16_at s 0))) two
      ∙ ap (record_of s 0) said
      ∙ ap (λ (b : Bool). cond b Cut (Packet 2 (length p))) all

  apart : drop 2 (framed p ++ rest) ≡ p ++ rest
  unfolding framed
  apart =
      ap (drop 2) (append_assoc (be16 (length p)) p rest)
      ∙ drop_at (be16 (length p)) (p ++ rest) 2 (length_be16 (length p))

  pub first_packet : part (framed p ++ rest) 2 (length p) ≡ p
  first_packet = ap (take (length p)) apart ∙ take_at p rest (length p) refl

  pub behind_first : drop (2 + length p) (framed p ++ rest) ≡ rest
  unfolding framed
  behind_first =
      drop_at (be16 (length p) ++ p) rest (2 + length p)
      (length-append (be16 (length p)) p ∙ ap (λ (n : ℕ). n + length p) (length_be16 (length p)))

-- packets of at most 65,535 bytes
abbrev pub Short : List (List ℕ) → Type 0
Short [] = Unit
Short (p ∷ ps) = (length p ≤ 65535) × Short ps

pub read_back_lem : (ps : List (List ℕ)) → Short ps → packets_in (length ps) (file ps) ≡ ps
read_back_lem [] s = refl
read_back_lem (p ∷ ps) s =
    ap (λ (r : Record). before (framed p ++ file ps) r (packets_in (length ps))) (first_record p (file ps) s.0)
    ∙ ap₂ ◌∷◌ (first_packet p (file ps) s.0) (ap (packets_in (length ps)) (behind_first p (file ps) s.0) ∙ read_back_lem ps s.1)
