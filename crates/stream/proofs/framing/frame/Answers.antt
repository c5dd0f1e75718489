-- The length goes where nothing of the packet stands, so that the packet is as it was.
use Rattle.std.proofs.Common.{◌≡◌, ℕ, ◌+◌, ◌≤◌, List, ◌++◌, length, drop, sym, refl, ap, ◌∙◌, append_assoc, arith, length-append, take-append-drop, drop-drop}
use Rattle.wire.specs.Net.{be16}
use Rattle.wire.specs.Part.{splice, part}
use Rattle.wire.proofs.Net.{length_be16}
use Rattle.wire.proofs.Part.{length_part}
use Rattle.stream.specs.Framing.{framed}
use Rattle.stream.proofs.framing.frame.Goals as goal

framed_so : (xs : List ℕ) (n : ℕ) → 2 + n ≤ length xs → splice xs 0 (be16 n) ≡ splice xs 0 (framed (part xs 2 n))
unfolding splice framed
framed_so xs n h =
    let p = part xs 2 n in
    let behind : 0 + length (be16 n) ≡ 2 = omega (arith, length_be16 n) in
    let all : 2 + n ≡ 0 + length (be16 n ++ p) = omega (arith, length-append (be16 n) p, length_be16 n, length_part xs 2 n h) in
    ap (λ (k : ℕ). be16 n ++ drop k xs) behind
    ∙ ap (λ (l : List ℕ). be16 n ++ l) (sym (take-append-drop n (drop 2 xs)) ∙ ap (λ (l : List ℕ). p ++ l) (drop-drop n 2 xs))
    ∙ sym (append_assoc (be16 n) p (drop (2 + n) xs))
    ∙ ap (λ (k : ℕ). (be16 n ++ p) ++ drop k xs) all
    ∙ ap (λ (k : ℕ). (be16 k ++ p) ++ drop (0 + length (be16 k ++ p)) xs) (sym (length_part xs 2 n h))

pub returns : goal.returns
returns c =
    let a = c.args in
    (refl, c.put_u16.ensures ∙ framed_so a.s.now a.n (omega arith))
