-- One packet more in output and table, put together from the parts that the code writes. Assumes nothing.
use mathlib.Core.Path.{◌≡◌, ap, ap₂, ◌∙◌}
use mathlib.Core.List.{List, [], ◌∷◌, ◌++◌, append_assoc}
use Prim.Native.Nat.{ℕ, ◌+◌, ◌≤◌}
use native.Mathlib.Omega.{arith}
use lib.ListN.{length, set, length-append}
use Rattle.wire.specs.Net.{be16}
use Rattle.wire.specs.Part.{splice}
use Rattle.wire.specs.Packets.{put}
use Rattle.wire.proofs.Net.{length_be16}
use Rattle.wire.proofs.Part.{splice_one, splice_push, splice_on}
use Rattle.h264_put.specs.declared.put.Place.{Place}
use Rattle.h264_put.specs.Groups.{stap_a, fragment}
use Rattle.h264_put.specs.Step.{sink_at}

pub put_is : (out ends o : List ℕ) (to : Place) (p : List ℕ) (end : ℕ) → o ≡ splice out to.at p → end ≡ to.at + length p →
    sink_at o (set ends to.n end) (record { at = end; n = to.n + 1 }) ≡ put (sink_at out ends to) p
unfolding put
put_is out ends o to p end e q =
    ap₂ (λ (l : List ℕ) (k : ℕ). sink_at l (set ends to.n k) (record { at = k; n = to.n + 1 })) e q

-- two bytes and what follows them
pub splice_two : (out : List ℕ) (at x y : ℕ) (s : List ℕ) → at + (2 + length s) ≤ length out →
    splice (set (set out at x) (at + 1) y) (at + 2) s ≡ splice out at (x ∷ y ∷ s)
splice_two out at x y s h =
    ap (λ (l : List ℕ). splice (set l (at + 1) y) (at + 2) s) (splice_one out at x (omega arith))
    ∙ ap (λ (l : List ℕ). splice l (at + 2) s) (splice_push out at (x ∷ []) y (omega arith))
    ∙ splice_on out at (x ∷ y ∷ []) s (omega arith)

pub length_stap_a : (sps pps : List ℕ) → length (stap_a sps pps) ≡ 5 + length sps + length pps
unfolding stap_a
length_stap_a sps pps = simp (length-append, length_be16) (omega arith)

-- a byte, then one set behind its length, then the other
pub splice_pair : (out : List ℕ) (at : ℕ) (sps pps : List ℕ) → at + (5 + length sps + length pps) ≤ length out →
    splice (splice (set out at 0x78) (at + 1) (be16 (length sps) ++ sps)) (at + 3 + length sps) (be16 (length pps) ++ pps) ≡
    splice out at (stap_a sps pps)
unfolding stap_a
splice_pair out at sps pps h =
    let one : List ℕ = be16 (length sps) ++ sps in
    let two : List ℕ = be16 (length pps) ++ pps in
    let k : at + 3 + length sps ≡ at + length (0x78 ∷ one) = simp (length-append, length_be16) (omega arith) in
    ap (λ (l : List ℕ). splice (splice l (at + 1) one) (at + 3 + length sps) two) (splice_one out at 0x78 (omega arith))
    ∙ ap₂ (λ (l : List ℕ) (i : ℕ). splice l i two) (splice_on out at (0x78 ∷ []) one (omega arith)) k
    ∙ splice_on out at (0x78 ∷ one) two (omega arith)
    ∙ ap (λ (l : List ℕ). splice out at (0x78 ∷ l)) (append_assoc (be16 (length sps)) sps two)

pub length_fragment : (head bits : ℕ) (part : List ℕ) → length (fragment head bits part) ≡ 2 + length part
unfolding fragment
length_fragment head bits part = omega arith
