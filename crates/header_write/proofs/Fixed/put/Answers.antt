-- Two stores and three numbers, each behind the other, are one part.
use mathlib.Core.Path.{◌≡◌, ap, ap₂, ◌∙◌}
use mathlib.Core.List.{List, [], ◌∷◌, ◌++◌}
use Prim.Native.Nat.{ℕ, ◌≤◌}
use native.Mathlib.Omega.{arith}
use lib.ListN.{length, set}
use Rattle.wire.specs.Net.{be16, be32}
use Rattle.wire.specs.Part.{splice}
use Rattle.wire.proofs.Part.{splice_one, splice_push, splice_on}
use Rattle.header_write.specs.Fixed.{fixed_for}
use Rattle.header_write.proofs.Fixed.put.Goals as goal

figure : (buf : List ℕ) (a b number time ssrc : ℕ) → 12 ≤ length buf →
    splice (splice (splice (set (set buf 0 a) 1 b) 2 (be16 number)) 4 (be32 time)) 8 (be32 ssrc)
    ≡ splice buf 0 (fixed_for a b number time ssrc [])
unfolding fixed_for be16 be32
figure buf a b number time ssrc h =
    ap (λ (l : List ℕ). splice (splice (splice (set l 1 b) 2 (be16 number)) 4 (be32 time)) 8 (be32 ssrc)) (splice_one buf 0 a (omega arith))
    ∙ ap (λ (l : List ℕ). splice (splice (splice l 2 (be16 number)) 4 (be32 time)) 8 (be32 ssrc)) (splice_push buf 0 (a ∷ []) b (omega arith))
    ∙ ap (λ (l : List ℕ). splice (splice l 4 (be32 time)) 8 (be32 ssrc)) (splice_on buf 0 (a ∷ b ∷ []) (be16 number) (omega arith))
    ∙ ap (λ (l : List ℕ). splice l 8 (be32 ssrc)) (splice_on buf 0 (a ∷ b ∷ be16 number) (be32 time) (omega arith))
    ∙ splice_on buf 0 (a ∷ b ∷ (be16 number ++ be32 time)) (be32 ssrc) (omega arith)

pub returns : goal.returns
returns c =
    let f = c.args.self in
    let buf = c.args.buf.now in
    c.put_u32-2.ensures
    ∙ ap (λ (l : List ℕ). splice l 8 (be32 f.ssrc)) (c.put_u32.ensures ∙ ap (λ (l : List ℕ). splice l 4 (be32 f.timestamp)) c.put_u16.ensures)
    ∙ figure buf c.first_octet.result c.second_octet.result f.sequence_number f.timestamp f.ssrc c.requires.room
    ∙ ap₂ (λ (a b : ℕ). splice buf 0 (fixed_for a b f.sequence_number f.timestamp f.ssrc [])) c.first_octet.ensures c.second_octet.ensures
