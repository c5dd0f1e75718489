-- One store, three, or two and a number of two bytes, one behind the other: a part of as many places.
use mathlib.Core.Path.{◌≡◌, sym, ap, ◌∙◌}
use mathlib.Core.List.{List, [], ◌∷◌}
use Prim.Native.Nat.{ℕ, ◌+◌, ◌≤◌}
use native.Mathlib.Omega.{arith}
use lib.ListN.{length, set, length-set}
use borrow.Author.Tests.{not-true, not-false}
use Rattle.wire.specs.Net.{be16}
use Rattle.wire.specs.Part.{splice}
use Rattle.wire.proofs.Part.{splice_one, splice_push, splice_on}
use Rattle.vp8_send.specs.Send.{start_octet}
use Rattle.vp8_send.proofs.Header.{no_id, id7, id15, shown_length, length15}
use Rattle.vp8_send.proofs.Vp8Payloader.put_descriptor.Goals as goal

pub bounds-out-at : goal.bounds-out-at
bounds-out-at c =
    let l = ap length (no_id c.args.self c.args.start (not-true _ c.if-not-self.true)) in
    omega (arith, c.requires.1)

pub returns-then-not-self : goal.returns-then-not-self
returns-then-not-self c =
    let form = no_id c.args.self c.args.start (not-true _ c.if-not-self.true) in
    let at = c.args.at in
    let out = c.args.out.now in (
      ap (λ (l : List ℕ). at + length l) (sym form),
      ap (set out at) c.start_octet-s.ensures.0
          ∙ splice_one out at (start_octet c.args.start) (omega (arith, c.requires.1, ap length form))
          ∙ ap (splice out at) (sym form),
    )

pub bounds-out-at-2 : goal.bounds-out-at-2
bounds-out-at-2 c =
    omega (arith, c.requires.1, shown_length c.args.self c.args.start (not-false _ c.if-not-self.false))

pub bounds-out-at-3 : goal.bounds-out-at-3
bounds-out-at-3 c =
    simp length-set (omega (arith, c.requires.1, shown_length c.args.self c.args.start (not-false _ c.if-not-self.false)))

pub bounds-out-at-then-self-lt128 : goal.bounds-out-at-then-self-lt128
bounds-out-at-then-self-lt128 c =
    simp length-set
    (omega (arith, c.requires.1, shown_length c.args.self c.args.start (not-false _ c.if-not-self.false)))

-- the first two bytes, by two stores
two : (out : List ℕ) (at a b : ℕ) → at + 2 ≤ length out → set (set out at a) (at + 1) b ≡ splice out at (a ∷ b ∷ [])
two out at a b h =
    ap (λ (l : List ℕ). set l (at + 1) b) (splice_one out at a (omega arith)) ∙ splice_push out at (a ∷ []) b (omega arith)

pub returns-then-self-lt128 : goal.returns-then-self-lt128
returns-then-self-lt128 c =
    let v = c.args.self in
    let at = c.args.at in
    let out = c.args.out.now in
    let first = 128 + start_octet c.args.start in
    let form = id7 v c.args.start (not-false _ c.if-not-self.false) c.if-self-lt128.true in
    let room : at + 3 ≤ length out = omega (arith, c.requires.1, ap length form) in (
      ap (λ (l : List ℕ). at + length l) (sym form),
      ap (λ (b : ℕ). set (set (set out at (128 + b)) (at + 1) 128) (at + 2) v.picture_id)
          c.start_octet-s.ensures.0
          ∙ ap (λ (l : List ℕ). set l (at + 2) v.picture_id) (two out at first 128 (omega arith))
          ∙ splice_push out at (first ∷ 128 ∷ []) v.picture_id (omega arith)
          ∙ ap (splice out at) (sym form),
    )

pub put_u16-requires : goal.put_u16-requires
put_u16-requires c =
    simp length-set
    (omega (
      arith,
      c.requires.1,
      length15 c.args.self c.args.start (not-false _ c.if-not-self.false) c.if-self-lt128.false,
    ))

pub returns : goal.returns
returns c =
    let v = c.args.self in
    let at = c.args.at in
    let out = c.args.out.now in
    let first = 128 + start_octet c.args.start in
    let form = id15 v c.args.start (not-false _ c.if-not-self.false) c.if-self-lt128.false in
    let size = length15 v c.args.start (not-false _ c.if-not-self.false) c.if-self-lt128.false in
    let room : at + 4 ≤ length out = omega (arith, c.requires.1, size) in (
      ap (λ (n : ℕ). at + n) (sym size),
      c.put_u16.ensures
          ∙ ap (λ (b : ℕ). splice (set (set out at (128 + b)) (at + 1) 128) (at + 2) (be16 (32768 + v.picture_id)))
          c.start_octet-s.ensures.0
          ∙ ap (λ (l : List ℕ). splice l (at + 2) (be16 (32768 + v.picture_id))) (two out at first 128 (omega arith))
          ∙ splice_on out at (first ∷ 128 ∷ []) (be16 (32768 + v.picture_id)) (omega arith)
          ∙ ap (splice out at) (sym form),
    )
