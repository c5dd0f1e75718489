-- In each profile the head and the data, one behind the other, are the element's octets.
use mathlib.Core.Path.{◌≡◌, sym, ap, subst, ◌∙◌}
use mathlib.Core.Bool.{true}
use mathlib.Core.List.{List, [], ◌∷◌}
use Prim.Native.Nat.{ℕ, ◌+◌, ◌-◌, ◌*◌, ◌≤◌}
use native.Mathlib.Omega.{arith}
use lib.Dec.{leb}
use lib.ListN.{length, set}
use borrow.Author.Tests.{leb-true}
use Rattle.std.proofs.lemmas.Bool.{and_parts}
use Rattle.wire.specs.Part.{splice, Put}
use Rattle.wire.proofs.Part.{splice_one, splice_push, splice_on}
use Rattle.elements.specs.Elements.{Element}
use Rattle.block.specs.declared.Form.{Form}
use Rattle.block.specs.declared.Form.TheVariants.{OneByte as one_byte, TwoByte as two_byte}
use Rattle.block_write.specs.Write.{fits, element_octets}
use Rattle.block_write.proofs.put_element.Goals as goal

promised : (f form : Form) (buf : List ℕ) (at : ℕ) (e : Element) (r : ℕ) (exit : List ℕ) → f ≡ form →
    Put buf at (element_octets form e) r exit → Put buf at (element_octets f e) r exit
promised f form buf at e r exit q p = subst (λ (g : Form). Put buf at (element_octets g e) r exit) (sym q) p

-- the one-byte form asks for data
some : (id len : ℕ) → fits one_byte id len ≡ true → 1 ≤ len
some id len t =
    leb-true 1 len (and_parts (leb 1 len) (leb len 16) (and_parts (leb id 15) _ t).1).0

pub returns-in-OneByte : goal.returns-in-OneByte
returns-in-OneByte c =
    let a = c.args in
    let e = c.in-OneByte.is in
    let s = some a.id (length a.«data».now) (rw e at c.requires.data_value) in
    let room = rw e at c.requires.data_in_bounds in
    let head : ℕ = a.id * 16 + (length a.«data».now - 1) in
    promised a.form one_byte a.buf.now a.at _ _ _ e
    (record {
      next = omega arith;
      buffer =
          c.copy_at.ensures
          ∙ ap (λ (l : List ℕ). splice l (a.at + 1) a.«data».now) (splice_one a.buf.now a.at head (omega arith))
          ∙ splice_on a.buf.now a.at (head ∷ []) a.«data».now (omega arith);
    })

pub returns-in-TwoByte : goal.returns-in-TwoByte
returns-in-TwoByte c =
    let a = c.args in
    let e = c.in-TwoByte.is in
    let room = rw e at c.requires.data_in_bounds in
    let len : ℕ = length a.«data».now in
    promised a.form two_byte a.buf.now a.at _ _ _ e
    (record {
      next = omega arith;
      buffer =
          c.copy_at-in-TwoByte.ensures
          ∙ ap (λ (l : List ℕ). splice (set l (a.at + 1) len) (a.at + 2) a.«data».now) (splice_one a.buf.now a.at a.id (omega arith))
          ∙ ap (λ (l : List ℕ). splice l (a.at + 2) a.«data».now) (splice_push a.buf.now a.at (a.id ∷ []) len (omega arith))
          ∙ splice_on a.buf.now a.at (a.id ∷ len ∷ []) a.«data».now (omega arith);
    })
