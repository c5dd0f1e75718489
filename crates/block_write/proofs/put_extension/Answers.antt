-- Profile, number of words, elements and zeros, each behind the other, are one part.
use mathlib.Core.Path.{◌≡◌, sym, ap, ◌∙◌}
use mathlib.Core.List.{List, ◌++◌}
use Prim.Native.Nat.{ℕ, ◌+◌, ◌-◌, ◌*◌, ◌≤◌}
use native.Mathlib.Omega.{arith}
use lib.ListN.{length, take, replicate}
use Rattle.wire.specs.Net.{be16}
use Rattle.wire.specs.Part.{splice}
use Rattle.wire.proofs.Part.{splice_on, splice_behind}
use Rattle.elements.specs.Elements.{Element, Packed, elements_in, sum}
use Rattle.block.specs.Form.{form_of, length_for, words_for}
use Rattle.block_write.specs.Write.{block_octets, extension_for}
use Rattle.block_write.proofs.Octets.{length_block_in, length_extension_for}
use Rattle.block_write.proofs.put_extension.Goals as goal

-- how long the elements' octets are, and the octets of all, counted in words
record Sizes (profile len : ℕ) (es : List Element) : Type 0 where
  block : length (block_octets (form_of profile) es) ≡ len
  words : length (extension_for profile len es) ≡ 4 + 4 * words_for len

sizes : (profile len count : ℕ) (ids lens bytes : List ℕ) → Packed count ids lens bytes →
    len ≡ length_for profile count (sum (take count lens)) → Sizes profile len (elements_in count ids lens bytes)
sizes profile len count ids lens bytes p e =
    let block : length (block_octets (form_of profile) (elements_in count ids lens bytes)) ≡ len =
    length_block_in profile count ids lens bytes p ∙ sym e in
    record { block = block; words = length_extension_for profile len (elements_in count ids lens bytes) block }

figure : (buf : List ℕ) (at profile len : ℕ) (es : List Element) → at ≤ length buf → (end zeros : ℕ) →
    end ≡ at + 4 + length (block_octets (form_of profile) es) → zeros ≡ 4 * words_for len - len →
    splice (splice (splice (splice buf at (be16 profile)) (at + 2) (be16 (words_for len))) (at + 4) (block_octets (form_of profile) es)) end
    (replicate zeros 0)
    ≡ splice buf at (extension_for profile len es)
unfolding extension_for be16
figure buf at profile len es h end zeros e z =
    let words : ℕ = words_for len in
    let octets : List ℕ = block_octets (form_of profile) es in
    ap (λ (l : List ℕ). splice (splice l (at + 4) octets) end (replicate zeros 0)) (splice_on buf at (be16 profile) (be16 words) (omega arith))
    ∙ ap (λ (l : List ℕ). splice l end (replicate zeros 0)) (splice_on buf at (be16 profile ++ be16 words) octets (omega arith))
    ∙ splice_behind buf at (be16 profile ++ (be16 words ++ octets)) end (replicate zeros 0) (omega arith) (omega arith)
    ∙ ap (λ (n : ℕ). splice buf at (be16 profile ++ (be16 words ++ (octets ++ replicate n 0)))) z

pub put_u16-requires : goal.put_u16-requires
put_u16-requires c =
    let a = c.args in
    let s = sizes a.profile a.len a.count a.ids.now a.lens.now a.bytes.now c.requires.packed c.requires.len_value.0 in
    omega (arith, s.words, c.requires.bytes_in_bounds)

pub put_u16-requires-2 : goal.put_u16-requires-2
put_u16-requires-2 c =
    let a = c.args in
    let s = sizes a.profile a.len a.count a.ids.now a.lens.now a.bytes.now c.requires.packed c.requires.len_value.0 in
    omega (arith, s.words, c.requires.bytes_in_bounds)

pub put_elements-end-requires-clause-bytes_in_bounds : goal.put_elements-end-requires-clause-bytes_in_bounds
put_elements-end-requires-clause-bytes_in_bounds c =
    let a = c.args in
    let s = sizes a.profile a.len a.count a.ids.now a.lens.now a.bytes.now c.requires.packed c.requires.len_value.0 in
    rw c.from-form.ensures
    (omega (arith, s.block, s.words, c.requires.bytes_in_bounds))

pub fill_at-requires : goal.fill_at-requires
fill_at-requires c =
    let a = c.args in
    let s = sizes a.profile a.len a.count a.ids.now a.lens.now a.bytes.now c.requires.packed c.requires.len_value.0 in
    let put = rw c.from-form.ensures at c.put_elements-end.ensures in
    omega (arith, s.block, s.words, c.requires.bytes_in_bounds, put.next)

pub returns : goal.returns
returns c =
    let a = c.args in
    let s = sizes a.profile a.len a.count a.ids.now a.lens.now a.bytes.now c.requires.packed c.requires.len_value.0 in
    let elements = elements_in a.count a.ids.now a.lens.now a.bytes.now in
    let words : ℕ = words_for a.len in
    let zeros : ℕ = words * 4 - a.len in
    let put = rw c.from-form.ensures at c.put_elements-end.ensures in
    record {
      next = omega (arith, s.words);
      buffer =
          c.fill_at.ensures
          ∙ ap (λ (l : List ℕ). splice l c.put_elements-end.result (replicate zeros 0))
          (put.buffer
          ∙ ap (λ (l : List ℕ). splice l (a.at + 4) (block_octets (form_of a.profile) elements))
          (c.put_u16-2.ensures ∙ ap (λ (l : List ℕ). splice l (a.at + 2) (be16 words)) c.put_u16.ensures))
          ∙ figure a.buf.now a.at a.profile a.len elements (omega (arith, s.words, c.requires.bytes_in_bounds)) c.put_elements-end.result
          zeros put.next (omega arith);
    }
