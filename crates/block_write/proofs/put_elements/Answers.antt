use Rattle.std.proofs.Common.{rules, arith, ◌≡◌, true, List, ◌∷◌, ◌+◌, ◌-◌, ◌≤◌, ℕ, length, take, drop, get_or, sym, ap, ap₂, ◌∙◌}
use lib.ListN.{length-append, drop_of_length-le}
use lib.Seq.{drop-drop, length-take-le}
use Rattle.std.proofs.lemmas.Bool.{and_parts}
use Rattle.wire.specs.Part.{splice}
use Rattle.wire.proofs.Part.{drop_front, splice_nothing, splice_on}
use Rattle.elements.specs.Elements.{Element, sum, unpack}
use Rattle.block.specs.declared.Form.{Form}
use Rattle.block_write.specs.Write.{writable, all_writable, element_octets, block_octets}
use Rattle.block_write.proofs.Front.{front}
use Rattle.block_write.proofs.put_elements.Goals as goal

-- a turn at the first of the elements whose ids and lengths are left, whose data from `used` on are not written yet
module _ (form : Form) (ids lens bytes : List ℕ) (id len used : ℕ) (ids' lens' : List ℕ) (e : ids ≡ id ∷ ids') (f : lens ≡ len ∷ lens') where
  -- the element that a turn writes, and those behind it
  abbrev pub first : Element
  first = record { id = id; bytes = take len (drop used bytes) }

  abbrev pub rest : List Element
  rest = unpack ids' lens' (drop (used + len) bytes)

  pub here : unpack ids lens (drop used bytes) ≡ first ∷ rest
  here =
      ap₂ (λ (is ls : List ℕ). unpack is ls (drop used bytes)) e f
      ∙ ap (λ (b : List ℕ). first ∷ unpack ids' lens' b) (drop-drop len used bytes)

  pub written : all_writable form (unpack ids lens (drop used bytes)) ≡ true → (writable form first ≡ true) × (all_writable form rest ≡ true)
  written w = and_parts (writable form first) (all_writable form rest) (sym (ap (all_writable form) here) ∙ w)

  pub place : length (block_octets form (unpack ids lens (drop used bytes))) ≡ length (element_octets form first) + length (block_octets form rest)
  place =
      ap (λ (l : List Element). length (block_octets form l)) here
      ∙ length-append (element_octets form first) (block_octets form rest)

-- what `put_element` is lent
lent : (used n len : ℕ) (bytes : List ℕ) → n ≡ len → take (used + n - used) (drop used bytes) ≡ take len (drop used bytes)
lent used n len bytes e = ap (λ (k : ℕ). take k (drop used bytes)) (omega arith)

pub slice_bounds-put_element-end : goal.slice_bounds-put_element-end
slice_bounds-put_element-end c =
    let a = c.args in
    let h = c.loop-i in
    let i = h.invariant in
    let long : length (take a.count a.ids.now) ≡ a.count = length-take-le a.count a.ids.now c.requires.packed.places in
    let t = front a.count a.lens.now h.i (omega arith) c.requires.packed.lengths in
    let within : h.used + get_or a.lens.now h.i 0 ≤ length a.bytes.now = omega (arith, i.within, ap sum t) in
    search rules

pub put_element-at-requires : goal.put_element-at-requires
put_element-at-requires c =
    let a = c.args in
    let h = c.loop-i in
    let i = h.invariant in
    let ids = take a.count a.ids.now in
    let len = get_or a.lens.now h.i 0 in
    let long : length ids ≡ a.count = length-take-le a.count a.ids.now c.requires.packed.places in
    let s = drop_front ids h.i (omega arith) in
    let t = front a.count a.lens.now h.i (omega arith) c.requires.packed.lengths in
    let w = written a.form _ _ a.bytes.now (get_or ids h.i 0) len h.used _ _ s t i.writable in
    let p = place a.form _ _ a.bytes.now (get_or ids h.i 0) len h.used _ _ s t in
    rw (lent h.used c.from.result len a.bytes.now c.from.ensures)
    (record { data_value = w.0; data_in_bounds = omega (arith, i.place, i.long, p, c.requires.bytes_in_bounds) })

pub loop-i-preserved : goal.loop-i-preserved
loop-i-preserved c =
    let a = c.args in
    let h = c.loop-i in
    let i = h.invariant in
    let ids = take a.count a.ids.now in
    let lens = take a.count a.lens.now in
    let id = get_or ids h.i 0 in
    let len = get_or a.lens.now h.i 0 in
    let long : length ids ≡ a.count = length-take-le a.count a.ids.now c.requires.packed.places in
    let s = drop_front ids h.i (omega arith) in
    let t = front a.count a.lens.now h.i (omega arith) c.requires.packed.lengths in
    let octets : List ℕ = element_octets a.form (record { id = id; bytes = take len (drop h.used a.bytes.now) }) in
    let more : List ℕ = block_octets a.form (unpack (drop (h.i + 1) ids) (drop (h.i + 1) lens) (drop (h.used + len) a.bytes.now)) in
    let now = here a.form _ _ a.bytes.now id len h.used _ _ s t in
    let w = written a.form _ _ a.bytes.now id len h.used _ _ s t i.writable in
    let p = place a.form _ _ a.bytes.now id len h.used _ _ s t in
    let same = ap (λ (b : List ℕ). element_octets a.form (record { id = id; bytes = b }))
    (lent h.used c.from.result len a.bytes.now c.from.ensures) in
    let reached : c.put_element-at.result ≡ h.at + length octets =
    c.put_element-at.ensures.next ∙ ap (λ (l : List ℕ). h.at + length l) same in
    let buffer : c.put_element-at.new.buf ≡ splice h.buf h.at octets = c.put_element-at.ensures.buffer ∙ ap (splice h.buf h.at) same in
    rw c.from.ensures
    (record {
      within = omega (arith, i.within, ap sum t);
      writable = w.1;
      place = omega (arith, i.place, p, reached);
      buffer =
          ap₂ (λ (l : List ℕ) (k : ℕ). splice l k more) buffer reached
          ∙ splice_on h.buf h.at octets more (omega (arith, i.place, i.long, p, c.requires.bytes_in_bounds))
          ∙ sym (ap (λ (l : List Element). splice h.buf h.at (block_octets a.form l)) now)
          ∙ i.buffer;
      long = search rules;
    })

pub returns : goal.returns
returns c =
    let a = c.args in
    let h = c.loop-i in
    let i = h.invariant in
    let ids = take a.count a.ids.now in
    let long : length ids ≡ a.count = length-take-le a.count a.ids.now c.requires.packed.places in
    let none = ap (λ (l : List ℕ). block_octets a.form (unpack l (drop h.i (take a.count a.lens.now)) (drop h.used a.bytes.now)))
    (drop_of_length-le ids {i = h.i} (omega arith)) in
    record {
      next = omega (arith, i.place, ap length none);
      buffer = sym (splice_nothing h.buf h.at) ∙ sym (ap (splice h.buf h.at) none) ∙ i.buffer;
    }
