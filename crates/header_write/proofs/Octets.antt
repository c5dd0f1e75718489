-- The octets written for a header by its parts: how many there are, and that each part, put behind the other, makes the whole.
-- Assumes nothing.
use mathlib.Core.Path.{◌≡◌, refl, sym, ap, ap₂, ◌∙◌}
use mathlib.Core.Bool.{Bool, true, false, cond}
use mathlib.Core.List.{List, [], ◌∷◌, ◌++◌, append-nil}
use Prim.Native.Nat.{ℕ, ◌+◌, ◌*◌, ◌≤◌}
use native.Mathlib.Omega.{arith}
use lib.ListN.{length, length-append}
use Rattle.wire.specs.Net.{be16, be32}
use Rattle.wire.specs.Part.{splice, Put}
use Rattle.wire.proofs.Net.{length_be16, length_be32}
use Rattle.wire.proofs.Part.{splice_behind}
use Rattle.elements.specs.Elements.{Element}
use Rattle.block.specs.Form.{form_of, words_for}
use Rattle.block_write.specs.Write.{block_octets, extension_for}
use Rattle.block_write.proofs.Octets.{length_extension_for}
use Rattle.header_write.specs.declared.Fixed.{Fixed}
use Rattle.header_write.specs.Fixed.{csrc_octets, first_for, second_for, fixed_for}
use Rattle.header_write.specs.Parts.{octets_for}

-- ---- the figure

pub length_csrc_octets : (cs : List ℕ) → length (csrc_octets cs) ≡ 4 * length cs
length_csrc_octets [] = refl
length_csrc_octets (c ∷ cs) =
    let l : length (be32 c) ≡ 4 = length_be32 c in
    let r : length (csrc_octets cs) ≡ 4 * length cs = length_csrc_octets cs in
    length-append (be32 c) (csrc_octets cs) ∙ omega arith

pub length_fixed : (first second number time source : ℕ) (cs : List ℕ) →
    length (fixed_for first second number time source cs) ≡ 12 + length (csrc_octets cs)
unfolding fixed_for be16 be32
length_fixed first second number time source cs = omega arith

-- the sources behind the fixed part
fixed_on : (buf : List ℕ) (a b number time ssrc : ℕ) (cs : List ℕ) →
    splice (splice buf 0 (fixed_for a b number time ssrc [])) 12 (csrc_octets cs) ≡ splice buf 0 (fixed_for a b number time ssrc cs)
unfolding fixed_for be16 be32
fixed_on buf a b number time ssrc cs =
    splice_behind buf 0 (fixed_for a b number time ssrc []) 12 (csrc_octets cs) (omega arith) refl

-- with `n` as CC
abbrev pub figure_with : Fixed → ℕ → List ℕ → List ℕ
figure_with f n cs =
    fixed_for (first_for f.version f.padding f.extension n) (second_for f.marker f.payload_type) f.sequence_number
    f.timestamp f.ssrc cs

abbrev pub figure : Fixed → List ℕ → List ℕ
figure f cs = figure_with f (length cs) cs

length_figure : (f : Fixed) (cs : List ℕ) → length (figure f cs) ≡ 12 + length (csrc_octets cs)
length_figure f cs =
    length_fixed (first_for f.version f.padding f.extension (length cs)) (second_for f.marker f.payload_type)
    f.sequence_number f.timestamp f.ssrc cs

pub figure_put : (f : Fixed) (buf mid exit : List ℕ) (n : ℕ) (cs : List ℕ) (at : ℕ) → n ≡ length cs →
    mid ≡ splice buf 0 (figure_with f n []) → Put mid 12 (csrc_octets cs) at exit → Put buf 0 (figure f cs) at exit
figure_put f buf mid exit n cs at e m p =
    record {
      next = omega (arith, p.next, length_figure f cs);
      buffer = p.buffer
          ∙ ap (λ (l : List ℕ). splice l 12 (csrc_octets cs)) (m ∙ ap (λ (k : ℕ). splice buf 0 (figure_with f k [])) e)
          ∙ fixed_on buf (first_for f.version f.padding f.extension (length cs)) (second_for f.marker f.payload_type)
          f.sequence_number f.timestamp f.ssrc cs;
    }

-- ---- all octets

module _ (f : Fixed) (cs : List ℕ) (profile len : ℕ) (es : List Element) where
  octets_on : f.extension ≡ true → octets_for f cs profile len es ≡ figure f cs ++ extension_for profile len es
  unfolding octets_for
  octets_on e = ap (λ (b : Bool). figure f cs ++ cond b (extension_for profile len es) []) e

  octets_off : f.extension ≡ false → octets_for f cs profile len es ≡ figure f cs
  unfolding octets_for
  octets_off e = ap (λ (b : Bool). figure f cs ++ cond b (extension_for profile len es) []) e ∙ append-nil (figure f cs)

  pub length_octets_for : length (block_octets (form_of profile) es) ≡ len →
      length (octets_for f cs profile len es) ≡ 12 + 4 * length cs + cond f.extension (4 + 4 * words_for len) 0
  unfolding octets_for
  length_octets_for e =
      length-append (figure f cs) (cond f.extension (extension_for profile len es) [])
      ∙ ap₂ (λ (m n : ℕ). m + n) (length_figure f cs ∙ ap (λ (n : ℕ). 12 + n) (length_csrc_octets cs)) (block f.extension)
    where
      block : (on : Bool) → length (cond on (extension_for profile len es) []) ≡ cond on (4 + 4 * words_for len) 0
      block true = length_extension_for profile len es e
      block false = refl

  -- a buffer with room for all has room for each part
  pub figure_fits : 12 + length (csrc_octets cs) ≤ length (octets_for f cs profile len es)
  unfolding octets_for
  figure_fits =
      omega (arith, length_figure f cs, length-append (figure f cs) (cond f.extension (extension_for profile len es) []))

  pub extension_fits : f.extension ≡ true → (at : ℕ) → at ≡ length (figure f cs) →
      at + length (extension_for profile len es) ≡ length (octets_for f cs profile len es)
  extension_fits on at e = omega (arith, ap length (octets_on on), length-append (figure f cs) (extension_for profile len es))

  pub put_on : f.extension ≡ true → (buf mid exit : List ℕ) (at r : ℕ) → Put buf 0 (figure f cs) at mid →
      Put mid at (extension_for profile len es) r exit → Put buf 0 (octets_for f cs profile len es) r exit
  put_on on buf mid exit at r p q =
      record {
        next = q.next ∙ extension_fits on at (p.next ∙ omega arith) ∙ omega arith;
        buffer = q.buffer
            ∙ ap (λ (l : List ℕ). splice l at (extension_for profile len es)) p.buffer
            ∙ splice_behind buf 0 (figure f cs) at (extension_for profile len es) (omega arith) p.next
            ∙ sym (ap (splice buf 0) (octets_on on));
      }

  pub put_off : f.extension ≡ false → (buf exit : List ℕ) (at : ℕ) → Put buf 0 (figure f cs) at exit →
      Put buf 0 (octets_for f cs profile len es) at exit
  put_off off buf exit at p =
      record {
        next = p.next ∙ ap (λ (l : List ℕ). 0 + length l) (sym (octets_off off));
        buffer = p.buffer ∙ sym (ap (splice buf 0) (octets_off off));
      }

-- ---- without sources and elements

pub bare_figure : (f : Fixed) (buf exit : List ℕ) → exit ≡ splice buf 0 (figure f []) → Put buf 0 (figure f []) 12 exit
bare_figure f buf exit e = record { next = omega (arith, length_figure f []); buffer = e }

pub length_bare : (f : Fixed) (profile : ℕ) → f.extension ≡ true → length (octets_for f [] profile 0 []) ≡ 16
length_bare f profile on =
    length_octets_for f [] profile 0 [] refl ∙ ap (λ (b : Bool). 12 + 4 * 0 + cond b (4 + 4 * words_for 0) 0) on

bare_block : (profile : ℕ) → extension_for profile 0 [] ≡ be16 profile ++ be16 0
unfolding extension_for
bare_block profile = ap (λ (l : List ℕ). be16 profile ++ l) (append-nil (be16 0))

pub bare_put : (profile : ℕ) (buf mid exit : List ℕ) (at : ℕ) → at ≤ length buf → mid ≡ splice buf at (be16 profile) →
    exit ≡ splice mid (at + 2) (be16 0) → Put buf at (extension_for profile 0 []) (at + 4) exit
bare_put profile buf mid exit at h m e =
    let two : length (be16 profile) ≡ 2 = length_be16 profile in
    let more : length (be16 0) ≡ 2 = length_be16 0 in
    record {
      next = omega (arith, ap length (bare_block profile), length-append (be16 profile) (be16 0));
      buffer = e
          ∙ ap (λ (l : List ℕ). splice l (at + 2) (be16 0)) m
          ∙ splice_behind buf at (be16 profile) (at + 2) (be16 0) h (omega arith)
          ∙ sym (ap (splice buf at) (bare_block profile));
    }
