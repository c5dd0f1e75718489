-- A set and its place: which bytes it has, and how many. Assumes nothing.
use mathlib.Core.Path.{◌≡◌, refl, sym, ap, subst, ◌∙◌}
use mathlib.Core.List.{List, [], append-nil}
use Prim.Native.Nat.{ℕ, ◌+◌, ◌-◌, ◌≤◌}
use native.Mathlib.Omega.{arith}
use lib.ListN.{length, take, drop, length-take}
use Rattle.std.specs.Prelude.{Option, Some, None, MatchOption}
use Rattle.wire.specs.Part.{splice, part}
use Rattle.wire.proofs.Part.{length_part, splice_nothing, splice_from}
use Rattle.h264_walk.specs.declared.places.Lies.{Lies}
use Rattle.h264_walk.specs.Waiting.{bytes_at, bytes_of, Lying}

module _ (held frame : List ℕ) (l : Lies) where
  -- a set that was saved before the frame
  pub saved_bytes : l.at ≡ None → bytes_of held frame l ≡ take l.len held
  unfolding bytes_of
  saved_bytes e = ap (λ (o : Option ℕ). bytes_at held frame o l.len) e

  -- a set of the frame
  pub here_bytes : (at : ℕ) → l.at ≡ Some at → bytes_of held frame l ≡ part frame at l.len
  unfolding bytes_of
  here_bytes at e = ap (λ (o : Option ℕ). bytes_at held frame o l.len) e

  module _ (w : Lying held frame l) where
    within_at : (o : Option ℕ) → l.at ≡ o → MatchOption o (l.len ≤ length held) (λ at. at + l.len ≤ length frame)
    within_at o e = subst (λ (x : Option ℕ). MatchOption x (l.len ≤ length held) (λ at. at + l.len ≤ length frame)) e w.within

    pub saved_within : l.at ≡ None → l.len ≤ length held
    saved_within e = within_at None e

    pub here_within : (at : ℕ) → l.at ≡ Some at → at + l.len ≤ length frame
    here_within at e = within_at (Some at) e

    pub lying_length : length (bytes_of held frame l) ≡ l.len
    lying_length = go l.at refl
      where
        go : (o : Option ℕ) → l.at ≡ o → length (bytes_of held frame l) ≡ l.len
        go None e = ap length (saved_bytes e) ∙ omega (arith, length-take l.len held, saved_within e)
        go (Some at) e = ap length (here_bytes at e) ∙ length_part frame at l.len (here_within at e)

-- a set that stands in front of its buffer is put there by doing nothing
pub splice_front : (held : List ℕ) (n : ℕ) → n ≤ length held → splice held 0 (take n held) ≡ held
splice_front held n h =
    ap (splice held 0) (sym (append-nil (take n held))) ∙ splice_from held n [] h ∙ splice_nothing held n

-- a unit of the frame lies where it starts
pub lies_here : (held frame : List ℕ) (start end : ℕ) → start ≤ end → end ≤ length frame → length (take (end - start) (drop start frame)) ≤ 1024 →
    (l : Lies) → l ≡ record { at = Some start; len = end - start } → Lying held frame l × (bytes_of held frame l ≡ take (end - start) (drop start frame))
lies_here held frame start end a b short l e =
    subst (λ (x : Lies). Lying held frame x × (bytes_of held frame x ≡ take (end - start) (drop start frame))) (sym e) (
      record {
        short = omega (arith, length_part frame start (end - start) (omega arith), short);
        within = omega arith;
      },
      here_bytes held frame (record { at = Some start; len = end - start }) start refl,
    )
