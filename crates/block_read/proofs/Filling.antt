-- A block that is not refused goes into the arrays of a record: they hold the elements that were read so far, and neither an element
-- past the packet nor one too many can come, since the definition would refuse the block for it. Assumes nothing.
use mathlib.Core.Path.{◌≡◌, refl, sym, ap, ◌∙◌}
use mathlib.Core.Bool.{Bool}
use mathlib.Core.List.{List, [], ◌∷◌, ◌++◌}
use mathlib.Core.Logic.{◌⊎◌, inl, inr}
use Prim.Native.Nat.{ℕ, ◌+◌, ◌<◌, ◌≤◌}
use native.Mathlib.Nat.{lt_of_not-le}
use native.Mathlib.Decide.{dec_le}
use native.Mathlib.Omega.{arith}
use lib.ListN.{length, take, drop, set, length-append, length-drop}
use lib.Seq.{length-take-le}
use Rattle.error.specs.Said.{Said, says, refuse}
use Rattle.wire.specs.Part.{splice}
use Rattle.elements.specs.declared.Extensions.{Extensions}
use Rattle.elements.specs.Elements.{Element, data_of, lay_elements, pushed}
use Rattle.elements.proofs.Elements.{pushed_lay_elements}
use Rattle.block_read.specs.Read.{pad, stop, past, element, items_by, Block, items, whole_block, block_at}
use Rattle.block_read.specs.Said.{Answers, elements_read, Laid}
use Rattle.block_read.proofs.Reading.{Going, going_first, going_end, going_stop, going_past, going_full, going_pad, going_element, length_element, element_at, item_bound, whole_full, whole_block_lem}

-- an answer is no refusal
never : {goal : Said Block} {n : ℕ} → Answers goal → goal ≡ refuse n → ⊥
never a e = rw e at a

-- the arrays hold what was read
laid_read : {goal : Said Block} {b : Block} {ids lens bytes : List ℕ} → goal ≡ says b → Laid b.elements ids lens bytes →
    Laid (elements_read goal) ids lens bytes
laid_read e l = rw e l

-- one element more, behind the `used` data bytes of the others
laid_more : (es : List Element) (e : Element) (count used len : ℕ) (ids lens bytes : List ℕ) → Laid es ids lens bytes →
    length es ≡ count → used ≡ length (data_of es) → length e.bytes ≡ len → count < 32 → used + len ≤ 1024 →
    Laid (es ++ (e ∷ [])) (set ids count e.id) (set lens count len) (splice bytes used e.bytes)
unfolding pushed lay_elements
laid_more es e count used len ids lens bytes l many counted sized few fits =
    let p : pushed (lay_elements es) (length (data_of es)) e.id e.bytes ≡ lay_elements (es ++ (e ∷ [])) = pushed_lay_elements es e (omega arith) (omega arith) in
    rw (l.names, l.sizes, l.packed, sym many, counted, sym sized)
    (record {
      names = ap (λ (x : Extensions). x.ids) p;
      sizes = ap (λ (x : Extensions). x.lens) p;
      packed = ap (λ (x : Extensions). x.bytes) p;
    })

-- what is still to be read leads to the goal, and the arrays hold the `count` elements that were read
pub record Filling (s : List ℕ) (two : Bool) (end : ℕ) (goal : Said Block) (at count used : ℕ) (ids lens bytes : List ℕ) : Type 0 where
  pub es : List Element
  pub pads : ℕ
  pub going : Going s two end goal at es used pads
  pub many : length es ≡ count
  pub laid : Laid es ids lens bytes

-- an element of `len` bytes whose data begin at `from`, behind a head, fits in both the packet and the record
pub record Room (s : List ℕ) (from len head count used : ℕ) : Type 0 where
  pub few : count < 32
  pub fits : used + len ≤ 1024
  pub forth : 1 ≤ head
  pub inside : from + len ≤ length s

pub filling_first : (s : List ℕ) (two : Bool) (start len : ℕ) (ids lens bytes : List ℕ) → start + len ≤ length s → Laid [] ids lens bytes →
    Filling s two (start + len) (items (items_by two) (block_at s start len)) start 0 0 ids lens bytes
filling_first s two start len ids lens bytes h l =
    record { es = []; pads = 0; going = going_first s two start len h; many = refl; laid = l }

module _ (s : List ℕ) (two : Bool) (end : ℕ) (goal : Said Block) (at count used : ℕ) (ids lens bytes : List ℕ)
    (f : Filling s two end goal at count used ids lens bytes) where
  pub filling_end : end ≤ at → Laid (elements_read goal) ids lens bytes
  filling_end h = laid_read (going_end s two end goal at f.es used f.pads f.going h) f.laid

  pub filling_stop : at < end → items_by two (drop at s) ≡ stop → Laid (elements_read goal) ids lens bytes
  filling_stop h e = laid_read (going_stop s two end goal at f.es used f.pads f.going h e) f.laid

  pub filling_past : Answers goal → at < end → items_by two (drop at s) ≡ past → ⊥
  filling_past a h e = never a (going_past s two end goal at f.es used f.pads f.going h e)

  pub filling_pad : at < end → items_by two (drop at s) ≡ pad → end ≤ length s → Filling s two end goal (at + 1) count used ids lens bytes
  filling_pad h e inside =
      record {
        es = f.es;
        pads = f.pads + 1;
        going = going_pad s two end goal at f.es used f.pads f.going h e inside;
        many = f.many;
        laid = f.laid;
      }

  module _ (a : Answers goal) (h : at < end) (head id len : ℕ) (e : items_by two (drop at s) ≡ element head id len) where
    going_over : (32 < length f.es + 1) ⊎ (1024 < used + len) → goal ≡ refuse 7
    going_over = going_full s two end goal at f.es used f.pads f.going h head id len e

    -- there is room for an element that comes
    few : count < 32
    few =
        elim (dec_le 32 count) [
          | yes full ↦ absurd (never a (going_over (inl (omega (arith, full, f.many)))))
          | no under ↦ lt_of_not-le under
        ]

    fits : used + len ≤ 1024
    fits =
        elim (dec_le (used + len) 1024) [
          | yes under ↦ under
          | no over ↦ absurd (never a (going_over (inr (lt_of_not-le over))))
        ]

    -- an element that comes lies in the packet, and there is room for it
    pub filling_room : Room s (at + head) len head count used
    filling_room =
        let bound : (1 ≤ head) × (head + len ≤ length (drop at s)) = item_bound two (drop at s) head id len e in
        record { few = few; fits = fits; forth = bound.0; inside = omega (arith, bound.1, length-drop at s, f.going.inside) }

    pub filling_element : Filling s two end goal (at + head + len) (count + 1) (used + len)
        (set ids count id) (set lens count len) (splice bytes used (take len (drop (at + head) s)))
    filling_element =
        let one : Element = element_at s at head id len in
        record {
          es = f.es ++ (one ∷ []);
          pads = f.pads;
          going = going_element s two end goal at f.es used f.pads f.going h head id len e (omega (arith, few, f.many)) fits;
          many = length-append f.es (one ∷ []) ∙ ap (λ (k : ℕ). k + 1) f.many;
          laid = laid_more f.es one count used len ids lens bytes f.laid f.many f.going.counted
              (length_element s two end goal at f.es used f.pads f.going head id len e) few fits;
        }

-- ---- a block that is one element

module _ (s : List ℕ) (start len : ℕ) (a : Answers (whole_block (block_at s start len))) where
  pub whole_fits : len ≤ 1024
  whole_fits =
      elim (dec_le len 1024) [
        | yes under ↦ under
        | no over ↦ absurd (never a (whole_full s start len (lt_of_not-le over)))
      ]

  pub whole_laid : (ids lens bytes : List ℕ) → start + len ≤ length s → Laid [] ids lens bytes →
      Laid (elements_read (whole_block (block_at s start len))) (set ids 0 0) (set lens 0 len) (splice bytes 0 (take len (drop start s)))
  whole_laid ids lens bytes h l =
      laid_read (whole_block_lem s start len whole_fits)
      (laid_more [] (record { id = 0; bytes = take len (drop start s) }) 0 0 len ids lens bytes l refl refl
      (length-take-le len (drop start s) (rw (length-drop start s) (omega arith)))
      (omega arith) (omega (arith, whole_fits)))
