-- Units behind their lengths are cut out again by the lengths, since each says how far its own unit goes. Assumes nothing.
use mathlib.Core.Path.{◌≡◌, refl, sym, ap, ◌∙◌}
use mathlib.Core.Bool.{Bool, true}
use mathlib.Core.List.{List, [], ◌∷◌, ◌++◌, map, flatten}
use Prim.Native.Nat.{ℕ, zero, suc, ◌+◌, ◌<◌, ◌≤◌}
use native.Mathlib.Omega.{arith}
use lib.ListN.{length, take, drop, length-append}
use lib.Seq.{take-append_seam, drop-append_seam}
use borrow.Author.Tests.{le-ltb}
use Rattle.wire.specs.Each.{Each}
use Rattle.wire.specs.Net.{u32_at, be32}
use Rattle.wire.specs.Packets.{joined}
use Rattle.wire.proofs.Net.{u32_of_be32}
use Rattle.nal.specs.Fed.{prefixed}
use Rattle.nal.specs.Lengths.{Cut, into, unit_in, behind_unit, and_units, cut_front, cut_in, cut_by_lengths}
use Rattle.nal.proofs.Handing.{prefixed_append, length_prefixed}

-- its length can be said in four bytes
abbrev pub Sayable : List ℕ → Type 0
Sayable u = length u < 4294967296

module _ (u : List ℕ) (us : List (List ℕ)) (h : Sayable u) where
  abbrev whole : List ℕ
  whole = prefixed true (u ∷ us)

  says_own : u32_at whole 0 ≡ length u
  says_own = u32_of_be32 (length u) (u ++ prefixed true us) h

  -- each unit reads back from its own prefix ..
  pub own_length : unit_in whole ≡ u
  unfolding be32
  own_length = ap (λ (n : ℕ). take n (u ++ prefixed true us)) says_own ∙ take-append_seam u (prefixed true us)

  -- .. and behind it stand the others
  pub others_behind : behind_unit whole ≡ prefixed true us
  unfolding be32
  others_behind = ap (λ (n : ℕ). drop n (u ++ prefixed true us)) says_own ∙ drop-append_seam u (prefixed true us)

  cut_front_lem : (others : Cut) → cut_front whole others ≡ and_units u others
  unfolding be32
  cut_front_lem others =
      rw (le-ltb (length whole) (4 + u32_at whole 0) (omega (arith, says_own, length-append u (prefixed true us))))
      (ap (λ (l : List ℕ). and_units l others) own_length)

cut_in_lem : (turns : ℕ) (us : List (List ℕ)) → Each Sayable us → length us ≤ turns → cut_in turns (prefixed true us) ≡ into us
cut_in_lem zero [] w h = refl
cut_in_lem (suc n) [] w h = refl
cut_in_lem zero (u ∷ us) w h = absurd (omega arith)
cut_in_lem (suc n) (u ∷ us) w h =
    cut_front_lem u us w.0 (cut_in n (behind_unit (prefixed true (u ∷ us))))
    ∙ ap (λ (s : List ℕ). and_units u (cut_in n s)) (others_behind u us w.0)
    ∙ ap (and_units u) (cut_in_lem n us w.1 (omega arith))

-- a whole output is cut into its units again
pub cut_again : (us : List (List ℕ)) → Each Sayable us → cut_by_lengths (prefixed true us) ≡ into us
cut_again us w = cut_in_lem (length (prefixed true us)) us w (omega (arith, length_prefixed true us))

-- ---- many outputs, one behind the other

-- they are the output of all their units
pub joined_prefixed : (avc : Bool) (gs : List (List (List ℕ))) → joined (map (prefixed avc) gs) ≡ prefixed avc (flatten gs)
unfolding flatten
joined_prefixed avc [] = refl
joined_prefixed avc (g ∷ gs) =
    ap (λ (l : List ℕ). prefixed avc g ++ l) (joined_prefixed avc gs) ∙ sym (prefixed_append avc g (flatten gs))

-- an output that is no longer than four bytes can say holds no unit that is
pub sayable_all : (us : List (List ℕ)) → length (prefixed true us) < 4294967296 → Each Sayable us
sayable_all [] h = tt
sayable_all (u ∷ us) h =
    let all : length (joined (u ∷ us)) ≡ length u + length (joined us) = length-append u (joined us) in (
      omega (arith, length_prefixed true (u ∷ us), all),
      sayable_all us (omega (arith, length_prefixed true (u ∷ us), length_prefixed true us, all)),
    )
