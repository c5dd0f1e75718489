-- How whoever is handed units behind 4-byte lengths cuts them out again: by the lengths alone, in network order. Assumes nothing.
use Rattle.std.specs.Prelude.{cond, List, [], ◌∷◌, ℕ, zero, suc, ◌+◌, ltb, length, take, drop}
use Rattle.wire.specs.Net.{u32_at}

pub data Cut : Type 0 where
  into : (units : List (List ℕ)) → Cut
  -- a length that is not whole, or that says more octets than there are
  broken : Cut

-- the unit in front: as many octets behind the first four as these say
abbrev pub unit_in : List ℕ → List ℕ
unit_in s = take (u32_at s 0) (drop 4 s)

abbrev pub behind_unit : List ℕ → List ℕ
behind_unit s = drop (u32_at s 0) (drop 4 s)

abbrev pub and_units : List ℕ → Cut → Cut
and_units u (into us) = into (u ∷ us)
and_units u broken = broken

-- the units of all, from those of what stands behind the unit in front
abbrev pub cut_front : List ℕ → Cut → Cut
cut_front [] others = into []
cut_front (b ∷ s) others = cond (ltb (length (b ∷ s)) (4 + u32_at (b ∷ s) 0)) broken (and_units (unit_in (b ∷ s)) others)

abbrev pub cut_in : (turns : ℕ) → List ℕ → Cut
cut_in zero s = cut_front s broken
cut_in (suc n) s = cut_front s (cut_in n (behind_unit s))

-- a unit takes four octets at least, so that these are turns enough
abbrev pub cut_by_lengths : List ℕ → Cut
cut_by_lengths s = cut_in (length s) s
