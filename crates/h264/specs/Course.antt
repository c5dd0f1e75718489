-- What becomes of each unit of a list: what goes out, in which order, what is left out and why, and which sets wait in the end. It is said
-- without the sender's steps: of each kind of set the latest counts, and a pair is due at the first coded unit that has both before it.
-- Assumes nothing.
use Rattle.std.specs.Prelude.{◌≡◌, List, [], ◌∷◌, ◌++◌, Bool, true, false, cond, not, ◌&&◌, ◌||◌, ℕ, ◌+◌, leb, length}
use Rattle.h264_put.specs.declared.fate.Fate.{Fate}
use Rattle.h264_put.specs.declared.fate.Fate.TheVariants.{Empty, Dropped, Sps, Pps, Coded}
use Rattle.h264_put.specs.Groups.{Saved, nothing_saved, both_saved, Group, fate_of, pair_for, unit_for}
use Rattle.h264.specs.Conformance.{is_coded, goes_out, those_that}

-- ---- the sets that wait

abbrev pub is_sps : Fate → Bool
is_sps Empty = false
is_sps Dropped = false
is_sps Sps = true
is_sps Pps = false
is_sps Coded = false

abbrev pub is_pps : Fate → Bool
is_pps Empty = false
is_pps Dropped = false
is_pps Sps = false
is_pps Pps = true
is_pps Coded = false

-- the last unit of a kind; `old` where there is none
abbrev pub last_of : (Fate → Bool) → List ℕ → List (List ℕ) → List ℕ
last_of kind old [] = old
last_of kind old (u ∷ us) = last_of kind (cond (kind (fate_of u)) u old) us

-- of each kind the latest set, where v waited before
abbrev pub latest : Saved → List (List ℕ) → Saved
latest v us = record { sps = last_of is_sps v.sps us; pps = last_of is_pps v.pps us }

-- no coded unit among us has both sets before it
abbrev pub NoPair : Saved → List (List ℕ) → Type 0
NoPair v [] = Unit
NoPair v (u ∷ us) = (fate_of u ≡ Coded → both_saved v ≡ false) × NoPair (latest v (u ∷ [])) us

-- units in the order in which they came, cut behind each coded unit at which a pair is due
pub data Course : Type 0 where
  -- units at none of which a pair is due
  quiet : List (List ℕ) → Course
  -- such units, the first coded one that has both sets before it, and what comes then
  due : (before : List (List ℕ)) (unit : List ℕ) → Course → Course

abbrev pub units_of : Course → List (List ℕ)
units_of (quiet us) = us
units_of (due before unit c) = before ++ (unit ∷ units_of c)

-- it is cut there and nowhere else; behind a pair no set waits, sent or not
abbrev pub Right : Saved → Course → Type 0
Right v (quiet us) = NoPair v us
Right v (due before unit c) =
    NoPair v before × (fate_of unit ≡ Coded) × (both_saved (latest v before) ≡ true) × Right nothing_saved c

-- a course of us, where v waits at first
pub record Coursed (v : Saved) (us : List (List ℕ)) : Type 0 where
  pub course : Course
  pub whole : us ≡ units_of course
  pub right : Right v course

-- the sets that wait in the end
abbrev pub waiting_after : Saved → Course → Saved
waiting_after v (quiet us) = latest v us
waiting_after v (due before unit c) = waiting_after nothing_saved c

-- ---- what goes out

-- each unit by itself, alone or in fragments
abbrev pub alone : ℕ → List (List ℕ) → List Group
alone mtu [] = []
alone mtu (u ∷ us) = unit_for mtu u ++ alone mtu us

-- the groups: a pair stands before the unit at which it is due, behind all other units that came with its sets or between them
abbrev pub groups_in : ℕ → Saved → Course → List Group
groups_in mtu v (quiet us) = alone mtu (those_that (goes_out mtu) us)
groups_in mtu v (due before unit c) =
    alone mtu (those_that (goes_out mtu) before) ++ (pair_for mtu (latest v before) ++ (unit_for mtu unit ++ groups_in mtu nothing_saved c))

-- a set that is there
abbrev pub some : List ℕ → List (List ℕ)
some [] = []
some (b ∷ s) = (b ∷ s) ∷ []

-- the sets of a pair, the sequence parameter set first
abbrev pub sets_of : Saved → List (List ℕ)
sets_of v = some v.sps ++ some v.pps

-- a STAP-A with them fits: one byte, and two for each size
abbrev pub pair_fits : ℕ → Saved → Bool
pair_fits mtu v = leb (5 + length v.sps + length v.pps) mtu

-- the units, in the order of sending
abbrev pub sent : ℕ → Saved → Course → List (List ℕ)
sent mtu v (quiet us) = those_that (goes_out mtu) us
sent mtu v (due before unit c) =
    let w : Saved = latest v before in
    those_that (goes_out mtu) before
    ++ (cond (pair_fits mtu w) (sets_of w) [] ++ (those_that (goes_out mtu) (unit ∷ []) ++ sent mtu nothing_saved c))

-- ---- what is left out

abbrev pub is_dropped : Fate → Bool
is_dropped Empty = true
is_dropped Dropped = true
is_dropped Sps = false
is_dropped Pps = false
is_dropped Coded = false

-- "under mtu 3 it is dropped"
abbrev pub cannot_go : ℕ → List ℕ → Bool
cannot_go mtu u = is_coded (fate_of u) && not (leb (length u) mtu || leb 3 mtu)

-- the sets of a kind behind which a later one came, where `old` waited before
abbrev pub earlier : (Fate → Bool) → List ℕ → List (List ℕ) → List (List ℕ)
earlier kind old [] = []
earlier kind old (u ∷ us) = cond (kind (fate_of u)) (some old) [] ++ earlier kind (cond (kind (fate_of u)) u old) us

abbrev pub earlier_sets : Saved → List (List ℕ) → List (List ℕ)
earlier_sets v us = earlier is_sps v.sps us ++ earlier is_pps v.pps us

abbrev pub replaced : Saved → Course → List (List ℕ)
replaced v (quiet us) = earlier_sets v us
replaced v (due before unit c) = earlier_sets v before ++ replaced nothing_saved c

-- "if that fits the mtu; the pair is forgotten either way"
abbrev pub pairs_over : ℕ → Saved → Course → List (List ℕ)
pairs_over mtu v (quiet us) = []
pairs_over mtu v (due before unit c) =
    let w : Saved = latest v before in cond (pair_fits mtu w) [] (sets_of w) ++ pairs_over mtu nothing_saved c

-- all that is left out: "Empty units and types 9, 12", what does not fit under mtu 3, sets that were replaced, pairs that do not fit
abbrev pub left_out : ℕ → Saved → Course → List (List ℕ)
left_out mtu v c =
    those_that (λ (u : List ℕ). is_dropped (fate_of u)) (units_of c)
    ++ (those_that (cannot_go mtu) (units_of c) ++ (replaced v c ++ pairs_over mtu v c))

-- ---- each unit once

abbrev pub total : (List ℕ → ℕ) → List (List ℕ) → ℕ
total weight [] = 0
total weight (u ∷ us) = weight u + total weight us

-- the same units, each as often: whatever a unit weighs, both lists weigh the same
abbrev pub Same : List (List ℕ) → List (List ℕ) → Type 0
Same a b = (weight : List ℕ → ℕ) → total weight a ≡ total weight b
