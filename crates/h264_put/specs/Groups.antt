-- From units and the saved pair to groups, and from groups to packets. Demand 3's sent groups are these. Assumes nothing.
use Rattle.std.specs.Prelude.{List, [], ◌∷◌, ◌++◌, map, Bool, cond, ◌&&◌, ◌||◌, ℕ, zero, suc, ◌+◌, ◌-◌, ◌*◌, ◌/◌, ◌%◌, eqb, ltb, leb, length, take, drop}
use Rattle.wire.specs.Net.{be16}
use Rattle.h264_put.specs.declared.fate.Fate.{Fate}
use Rattle.h264_put.specs.declared.fate.Fate.TheVariants.{Empty, Dropped, Sps, Pps, Coded}

-- the sequence and the picture parameter set that wait to be sent; an empty one is none
pub record Saved : Type 0 where
  pub sps : List ℕ
  pub pps : List ℕ

abbrev pub nothing_saved : Saved
nothing_saved = record { sps = []; pps = [] }

abbrev pub both_saved : Saved → Bool
both_saved v = ltb 0 (length v.sps) && ltb 0 (length v.pps)

-- "A group is one STAP-A, one plain unit, or all fragments of one unit"
pub data Group : Type 0 where
  -- the saved pair in one STAP-A
  pair : (sps pps : List ℕ) → Group
  -- a unit that fits
  plain : (unit : List ℕ) → Group
  -- a unit's first byte, and the parts of what follows it: the first, those between, the last
  fragments : (head : ℕ) (first : List ℕ) (middle : List (List ℕ)) (last : List ℕ) → Group

-- ---- a unit's fate

abbrev pub fate_of_type : ℕ → Fate
fate_of_type t = cond (eqb t 9 || eqb t 12) Dropped (cond (eqb t 7) Sps (cond (eqb t 8) Pps Coded))

-- "Empty units and types 9, 12 are dropped; 7, 8 are saved." The type is the first byte's low five bits.
abbrev pub fate_of : List ℕ → Fate
fate_of [] = Empty
fate_of (b ∷ s) = fate_of_type (b % 32)

-- ---- what is kept

-- "the pair is forgotten either way"
abbrev pub forgotten : Saved → Saved
forgotten v = cond (both_saved v) nothing_saved v

abbrev pub keep_by : Fate → Saved → List ℕ → Saved
keep_by Empty v u = v
keep_by Dropped v u = v
keep_by Sps v u = record { sps = u; pps = v.pps }
keep_by Pps v u = record { sps = v.sps; pps = u }
keep_by Coded v u = forgotten v

-- what is saved after a unit: "7, 8 are saved", and "the pair is forgotten" at any other unit, sent or not
unfoldable pub keep : Saved → List ℕ → Saved
keep v u = keep_by (fate_of u) v u

-- ---- what is sent

-- "STAP-A (0x78)": each set after its length in two bytes
unfoldable pub stap_a : List ℕ → List ℕ → List ℕ
stap_a sps pps = 0x78 ∷ (be16 (length sps) ++ (sps ++ (be16 (length pps) ++ pps)))

-- "with both saved, is preceded by a STAP-A (0x78) if that fits the mtu"
unfoldable pub pair_for : ℕ → Saved → List Group
pair_for mtu v =
    cond (both_saved v && leb (length (stap_a v.sps v.pps)) mtu) (pair v.sps v.pps ∷ []) []

-- bytes in parts of `size`, of which the last has what is left
pub record Parts : Type 0 where
  pub middle : List (List ℕ)
  pub last : List ℕ

abbrev pub parts : ℕ → ℕ → List ℕ → Parts
parts zero size s = record { middle = []; last = s }
parts (suc fuel) size s =
    let rest : Parts = parts fuel size (drop size s) in
    let longer : Parts = record { middle = take size s ∷ rest.middle; last = rest.last } in
    cond (leb (length s) size) (record { middle = []; last = s }) longer

-- a unit's fragments, "with at most" `size` "bytes each"; the first byte is in none of them
abbrev pub fragments_of : ℕ → List ℕ → List Group
fragments_of size [] = []
fragments_of size (b ∷ s) =
    let rest : Parts = parts (length s) size (drop size s) in fragments b (take size s) rest.middle rest.last ∷ []

-- "A unit that fits goes alone, else as FU-A with at most mtu - 2 bytes each; under mtu 3 it is dropped."
unfoldable pub unit_for : ℕ → List ℕ → List Group
unit_for mtu u = cond (leb (length u) mtu) (plain u ∷ []) (cond (ltb mtu 3) [] (fragments_of (mtu - 2) u))

abbrev pub groups_by : Fate → ℕ → Saved → List ℕ → List Group
groups_by Empty mtu v u = []
groups_by Dropped mtu v u = []
groups_by Sps mtu v u = []
groups_by Pps mtu v u = []
groups_by Coded mtu v u = pair_for mtu v ++ unit_for mtu u

-- the groups sent for one unit
unfoldable pub groups_for : ℕ → Saved → List ℕ → List Group
groups_for mtu v u = groups_by (fate_of u) mtu v u

-- the groups sent for units in order, and what is then saved
abbrev pub groups_of : ℕ → Saved → List (List ℕ) → List Group
groups_of mtu v [] = []
groups_of mtu v (u ∷ us) = groups_for mtu v u ++ groups_of mtu (keep v u) us

abbrev pub keep_all : Saved → List (List ℕ) → Saved
keep_all v [] = v
keep_all v (u ∷ us) = keep_all (keep v u) us

-- ---- packets

-- one FU-A: the unit's NRI beside type 28, then the bits of this fragment beside the unit's type, then the part
unfoldable pub fragment : ℕ → ℕ → List ℕ → List ℕ
fragment head bits part = (head / 32 % 4 * 32 + 28) ∷ (bits + head % 32) ∷ part

-- the start bit is 128 and stands on the first fragment, the end bit is 64 and stands on the last
abbrev pub packets_of_group : Group → List (List ℕ)
packets_of_group (pair sps pps) = stap_a sps pps ∷ []
packets_of_group (plain u) = u ∷ []
packets_of_group (fragments head first middle last) =
    fragment head 128 first ∷ (map (fragment head 0) middle ++ (fragment head 64 last ∷ []))

abbrev pub packets_of : List Group → List (List ℕ)
packets_of [] = []
packets_of (g ∷ gs) = packets_of_group g ++ packets_of gs
