-- The units of an aggregation packet while the code writes them: those before a place stand in the output behind their prefixes. Assumes nothing.
use mathlib.Core.Path.{◌≡◌, refl, sym, ap, ◌∙◌}
use mathlib.Core.Bool.{Bool}
use mathlib.Core.List.{List, [], ◌∷◌, ◌++◌}
use Prim.Native.Nat.{ℕ, ◌+◌, ◌<◌, ◌≤◌}
use native.Mathlib.Omega.{arith}
use lib.ListN.{length, take, drop, length-append}
use Rattle.wire.specs.Net.{u16_at}
use Rattle.wire.specs.Part.{splice}
use Rattle.wire.proofs.Part.{splice_nothing, splice_on}
use Rattle.nal.specs.Unpack.{right, unpack, units_in}
use Rattle.nal.proofs.Unpacking.{Units, Going, going_first, going_unit, Begins, begins, length_unit_at, size_there, size_fits}
use Rattle.nal.specs.Fed.{prefix_of, prefixed}
use Rattle.nal.specs.Said.{Room}
use Rattle.nal.proofs.Handing.{prefixed_append, prefixed_one, length_unit}

-- what was written so far is not longer than the whole
pub part_of_all : (avc : Bool) (all units : Units) → Begins all units → length (prefixed avc units) ≤ length (prefixed avc all)
part_of_all avc all units b =
    let e : length (prefixed avc all) ≡ length (prefixed avc units) + length (prefixed avc b.others) =
    ap (λ (us : Units). length (prefixed avc us)) b.are
    ∙ ap length (prefixed_append avc units b.others)
    ∙ length-append (prefixed avc units) (prefixed avc b.others) in
    omega arith

-- the units before `at` stand in the output behind their prefixes
pub record Putting (s : List ℕ) (avc : Bool) (out₀ : List ℕ) (room : Room s avc (length out₀)) (at to : ℕ) (out : List ℕ) : Type 0 where
  pub units : Units
  pub going : Going s (right room.units) at units
  pub placed : to ≡ length (prefixed avc units)
  pub written : out ≡ splice out₀ 0 (prefixed avc units)
  pub long : length out ≡ length out₀

pub putting_first : (s : List ℕ) (avc : Bool) (out : List ℕ) (room : Room s avc (length out)) → Putting s avc out room 0 0 out
putting_first s avc out room =
    record {
      units = [];
      going = rw room.sizes at (going_first s);
      placed = refl;
      written = sym (splice_nothing out 0);
      long = refl;
    }

module _ (s : List ℕ) (avc : Bool) (out₀ : List ℕ) (room : Room s avc (length out₀)) (at to : ℕ) (out : List ℕ)
    (p : Putting s avc out₀ room at to out) (h : at < length s) where
  abbrev here : Going s (right room.units) at p.units
  here = p.going

  u : List ℕ
  u = take (u16_at s at) (drop (at + 2) s)

  next : Going s (right room.units) (at + 2 + u16_at s at) (p.units ++ (u ∷ []))
  unfolding u
  next =
      going_unit s (right room.units) at p.units here (size_there s room.units at p.units here h)
      (size_fits s room.units at p.units here h)

  longer : prefixed avc (p.units ++ (u ∷ [])) ≡ prefixed avc p.units ++ (prefix_of avc u ++ u)
  longer =
      prefixed_append avc p.units (u ∷ []) ∙ ap (λ (l : List ℕ). prefixed avc p.units ++ l) (prefixed_one avc u)

  length_u : length u ≡ u16_at s at
  unfolding u
  length_u = length_unit_at s at (size_fits s room.units at p.units here h)

  length_longer : length (prefixed avc (p.units ++ (u ∷ []))) ≡ to + 4 + u16_at s at
  length_longer =
      ap length longer
      ∙ length-append (prefixed avc p.units) (prefix_of avc u ++ u)
      ∙ omega (arith, p.placed, length_unit avc u, length_u)

  -- the next unit fits behind what was written
  pub unit_fits : to + 4 + u16_at s at ≤ length out
  unit_fits =
      omega (arith, length_longer, p.long, room.fits, part_of_all avc room.units (p.units ++ (u ∷ [])) (begins s (at + 2 + u16_at s at) (p.units ++ (u ∷ [])) room.units next))

  pub putting_unit : (out' : List ℕ) → out' ≡ splice out to (prefix_of avc (take (u16_at s at) (drop (at + 2) s)) ++ take (u16_at s at) (drop (at + 2) s)) → length out' ≡ length out →
      Putting s avc out₀ room (at + 2 + u16_at s at) (to + 4 + u16_at s at) out'
  unfolding u
  putting_unit out' e l =
      record {
        units = p.units ++ (u ∷ []);
        going = next;
        placed = sym length_longer;
        written =
            e
            ∙ ap (λ (o : List ℕ). splice o to (prefix_of avc u ++ u)) p.written
            ∙ ap (λ (k : ℕ). splice (splice out₀ 0 (prefixed avc p.units)) k (prefix_of avc u ++ u)) to_is
            ∙ splice_on out₀ 0 (prefixed avc p.units) (prefix_of avc u ++ u) (omega arith)
            ∙ ap (splice out₀ 0) (sym longer);
        long = l ∙ p.long;
      }
    where
      to_is : to ≡ 0 + length (prefixed avc p.units)
      to_is = omega (arith, p.placed)

-- when all is read, the units before are the units
pub all_written : (s : List ℕ) (avc : Bool) (n : ℕ) (room : Room s avc n) {units : Units} → right room.units ≡ right units → units ≡ units_in (unpack s)
all_written s avc n room {units} e =
    let same : room.units ≡ units = cc in
    sym same ∙ sym (ap units_in room.sizes)
