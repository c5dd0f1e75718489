-- The measure says how long the units are with their prefixes, and `put_units` writes them.
use mathlib.Core.Path.{◌≡◌, sym, ap₂, ◌∙◌}
use mathlib.Core.Bool.{Bool}
use mathlib.Core.List.{List}
use Prim.Native.Nat.{ℕ, ◌+◌, ◌*◌, ◌≤◌}
use native.Mathlib.Omega.{arith}
use lib.ListN.{length}
use Rattle.error.specs.Said.{says}
use Rattle.wire.specs.Packets.{joined}
use Rattle.nal.specs.Said.{is_avc}
use Rattle.nal.specs.Fed.{prefixed}
use Rattle.nal.specs.Unpack.{right, unpack, units_in}
use Rattle.nal.proofs.Handing.{length_prefixed, bytes_short, bytes_fit}
use Rattle.nal.proofs.Unpacking.{measured, unpack_bound}
use Rattle.nal.proofs.aggregate.hand_units.Goals as goal
use Rattle.nal.proofs.aggregate.hand_units.Goals.{Start}

abbrev units_of : List ℕ → List (List ℕ)
units_of s = units_in (unpack s)

-- what the measure that was asked for says
record Known (s : List ℕ) (count bytes : ℕ) : Type 0 where
  sizes : unpack s ≡ right (units_of s)
  many : count ≡ length (units_of s)
  long : bytes ≡ length (joined (units_of s))
  small : bytes + 2 * count ≤ length s

known : (c : Start) → Known c.args.sized.now c.args.units.count c.args.units.bytes
known c =
    let s = c.args.sized.now in
    let m = measured s c.args.units c.requires.sized_value in
    let b = unpack_bound s (units_of s) m.0 in
    record { sizes = m.0; many = m.1; long = m.2; small = omega (arith, b, m.1, m.2) }

-- the units with their prefixes
length_is : (c : Start) (avc : Bool) → length (prefixed avc (units_of c.args.sized.now)) ≡ c.args.units.bytes + 4 * c.args.units.count
length_is c avc = length_prefixed avc (units_of c.args.sized.now) ∙ omega (arith, (known c).many, (known c).long)

pub overflow_mul-n : goal.overflow_mul-n
overflow_mul-n c = omega (arith, (known (goal.at.overflow_mul-n c).Start).small, c.requires.sized_len_bound)

pub overflow_add-n : goal.overflow_add-n
overflow_add-n c = omega (arith, (known (goal.at.overflow_add-n c).Start).small, c.requires.sized_len_bound)

pub returns-then-out-n : goal.returns-then-out-n
returns-then-out-n c =
    let a = c.args in
    sym (bytes_short a.out.now (prefixed (is_avc a.prefix) (units_of a.sized.now)) (omega (arith, length_is (goal.at.returns-then-out-n c).Start (is_avc a.prefix), c.if-out-n.true)))

pub put_units-requires : goal.put_units-requires
put_units-requires c =
    let a = c.args in
    record {
      units = units_of a.sized.now;
      sizes = (known (goal.at.put_units-requires c).Start).sizes;
      fits = omega (arith, length_is (goal.at.put_units-requires c).Start (is_avc a.prefix), c.if-out-n.false);
    }

pub returns : goal.returns
returns c =
    let a = c.args in
    let n = length_is (goal.at.returns c).Start (is_avc a.prefix) in
    ap₂ (λ (k : ℕ) (l : List ℕ). record { answer = says k; out = l }) (sym n) c.put_units.ensures
    ∙ sym (bytes_fit a.out.now (prefixed (is_avc a.prefix) (units_of a.sized.now)) (omega (arith, n, c.if-out-n.false)))
