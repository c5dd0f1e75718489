-- The units of an aggregation packet while the code reads them: what is still to be read leads to what the definition right of the whole.
-- Assumes nothing.
use mathlib.Core.Path.{◌≡◌, refl, sym, ap, ◌∙◌}
use mathlib.Core.Bool.{Bool, true, false, cond}
use mathlib.Core.List.{List, [], ◌∷◌, ◌++◌, append-nil, append_assoc}
use Prim.Native.Nat.{ℕ, zero, suc, ◌+◌, ◌*◌, ◌-◌, ◌/◌, ◌%◌, ◌<◌, ◌≤◌}
use native.Mathlib.Decide.{dec_le}
use native.Mathlib.Nat.{lt_of_not-le}
use native.Mathlib.Omega.{arith}
use lib.Dec.{ltb}
use lib.ListN.{length, take, drop, get_or, length-append, length-drop, drop_of_length-le, take-append-drop}
use lib.Seq.{drop-drop, length-take-le, take_at, drop_at}
use borrow.Author.Tests.{lt-ltb, le-ltb}
use Rattle.wire.specs.Net.{be16, u16_at}
use Rattle.wire.specs.Packets.{joined}
use Rattle.wire.specs.Turns.{more, done, after, run}
use Rattle.wire.proofs.Packets.{joined_append}
use Rattle.wire.proofs.Part.{drop_front, drop_two}
use Rattle.wire.proofs.Turns.{run_more, run_done}
use Rattle.nal.specs.declared.Measured.{Measured}
use Rattle.nal.specs.Said.{measure_of}
use Rattle.nal.specs.Unpack.{Unpacked, right, past, lone, Unpacking, sized, unpack_by, unpack_turn, unpack, units_in, sized_units, Sized}

abbrev pub Units : Type 0
Units = List (List ℕ)

-- what is wrong is not right
pub past_not_right : {A : Type 0} {size left : ℕ} {x : A} → past size left ≡ right x → ⊥
past_not_right e = let z : ◌≡◌ {A = ℕ} 0 1 = cc in omega arith

pub lone_not_right : {A : Type 0} {x : A} → lone ≡ right x → ⊥
lone_not_right e = let z : ◌≡◌ {A = ℕ} 0 1 = cc in omega arith

-- from `at` on the rest leads to the goal; `units` are those before
pub record Going (s : List ℕ) (goal : Unpacked Units) (at : ℕ) (units : Units) : Type 0 where
  pub fuel : ℕ
  pub enough : length s - at < fuel
  pub same : run unpack_turn lone fuel (record { rest = drop at s; units = units }) ≡ goal

pub going_first : (s : List ℕ) → Going s (unpack s) 0 []
unfolding unpack
going_first s = record { fuel = length s + 1; enough = omega arith; same = refl }

module _ (s : List ℕ) (goal : Unpacked Units) (at : ℕ) (units : Units) (g : Going s goal at units) where
  abbrev now : Unpacking
  now = record { rest = drop at s; units = units }

  ends : (r : Unpacked Units) → unpack_turn now ≡ done r → goal ≡ r
  ends r e = sym g.same ∙ run_done unpack_turn lone g.fuel now r (omega (arith, g.enough)) e

  pub going_end : length s ≤ at → goal ≡ right units
  unfolding unpack_turn
  going_end h = ends (right units) (ap (λ (l : List ℕ). unpack_by l units) (drop_of_length-le s h))

  pub going_cut : at < length s → length s ≤ at + 1 → goal ≡ lone
  unfolding unpack_turn
  going_cut h last =
      ends lone
      (ap (λ (l : List ℕ). unpack_by l units) (drop_front s at h ∙ ap (λ (l : List ℕ). get_or s at 0 ∷ l) (drop_of_length-le s last)))

  -- a size stands in front of the rest
  at_size : at + 1 < length s → unpack_turn now ≡ sized (u16_at s at) (drop (at + 2) s) units
  unfolding unpack_turn u16_at
  at_size h = ap (λ (l : List ℕ). unpack_by l units) (drop_two s at h)

  pub going_past : at + 1 < length s → length s - (at + 2) < u16_at s at →
      goal ≡ past (u16_at s at) (length s - (at + 2))
  going_past h over =
      let left : length (drop (at + 2) s) ≡ length s - (at + 2) = length-drop (at + 2) s in
      ends (past (u16_at s at) (length s - (at + 2)))
      (at_size h ∙ rw (left, lt-ltb (length s - (at + 2)) (u16_at s at) over))

  -- the unit that the size right
  abbrev pub unit_at : List ℕ
  unit_at = take (u16_at s at) (drop (at + 2) s)

  pub going_unit : at + 1 < length s → u16_at s at ≤ length s - (at + 2) →
      Going s goal (at + 2 + u16_at s at) (units ++ (unit_at ∷ []))
  going_unit h fits =
      record {
        fuel = g.fuel - 1;
        enough = omega (arith, g.enough);
        same = sym (run_more unpack_turn lone g.fuel now next (omega (arith, g.enough)) (at_size h ∙ on)) ∙ g.same;
      }
    where
      next : Unpacking
      next = record { rest = drop (at + 2 + u16_at s at) s; units = units ++ (unit_at ∷ []) }

      on : sized (u16_at s at) (drop (at + 2) s) units ≡ more next
      on =
          rw (le-ltb (length (drop (at + 2) s)) (u16_at s at) (rw (length-drop (at + 2) s) fits))
          (ap (λ (l : List ℕ). more (record { rest = l; units = units ++ (unit_at ∷ []) })) (drop-drop (u16_at s at) (at + 2) s))

-- ---- what was read stays

-- the units of the whole begin with those read already
pub record Begins (all units : Units) : Type 0 where
  pub others : Units
  pub are : all ≡ units ++ others

-- a turn that found nothing wrong went on
went_on : (t : Bool) (size left : ℕ) (next : Unpacking) (go : Unpacking → Unpacked Units) (all : Units) →
    after (cond t (done (past size left)) (more next)) go ≡ right all → go next ≡ right all
went_on true size left next go all e = absurd (past_not_right e)
went_on false size left next go all e = e

fewer : (all units : Units) (u : List ℕ) → Begins all (units ++ (u ∷ [])) → Begins all units
fewer all units u b = record { others = u ∷ b.others; are = b.are ∙ append_assoc units (u ∷ []) b.others }

extends : (fuel : ℕ) (rest : List ℕ) (units all : Units) →
    run unpack_turn lone fuel (record { rest = rest; units = units }) ≡ right all → Begins all units
unfolding run unpack_turn
extends zero rest units all e = absurd (lone_not_right e)
extends (suc fuel) [] units all e =
    let same : units ≡ all = cc in
    record { others = []; are = sym same ∙ sym (append-nil units) }
extends (suc fuel) (a ∷ []) units all e = absurd (lone_not_right e)
extends (suc fuel) (a ∷ b ∷ rest) units all e =
    fewer all units (take (a * 256 + b) rest)
    (extends fuel (drop (a * 256 + b) rest) (units ++ (take (a * 256 + b) rest ∷ [])) all
    (went_on (ltb (length rest) (a * 256 + b)) (a * 256 + b) (length rest)
    (record { rest = drop (a * 256 + b) rest; units = units ++ (take (a * 256 + b) rest ∷ []) })
    (run unpack_turn lone fuel) all e))

pub begins : (s : List ℕ) (at : ℕ) (units all : Units) → Going s (right all) at units → Begins all units
begins s at units all g = extends g.fuel (drop at s) units all g.same

-- ---- counting

-- the unit that a size right has that many bytes
pub length_unit_at : (s : List ℕ) (at : ℕ) → u16_at s at ≤ length s - (at + 2) → length (take (u16_at s at) (drop (at + 2) s)) ≡ u16_at s at
length_unit_at s at fits = length-take-le (u16_at s at) (drop (at + 2) s) (rw (length-drop (at + 2) s) fits)

-- the units before `at`, and how many there are, of how many bytes
pub record Measuring (s : List ℕ) (at count bytes : ℕ) : Type 0 where
  pub units : Units
  pub going : Going s (unpack s) at units
  pub many : count ≡ length units
  pub long : bytes ≡ length (joined units)
  pub fewer_than : count ≤ at
  pub shorter : bytes ≤ at

pub measuring_unit : (s : List ℕ) (at count bytes n : ℕ) → Measuring s at count bytes → at + 1 < length s → n ≡ u16_at s at →
    n ≤ length s - (at + 2) → Measuring s (at + 2 + n) (count + 1) (bytes + n)
measuring_unit s at count bytes n m h e fits =
    rw e
    (record {
      units = m.units ++ (u ∷ []);
      going = going_unit s (unpack s) at m.units m.going h fits_too;
      many = ap (λ (k : ℕ). k + 1) m.many ∙ sym (length-append m.units (u ∷ []));
      long = longer;
      fewer_than = omega (arith, m.fewer_than);
      shorter = omega (arith, m.shorter);
    })
  where
    fits_too : u16_at s at ≤ length s - (at + 2)
    fits_too = rw e at fits

    u : List ℕ
    u = take (u16_at s at) (drop (at + 2) s)

    longer : bytes + u16_at s at ≡ length (joined (m.units ++ (u ∷ [])))
    longer =
        sym
        (ap length (joined_append m.units (u ∷ []))
        ∙ length-append (joined m.units) (u ++ [])
        ∙ ap (λ (l : List ℕ). length (joined m.units) + length l) (append-nil u)
        ∙ omega (arith, m.long, length_unit_at s at fits_too))

-- ---- reading what was measured

module _ (s : List ℕ) (all : Units) (at : ℕ) (units : Units) (g : Going s (right all) at units) (h : at < length s) where
  -- no turn ends it, so that there is a size, and it lies within the packet
  pub size_there : at + 1 < length s
  size_there =
      elim (dec_le (length s) (at + 1))
      [ yes last ↦ absurd (lone_not_right (sym (going_cut s (right all) at units g h last))) | no fine ↦ lt_of_not-le fine ]

  pub size_fits : u16_at s at ≤ length s - (at + 2)
  size_fits =
      elim (dec_le (u16_at s at) (length s - (at + 2))) [
        | yes fine ↦ fine
        | no over ↦ absurd (past_not_right (sym (going_past s (right all) at units g size_there (lt_of_not-le over))))
      ]

-- ---- how much an aggregation packet can hold

-- units, with two bytes more for the size of each
weight : Units → ℕ
weight us = length (joined us) + 2 * length us

weight_more : (units : Units) (u : List ℕ) → weight (units ++ (u ∷ [])) ≡ weight units + length u + 2
unfolding weight
weight_more units u =
    let a : length (joined (units ++ (u ∷ []))) ≡ length (joined units) + length u =
    ap length (joined_append units (u ∷ []))
    ∙ length-append (joined units) (u ++ [])
    ∙ ap (λ (l : List ℕ). length (joined units) + length l) (append-nil u) in
    let b : length (units ++ (u ∷ [])) ≡ length units + 1 = length-append units (u ∷ []) in
    omega arith

weighs : (fuel : ℕ) (rest : List ℕ) (units all : Units) →
    run unpack_turn lone fuel (record { rest = rest; units = units }) ≡ right all → weight all ≤ weight units + length rest
unfolding run unpack_turn
weighs zero rest units all e = absurd (lone_not_right e)
weighs (suc fuel) [] units all e =
    let same : units ≡ all = cc in
    rw (sym same) (omega arith)
weighs (suc fuel) (a ∷ []) units all e = absurd (lone_not_right e)
weighs (suc fuel) (a ∷ b ∷ rest) units all e =
    let n : ℕ = a * 256 + b in
    let ih : weight all ≤ weight (units ++ (take n rest ∷ [])) + length (drop n rest) =
    weighs fuel (drop n rest) (units ++ (take n rest ∷ [])) all
    (went_on (ltb (length rest) n) n (length rest)
    (record { rest = drop n rest; units = units ++ (take n rest ∷ []) })
    (run unpack_turn lone fuel) all e) in
    let whole : length (take n rest) + length (drop n rest) ≡ length rest =
    sym (length-append (take n rest) (drop n rest)) ∙ ap length (take-append-drop n rest) in
    omega (arith, ih, whole, weight_more units (take n rest))

pub unpack_bound : (s : List ℕ) (all : Units) → unpack s ≡ right all → length (joined all) + 2 * length all ≤ length s
unfolding unpack weight
unpack_bound s all e =
    let w : weight all ≤ weight [] + length s = weighs (length s + 1) s [] all e in
    omega (arith, w)

-- a measure is that of the units
pub measured : (s : List ℕ) (m : Measured) → measure_of (unpack s) ≡ right m →
    (unpack s ≡ right (units_in (unpack s))) × (m.count ≡ length (units_in (unpack s))) × (m.bytes ≡ length (joined (units_in (unpack s))))
measured s m e = go (unpack s) e
  where
    go : (x : Unpacked Units) → measure_of x ≡ right m →
        (x ≡ right (units_in x)) × (m.count ≡ length (units_in x)) × (m.bytes ≡ length (joined (units_in x)))
    go (right us) f =
        let g : right m ≡ right (record { count = length us; bytes = length (joined us) }) = sym f in
        let same : m ≡ record { count = length us; bytes = length (joined us) } = cc in
        (refl, ap (λ (x : Measured). x.count) same, ap (λ (x : Measured). x.bytes) same)
    go (past size left) f = absurd (past_not_right f)
    go lone f = absurd (lone_not_right f)

-- ---- units, each behind its size

-- the first of the units, read off
unpack_one : (u : List ℕ) (us before : Units) → length u < 65536 →
    unpack_turn (record { rest = sized_units (u ∷ us); units = before }) ≡ more (record { rest = sized_units us; units = before ++ (u ∷ []) })
unfolding unpack_turn be16
unpack_one u us before h =
    let size : length u / 256 % 256 * 256 + length u % 256 ≡ length u = omega arith in
    rw (size, le-ltb (length (u ++ sized_units us)) (length u) (omega (arith, length-append u (sized_units us))), take_at u (sized_units us) (length u) refl, drop_at u (sized_units us) (length u) refl)

unpack_all : (us before : Units) (fuel : ℕ) → length (sized_units us) < fuel → Sized us →
    run unpack_turn lone fuel (record { rest = sized_units us; units = before }) ≡ right (before ++ us)
unfolding unpack_turn be16
unpack_all [] before fuel h w =
    run_done unpack_turn lone fuel (record { rest = []; units = before }) (right before) (omega arith) refl
    ∙ ap right (sym (append-nil before))
unpack_all (u ∷ us) before fuel h w =
    run_more unpack_turn lone fuel (record { rest = sized_units (u ∷ us); units = before })
    (record { rest = sized_units us; units = before ++ (u ∷ []) }) (omega arith) (unpack_one u us before w.0)
    ∙ unpack_all us (before ++ (u ∷ [])) (fuel - 1) (omega (arith, length-append u (sized_units us))) w.1
    ∙ ap right (append_assoc before (u ∷ []) us)

-- whatever the units are, empty ones too, they are read off
pub unpack_sized : (us : Units) → Sized us → unpack (sized_units us) ≡ right us
unfolding unpack
unpack_sized us w = unpack_all us [] (length (sized_units us) + 1) (omega arith) w
