-- The fragments of a unit, one after the other. Assumes nothing.
use mathlib.Core.Path.{◌≡◌, refl, sym, ap, ap₂, subst, ◌∙◌}
use mathlib.Core.List.{List, [], ◌∷◌, ◌++◌, map, append-nil}
use mathlib.Core.Bool.{Bool, cond}
use Prim.Native.Nat.{ℕ, zero, suc, ◌+◌, ◌-◌, ◌≤◌, ◌<◌}
use native.Mathlib.Nat.{not-suc-le-zero}
use native.Mathlib.Omega.{arith}
use lib.ListN.{length, take, drop, get_or, length-drop}
use lib.Seq.{take_all}
use borrow.Author.Tests.{le-leb, lt-leb}
use Rattle.wire.specs.Packets.{Sink, Room, put, put_all}
use Rattle.wire.proofs.Packets.{room_first, room_rest}
use Rattle.h264_put.specs.Groups.{Parts, parts, fragment, fragments_of, packets_of}
use Rattle.h264_put.proofs.Sinks.{length_fragment}

pub parts_last : (fuel size : ℕ) (s : List ℕ) → length s ≤ size → parts fuel size s ≡ record { middle = []; last = s }
parts_last zero size s h = refl
parts_last (suc fuel) size s h =
    let rest : Parts = parts fuel size (drop size s) in
    ap
    (λ (t : Bool). cond t (record { middle = []; last = s }) (record { middle = take size s ∷ rest.middle; last = rest.last }))
    (le-leb (length s) size h)

pub parts_more : (fuel size : ℕ) (s : List ℕ) → size < length s → 0 < fuel →
    parts fuel size s ≡
    record { middle = take size s ∷ (parts (fuel - 1) size (drop size s)).middle; last = (parts (fuel - 1) size (drop size s)).last }
parts_more zero size s h g = absurd (not-suc-le-zero g)
parts_more (suc fuel) size s h g =
    let k : fuel ≡ suc fuel - 1 = omega arith in
    let longer : Parts → Parts = λ (rest : Parts). record { middle = take size s ∷ rest.middle; last = rest.last } in
    ap
    (λ (t : Bool). cond t (record { middle = []; last = s }) (longer (parts fuel size (drop size s))))
    (lt-leb (length s) size h)
    ∙ ap (λ (f : ℕ). longer (parts f size (drop size s))) k

-- the packets of all fragments behind the first
abbrev pub later_of : ℕ → Parts → List (List ℕ)
later_of head p = map (fragment head 0) p.middle ++ (fragment head 64 p.last ∷ [])

abbrev pub later : ℕ → ℕ → ℕ → List ℕ → List (List ℕ)
later head fuel size s = later_of head (parts fuel size s)

pub later_more : (head fuel size : ℕ) (s : List ℕ) → size < length s → 0 < fuel →
    later head fuel size s ≡ fragment head 0 (take size s) ∷ later head (fuel - 1) size (drop size s)
later_more head fuel size s h g = ap (later_of head) (parts_more fuel size s h g)

pub later_last : (head fuel size : ℕ) (s : List ℕ) → length s ≤ size → later head fuel size s ≡ fragment head 64 s ∷ []
later_last head fuel size s h = ap (later_of head) (parts_last fuel size s h)

pub fragments_packets : (size : ℕ) (unit : List ℕ) → 0 < length unit →
    packets_of (fragments_of size unit) ≡
    fragment (get_or unit 0 0) 128 (take size (drop 1 unit)) ∷ later (get_or unit 0 0) (length unit - 1) size (drop size (drop 1 unit))
fragments_packets size [] h = absurd (not-suc-le-zero h)
fragments_packets size (b ∷ s) h =
    let l : suc (length s) - 1 ≡ length s = omega arith in
    append-nil (fragment b 128 (take size s) ∷ later b (length s) size (drop size s))
    ∙ sym (ap (λ (f : ℕ). fragment b 128 (take size s) ∷ later b f size (drop size s)) l)

-- ---- the loop that writes them: what is still to be put of the rest of the unit leads to the goal

-- room for a fragment of a part, and a place for its end
pub record RoomFor (s : Sink) (part : List ℕ) : Type 0 where
  pub bytes : s.at + (2 + length part) ≤ length s.out
  pub place : s.n < length s.ends

room_for : (s : Sink) (head bits : ℕ) (part : List ℕ) (ps : List (List ℕ)) → Room s (fragment head bits part ∷ ps) → RoomFor s part
room_for s head bits part ps room =
    let r = room_first s (fragment head bits part) ps room in
    let f : length (fragment head bits part) ≡ 2 + length part = length_fragment head bits part in
    record { bytes = omega (arith, r.0); place = r.1 }

module _ (size head : ℕ) (goal : Sink) where
  pub record Going (s : Sink) (rest : List ℕ) : Type 0 where
    pub fuel : ℕ
    pub enough : length rest ≤ fuel
    pub room : Room s (later head fuel size rest)
    pub same : put_all s (later head fuel size rest) ≡ goal

  module _ (s : Sink) (rest : List ℕ) (g : Going s rest) where
    -- one more of `size` bytes
    module _ (pos : 0 < size) (long : size < length rest) (part : List ℕ) (front : part ≡ take size rest) where
      then : List (List ℕ)
      then = later head (g.fuel - 1) size (drop size rest)

      next_is : later head g.fuel size rest ≡ fragment head 0 part ∷ then
      unfolding then
      next_is =
          later_more head g.fuel size rest long (omega (arith, g.enough))
          ∙ sym (ap (λ (l : List ℕ). fragment head 0 l ∷ later head (g.fuel - 1) size (drop size rest)) front)

      room_now : Room s (fragment head 0 part ∷ then)
      room_now = subst (Room s) next_is g.room

      pub room_next : RoomFor s part
      room_next = room_for s head 0 part then room_now

      pub going_on : (s' : Sink) → s' ≡ put s (fragment head 0 part) → (behind : List ℕ) → behind ≡ drop size rest → Going s' behind
      unfolding then
      going_on s' e behind back =
          subst (Going s') (sym back)
          (record {
            fuel = g.fuel - 1;
            enough = omega (arith, g.enough, length-drop size rest);
            room = subst (λ (x : Sink). Room x then) (sym e) (room_rest s (fragment head 0 part) then room_now);
            same = ap (λ (x : Sink). put_all x then) e ∙ sym (ap (put_all s) next_is) ∙ g.same;
          })

    -- the last
    module _ (short : length rest ≤ size) where
      last_is : later head g.fuel size rest ≡ fragment head 64 rest ∷ []
      last_is = later_last head g.fuel size rest short

      pub room_last : RoomFor s rest
      room_last = room_for s head 64 rest [] (subst (Room s) last_is g.room)

      pub going_last : put s (fragment head 64 rest) ≡ goal
      going_last = sym (ap (put_all s) last_is) ∙ g.same

-- the bytes behind the first, as the code lends them
behind_first : (unit : List ℕ) → take (length unit - 1) (drop 1 unit) ≡ drop 1 unit
behind_first unit = take_all (length unit - 1) (drop 1 unit) (rw (length-drop 1 unit) (omega arith))

-- the first, and what it leaves to be put
module _
    (unit : List ℕ) (size : ℕ) (s : Sink) (long : size + 1 < length unit) (room : Room s (packets_of (fragments_of size unit))) (part rest : List ℕ)
    (front : part ≡ take size (take (length unit - 1) (drop 1 unit))) (back : rest ≡ drop size (take (length unit - 1) (drop 1 unit)))
  where
    rest_is : rest ≡ drop size (drop 1 unit)
    rest_is = back ∙ ap (drop size) (behind_first unit)

    then_all : List (List ℕ)
    then_all = later (get_or unit 0 0) (length unit - 1) size rest

    all_is : packets_of (fragments_of size unit) ≡ fragment (get_or unit 0 0) 128 part ∷ then_all
    unfolding then_all
    all_is =
        fragments_packets size unit (omega arith)
        ∙ sym (ap₂ (λ (p r : List ℕ). fragment (get_or unit 0 0) 128 p ∷ later (get_or unit 0 0) (length unit - 1) size r)
        (front ∙ ap (take size) (behind_first unit)) rest_is)

    room_all : Room s (fragment (get_or unit 0 0) 128 part ∷ then_all)
    room_all = subst (Room s) all_is room

    pub room_first_part : RoomFor s part
    room_first_part = room_for s (get_or unit 0 0) 128 part then_all room_all

    pub going_first : (s' : Sink) → s' ≡ put s (fragment (get_or unit 0 0) 128 part) →
        Going size (get_or unit 0 0) (put_all s (packets_of (fragments_of size unit))) s' rest
    unfolding then_all
    going_first s' e =
        record {
          fuel = length unit - 1;
          enough = omega (arith, ap length rest_is, length-drop size (drop 1 unit), length-drop 1 unit);
          room = subst (λ (x : Sink). Room x then_all) (sym e) (room_rest s (fragment (get_or unit 0 0) 128 part) then_all room_all);
          same = ap (λ (x : Sink). put_all x then_all) e ∙ sym (ap (put_all s) all_is);
        }
