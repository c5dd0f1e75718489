-- The writing loop: what is still to be put leads from where the loop is to the end, and a turn puts the first of it. Assumes nothing.
use mathlib.Core.Path.{◌≡◌, sym, ap, ap₂, subst, ◌∙◌}
use mathlib.Core.Bool.{Bool, false}
use mathlib.Core.List.{List, ◌∷◌, ◌++◌}
use Prim.Native.Nat.{ℕ, ◌+◌, ◌-◌, ◌≤◌, ◌<◌, min}
use native.Mathlib.Omega.{arith}
use lib.ListN.{length, set, length-append}
use Rattle.wire.specs.Part.{splice}
use Rattle.wire.specs.Packets.{Sink, put, put_all, Room}
use Rattle.wire.proofs.Packets.{room_first, room_rest}
use Rattle.vp8_send.specs.declared.Vp8Payloader.{Vp8Payloader}
use Rattle.vp8_send.specs.Send.{descriptor_of, parts_by, headed}
use Rattle.vp8_send.proofs.Parts.{parts_none, parts_more, part_here, part_behind}

-- the packets of the bytes that are left, with fuel for all of them
abbrev pub still : Vp8Payloader → ℕ → Bool → ℕ → List ℕ → List (List ℕ)
still v size start fuel rest = headed v start (parts_by fuel size rest)

pub record Going (v : Vp8Payloader) (size : ℕ) (goal : Sink) (s : Sink) (start : Bool) (rest : List ℕ) : Type 0 where
  pub fuel : ℕ
  pub enough : length rest ≤ fuel
  pub same : put_all s (still v size start fuel rest) ≡ goal
  pub room : Room s (still v size start fuel rest)

-- the packet of the next turn
abbrev pub piece : Vp8Payloader → Bool → List ℕ → List ℕ
piece v start part = descriptor_of v start ++ part

module _ (v : Vp8Payloader) (size : ℕ) (goal s : Sink) (start : Bool) (rest : List ℕ) (g : Going v size goal s start rest) where
  pub ended : length rest ≡ 0 → s ≡ goal
  unfolding headed
  ended h =
      sym (ap (λ (ps : List (List ℕ)). put_all s (headed v start ps)) (parts_none g.fuel size rest (omega arith))) ∙ g.same

  module _ (part behind : List ℕ) (e : rest ≡ part ++ behind) (l : length part ≡ min size (length rest)) (h : 0 < length rest) where
    first_of_rest : still v size start g.fuel rest ≡ piece v start part ∷ still v size false (g.fuel - 1) behind
    unfolding headed
    first_of_rest =
        ap (headed v start) (parts_more g.fuel size rest h g.enough)
        ∙ ap₂ (λ (p r : List ℕ). (descriptor_of v start ++ p) ∷ headed v false (parts_by (g.fuel - 1) size r))
        (part_here size rest part behind e l) (part_behind size rest part behind e l)

    room_now : Room s (piece v start part ∷ still v size false (g.fuel - 1) behind)
    room_now = subst (Room s) first_of_rest g.room

    pub room_here : (s.at + length (piece v start part) ≤ length s.out) × (s.n < length s.ends)
    room_here = room_first s (piece v start part) _ room_now

    put_here : 0 < size → Going v size goal (put s (piece v start part)) false behind
    put_here z =
        let sum : length rest ≡ length part + length behind = ap length e ∙ length-append part behind in
        record {
          fuel = g.fuel - 1;
          enough = omega (arith, g.enough, sum, l);
          same = sym (ap (put_all s) first_of_rest) ∙ g.same;
          room = room_rest s (piece v start part) _ room_now;
        }

    -- the sink after a turn, by what the turn left of the output and said of the packet's end
    pub turn : 0 < size → (out : List ℕ) (at : ℕ) → out ≡ splice s.out s.at (piece v start part) → at ≡ s.at + length (piece v start part) →
        Going v size goal (record { out = out; at = at; ends = set s.ends s.n at; n = s.n + 1 }) false behind
    unfolding put
    turn z out at o a =
        let same : record { out = out; at = at; ends = set s.ends s.n at; n = s.n + 1 } ≡ put s (piece v start part) =
        λ i. record { out = o i; at = a i; ends = set s.ends s.n (a i); n = s.n + 1 } in
        subst (λ (x : Sink). Going v size goal x false behind) (sym same) (put_here z)
