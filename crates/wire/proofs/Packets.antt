-- Packets put one after the other leave one part replaced in the output and one in the table, and cutting the output at the table's
-- ends gives them back. Assumes nothing.
use mathlib.Core.Path.{◌≡◌, refl, sym, ap, ap₂, ◌∙◌}
use mathlib.Core.List.{List, [], ◌∷◌, ◌++◌, append_assoc}
use Prim.Native.Nat.{ℕ, suc, ◌+◌, ◌-◌, ◌≤◌, ◌<◌}
use native.Mathlib.Nat.{add-zero}
use native.Mathlib.Omega.{arith}
use lib.ListN.{length, take, drop, length-append, length-set}
use lib.Seq.{length-take-le, take_at, drop_at}
use Rattle.wire.specs.Part.{splice, part}
use Rattle.wire.specs.Packets.{joined, ends_from, cut, Sink, put, put_all, whole, Room}
use Rattle.wire.proofs.Part.{splice_nothing, splice_one, splice_on, length_splice, part_of_splice}

pub length_ends_from : (at : ℕ) (ps : List (List ℕ)) → length (ends_from at ps) ≡ length ps
length_ends_from at [] = refl
length_ends_from at (p ∷ ps) = ap suc (length_ends_from (at + length p) ps)

-- room for the packets is room for the first, and after it for the others
pub room_first : (s : Sink) (p : List ℕ) (ps : List (List ℕ)) → Room s (p ∷ ps) → (s.at + length p ≤ length s.out) × (s.n < length s.ends)
room_first s p ps r = let e : length (p ++ joined ps) ≡ length p + length (joined ps) = length-append p (joined ps) in
    (omega (arith, r.bytes), omega (arith, r.places))

pub room_rest : (s : Sink) (p : List ℕ) (ps : List (List ℕ)) → Room s (p ∷ ps) → Room (put s p) ps
unfolding put
room_rest s p ps r =
    let e : length (p ++ joined ps) ≡ length p + length (joined ps) = length-append p (joined ps) in
    record {
      bytes = rw (length_splice s.out s.at p (room_first s p ps r).0) (omega (arith, r.bytes));
      places = rw (length-set s.ends s.n (s.at + length p)) (omega (arith, r.places));
    }

-- a sink is its four parts
sink_path : (s t : Sink) → s.out ≡ t.out → s.at ≡ t.at → s.ends ≡ t.ends → s.n ≡ t.n → s ≡ t
sink_path s t o a e n i = record { out = o i; at = a i; ends = e i; n = n i }

whole_cons : (s : Sink) (p : List ℕ) (ps : List (List ℕ)) → Room s (p ∷ ps) → whole (put s p) ps ≡ whole s (p ∷ ps)
unfolding whole put
whole_cons s p ps r =
    let e : length (p ++ joined ps) ≡ length p + length (joined ps) = length-append p (joined ps) in
    let end : ℕ = s.at + length p in
    sink_path (whole (put s p) ps) (whole s (p ∷ ps))
    (splice_on s.out s.at p (joined ps) (omega (arith, r.bytes)))
    (omega arith)
    (ap (λ (l : List ℕ). splice l (s.n + 1) (ends_from end ps)) (splice_one s.ends s.n end (room_first s p ps r).1)
    ∙ splice_on s.ends s.n (end ∷ []) (ends_from end ps) (omega (arith, r.places)))
    (omega arith)

pub put_all_whole : (s : Sink) (ps : List (List ℕ)) → Room s ps → put_all s ps ≡ whole s ps
unfolding whole
put_all_whole s [] r =
    sink_path s (whole s []) (sym (splice_nothing s.out s.at)) (sym (add-zero s.at))
    (sym (splice_nothing s.ends s.n)) (sym (add-zero s.n))
put_all_whole s (p ∷ ps) r = put_all_whole (put s p) ps (room_rest s p ps r) ∙ whole_cons s p ps r

-- the bytes of packets, and more packets behind them
pub joined_append : (ps qs : List (List ℕ)) → joined (ps ++ qs) ≡ joined ps ++ joined qs
joined_append [] qs = refl
joined_append (p ∷ ps) qs = ap (λ (l : List ℕ). p ++ l) (joined_append ps qs) ∙ sym (append_assoc p (joined ps) (joined qs))

-- packets, then more of them
pub put_all_append : (s : Sink) (ps qs : List (List ℕ)) → put_all s (ps ++ qs) ≡ put_all (put_all s ps) qs
put_all_append s [] qs = refl
put_all_append s (p ∷ ps) qs = put_all_append (put s p) ps qs

pub room_front : (s : Sink) (ps qs : List (List ℕ)) → Room s (ps ++ qs) → Room s ps
room_front s ps qs r =
    let e : length (joined (ps ++ qs)) ≡ length (joined ps) + length (joined qs) = ap length (joined_append ps qs) ∙ length-append (joined ps) (joined qs) in
    let n : length (ps ++ qs) ≡ length ps + length qs = length-append ps qs in
    record { bytes = omega (arith, r.bytes); places = omega (arith, r.places) }

pub room_behind : (s : Sink) (ps qs : List (List ℕ)) → Room s (ps ++ qs) → Room (put_all s ps) qs
room_behind s [] qs r = r
room_behind s (p ∷ ps) qs r = room_behind (put s p) ps qs (room_rest s p (ps ++ qs) r)

-- ---- cut again

-- packets that stand between a front and a back, by their ends
cut_joined : (front : List ℕ) (ps : List (List ℕ)) (back : List ℕ) (at : ℕ) → length front ≡ at → cut (front ++ (joined ps ++ back)) at (ends_from at ps) ≡ ps
cut_joined front [] back at e = refl
cut_joined front (p ∷ ps) back at e =
    let rest : List ℕ = joined ps ++ back in
    let out : front ++ ((p ++ joined ps) ++ back) ≡ front ++ (p ++ rest) = ap (λ (l : List ℕ). front ++ l) (append_assoc p (joined ps) back) in
    let len : at + length p - at ≡ length p = omega arith in
    let end : length (front ++ p) ≡ at + length p = length-append front p ∙ ap (λ (n : ℕ). n + length p) e in
    ap₂ (λ (q : List ℕ) (qs : List (List ℕ)). q ∷ qs)
    (ap (λ (l : List ℕ). part l at (at + length p - at)) out
    ∙ ap₂ (λ (l : List ℕ) (n : ℕ). take n l) (drop_at front (p ++ rest) at e) len
    ∙ take_at p rest (length p) refl)
    (ap (λ (l : List ℕ). cut l (at + length p) (ends_from (at + length p) ps)) (out ∙ sym (append_assoc front p rest))
    ∙ cut_joined (front ++ p) ps back (at + length p) end)

-- the packets that were written are read back: the output, cut at the ends that the table says
pub cut_whole : (s : Sink) (ps : List (List ℕ)) → Room s ps → cut (whole s ps).out s.at (part (whole s ps).ends s.n (length ps)) ≡ ps
unfolding whole splice
cut_whole s ps r =
    ap (cut (whole s ps).out s.at)
    (ap (λ (n : ℕ). part (whole s ps).ends s.n n) (sym (length_ends_from s.at ps))
    ∙ part_of_splice s.ends s.n (ends_from s.at ps) (omega (arith, r.places)))
    ∙ cut_joined (take s.at s.out) ps (drop (s.at + length (joined ps)) s.out) s.at
    (length-take-le s.at s.out (omega (arith, r.bytes)))
