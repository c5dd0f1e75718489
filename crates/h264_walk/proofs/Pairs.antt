-- The pair that waits, by the code's tests. Assumes nothing.
use mathlib.Core.Path.{◌≡◌, refl, sym, ap, ap₂, subst, ◌∙◌}
use mathlib.Core.List.{List, [], ◌∷◌}
use mathlib.Core.Bool.{Bool, true, false, cond, ◌&&◌}
use Prim.Native.Nat.{ℕ, ◌+◌, ◌≤◌, ◌<◌}
use native.Mathlib.Omega.{arith}
use lib.Dec.{ltb}
use lib.ListN.{length}
use Rattle.wire.specs.Packets.{Sink, Room, put, put_all}
use Rattle.wire.proofs.Packets.{room_first}
use Rattle.h264_put.specs.declared.outcome.PairOutcome.TheVariants as of_pair
use Rattle.h264_put.specs.Groups.{Group, pair, nothing_saved, both_saved, forgotten, stap_a, pair_for, packets_of}
use Rattle.h264_put.specs.Outcomes.{pair_outcome}
use Rattle.h264_put.proofs.Sinks.{length_stap_a}
use Rattle.h264_put.proofs.Sizes.{pair_none, pair_over, pair_sent}
use Rattle.h264_put.proofs.Outcomes.{not_due, due_over, due_sent}
use Rattle.h264_walk.specs.declared.places.Waiting.{Waiting}
use Rattle.h264_walk.specs.Waiting.{bytes_of, saved_at, Waits, nothing_waits}
use Rattle.h264_walk.proofs.Bytes.{lying_length}

-- no set lies anywhere
pub nothing_saved_lem : (sps pps frame : List ℕ) → saved_at sps pps frame nothing_waits ≡ nothing_saved
unfolding bytes_of
nothing_saved_lem sps pps frame = refl

pub nothing_waits_lem : (sps pps frame : List ℕ) → Waits sps pps frame nothing_waits
nothing_waits_lem sps pps frame =
    record {
      of_sps = record { short = omega arith; within = omega arith };
      of_pps = record { short = omega arith; within = omega arith };
    }

module _ {sps pps frame : List ℕ} {w : Waiting} (t : Waits sps pps frame w) where
  pub sps_length : length (saved_at sps pps frame w).sps ≡ w.sps.len
  sps_length = lying_length sps frame w.sps t.of_sps

  pub pps_length : length (saved_at sps pps frame w).pps ≡ w.pps.len
  pps_length = lying_length pps frame w.pps t.of_pps

  both_in : both_saved (saved_at sps pps frame w) ≡ (ltb 0 w.sps.len && ltb 0 w.pps.len)
  both_in = ap₂ (λ (s p : ℕ). ltb 0 s && ltb 0 p) sps_length pps_length

  -- what is forgotten, by the code's test
  pub forget_waits : (f : Waiting) → f ≡ cond (ltb 0 w.sps.len && ltb 0 w.pps.len) nothing_waits w →
      Waits sps pps frame f × (saved_at sps pps frame f ≡ forgotten (saved_at sps pps frame w))
  forget_waits f e =
      subst (λ (x : Waiting). Waits sps pps frame x × (saved_at sps pps frame x ≡ forgotten (saved_at sps pps frame w))) (sym e)
      (go (ltb 0 w.sps.len && ltb 0 w.pps.len) both_in)
    where
      go : (b : Bool) → both_saved (saved_at sps pps frame w) ≡ b →
          Waits sps pps frame (cond b nothing_waits w) × (saved_at sps pps frame (cond b nothing_waits w) ≡ forgotten (saved_at sps pps frame w))
      go true q = (
        nothing_waits_lem sps pps frame,
        nothing_saved_lem sps pps frame ∙ sym (ap (λ (b : Bool). cond b nothing_saved (saved_at sps pps frame w)) q),
      )
      go false q = (t, sym (ap (λ (b : Bool). cond b nothing_saved (saved_at sps pps frame w)) q))

  module _ (mtu : ℕ) (s : Sink) where
    pub waiting_none : (ltb 0 w.sps.len && ltb 0 w.pps.len) ≡ false → s ≡ put_all s (packets_of (pair_for mtu (saved_at sps pps frame w)))
    waiting_none e = sym (ap (λ (gs : List Group). put_all s (packets_of gs)) (pair_none mtu (saved_at sps pps frame w) (both_in ∙ e)))

    pub waiting_not_due : (ltb 0 w.sps.len && ltb 0 w.pps.len) ≡ false → of_pair.NotDue ≡ pair_outcome mtu (saved_at sps pps frame w)
    waiting_not_due e = not_due mtu (saved_at sps pps frame w) (both_in ∙ e)

    module _ (e : (ltb 0 w.sps.len && ltb 0 w.pps.len) ≡ true) where
      pub waiting_over : mtu < 5 + w.sps.len + w.pps.len → s ≡ put_all s (packets_of (pair_for mtu (saved_at sps pps frame w)))
      waiting_over g =
          sym (ap (λ (gs : List Group). put_all s (packets_of gs))
          (pair_over mtu (saved_at sps pps frame w) (both_in ∙ e) (omega (arith, sps_length, pps_length, g))))

      pub waiting_dropped : mtu < 5 + w.sps.len + w.pps.len → of_pair.DroppedForMtu ≡ pair_outcome mtu (saved_at sps pps frame w)
      waiting_dropped g = due_over mtu (saved_at sps pps frame w) (both_in ∙ e) (omega (arith, sps_length, pps_length, g))

      module _ (g : 5 + w.sps.len + w.pps.len ≤ mtu) where
        sent : pair_for mtu (saved_at sps pps frame w) ≡ pair (saved_at sps pps frame w).sps (saved_at sps pps frame w).pps ∷ []
        sent = pair_sent mtu (saved_at sps pps frame w) (both_in ∙ e) (omega (arith, sps_length, pps_length, g))

        -- a and b are the sets, as they are lent
        module _ (a b : List ℕ) (ea : a ≡ bytes_of sps frame w.sps) (eb : b ≡ bytes_of pps frame w.pps) where
          pub waiting_room : Room s (packets_of (pair_for mtu (saved_at sps pps frame w))) →
              ((length a ≤ 1024) × (length b ≤ 1024)) × ((s.at + (5 + length a + length b) ≤ length s.out) × (s.n < length s.ends))
          waiting_room room =
              let x = (saved_at sps pps frame w).sps in
              let y = (saved_at sps pps frame w).pps in
              let r = room_first s (stap_a x y) [] (subst (λ (gs : List Group). Room s (packets_of gs)) sent room) in
              let la : length a ≡ length x = ap length ea in
              let lb : length b ≡ length y = ap length eb in
              let l : length (stap_a x y) ≡ 5 + length x + length y = length_stap_a x y in (
                (omega (arith, sps_length, t.of_sps.short), omega (arith, pps_length, t.of_pps.short)),
                (omega (arith, r.0), r.1),
              )

          pub waiting_sent : put s (stap_a a b) ≡ put_all s (packets_of (pair_for mtu (saved_at sps pps frame w)))
          waiting_sent =
              ap₂ (λ (x y : List ℕ). put s (stap_a x y)) ea eb
              ∙ sym (ap (λ (gs : List Group). put_all s (packets_of gs)) sent)

        pub waiting_told : of_pair.Sent ≡ pair_outcome mtu (saved_at sps pps frame w)
        waiting_told = due_sent mtu (saved_at sps pps frame w) (both_in ∙ e) (omega (arith, sps_length, pps_length, g))
