-- A group's packets are all of one frame, so that where each frame has one time each group has. Assumes nothing.
use mathlib.Core.Path.{◌≡◌, sym, ap, subst}
use mathlib.Core.List.{List, [], ◌∷◌, ◌++◌, map, map-append}
use Prim.Native.Nat.{ℕ, suc, ◌+◌}
use native.Mathlib.Omega.{arith}
use lib.ListN.{length, length-append}
use Rattle.packet.specs.Plain.{Stamp}
use Rattle.annexb.specs.Units.{units_at}
use Rattle.h264_put.specs.Groups.{Saved, keep_all, groups_of}
use Rattle.h264_put.specs.Groups as sender
use Rattle.h264.specs.Frames.{groups_from}
use Rattle.sequence.specs.Group.{Group, packets_in, packets_of}
use Rattle.joiner_step.specs.Run.{Units}
use Rattle.delivery.specs.Demand.{AllAt, OneTimeEach}
use Rattle.delivery.specs.Frames.{group_sent, OneTimeFrames}
use Rattle.delivery.proofs.Sending.{same_packets}

module _ (stamps : ℕ → Stamp) where
  all_split : (t i : ℕ) (ps qs : List (List ℕ)) → AllAt stamps t i (ps ++ qs) → AllAt stamps t i ps × AllAt stamps t (i + length ps) qs
  all_split t i [] qs w = (tt, subst (λ (k : ℕ). AllAt stamps t k qs) (omega arith) w)
  all_split t i (p ∷ ps) qs w =
      let rest = all_split t (suc i) ps qs w.1 in
      ((w.0, rest.0), subst (λ (k : ℕ). AllAt stamps t k qs) (omega arith) rest.1)

  -- groups all of whose packets are of one time
  each_at : (t i : ℕ) (gs : List (Group (List ℕ) Units)) → AllAt stamps t i (packets_of gs) → OneTimeEach stamps i gs
  each_at t i [] w = tt
  each_at t i (g ∷ gs) w =
      let parts = all_split t i (packets_in g) (packets_of gs) w in
      (subst (λ (u : ℕ). AllAt stamps u i (packets_in g)) (sym w.0) parts.0, each_at t (i + length (packets_in g)) gs parts.1)

  each_behind : (i : ℕ) (gs hs : List (Group (List ℕ) Units)) → OneTimeEach stamps i gs → OneTimeEach stamps (i + length (packets_of gs)) hs →
      OneTimeEach stamps i (gs ++ hs)
  each_behind i [] hs w v = subst (λ (k : ℕ). OneTimeEach stamps k hs) (omega arith) v
  each_behind i (g ∷ gs) hs w v =
      (w.0, each_behind (i + length (packets_in g)) gs hs w.1 (subst (λ (k : ℕ). OneTimeEach stamps k hs) (omega (arith, length-append (packets_in g) (packets_of gs))) v))

  pub by_frames : (mtu i : ℕ) (v : Saved) (frames : List (List ℕ)) → OneTimeFrames stamps mtu i v frames →
      OneTimeEach stamps i (map group_sent (groups_from mtu v frames))
  by_frames mtu i v [] w = tt
  by_frames mtu i v (frame ∷ frames) w =
      let here : List sender.Group = groups_of mtu v (units_at mtu frame) in
      let after : Saved = keep_all v (units_at mtu frame) in
      let same : packets_of (map group_sent here) ≡ sender.packets_of here = same_packets here in
      subst (OneTimeEach stamps i) (sym (map-append group_sent here (groups_from mtu after frames)))
      (each_behind i (map group_sent here) (map group_sent (groups_from mtu after frames))
      (each_at (stamps i).time i (map group_sent here) (subst (AllAt stamps (stamps i).time i) (sym same) w.0))
      (subst (λ (k : ℕ). OneTimeEach stamps k (map group_sent (groups_from mtu after frames))) (ap (λ (ps : List (List ℕ)). i + length ps) (sym same))
      (by_frames mtu (i + length (sender.packets_of here)) after frames w.1)))
