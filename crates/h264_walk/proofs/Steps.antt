-- What sending one unit leaves, by its fate. Assumes nothing.
use mathlib.Core.Path.{◌≡◌, refl, sym, ap, subst, ◌∙◌}
use mathlib.Core.List.{List, ◌++◌}
use mathlib.Core.Bool.{Bool, true, ◌&&◌}
use Prim.Native.Nat.{ℕ, ◌-◌, ◌≤◌}
use lib.Dec.{ltb}
use Rattle.std.specs.Prelude.{Some}
use lib.ListN.{length}
use borrow.Author.Tests.{ltb-false}
use Rattle.wire.specs.Packets.{Sink, Room, put_all}
use Rattle.wire.proofs.Packets.{put_all_append, room_front, room_behind}
use Rattle.h264_put.specs.declared.fate.Fate.{Fate}
use Rattle.h264_put.specs.declared.fate.Fate.TheVariants.{Empty, Dropped, Sps, Pps, Coded}
use Rattle.h264_put.specs.declared.outcome.Outcome.{Outcome}
use Rattle.h264_put.specs.Groups.{Saved, fate_of, forgotten, keep, keep_by, pair_for, unit_for, groups_for, groups_by, packets_of}
use Rattle.h264_put.specs.Outcomes.{outcome_by, outcome_for}
use Rattle.h264_put.specs.Step.{is_saved}
use Rattle.h264_put.proofs.Sizes.{packets_append}
use Rattle.h264_walk.specs.declared.places.Lies.{Lies}
use Rattle.h264_walk.specs.declared.places.Waiting.{Waiting}
use Rattle.h264_walk.specs.Waiting.{bytes_of, saved_at, Lying, Waits}
use Rattle.h264_walk.specs.Step.{unit_in, Ready, Done}
use Rattle.h264_walk.proofs.Bytes.{lies_here}

-- what `emit` is to leave: the sets that wait in w', and the sink s'
abbrev Emits : (sps pps frame : List ℕ) (w : Waiting) (start end mtu : ℕ) (s : Sink) (w' : Waiting) (s' : Sink) → Type 0
Emits sps pps frame w start end mtu s w' s' =
    Done sps pps frame (keep (saved_at sps pps frame w) (unit_in frame start end)) (groups_for mtu (saved_at sps pps frame w) (unit_in frame start end)) s w' s'

module _ {sps pps frame : List ℕ} {w : Waiting} {start end mtu : ℕ} {s : Sink} (r : Ready sps pps frame w start end mtu s) where
  u : List ℕ
  u = unit_in frame start end

  v : Saved
  v = saved_at sps pps frame w

  done_by : (k : Fate) → fate_of u ≡ k → (w' : Waiting) (s' : Sink) → Waits sps pps frame w' → saved_at sps pps frame w' ≡ keep_by k v u →
      s' ≡ put_all s (packets_of (groups_by k mtu v u)) →
      Emits sps pps frame w start end mtu s w' s'
  unfolding u v keep groups_for
  done_by k e w' s' waits kept put =
      record {
        waits = waits;
        state = kept ∙ sym (ap (λ (x : Fate). keep_by x v u) e);
        put = put ∙ sym (ap (λ (x : Fate). put_all s (packets_of (groups_by x mtu v u))) e);
      }

  -- and what became of it
  pub told_by : (k : Fate) → fate_of (unit_in frame start end) ≡ k → (o : Outcome) → o ≡ outcome_by k mtu (saved_at sps pps frame w) (unit_in frame start end) →
      o ≡ outcome_for mtu (saved_at sps pps frame w) (unit_in frame start end)
  unfolding outcome_for
  told_by k e o q = q ∙ sym (ap (λ (x : Fate). outcome_by x mtu (saved_at sps pps frame w) (unit_in frame start end)) e)

  module _ (w' : Waiting) (s' : Sink) (b : s' ≡ s) where
    done_still : (k : Fate) → fate_of u ≡ k → w' ≡ w → v ≡ keep_by k v u → s ≡ put_all s (packets_of (groups_by k mtu v u)) →
        Emits sps pps frame w start end mtu s w' s'
    unfolding v
    done_still k e a kept put =
        done_by k e w' s' (subst (Waits sps pps frame) (sym a) r.waits) (ap (saved_at sps pps frame) a ∙ kept) (b ∙ put)

    pub done_empty : fate_of (unit_in frame start end) ≡ Empty → w' ≡ w →
        Emits sps pps frame w start end mtu s w' s'
    unfolding u
    done_empty e a = done_still Empty e a refl refl

    pub done_dropped : fate_of (unit_in frame start end) ≡ Dropped → w' ≡ w →
        Emits sps pps frame w start end mtu s w' s'
    unfolding u
    done_dropped e a = done_still Dropped e a refl refl

    -- a set that is saved is within the limit
    short_by : (k : Fate) → fate_of u ≡ k → is_saved k ≡ true → length u ≤ 1024
    unfolding u
    short_by k e q =
        ltb-false 1024 (length u)
        (sym (ap (λ (b : Bool). b && ltb 1024 (length u)) (ap is_saved e ∙ q)) ∙ r.short)

    -- and lies in the frame
    lies : (k : Fate) → fate_of u ≡ k → is_saved k ≡ true → (held : List ℕ) (l : Lies) → l ≡ record { at = Some start; len = end - start } →
        Lying held frame l × (bytes_of held frame l ≡ u)
    unfolding u
    lies k e q held l a = lies_here held frame start end r.from r.within (short_by k e q) l a

    pub done_sps : fate_of (unit_in frame start end) ≡ Sps → (l : Lies) → l ≡ record { at = Some start; len = end - start } → w' ≡ record { sps = l; pps = w.pps } →
        Emits sps pps frame w start end mtu s w' s'
    unfolding u v
    done_sps e l a q =
        let x = lies Sps e refl sps l a in
        done_by Sps e w' s' (subst (Waits sps pps frame) (sym q) (record { of_sps = x.0; of_pps = r.waits.of_pps }))
        (ap (saved_at sps pps frame) q ∙ ap (λ (y : List ℕ). record { sps = y; pps = bytes_of pps frame w.pps }) x.1) b

    pub done_pps : fate_of (unit_in frame start end) ≡ Pps → (l : Lies) → l ≡ record { at = Some start; len = end - start } → w' ≡ record { sps = w.sps; pps = l } →
        Emits sps pps frame w start end mtu s w' s'
    unfolding u v
    done_pps e l a q =
        let x = lies Pps e refl pps l a in
        done_by Pps e w' s' (subst (Waits sps pps frame) (sym q) (record { of_sps = r.waits.of_sps; of_pps = x.0 }))
        (ap (saved_at sps pps frame) q ∙ ap (λ (y : List ℕ). record { sps = bytes_of sps frame w.sps; pps = y }) x.1) b

  -- the pair, then the unit
  module _ (e : fate_of (unit_in frame start end) ≡ Coded) where
    room_both : Room s (packets_of (pair_for mtu v) ++ packets_of (unit_for mtu u))
    unfolding u v groups_for
    room_both =
        subst (Room s)
        (ap (λ (x : Fate). packets_of (groups_by x mtu v u)) e ∙ packets_append (pair_for mtu v) (unit_for mtu u))
        r.room

    pub room_pair : Room s (packets_of (pair_for mtu (saved_at sps pps frame w)))
    unfolding v
    room_pair = room_front s (packets_of (pair_for mtu v)) (packets_of (unit_for mtu u)) room_both

    pub room_unit : (s' : Sink) → s' ≡ put_all s (packets_of (pair_for mtu (saved_at sps pps frame w))) → Room s' (packets_of (unit_for mtu (unit_in frame start end)))
    unfolding u v
    room_unit s' q =
        subst (λ (x : Sink). Room x (packets_of (unit_for mtu u))) (sym q)
        (room_behind s (packets_of (pair_for mtu v)) (packets_of (unit_for mtu u)) room_both)

    pub done_coded : (s' s'' : Sink) (w' : Waiting) → s' ≡ put_all s (packets_of (pair_for mtu (saved_at sps pps frame w))) →
        s'' ≡ put_all s' (packets_of (unit_for mtu (unit_in frame start end))) →
        Waits sps pps frame w' × (saved_at sps pps frame w' ≡ forgotten (saved_at sps pps frame w)) →
        Emits sps pps frame w start end mtu s w' s''
    unfolding u v
    done_coded s' s'' w' p q k =
        done_by Coded e w' s'' k.0 k.1
        (q
        ∙ ap (λ (x : Sink). put_all x (packets_of (unit_for mtu u))) p
        ∙ sym (put_all_append s (packets_of (pair_for mtu v)) (packets_of (unit_for mtu u)))
        ∙ sym (ap (put_all s) (packets_append (pair_for mtu v) (unit_for mtu u))))
