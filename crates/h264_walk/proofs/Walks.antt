-- The walk over a frame's units: what is still to be sent leads from here to the goal. Assumes nothing.
use mathlib.Core.Path.{◌≡◌, refl, sym, ap, subst, subst₂, ◌∙◌}
use mathlib.Core.List.{List, ◌∷◌, ◌++◌}
use mathlib.Core.Bool.{false}
use Prim.Native.Nat.{ℕ, ◌≤◌}
use lib.ListN.{length, drop}
use Rattle.std.specs.Prelude.{Option, Some, None}
use Rattle.wire.specs.Packets.{Sink, Room, put_all}
use Rattle.wire.proofs.Bools.{or_false_left, or_false_right}
use Rattle.wire.proofs.Packets.{put_all_append, room_front, room_behind}
use Rattle.annexb.specs.declared.Piece.{Piece}
use Rattle.annexb.specs.Units.{pieces, pieces_at, Pieced}
use Rattle.h264_put.specs.declared.outcome.Outcome.{Outcome}
use Rattle.h264_put.specs.declared.outcome.Drops.{Drops}
use Rattle.h264_put.specs.Groups.{Saved, keep, keep_all, groups_for, groups_of, packets_of}
use Rattle.h264_put.specs.Outcomes.{outcome_for, outcomes_of, drops_in, counted, together}
use Rattle.h264_put.specs.Step.{too_long, over_limit}
use Rattle.h264_put.proofs.Sizes.{packets_append}
use Rattle.h264_put.proofs.Outcomes.{none_first, none_behind, one_more}
use Rattle.h264_walk.specs.declared.places.Waiting.{Waiting}
use Rattle.h264_walk.specs.Waiting.{saved_at, Waits}
use Rattle.h264_walk.specs.Step.{unit_in, Ready, Done}

-- what is sent for a unit, then for the others
sent_cons : (mtu : ℕ) (v : Saved) (u : List ℕ) (us : List (List ℕ)) →
    packets_of (groups_of mtu v (u ∷ us)) ≡ packets_of (groups_for mtu v u) ++ packets_of (groups_of mtu (keep v u) us)
sent_cons mtu v u us = packets_append (groups_for mtu v u) (groups_of mtu (keep v u) us)

-- what waits, the sink s and the counts d, with the units us still to be sent, lead to the goal
pub record Leads (mtu : ℕ) (kept : Saved) (goal : Sink) (total : Drops) (us : List (List ℕ)) (v : Saved) (s : Sink) (d : Drops) : Type 0 where
  pub limit : over_limit us ≡ false
  pub room : Room s (packets_of (groups_of mtu v us))
  pub state : keep_all v us ≡ kept
  pub same : put_all s (packets_of (groups_of mtu v us)) ≡ goal
  pub counts : together d (drops_in (outcomes_of mtu v us)) ≡ total

pub leads_first : (mtu : ℕ) (ps us : List (List ℕ)) → ps ≡ us → (v : Saved) (s : Sink) → over_limit us ≡ false → Room s (packets_of (groups_of mtu v us)) →
    Leads mtu (keep_all v us) (put_all s (packets_of (groups_of mtu v us))) (drops_in (outcomes_of mtu v us)) ps v s (record { units = 0; pairs = 0 })
leads_first mtu ps us e v s limit room =
    subst
    (λ (xs : List (List ℕ)).
    Leads mtu (keep_all v us) (put_all s (packets_of (groups_of mtu v us))) (drops_in (outcomes_of mtu v us)) xs v s (record { units = 0; pairs = 0 })) (sym e)
    (record { limit = limit; room = room; state = refl; same = refl; counts = none_first (drops_in (outcomes_of mtu v us)) })

module _
    {mtu : ℕ} {kept : Saved} {goal : Sink} {total : Drops} {u : List ℕ} {us : List (List ℕ)} {v : Saved} {s : Sink} {d : Drops}
    (g : Leads mtu kept goal total (u ∷ us) v s d)
  where
    room_all : Room s (packets_of (groups_for mtu v u) ++ packets_of (groups_of mtu (keep v u) us))
    room_all = subst (Room s) (sent_cons mtu v u us) g.room

    -- the unit at hand is within the limit, and has room
    leads_short : too_long u ≡ false
    leads_short = or_false_left (too_long u) (over_limit us) g.limit

    leads_room : Room s (packets_of (groups_for mtu v u))
    leads_room = room_front s (packets_of (groups_for mtu v u)) (packets_of (groups_of mtu (keep v u) us)) room_all

    -- and then the others
    leads_on : (s' : Sink) (o : Outcome) → s' ≡ put_all s (packets_of (groups_for mtu v u)) → o ≡ outcome_for mtu v u →
        Leads mtu kept goal total us (keep v u) s' (counted d o)
    leads_on s' o b k =
        record {
          limit = or_false_right (too_long u) (over_limit us) g.limit;
          room = subst (λ (x : Sink). Room x (packets_of (groups_of mtu (keep v u) us))) (sym b)
              (room_behind s (packets_of (groups_for mtu v u)) (packets_of (groups_of mtu (keep v u) us)) room_all);
          state = g.state;
          same = ap (λ (x : Sink). put_all x (packets_of (groups_of mtu (keep v u) us))) b
              ∙ sym (put_all_append s (packets_of (groups_for mtu v u)) (packets_of (groups_of mtu (keep v u) us)))
              ∙ sym (ap (put_all s) (sent_cons mtu v u us))
              ∙ g.same;
          counts = ap (λ (x : Outcome). together (counted d x) (drops_in (outcomes_of mtu (keep v u) us))) k
              ∙ one_more d (outcome_for mtu v u) (outcomes_of mtu (keep v u) us)
              ∙ g.counts;
        }

-- ---- the same, piece by piece of a frame

module _
    {mtu : ℕ} {kept : Saved} {goal : Sink} {total : Drops} (sps pps frame : List ℕ) (start : ℕ) (w : Waiting) {s : Sink} {d : Drops}
    (g : Leads mtu kept goal total (pieces (drop start frame)) (saved_at sps pps frame w) s d) {p : Piece} (q : Pieced frame start p)
  where
    at_unit : Leads mtu kept goal total (unit_in frame start p.end ∷ pieces_at frame p.next) (saved_at sps pps frame w) s d
    at_unit = subst (λ (us : List (List ℕ)). Leads mtu kept goal total us (saved_at sps pps frame w) s d) q.same g

    pub piece_ready : Waits sps pps frame w → length frame ≤ 16777216 → Ready sps pps frame w start p.end mtu s
    piece_ready waits few =
        record {
          waits = waits;
          from = q.from;
          within = q.within;
          few = few;
          short = leads_short at_unit;
          room = leads_room at_unit;
        }

    module _
        (w' : Waiting) (s' : Sink) (o : Outcome) (d' : Drops)
        (done : Done sps pps frame (keep (saved_at sps pps frame w) (unit_in frame start p.end))
        (groups_for mtu (saved_at sps pps frame w) (unit_in frame start p.end)) s w' s')
        (told : o ≡ outcome_for mtu (saved_at sps pps frame w) (unit_in frame start p.end))
        (more_counted : d' ≡ counted d o)
      where
        behind : (next : Option ℕ) → p.next ≡ next → Leads mtu kept goal total (pieces_at frame next) (saved_at sps pps frame w') s' d'
        behind next e =
            subst (λ (x : Saved). Leads mtu kept goal total (pieces_at frame next) x s' d') (sym done.state)
            (subst₂ (λ (x : Option ℕ) (y : Drops). Leads mtu kept goal total (pieces_at frame x) (keep (saved_at sps pps frame w) (unit_in frame start p.end)) s' y) e
            (sym more_counted)
            (leads_on at_unit s' o done.put told))

        pub walk_on : (next : ℕ) → p.next ≡ Some next → Leads mtu kept goal total (pieces (drop next frame)) (saved_at sps pps frame w') s' d'
        walk_on next e = behind (Some next) e

        pub walk_end : p.next ≡ None → (saved_at sps pps frame w' ≡ kept) × (s' ≡ goal) × (d' ≡ total)
        walk_end e = let l = behind None e in (l.state, l.same, sym (none_behind d') ∙ l.counts)
