-- What a fresh sender sends for frames is a show that the joiner can take: the sender's theorems say that its groups can be sent and
-- carry the frames' units, and no unit is longer than its frame. Assumes nothing.
use mathlib.Core.Path.{◌≡◌, refl, sym, ap, ap₂, subst, ◌∙◌}
use mathlib.Core.Bool.{Bool, false}
use mathlib.Core.List.{List, [], ◌∷◌, ◌++◌, map, map-map, map-id, append-nil}
use Prim.Native.Nat.{ℕ, ◌+◌, ◌-◌, ◌*◌, ◌/◌, ◌%◌, ◌≤◌}
use native.Mathlib.Omega.{arith}
use lib.ListN.{length}
use Rattle.wire.specs.Each.{Each}
use Rattle.wire.specs.Net.{be16}
use Rattle.wire.specs.Packets.{joined}
use Rattle.wire.proofs.Each.{each_any, each_append, each_by, each_map}
use Rattle.annexb.specs.Units.{units_at}
use Rattle.h264_put.specs.Groups.{Saved, Group, pair, plain, fragments, keep_all, groups_of, stap_a, fragment, packets_of_group, packets_of}
use Rattle.h264.specs.Conformance.{Divided, Sendable, units_in}
use Rattle.h264.specs.Frames.{groups_from, groups_sent}
use Rattle.h264.proofs.Fits.{sendable, fits}
use Rattle.h264.proofs.FrameUnits.{those_short}
use Rattle.h264.proofs.LeftOut.{left_out_lem}
use Rattle.h264_put.proofs.Sizes.{packets_append}
use Rattle.sequence.specs.Group.{packets_in}
use Rattle.sequence.specs.Group as any
use Rattle.joiner_feed.specs.Content.{Fragment, part_in, marked_in, top_bit}
use Rattle.joiner_feed.specs.H264.{forbidden}
use Rattle.joiner_feed.proofs.Topping.{top_is}
use Rattle.joiner.specs.Sent.{Sent, aggregated, alone, fragmented, Lawful, NoneEmpty, PlainUnit, group_of, gathered_of, fu_a}
use Rattle.joiner.specs.Sent as sent
use Rattle.delivery.specs.Show.{payloads}
use Rattle.delivery.specs.Frames.{group_sent, Sending, show_of, FrameOk, SendingPremises}
use Rattle.delivery.proofs.Owing.{Taken, lawful_taken, longest_within}
use Rattle.delivery.proofs.Delivering.{AllShort}
use Rattle.delivery.proofs.Delivering as delivering

-- ---- the sender's fragments

-- "our sender clears that bit in all fragments": F of each is 0, whatever the unit's is
fragment_clear : (head bits : ℕ) (part : List ℕ) → forbidden (fragment head bits part) ≡ false
unfolding fragment
fragment_clear head bits part = top_is false (head / 32 % 4 * 32 + 28) (omega arith)

pub fragments_clear : (head : ℕ) (first : List ℕ) (middle : List (List ℕ)) (last : List ℕ) →
    Each (λ (p : List ℕ). forbidden p ≡ false) (packets_of_group (fragments head first middle last))
fragments_clear head first middle last = (
  fragment_clear head 128 first,
  each_append Clear (map (fragment head 0) middle) (fragment head 64 last ∷ [])
      (each_map Clear (fragment head 0) middle (each_any (λ (p : List ℕ). Clear (fragment head 0 p)) (fragment_clear head 0) middle))
      (fragment_clear head 64 last, tt),
)
  where
    Clear : List ℕ → Type 0
    Clear p = forbidden p ≡ false

abbrev clear : List ℕ → Fragment
clear part = record { marked = false; part = part }

none_marked : (middle : List (List ℕ)) (last : List ℕ) → marked_in (map clear middle ++ (clear last ∷ [])) ≡ false
none_marked [] last = refl
none_marked (p ∷ middle) last = none_marked middle last

same_middle : (head : ℕ) (ps : List (List ℕ)) → map (fragment head 0) ps ≡ map (fu_a head 0) (map clear ps)
unfolding fragment fu_a
same_middle head ps = sym (map-map (fu_a head 0) clear ps)

same_parts : (ps : List (List ℕ)) → joined ps ≡ joined (map part_in (map clear ps))
same_parts ps = ap joined (sym (map-map part_in clear ps ∙ map-id ps))

-- a group of the sender's as one of the joiner's: "STAP-A (0x78)"
abbrev sent_of : Group → Sent
sent_of (pair sps pps) = aggregated 0x78 sps (pps ∷ [])
sent_of (plain unit) = alone unit
sent_of (fragments head first middle last) = fragmented head (clear first) (map clear middle) (clear last)

-- ---- the units that go out

-- a unit that goes out is one that a payload can be, and in the domain
abbrev Good : List ℕ → Type 0
Good u = PlainUnit u × (length u ≤ 16777216)

-- ---- the groups

abbrev Fine : Group → Type 0
Fine g = Lawful (sent_of g) × (gathered_of (sent_of g) ≤ 16777215)

none_empty : (size : ℕ) → 1 ≤ size → (parts : List (List ℕ)) → Each (λ (p : List ℕ). length p ≡ size) parts → NoneEmpty (map clear parts)
none_empty size h parts w =
    each_map (λ (f : Fragment). 1 ≤ length f.part) clear parts
    (each_by (λ (p : List ℕ). 1 ≤ length p) (λ (p : List ℕ). length p ≡ size) (λ p e. omega (arith, e)) parts w)

fine_groups : (mtu : ℕ) → mtu ≤ 65535 → (gs : List Group) → Each (Sendable mtu) gs → Each Good (units_in gs) → Each Fine gs
fine_groups mtu m [] w good = tt
fine_groups mtu m (pair sps pps ∷ gs) w good =
    (((refl, (omega (arith, w.0.2), (omega (arith, w.0.2), tt))), omega arith), fine_groups mtu m gs w.1 good)
fine_groups mtu m (plain u ∷ gs) w good = ((good.0.0, omega arith), fine_groups mtu m gs w.1 good.1)
fine_groups mtu m (fragments head first middle last ∷ gs) w good =
    let d : Divided (mtu - 2) first middle last = w.0.2 in
    let three : 3 ≤ mtu = w.0.0 in (
      (((omega (arith, d.first_full), none_empty (mtu - 2) (omega arith) middle d.middle_full), d.last_some), omega (arith, good.0.1, ap (λ (l : List ℕ). length (first ++ (l ++ last))) (same_parts middle))),
      fine_groups mtu m gs w.1 good.1,
    )

frame_fine : (mtu : ℕ) (v : Saved) (frame : List ℕ) → mtu ≤ 65535 → FrameOk mtu frame → Each Fine (groups_of mtu v (units_at mtu frame))
frame_fine mtu v frame m ok =
    fine_groups mtu m (groups_of mtu v (units_at mtu frame)) (sendable mtu v (units_at mtu frame))
    (subst (Each Good) (sym (left_out_lem mtu v (units_at mtu frame)))
    (those_short PlainUnit mtu 16777216 frame ok.short ok.units))

all_fine : (mtu : ℕ) (v : Saved) (frames : List (List ℕ)) → mtu ≤ 65535 → Each (FrameOk mtu) frames → Each Fine (groups_from mtu v frames)
all_fine mtu v [] m ok = tt
all_fine mtu v (frame ∷ frames) m ok =
    each_append Fine (groups_of mtu v (units_at mtu frame)) (groups_from mtu (keep_all v (units_at mtu frame)) frames)
    (frame_fine mtu v frame m ok.0) (all_fine mtu (keep_all v (units_at mtu frame)) frames m ok.1)

all_fit : (mtu : ℕ) (v : Saved) (frames : List (List ℕ)) → Each (λ (p : List ℕ). length p ≤ mtu) (packets_of (groups_from mtu v frames))
all_fit mtu v [] = tt
all_fit mtu v (frame ∷ frames) =
    subst (Each (λ (p : List ℕ). length p ≤ mtu))
    (sym (packets_append (groups_of mtu v (units_at mtu frame)) (groups_from mtu (keep_all v (units_at mtu frame)) frames)))
    (each_append (λ (p : List ℕ). length p ≤ mtu) (packets_of (groups_of mtu v (units_at mtu frame)))
    (packets_of (groups_from mtu (keep_all v (units_at mtu frame)) frames)) (fits mtu v (units_at mtu frame))
    (all_fit mtu (keep_all v (units_at mtu frame)) frames))

-- ---- as a show

same_group : (g : Group) → group_sent g ≡ group_of (sent_of g)
unfolding stap_a fragment sent.stap_a fu_a
same_group (pair sps pps) =
    ap (λ (l : List ℕ). record { first = 0x78 ∷ (be16 (length sps) ++ (sps ++ (be16 (length pps) ++ l))); others = []; handed = sps ∷ pps ∷ [] })
    (sym (append-nil pps))
same_group (plain unit) = refl
same_group (fragments head first middle last) =
    λ i. record {
      first = fragment head 128 first;
      others = same_middle head middle i ++ (fragment head 64 last ∷ []);
      handed = (top_bit (sym (none_marked middle last) i) (head % 128) ∷ (first ++ (same_parts middle i ++ last))) ∷ [];
    }

same_groups : (gs : List Group) → map group_sent gs ≡ sent.groups_of (map sent_of gs)
same_groups [] = refl
same_groups (g ∷ gs) = ap₂ (λ (x : any.Group _ _) (xs : List (any.Group _ _)). x ∷ xs) (same_group g) (same_groups gs)

-- the same packets
same_packets_in : (g : Group) → packets_in (group_sent g) ≡ packets_of_group g
same_packets_in (pair sps pps) = refl
same_packets_in (plain unit) = refl
same_packets_in (fragments head first middle last) = refl

pub same_packets : (gs : List Group) → any.packets_of (map group_sent gs) ≡ packets_of gs
same_packets [] = refl
same_packets (g ∷ gs) = ap₂ (λ (l r : List (List ℕ)). l ++ r) (same_packets_in g) (same_packets gs)

module _ (avc : Bool) (x : Sending) (p : SendingPremises avc x) where
  abbrev gs : List Group
  gs = groups_sent x.mtu x.frames

  fine : Each Fine gs
  fine = all_fine x.mtu _ x.frames (omega (arith, p.mtu_high)) p.frames

  pub short_payloads : AllShort (payloads (show_of x))
  short_payloads =
      subst AllShort (sym (same_packets gs))
      (each_by (λ (s : List ℕ). length s ≤ 65523) (λ (s : List ℕ). length s ≤ x.mtu) (λ s h. omega (arith, h, p.mtu_high)) (packets_of gs)
      (all_fit x.mtu _ x.frames))

  pub sent_show : delivering.Sendable (show_of x)
  sent_show =
      record {
        sents = map sent_of gs;
        are = same_groups gs;
        taken = each_map Taken sent_of gs (each_by (λ (g : Group). Taken (sent_of g)) Fine (λ g w. lawful_taken (sent_of g) w.0) gs fine);
        short = short_payloads;
        domain =
            rw (same_groups gs)
            (longest_within 16777215 (map sent_of gs)
            (each_map (λ (s : Sent). gathered_of s ≤ 16777215) sent_of gs (each_by (λ (g : Group). gathered_of (sent_of g) ≤ 16777215) Fine (λ g w. w.1) gs fine)));
      }
