-- Our sender's packets through our reader, without loss: every group is a formed sending that the reader takes, so that COMPLETE gives its units back.
-- Assumes nothing.
use mathlib.Core.Path.{◌≡◌, refl, sym, ap, ap₂, subst, ◌∙◌}
use mathlib.Core.Bool.{Bool, cond, ◌&&◌, ◌||◌, or-true, and-true}
use mathlib.Core.List.{List, [], ◌∷◌, ◌++◌, map, map-map, map-id, map-append}
use mathlib.Core.Logic.{inl}
use Prim.Native.Nat.{ℕ, ◌-◌, ◌≤◌, ◌<◌}
use native.Mathlib.Omega.{arith}
use lib.Dec.{leb}
use lib.ListN.{length}
use borrow.Author.Tests.{le-leb, lt-leb}
use Rattle.wire.specs.Packets.{joined}
use Rattle.rfc6184.specs.Sending.{Each, Nal, octets_of, Part, payloads_of_all, body_of, FormedSending}
use Rattle.rfc6184.proofs.Each.{each_append, each_by, each_map}
use Rattle.rfc6184.proofs.Octets.{length_octets}
use Rattle.annexb.specs.Units.{units_at}
use Rattle.h264_put.specs.Groups.{Saved, nothing_saved, Group, pair, plain, fragments, fate_of, keep, keep_all, groups_of, packets_of_group, packets_of}
use Rattle.h264.specs.Conformance.{Octets, SavedOctets, nal, part, fragmented, sending_of, cleared, rebuilt, nals_of_all, Divided, Sendable, units_in, is_coded, goes_out, those_that}
use Rattle.h264.specs.Frames.{groups_from, groups_sent}
use Rattle.h264.proofs.Fits.{sendable, group_fits}
use Rattle.h264.proofs.LeftOut.{left_out_lem}
use Rattle.h264.proofs.Conforms.{Headed, group_laid, group_units, group_formed, keep_octets, groups_headed, all_laid, all_units}
use Rattle.h264.proofs.FrameUnits.{units_at_octets, those_short}
use Rattle.h264_packet.specs.Depacketize.{depacketized}
use Rattle.h264_rfc.specs.Reading.{fresh, Hears, lastly, handed_as, expected, Some, Taken, gathered_of, Room}
use Rattle.h264_rfc.specs.Sent.{Readable, FrameOk, GroupRoom, back_from, back, coded_nals, coded_units}
use Rattle.h264_rfc.proofs.Complete.{complete, handed_in_order}

-- ---- the units that go out

-- a unit that goes out is readable, and no longer than a frame may be
abbrev Good : List ℕ → Type 0
Good u = Readable u × (length u ≤ 16777216)

-- ---- every group is a sending that is taken

-- what is known of a group that is sent
record Fine (mtu : ℕ) (g : Group) : Type 0 where
  sendable : Sendable mtu g
  headed : Headed g
  taken : Taken (sending_of g)
  run : gathered_of (sending_of g) ≤ 16777215

length_nal : (u : List ℕ) → 0 < length u → length (octets_of (nal u)) ≡ length u
length_nal [] h = absurd (omega arith)
length_nal (b ∷ s) h = omega (arith, length_octets (nal (b ∷ s)))

body_joined : (head : ℕ) (first : List ℕ) (middle : List (List ℕ)) (last : List ℕ) →
    body_of (fragmented head first middle last) ≡ first ++ (joined middle ++ last)
body_joined head first middle last =
    ap (λ (l : List (List ℕ)). first ++ (joined l ++ last)) (map-map (λ (p : Part). p.octets) part middle ∙ map-id middle)

fine_groups : (mtu : ℕ) (gs : List Group) → Each (Sendable mtu) gs → Each Headed gs → Each Good (units_in gs) → Each (Fine mtu) gs
fine_groups mtu [] w h u = tt
fine_groups mtu (pair sps pps ∷ gs) w h u =
    (record { sendable = w.0; headed = h.0; taken = tt; run = omega arith }, fine_groups mtu gs w.1 h.1 u)
fine_groups mtu (plain x ∷ gs) w h u =
    let r : Readable x = u.0.0 in (
      record {
        sendable = w.0;
        headed = h.0;
        taken = record { type = r.type; long = inl (omega (arith, length_nal x w.0.0, r.long)) };
        run = omega arith;
      },
      fine_groups mtu gs w.1 h.1 u.1,
    )
fine_groups mtu (fragments head first middle last ∷ gs) w h u =
    let d : Divided (mtu - 2) first middle last = w.0.2 in
    let three : 3 ≤ mtu = w.0.0 in (
      record {
        sendable = w.0;
        headed = tt;
        taken = (
          refl,
          (
            omega (arith, d.first_full),
            each_map Some part middle
                (each_by (λ (p : List ℕ). Some (part p)) (λ (p : List ℕ). length p ≡ mtu - 2) (λ p e. omega arith) middle d.middle_full),
            d.last_some,
          ),
        );
        run = omega (arith, ap length (body_joined head first middle last), u.0.1);
      },
      fine_groups mtu gs w.1 h.1 u.1,
    )

-- ---- frames one after the other

keep_all_octets : (v : Saved) (us : List (List ℕ)) → SavedOctets v → Each Octets us → SavedOctets (keep_all v us)
keep_all_octets v [] o q = o
keep_all_octets v (u ∷ us) o q = keep_all_octets (keep v u) us (keep_octets v u o q.0) q.1

frame_fine : (mtu : ℕ) (v : Saved) (frame : List ℕ) → SavedOctets v → FrameOk mtu frame → Each (Fine mtu) (groups_of mtu v (units_at mtu frame))
frame_fine mtu v frame o ok =
    let us : List (List ℕ) = units_at mtu frame in
    fine_groups mtu (groups_of mtu v us) (sendable mtu v us) (groups_headed mtu v us o (units_at_octets mtu frame ok.bytes))
    (subst (Each Good) (sym (left_out_lem mtu v us))
    (those_short Readable mtu 16777216 frame ok.short ok.units))

frames_fine : (mtu : ℕ) (v : Saved) (frames : List (List ℕ)) → SavedOctets v → Each (FrameOk mtu) frames → Each (Fine mtu) (groups_from mtu v frames)
frames_fine mtu v [] o ok = tt
frames_fine mtu v (frame ∷ frames) o ok =
    let us : List (List ℕ) = units_at mtu frame in
    each_append (Fine mtu) (groups_of mtu v us) (groups_from mtu (keep_all v us) frames) (frame_fine mtu v frame o ok.0)
    (frames_fine mtu (keep_all v us) frames (keep_all_octets v us o (units_at_octets mtu frame ok.0.bytes)) ok.1)

-- ---- read back

module _ (mtu : ℕ) (small : mtu ≤ 65535) (avc : Bool) where
  back_expected : (gs : List Group) → Each (Fine mtu) gs → expected avc (map sending_of gs) ≡ back_from avc gs
  back_expected [] w = refl
  back_expected (g ∷ gs) w =
      ap₂ (λ (a b : List (List ℕ)). a ++ b)
      (ap₂ (λ (ps : List (List ℕ)) (us : List Nal). lastly ps (handed_as avc us)) (sym (group_laid mtu small g w.0.sendable w.0.headed)) (group_units mtu small g))
      (back_expected gs w.1)

  -- all that is handed out
  pub back_in_order : (frames : List (List ℕ)) → Each (FrameOk mtu) frames →
      joined (back_from avc (groups_sent mtu frames)) ≡ handed_as avc (nals_of_all (groups_sent mtu frames))
  back_in_order frames ok =
      let gs : List Group = groups_sent mtu frames in
      ap joined (sym (back_expected gs (frames_fine mtu nothing_saved frames (record { sps = tt; pps = tt }) ok)))
      ∙ handed_in_order avc (map sending_of gs)
      ∙ ap (handed_as avc) (sym (all_units mtu small gs))

  module _ (gather : List ℕ) (outs : ℕ → List ℕ) where
    -- room for a group is room for its sending
    group_room : (g : Group) → Fine mtu g → GroupRoom avc (length gather) outs g → Room avc (length gather) outs (sending_of g)
    group_room g w room =
        record {
          short =
              subst (Each (λ (p : List ℕ). length p ≤ 65535)) (group_laid mtu small g w.sendable w.headed)
              (each_by (λ (p : List ℕ). length p ≤ 65535) (λ (p : List ℕ). length p ≤ mtu) (λ p h. omega arith) (packets_of_group g) (group_fits mtu g w.sendable));
          run = w.run;
          gather_room = room.gather_room;
          out_room = λ i. rw (group_units mtu small g) (room.out_room i);
        }

    rooms : (gs : List Group) → Each (Fine mtu) gs → Each (GroupRoom avc (length gather) outs) gs → Each (Room avc (length gather) outs) (map sending_of gs)
    rooms [] w room = tt
    rooms (g ∷ gs) w room = (group_room g w.0 room.0, rooms gs w.1 room.1)

    laid : (gs : List Group) → Each (Fine mtu) gs → packets_of gs ≡ payloads_of_all (map sending_of gs)
    laid gs w =
        all_laid mtu small gs (each_by (Sendable mtu) (Fine mtu) (λ g f. f.sendable) gs w) (each_by Headed (Fine mtu) (λ g f. f.headed) gs w)

    hears_groups : (gs : List Group) → Each (Fine mtu) gs → Each (GroupRoom avc (length gather) outs) gs →
        Hears depacketized avc (fresh gather) outs (packets_of gs) (back_from avc gs)
    hears_groups gs w room =
        subst (λ (ps : List (List ℕ)). Hears depacketized avc (fresh gather) outs ps (back_from avc gs)) (sym (laid gs w))
        (subst (Hears depacketized avc (fresh gather) outs (payloads_of_all (map sending_of gs))) (back_expected gs w)
        (complete avc gather outs (map sending_of gs)
        (each_map FormedSending sending_of gs
        (each_by (λ (g : Group). FormedSending (sending_of g)) (Fine mtu) (λ g f. group_formed mtu small g f.sendable f.headed) gs w))
        (each_map Taken sending_of gs (each_by (λ (g : Group). Taken (sending_of g)) (Fine mtu) (λ g f. f.taken) gs w))
        (rooms gs w room)))

    -- every group that a fresh sender sends for the frames comes back, in order, once, with its last packet
    pub sent_and_read : (frames : List (List ℕ)) → Each (FrameOk mtu) frames → Each (GroupRoom avc (length gather) outs) (groups_sent mtu frames) →
        Hears depacketized avc (fresh gather) outs (packets_of (groups_sent mtu frames)) (back_from avc (groups_sent mtu frames))
    sent_and_read frames ok room =
        hears_groups (groups_sent mtu frames) (frames_fine mtu nothing_saved frames (record { sps = tt; pps = tt }) ok) room

-- ---- which units these are

coded_append : (a b : List Group) → coded_nals (a ++ b) ≡ coded_nals a ++ coded_nals b
coded_append [] b = refl
coded_append (pair sps pps ∷ a) b = coded_append a b
coded_append (plain u ∷ a) b = ap (λ (l : List Nal). nal u ∷ l) (coded_append a b)
coded_append (fragments head first middle last ∷ a) b =
    ap (λ (l : List Nal). cleared (nal (rebuilt head first middle last)) ∷ l) (coded_append a b)

module _ (mtu : ℕ) where
  coded_back : (gs : List Group) → Each (Sendable mtu) gs → coded_nals gs ≡ map (back mtu) (units_in gs)
  coded_back [] w = refl
  coded_back (pair sps pps ∷ gs) w = coded_back gs w.1
  coded_back (plain u ∷ gs) w =
      ap₂ (λ (x : Nal) (l : List Nal). x ∷ l) (sym (ap (λ (t : Bool). cond t (nal u) (cleared (nal u))) (le-leb (length u) mtu w.0.1)))
      (coded_back gs w.1)
  coded_back (fragments head first middle last ∷ gs) w =
      let u : List ℕ = rebuilt head first middle last in
      ap₂ (λ (x : Nal) (l : List Nal). x ∷ l) (sym (ap (λ (t : Bool). cond t (nal u) (cleared (nal u))) (lt-leb (length u) mtu w.0.1)))
      (coded_back gs w.1)

  module _ (three : 3 ≤ mtu) where
    -- "under mtu 3 it is dropped"; from 3 on no coded unit is
    all_go_out : (us : List (List ℕ)) → those_that (goes_out mtu) us ≡ those_that (λ (u : List ℕ). is_coded (fate_of u)) us
    all_go_out [] = refl
    all_go_out (u ∷ us) =
        ap₂ (λ (t : Bool) (l : List (List ℕ)). cond t (u ∷ l) l)
        (ap (λ (t : Bool). is_coded (fate_of u) && (leb (length u) mtu || t)) (le-leb 3 mtu three)
        ∙ ap (λ (t : Bool). is_coded (fate_of u) && t) (or-true (leb (length u) mtu))
        ∙ and-true (is_coded (fate_of u)))
        (all_go_out us)

    frame_back : (v : Saved) (us : List (List ℕ)) → coded_nals (groups_of mtu v us) ≡ map (back mtu) (those_that (λ (u : List ℕ). is_coded (fate_of u)) us)
    frame_back v us =
        coded_back (groups_of mtu v us) (sendable mtu v us) ∙ ap (map (back mtu)) (left_out_lem mtu v us ∙ all_go_out us)

    back_from_lem : (v : Saved) (frames : List (List ℕ)) → coded_nals (groups_from mtu v frames) ≡ map (back mtu) (coded_units mtu frames)
    back_from_lem v [] = refl
    back_from_lem v (frame ∷ frames) =
        let us : List (List ℕ) = units_at mtu frame in
        let coded : List (List ℕ) = those_that (λ (u : List ℕ). is_coded (fate_of u)) us in
        coded_append (groups_of mtu v us) (groups_from mtu (keep_all v us) frames)
        ∙ ap₂ (λ (x y : List Nal). x ++ y) (frame_back v us) (back_from_lem (keep_all v us) frames)
        ∙ sym (map-append (back mtu) coded (coded_units mtu frames))

    -- the frames' own units, each with F cleared where it did not fit alone
    pub units_back : (frames : List (List ℕ)) → coded_nals (groups_sent mtu frames) ≡ map (back mtu) (coded_units mtu frames)
    units_back frames = back_from_lem nothing_saved frames
