-- COMPLETE: every formed sending that is taken hands out its units with its last payload and leaves no run, so that sendings one after the other do.
-- Assumes nothing.
use mathlib.Core.Path.{◌≡◌, refl, sym, ap, ap₂, subst, ◌∙◌}
use mathlib.Core.Bool.{Bool}
use mathlib.Core.List.{List, [], ◌∷◌, ◌++◌, map, map-append, append-nil}
use mathlib.Core.Logic.{◌⊎◌, inl, inr}
use Prim.Native.Nat.{ℕ, ◌+◌, ◌%◌, ◌≤◌, ◌<◌}
use native.Mathlib.Omega.{arith}
use lib.ListN.{length, length-append}
use Rattle.error.specs.Said.{says}
use Rattle.wire.specs.Net.{be16}
use Rattle.wire.specs.Packets.{joined}
use Rattle.wire.proofs.Net.{length_be16}
use Rattle.nal_read.specs.Kind.{Shape, plain, shape}
use Rattle.nal.specs.Unpack.{sized_units}
use Rattle.nal.specs.Unpack as unpacking
use Rattle.nal.specs.Fed.{Fed, prefixed}
use Rattle.h264_packet.specs.Run.{Run, none}
use Rattle.nal_read.proofs.Shapes.{shape_plain, shape_delimiter, shape_aggregate, unpack_sized}
use Rattle.wire.proofs.Packets.{joined_append}
use Rattle.nal.proofs.Handing.{prefixed_append}
use Rattle.rfc6184.specs.Sending.{Each, Nal, octet, octets_of, Sending, single, stap_a, fu_a, aggregated, fragment, payloads_of, payloads_of_all, body_of, units_of, units_of_all, Sized, FormedSending, Lawful, Packetization}
use Rattle.rfc6184.proofs.Each.{each_by}
use Rattle.rfc6184.proofs.Octets.{fields_of_octet}
use Rattle.h264_packet.specs.Depacketize.{beside, read_by, read_payload, depacketized}
use Rattle.h264_rfc.specs.Reading.{fresh, Reader, State, calls, behind, handed_by, Answered, Hears, lastly, handed_as, expected, TakenUnit, Taken, Room, Complete}
use Rattle.h264_rfc.proofs.Calls.{later, later_all, hears_append}
use Rattle.h264_rfc.proofs.Steps.{taken, hears_none, hears_one}
use Rattle.h264_rfc.proofs.Fragments.{hears_fragmented}

-- units that leave no run
abbrev given : List (List ℕ) → Fed Run
given us = record { run = none; kept = []; handed = us }

-- one payload that is units
pub hears_units : (avc : Bool) (gather : List ℕ) (outs : ℕ → List ℕ) (p : List ℕ) (us : List (List ℕ)) → read_payload none p ≡ says (given us) →
    length p ≤ 65535 → length (prefixed avc us) ≤ length (outs 0) → Hears depacketized avc (fresh gather) outs (p ∷ []) (prefixed avc us ∷ [])
hears_units avc gather outs p us e short room =
    hears_one depacketized avc (fresh gather) outs p (given us)
    (taken avc 0 p gather (outs 0) short (omega arith) (omega arith) (given us) e (record { kept = omega arith; run = omega arith; handed = room }))
    (omega arith) refl

-- ---- a single unit

shape_single : (u : Nal) → FormedSending (single u) → TakenUnit u → shape (octets_of u) ≡ plain
unfolding octets_of
shape_single u w t =
    let o : octet u.f u.nri u.type % 32 ≡ u.type = (fields_of_octet u.f u.nri u.type w).2 in
    by o t.long
  where
    by : octet u.f u.nri u.type % 32 ≡ u.type → (3 ≤ length (octets_of u)) ⊎ ((length (octets_of u) ≡ 2) × (u.type ≡ 9)) → shape (octets_of u) ≡ plain
    by o (inl h) = shape_plain (octets_of u) h (omega (arith, t.type.low)) (omega (arith, t.type.high))
    by o (inr h) = shape_delimiter (octets_of u) h.0 (o ∙ h.1)

read_single : (u : Nal) → FormedSending (single u) → TakenUnit u → read_payload none (octets_of u) ≡ says (given (octets_of u ∷ []))
unfolding read_payload
read_single u w t = ap (λ (s : Shape). read_by s none (octets_of u)) (shape_single u w t)

-- ---- an aggregation

-- the RFC's aggregated units are units behind their sizes
pub aggregated_sized : (us : List Nal) → aggregated us ≡ sized_units (map octets_of us)
aggregated_sized [] = refl
aggregated_sized (u ∷ us) = ap (λ (l : List ℕ). be16 (length (octets_of u)) ++ (octets_of u ++ l)) (aggregated_sized us)

pub sized : (us : List Nal) → Each Sized us → unpacking.Sized (map octets_of us)
sized [] w = tt
sized (u ∷ us) w = (w.0.size, sized us w.1)

pub read_aggregated : (a : ℕ) (us : List (List ℕ)) → a % 32 ≡ 24 → 0 < length us → unpacking.Sized us →
    read_payload none (a ∷ sized_units us) ≡ says (given us)
unfolding read_payload
read_aggregated a [] t some w = absurd (omega arith)
read_aggregated a (u ∷ us) t some w =
    let long : length (be16 (length u) ++ (u ++ sized_units us)) ≡ 2 + length (u ++ sized_units us) =
    length-append (be16 (length u)) (u ++ sized_units us) ∙ ap (λ (n : ℕ). n + length (u ++ sized_units us)) (length_be16 (length u)) in
    ap (λ (s : Shape). read_by s none (a ∷ sized_units (u ∷ us))) (shape_aggregate (a ∷ sized_units (u ∷ us)) (omega arith) t)
    ∙ ap (beside none) (unpack_sized a (u ∷ us) w)

read_stap_a : (f nri : ℕ) (us : List Nal) → FormedSending (stap_a f nri us) →
    read_payload none (octet f nri 24 ∷ aggregated us) ≡ says (given (map octets_of us))
read_stap_a f nri [] w = absurd (omega (arith, w.1))
read_stap_a f nri (u ∷ us) w =
    ap (λ (l : List ℕ). read_payload none (octet f nri 24 ∷ l)) (aggregated_sized (u ∷ us))
    ∙ read_aggregated (octet f nri 24) (map octets_of (u ∷ us)) (fields_of_octet f nri 24 w.0).2 (omega arith) (sized (u ∷ us) w.2)

-- ---- one sending

pub hears_sending : (avc : Bool) (gather : List ℕ) (outs : ℕ → List ℕ) (s : Sending) → FormedSending s → Taken s → Room avc (length gather) outs s →
    Hears depacketized avc (fresh gather) outs (payloads_of s) (lastly (payloads_of s) (handed_as avc (units_of s)))
unfolding octets_of
hears_sending avc gather outs (single u) w t room =
    hears_units avc gather outs (octets_of u) (octets_of u ∷ []) (read_single u w t) room.short.0 (room.out_room 0)
hears_sending avc gather outs (stap_a f nri us) w t room =
    hears_units avc gather outs (octet f nri 24 ∷ aggregated us) (map octets_of us) (read_stap_a f nri us w) room.short.0 (room.out_room 0)
hears_sending avc gather outs (fu_a g) w t room =
    subst
    (λ (f : ℕ). Hears depacketized avc (fresh gather) outs (payloads_of (fu_a g)) (lastly (payloads_of (fu_a g)) (prefixed avc ((octet f g.nri g.type ∷ body_of g) ∷ []))))
    (sym t.0)
    (hears_fragmented g w avc gather outs t.1 room)

-- ---- sendings one after the other

-- the room is there for the next sending, too
same_room : (avc : Bool) (m n : ℕ) (ps : List (List ℕ)) (outs : ℕ → List ℕ) → n ≡ m → (s : Sending) → Room avc m outs s → Room avc n (later ps outs) s
same_room avc m n ps outs e s room =
    record {
      short = room.short;
      run = room.run;
      gather_room = omega (arith, room.gather_room);
      out_room = later_all (λ (out : List ℕ). length (handed_as avc (units_of s)) ≤ length out) ps outs room.out_room;
    }

pub complete : Complete depacketized
complete avc gather outs [] w t room = hears_none depacketized avc (fresh gather) outs refl
complete avc gather outs (s ∷ ss) w t room =
    let ps : List (List ℕ) = payloads_of s in
    let one : Hears depacketized avc (fresh gather) outs ps (lastly ps (handed_as avc (units_of s))) =
    hears_sending avc gather outs s w.0 t.0 room.0 in
    let left : State = behind depacketized avc (fresh gather) outs ps in
    let idle : fresh left.gather ≡ left = λ i. record { gathered = sym one.no_run i; gather = left.gather } in
    hears_append depacketized avc (fresh gather) outs ps (payloads_of_all ss) (lastly ps (handed_as avc (units_of s))) (expected avc ss) one
    (subst (λ (st : State). Hears depacketized avc st (later ps outs) (payloads_of_all ss) (expected avc ss)) idle
    (complete avc left.gather (later ps outs) ss w.1 t.1
    (each_by (Room avc (length left.gather) (later ps outs)) (Room avc (length gather) outs)
    (same_room avc (length gather) (length left.gather) ps outs one.as_long) ss room.1)))

-- ---- all that is handed out

joined_lastly : (p : List ℕ) (ps : List (List ℕ)) (bytes : List ℕ) → joined (lastly (p ∷ ps) bytes) ≡ bytes
joined_lastly p [] bytes = append-nil bytes
joined_lastly p (q ∷ ps) bytes = joined_lastly q ps bytes

handed_once : (s : Sending) (bytes : List ℕ) → joined (lastly (payloads_of s) bytes) ≡ bytes
handed_once (single u) bytes = append-nil bytes
handed_once (stap_a f nri us) bytes = append-nil bytes
handed_once (fu_a g) bytes = joined_lastly (fragment g 1 0 g.first) (map (fragment g 0 0) g.middle ++ (fragment g 0 1 g.last ∷ [])) bytes

pub handed_in_order : (avc : Bool) (ss : List Sending) → joined (expected avc ss) ≡ handed_as avc (units_of_all ss)
handed_in_order avc [] = refl
handed_in_order avc (s ∷ ss) =
    joined_append (lastly (payloads_of s) (handed_as avc (units_of s))) (expected avc ss)
    ∙ ap₂ (λ (x y : List ℕ). x ++ y) (handed_once s (handed_as avc (units_of s))) (handed_in_order avc ss)
    ∙ sym (prefixed_append avc (map octets_of (units_of s)) (map octets_of (units_of_all ss)))
    ∙ ap (prefixed avc) (sym (map-append octets_of (units_of s) (units_of_all ss)))

-- a packetization of units, by whatever maker
pub any_maker : (read : Reader) → Complete read → (avc : Bool) (gather : List ℕ) (outs : ℕ → List ℕ) (ps : List (List ℕ)) (us : List Nal) →
    (z : Packetization ps us) → Each Taken z.sendings → Each (Room avc (length gather) outs) z.sendings →
    Each Answered (calls read avc (fresh gather) outs ps) × (joined (map handed_by (calls read avc (fresh gather) outs ps)) ≡ handed_as avc us)
any_maker read c avc gather outs ps us z t room =
    let h = c avc gather outs z.sendings (each_by FormedSending Lawful (λ s w. w.formed) z.sendings z.lawful) t room in (
      subst (λ (q : List (List ℕ)). Each Answered (calls read avc (fresh gather) outs q)) (sym z.payloads) h.answered,
      ap (λ (q : List (List ℕ)). joined (map handed_by (calls read avc (fresh gather) outs q))) z.payloads
          ∙ ap joined h.handed
          ∙ handed_in_order avc z.sendings
          ∙ ap (handed_as avc) (sym z.units),
    )
