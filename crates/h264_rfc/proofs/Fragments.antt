-- Fragments fed one after the other, whatever unit each is of and whatever its Start bit is: their parts are gathered, and the one with the End bit
-- hands them out behind its own NRI and type. The fragments of one unit are a case of it. Assumes nothing.
use mathlib.Core.Path.{◌≡◌, refl, sym, ap, subst, ◌∙◌}
use mathlib.Core.Bool.{Bool}
use mathlib.Core.List.{List, [], ◌∷◌, ◌++◌, map, map-map, append_assoc}
use Prim.Native.Nat.{ℕ, suc, ◌+◌, ◌*◌, ◌/◌, ◌%◌, ◌≤◌, ◌<◌}
use native.Mathlib.Omega.{arith}
use lib.Dec.{eqb}
use lib.ListN.{length, take, length-append}
use lib.Seq.{length-take-le}
use Rattle.error.specs.Said.{says}
use Rattle.wire.specs.Part.{splice}
use Rattle.wire.specs.Packets.{joined}
use Rattle.wire.proofs.Part.{length_splice, part_of_splice}
use Rattle.nal_read.specs.Kind.{Shape, head_of, shape}
use Rattle.nal_read.specs.Kind as kind
use Rattle.nal.specs.Fed.{prefixed}
use Rattle.h264_packet.specs.Run.{run_of, ongoing, finished}
use Rattle.nal.proofs.Handing.{length_one}
use Rattle.nal_read.proofs.Shapes.{shape_fragment}
use Rattle.rfc6184.specs.Sending.{Each, Nal, octet, octets_of, Part, Fragmented, fragment, fu_a, payloads_of, body_of, FormedPart, FormedSending}
use Rattle.rfc6184.proofs.Octets.{length_octets}
use Rattle.h264_packet.specs.Depacketize.{gathered_on, read_by, read_payload, depacketized}
use Rattle.h264_packet.proofs.Depacketizing.{gathered_run}
use Rattle.h264_rfc.specs.Reading.{fresh, Hears, lastly, Some, NoneEmpty, Room}
use Rattle.h264_rfc.specs.Loose.{Loose, loose_octets, LooseFormed, parts_of, head_from, loose_all, loose_unit, LooseRoom}
use Rattle.h264_rfc.proofs.Calls.{lastly_more}
use Rattle.h264_rfc.proofs.Steps.{Fits, taken, hears_more, hears_one}

-- ---- one fragment

-- the figure's bits are what the reader looks at
pub shape_loose : (l : Loose) (e : ℕ) → LooseFormed l → e < 2 →
    shape (loose_octets e l) ≡ kind.fragment (eqb l.start 1) (eqb e 1) (head_from l)
unfolding fragment octet
shape_loose l e w he =
    let b : ℕ = l.start * 128 + e * 64 + l.part.reserved * 32 + l.of.type in
    let a : ℕ = l.of.f * 128 + l.of.nri * 32 + 28 in
    let hs : l.start < 2 = w.start_bit in
    let hr : l.part.reserved < 2 = w.part_formed in
    let ht : l.of.type < 32 = w.formed.type_bits in
    let hn : l.of.nri < 4 = w.formed.nri_bits in
    let hf : l.of.f < 2 = w.formed.f_bit in
    let s : b / 128 % 2 ≡ l.start = omega arith in
    let n : b / 64 % 2 ≡ e = omega arith in
    let h : head_of a b ≡ 0 * 128 + l.of.nri * 32 + l.of.type = omega arith in
    let t : a % 32 ≡ 28 = omega arith in
    shape_fragment (a ∷ b ∷ l.part.octets) (omega (arith, w.some)) t
    ∙ (λ i. kind.fragment (eqb (s i) 1) (eqb (n i) 1) (h i))

module _ (l : Loose) (w : LooseFormed l) (n : ℕ) (gather : List ℕ) where
  -- "It gathers FU-A data regardless of the start bit"
  read_loose : (e : ℕ) → e < 2 →
      read_payload (run_of n gather) (loose_octets e l) ≡ says (gathered_on (take n gather ++ l.part.octets) (eqb e 1) (head_from l))
  unfolding read_payload fragment
  read_loose e he =
      ap (λ (x : Shape). read_by x (run_of n gather) (loose_octets e l)) (shape_loose l e w he)
      ∙ ap (λ (b : List ℕ). says (gathered_on (b ++ l.part.octets) (eqb e 1) (head_from l))) (gathered_run n gather)

  length_loose : (e : ℕ) → length (loose_octets e l) ≡ 2 + length l.part.octets
  unfolding fragment
  length_loose e = omega arith

-- ---- fragments in a row

module _ (avc : Bool) where
  -- the last one, behind the n bytes gathered before it
  hears_last : (l : Loose) (n : ℕ) (gather : List ℕ) (outs : ℕ → List ℕ) → LooseFormed l → n + length l.part.octets ≤ length gather →
      n + length l.part.octets ≤ 16777215 → ((i : ℕ) → 5 + (n + length l.part.octets) ≤ length (outs i)) →
      Hears depacketized avc (record { gathered = n; gather = gather }) outs (loose_octets 1 l ∷ [])
      (prefixed avc ((head_from l ∷ (take n gather ++ l.part.octets)) ∷ []) ∷ [])
  hears_last l n gather outs w h run out =
      let bytes : List ℕ = take n gather ++ l.part.octets in
      let long : length bytes ≡ n + length l.part.octets =
      length-append (take n gather) l.part.octets ∙ ap (λ (k : ℕ). k + length l.part.octets) (length-take-le n gather (omega arith)) in
      let room : Fits avc gather (outs 0) (finished (head_from l) bytes) =
      record { kept = omega arith; run = omega arith; handed = omega (arith, length_one avc (head_from l ∷ bytes), out 0) } in
      hears_one depacketized avc (record { gathered = n; gather = gather }) outs (loose_octets 1 l) (finished (head_from l) bytes)
      (taken avc n (loose_octets 1 l) gather (outs 0) (omega (arith, length_loose l w n gather 1, w.short)) (omega arith) (omega arith) (finished (head_from l) bytes) (read_loose l w n gather 1 (omega arith)) room)
      room.kept refl

  hears_from : (ls : List Loose) (l : Loose) (n : ℕ) (gather : List ℕ) (outs : ℕ → List ℕ) → Each LooseFormed ls → LooseFormed l →
      n + length (parts_of ls ++ l.part.octets) ≤ length gather → n + length (parts_of ls ++ l.part.octets) ≤ 16777215 →
      ((i : ℕ) → 5 + (n + length (parts_of ls ++ l.part.octets)) ≤ length (outs i)) →
      Hears depacketized avc (record { gathered = n; gather = gather }) outs (map (loose_octets 0) ls ++ (loose_octets 1 l ∷ []))
      (lastly (map (loose_octets 0) ls ++ (loose_octets 1 l ∷ [])) (prefixed avc ((head_from l ∷ (take n gather ++ (parts_of ls ++ l.part.octets))) ∷ [])))
  hears_from [] l n gather outs v w h run out = hears_last l n gather outs w h run out
  hears_from (x ∷ ls) l n gather outs v w h run out =
      let part : List ℕ = x.part.octets in
      let rest : List ℕ = parts_of ls ++ l.part.octets in
      let bytes : List ℕ = take n gather ++ part in
      let regroup : (part ++ parts_of ls) ++ l.part.octets ≡ part ++ rest = append_assoc part (parts_of ls) l.part.octets in
      let total : length ((part ++ parts_of ls) ++ l.part.octets) ≡ length part + length rest =
      ap length regroup ∙ length-append part rest in
      let long : length bytes ≡ n + length part =
      length-append (take n gather) part ∙ ap (λ (k : ℕ). k + length part) (length-take-le n gather (omega arith)) in
      let as_long : length (splice gather 0 bytes) ≡ length gather = length_splice gather 0 bytes (omega arith) in
      let whole : take (length bytes) (splice gather 0 bytes) ++ rest ≡ take n gather ++ ((part ++ parts_of ls) ++ l.part.octets) =
      ap (λ (b : List ℕ). b ++ rest) (part_of_splice gather 0 bytes (omega arith))
      ∙ append_assoc (take n gather) part rest
      ∙ ap (λ (b : List ℕ). take n gather ++ b) (sym regroup) in
      let room : Fits avc gather (outs 0) (ongoing bytes) = record { kept = omega arith; run = omega arith; handed = omega arith } in
      let ps : List (List ℕ) = map (loose_octets 0) ls in
      subst (λ (e : List (List ℕ)). Hears depacketized avc (record { gathered = n; gather = gather }) outs (loose_octets 0 x ∷ (ps ++ (loose_octets 1 l ∷ []))) e)
      (ap (λ (b : List ℕ). [] ∷ lastly (ps ++ (loose_octets 1 l ∷ [])) (prefixed avc ((head_from l ∷ b) ∷ []))) whole
      ∙ sym (lastly_more (loose_octets 0 x) ps (loose_octets 1 l) (prefixed avc ((head_from l ∷ (take n gather ++ ((part ++ parts_of ls) ++ l.part.octets))) ∷ []))))
      (hears_more depacketized avc (record { gathered = n; gather = gather }) outs (loose_octets 0 x) (ps ++ (loose_octets 1 l ∷ []))
      (lastly (ps ++ (loose_octets 1 l ∷ [])) (prefixed avc ((head_from l ∷ (take (length bytes) (splice gather 0 bytes) ++ rest)) ∷ []))) (ongoing bytes)
      (taken avc n (loose_octets 0 x) gather (outs 0) (omega (arith, length_loose x v.0 n gather 0, v.0.short)) (omega arith) (omega arith) (ongoing bytes) (read_loose x v.0 n gather 0 (omega arith)) room)
      room.kept
      (hears_from ls l (length bytes) (splice gather 0 bytes) (λ i. outs (suc i)) v.1 w (omega arith) (omega arith) (λ i. omega (arith, out (suc i)))))

  -- from a record without a run
  pub gathers : (ls : List Loose) (l : Loose) (gather : List ℕ) (outs : ℕ → List ℕ) → Each LooseFormed ls → LooseFormed l →
      LooseRoom (length gather) outs ls l → Hears depacketized avc (fresh gather) outs (loose_all ls l) (lastly (loose_all ls l) (prefixed avc (loose_unit ls l ∷ [])))
  gathers ls l gather outs v w room =
      hears_from ls l 0 gather outs v w (omega (arith, room.gather_room)) (omega (arith, room.run)) (λ i. omega (arith, room.out_room i))

-- ---- the fragments of one unit

abbrev loose_first : Fragmented → Loose
loose_first g = record { of = g; start = 1; part = g.first }

abbrev loose_later : Fragmented → Part → Loose
loose_later g p = record { of = g; start = 0; part = p }

module _ (g : Fragmented) (formed : FormedSending (fu_a g)) where
  -- a fragment's own payload is short enough
  loose_formed : (s e : ℕ) (p : Part) → s < 2 → FormedPart p → Some p → length (fragment g s e p) ≤ 65535 →
      LooseFormed (record { of = g; start = s; part = p })
  unfolding fragment
  loose_formed s e p hs hp some short =
      record { formed = formed.0; start_bit = hs; part_formed = hp; some = some; short = omega arith }

  all_formed : (ps : List Part) → Each FormedPart ps → Each Some ps → (qs : List (List ℕ)) →
      Each (λ (q : List ℕ). length q ≤ 65535) (map (fragment g 0 0) ps ++ qs) →
      Each LooseFormed (map (loose_later g) ps) × Each (λ (q : List ℕ). length q ≤ 65535) qs
  all_formed [] f some qs short = (tt, short)
  all_formed (p ∷ ps) f some qs short =
      let rest = all_formed ps f.1 some.1 qs short.1 in
      ((loose_formed 0 0 p (omega arith) f.0 some.0 short.0, rest.0), rest.1)

  same_parts : (ps : List Part) → parts_of (map (loose_later g) ps) ≡ joined (map (λ (p : Part). p.octets) ps)
  same_parts ps = ap joined (map-map (λ (l : Loose). l.part.octets) (loose_later g) ps)

  -- whatever F is, it is not handed out
  pub hears_fragmented : (avc : Bool) (gather : List ℕ) (outs : ℕ → List ℕ) → NoneEmpty g → Room avc (length gather) outs (fu_a g) →
      Hears depacketized avc (fresh gather) outs (payloads_of (fu_a g))
      (lastly (payloads_of (fu_a g)) (prefixed avc ((octet 0 g.nri g.type ∷ body_of g) ∷ [])))
  hears_fragmented avc gather outs some room =
      let ls : List Loose = loose_first g ∷ map (loose_later g) g.middle in
      let l : Loose = loose_later g g.last in
      let later = all_formed g.middle formed.2 some.1 (fragment g 0 1 g.last ∷ []) room.short.1 in
      let v : Each LooseFormed ls =
      (loose_formed 1 0 g.first (omega arith) formed.1 some.0 room.short.0, later.0) in
      let w : LooseFormed l = loose_formed 0 1 g.last (omega arith) formed.3 some.2 later.1.0 in
      let body : parts_of ls ++ l.part.octets ≡ body_of g =
      append_assoc g.first.octets (parts_of (map (loose_later g) g.middle)) g.last.octets
      ∙ ap (λ (x : List ℕ). g.first.octets ++ (x ++ g.last.octets)) (same_parts g.middle) in
      let payloads : loose_all ls l ≡ payloads_of (fu_a g) =
      ap (λ (x : List (List ℕ)). fragment g 1 0 g.first ∷ (x ++ (fragment g 0 1 g.last ∷ []))) (map-map (loose_octets 0) (loose_later g) g.middle) in
      let long : length (parts_of ls ++ l.part.octets) ≡ length (body_of g) = ap length body in
      let u : Nal = record { f = g.f; nri = g.nri; type = g.type; payload = body_of g } in
      let loose_room : LooseRoom (length gather) outs ls l =
      record {
        run = omega (arith, room.run);
        gather_room = omega (arith, room.gather_room);
        out_room = λ i. omega (arith, room.out_room i, length_one avc (octets_of u), length_octets u);
      } in
      subst (λ (ps : List (List ℕ)). Hears depacketized avc (fresh gather) outs ps (lastly ps (prefixed avc ((octet 0 g.nri g.type ∷ body_of g) ∷ [])))) payloads
      (subst (λ (b : List ℕ). Hears depacketized avc (fresh gather) outs (loose_all ls l) (lastly (loose_all ls l) (prefixed avc ((octet 0 g.nri g.type ∷ b) ∷ [])))) body
      (gathers avc ls l gather outs v w loose_room))
