-- SOUND, over calls: at any time the run is the parts of the fragments that came since the last unit was joined, because a part is gathered behind
-- it, the End bit empties it, and whatever else comes leaves it. Assumes nothing.
use mathlib.Core.Path.{◌≡◌, refl, sym, ap, ap₂, subst, ◌∙◌}
use mathlib.Core.Bool.{Bool, true, false}
use mathlib.Core.List.{List, [], ◌∷◌, ◌++◌, map, map-append, append-nil}
use Prim.Native.Nat.{ℕ, suc, ◌%◌, ◌<◌}
use native.Mathlib.Omega.{arith}
use lib.Dec.{eqb}
use lib.ListN.{take, get_or}
use borrow.Author.Tests.{eq-eqb, ne_eqb}
use Rattle.error.specs.Said.{Said, says, refused}
use Rattle.wire.specs.Packets.{joined}
use Rattle.wire.proofs.Packets.{joined_append}
use Rattle.nal.specs.Fed.{prefixed, Laid}
use Rattle.nal.specs.Ran.{RanOn}
use Rattle.rfc6184.specs.Sending.{Each, octets_of, fragment, octet}
use Rattle.rfc6184.proofs.Each.{each_append}
use Rattle.rfc6184.proofs.Octets.{fields_of_octet, fields_of_header}
use Rattle.h264.specs.Conformance.{Octets}
use Rattle.h264_packet.specs.Depacketize.{depacketized}
use Rattle.h264_rfc.specs.Reading.{State, fresh, next, gathered_then, behind, handed_by}
use Rattle.h264_rfc.specs.Loose.{Loose, loose_octets, loose_of, LooseFormed, parts_of, head_from}
use Rattle.h264_rfc.specs.Meaning.{SingleUnit, Aggregation, RunKept, Means, unit_alone, units_together, part_gathered, unit_joined}
use Rattle.h264_rfc.specs.Runs.{Came, piece, passing, pieces_of, is_fu_a, has_end, came_by, came_then, since, Joined, Sound}
use Rattle.h264_rfc.proofs.Kept.{refusals_keep}
use Rattle.h264_rfc.proofs.Runs.{one_or_deviates}
use Rattle.h264_rfc.proofs.Sound.{sound_one}

differ : {b : Bool} → b ≡ false → b ≡ true → ⊥
differ f t = let z : ◌≡◌ {A = ℕ} 0 1 = cc in omega arith

-- ---- which kind a payload is, by its octets

not_fu_a : (t : ℕ) → t < 28 → eqb t 28 ≡ false
not_fu_a t h = ne_eqb t 28 (λ e. omega arith)

single_no : (p : List ℕ) → SingleUnit p → is_fu_a p ≡ false
unfolding octets_of
single_no p k =
    let u = k.unit in
    let t = (fields_of_octet u.f u.nri u.type k.lawful.formed).2 in
    not_fu_a (get_or p 0 0 % 32) (omega (arith, ap (λ (q : List ℕ). get_or q 0 0 % 32) k.octets, t, k.lawful.rules.high))

aggregation_no : (p : List ℕ) (us : List (List ℕ)) → Aggregation p us → is_fu_a p ≡ false
aggregation_no p us k =
    let t = (fields_of_octet k.f k.nri 24 k.formed).2 in
    not_fu_a (get_or p 0 0 % 32) (omega (arith, ap (λ (q : List ℕ). get_or q 0 0 % 32) k.octets, t))

module _ (p : List ℕ) (e : ℕ) (he : e < 2) (x : Loose) (w : LooseFormed x) (same : p ≡ loose_octets e x) where
  fragment_is : is_fu_a p ≡ true
  unfolding fragment octet
  fragment_is =
      eq-eqb (get_or p 0 0 % 32) 28
      (omega (arith, ap (λ (q : List ℕ). get_or q 0 0 % 32) same, w.formed.nri_bits))

  end_is : has_end p ≡ eqb e 1
  unfolding fragment
  end_is =
      ap (λ (q : List ℕ). has_end q) same
      ∙ ap (λ (b : ℕ). eqb b 1)
      (fields_of_header x.start e x.part.reserved x.of.type w.start_bit he w.part_formed w.formed.type_bits).1

-- ---- call after call

-- the run of a state is the parts of these fragments
record Stands (cs : List Came) (s : State) : Type 0 where
  run : take s.gathered s.gather ≡ parts_of (pieces_of cs)
  formed : Each LooseFormed (pieces_of cs)

pieces_append : (cs ds : List Came) → pieces_of (cs ++ ds) ≡ pieces_of cs ++ pieces_of ds
pieces_append [] ds = refl
pieces_append (piece x ∷ cs) ds = ap (λ (l : List Loose). x ∷ l) (pieces_append cs ds)
pieces_append (passing p ∷ cs) ds = pieces_append cs ds

abbrev octets_in : Loose → List ℕ
octets_in x = x.part.octets

parts_append : (xs : List Loose) (x : Loose) → parts_of (xs ++ (x ∷ [])) ≡ parts_of xs ++ x.part.octets
parts_append xs x =
    ap joined (map-append octets_in xs (x ∷ []))
    ∙ joined_append (map octets_in xs) (octets_in x ∷ [])
    ∙ ap (λ (l : List ℕ). parts_of xs ++ l) (append-nil (octets_in x))

module _ (cs : List Came) (s : State) (stands : Stands cs s) (p : List ℕ) (l : Laid (RanOn ℕ)) where
  -- the run stays
  stays : RunKept s.gathered s.gather l → Stands (cs ++ (passing p ∷ [])) (next s l)
  stays k =
      let same : pieces_of (cs ++ (passing p ∷ [])) ≡ pieces_of cs = pieces_append cs (passing p ∷ []) ∙ append-nil (pieces_of cs) in
      record {
        run = ap₂ take k.count k.bytes ∙ stands.run ∙ ap parts_of (sym same);
        formed = subst (Each LooseFormed) (sym same) stands.formed;
      }

  -- a part more
  grows : LooseFormed (loose_of p) →
      take (gathered_then s.gathered l.answer) l.gather ≡ take s.gathered s.gather ++ (loose_of p).part.octets →
      Stands (cs ++ (piece (loose_of p) ∷ [])) (next s l)
  grows w e =
      let more : pieces_of (cs ++ (piece (loose_of p) ∷ [])) ≡ pieces_of cs ++ (loose_of p ∷ []) = pieces_append cs (piece (loose_of p) ∷ []) in
      record {
        run =
            e
            ∙ ap (λ (b : List ℕ). b ++ (loose_of p).part.octets) stands.run
            ∙ sym (parts_append (pieces_of cs) (loose_of p))
            ∙ ap parts_of (sym more);
        formed = subst (Each LooseFormed) (sym more) (each_append LooseFormed (pieces_of cs) (loose_of p ∷ []) stands.formed (w, tt));
      }

  by_kind : (fu end : Bool) → is_fu_a p ≡ fu → has_end p ≡ end → Stands (came_by fu end cs p) (next s l) → Stands (came_by (is_fu_a p) (has_end p) cs p) (next s l)
  by_kind fu end f e h = subst (λ (x : Bool). Stands (came_by x (has_end p) cs p) (next s l)) (sym f) (subst (λ (x : Bool). Stands (came_by fu x cs p) (next s l)) (sym e) h)

  -- what an accepted payload leaves
  goes : (avc : Bool) → Means avc s.gathered s.gather p l → Stands (came_by (is_fu_a p) (has_end p) cs p) (next s l)
  goes avc (unit_alone k kept h) = by_kind false (has_end p) (single_no p k) refl (stays kept)
  goes avc (units_together us k kept h) = by_kind false (has_end p) (aggregation_no p us k) refl (stays kept)
  goes avc (part_gathered w e f h run) =
      by_kind true false (fragment_is p 0 (omega arith) (loose_of p) w e) (end_is p 0 (omega arith) (loose_of p) w e) (grows w run)
  goes avc (unit_joined w e f h none) =
      by_kind true true (fragment_is p 1 (omega arith) (loose_of p) w e) (end_is p 1 (omega arith) (loose_of p) w e)
      (record { run = ap (λ (n : ℕ). take n l.gather) none; formed = tt })

-- what a call leaves, accepted or not
goes_on : (avc : Bool) (cs : List Came) (s : State) (p out : List ℕ) → Octets p → Stands cs s →
    let l : Laid (RanOn ℕ) = depacketized avc s.gathered p s.gather out in Stands (came_then cs p l.answer) (next s l)
goes_on avc cs s p out o stands = by l.answer refl
  where
    l : Laid (RanOn ℕ)
    l = depacketized avc s.gathered p s.gather out

    by : (a : Said (RanOn ℕ)) → l.answer ≡ a → Stands (came_then cs p l.answer) (next s l)
    by (says r) e =
        subst (λ (a : Said (RanOn ℕ)). Stands (came_then cs p a) (next s l)) (sym e)
        (goes cs s stands p l avc (sound_one avc s.gathered p s.gather out r o e))
    by (refused r) e =
        subst (λ (a : Said (RanOn ℕ)). Stands (came_then cs p a) (next s l)) (sym e)
        (stays cs s stands p l (refusals_keep avc s.gathered p s.gather out r e))

all_calls : (avc : Bool) (ps : List (List ℕ)) (cs : List Came) (s : State) (outs : ℕ → List ℕ) → Each Octets ps → Stands cs s →
    Stands (since depacketized avc s outs cs ps) (behind depacketized avc s outs ps)
all_calls avc [] cs s outs o stands = stands
all_calls avc (p ∷ ps) cs s outs o stands =
    let l : Laid (RanOn ℕ) = depacketized avc s.gathered p s.gather (outs 0) in
    all_calls avc ps (came_then cs p l.answer) (next s l) (λ i. outs (suc i)) o.1 (goes_on avc cs s p (outs 0) o.0 stands)

-- ---- a unit is joined

-- the tests tell which of an accepted payload's meanings it is
joins : (avc : Bool) (cs : List Came) (s : State) (p : List ℕ) (l : Laid (RanOn ℕ)) → Stands cs s → is_fu_a p ≡ true → has_end p ≡ true →
    Means avc s.gathered s.gather p l → Joined avc cs (loose_of p) (handed_by l)
joins avc cs s p l stands fu end (unit_alone k kept h) = absurd (differ (single_no p k) fu)
joins avc cs s p l stands fu end (units_together us k kept h) = absurd (differ (aggregation_no p us k) fu)
joins avc cs s p l stands fu end (part_gathered w e f h run) = absurd (differ (end_is p 0 (omega arith) (loose_of p) w e) end)
joins avc cs s p l stands fu end (unit_joined w e f h none) =
    record {
      unit = h ∙ ap (λ (b : List ℕ). prefixed avc ((head_from (loose_of p) ∷ (b ++ (loose_of p).part.octets)) ∷ [])) stands.run;
      kind = one_or_deviates (loose_of p) w cs stands.formed;
    }

pub sound : Sound depacketized
sound =
    record {
      one = sound_one;
      run =
          λ avc gather outs ps p out r o q fu end e.
          let s : State = behind depacketized avc (fresh gather) outs ps in
          joins avc (since depacketized avc (fresh gather) outs [] ps) s p (depacketized avc s.gathered p s.gather out)
          (all_calls avc ps [] (fresh gather) outs o (record { run = refl; formed = tt })) fu end
          (sound_one avc s.gathered p s.gather out r q e);
    }
