-- What is asked of any sender ours has: of plain units every group keeps RFC 6184's rules and carries its units as they are, and the groups go by
-- the course. Assumes nothing.
use mathlib.Core.Path.{◌≡◌, refl, sym, ap, ap₂, subst, ◌∙◌}
use mathlib.Core.List.{List, [], ◌∷◌, ◌++◌, map, map-append}
use mathlib.Core.Bool.{Bool, true, false, cond, ◌&&◌, ◌||◌, true≢false, and-eq-true_iff}
use Prim.Native.Nat.{ℕ, ◌-◌, ◌%◌, ◌≤◌, ◌<◌}
use native.Mathlib.Omega.{arith}
use lib.Dec.{eqb, leb, ltb}
use lib.ListN.{length}
use borrow.Author.Tests.{ltb-true, eqb-true}
use Rattle.rfc6184.specs.Sending.{Each, Nal, UnitType, Packetization}
use Rattle.rfc6184.proofs.Each.{each_append, each_by}
use Rattle.annexb.specs.AnnexB.{units_written}
use Rattle.h264_put.specs.declared.fate.Fate.{Fate}
use Rattle.h264_put.specs.declared.fate.Fate.TheVariants.{Empty, Dropped, Sps, Pps, Coded}
use Rattle.h264_put.specs.Groups.{Saved, nothing_saved, both_saved, Group, pair, plain, fate_of, fate_of_type, keep, keep_by, keep_all, stap_a, pair_for, fragments_of, unit_for, groups_by, groups_for, groups_of, packets_of}
use Rattle.h264_put.specs.Step.{is_saved}
use Rattle.h264.specs.Conformance.{Octets, SavedOctets, nal, nals_of, nals_of_all, Regular, carries, carried_in}
use Rattle.h264.specs.Course.{Coursed, sets_of, sent, left_out, total, Same}
use Rattle.h264.specs.AnySender.{Answered, PlainBy, Plainly, SavedPlainly, Goes, SendsFrames, ours}
use Rattle.h264.proofs.Fits.{fits}
use Rattle.h264.proofs.Conforms.{packetized}
use Rattle.h264.proofs.OneUnit.{cleared_same}
use Rattle.h264.proofs.Frames.{units_written_lem}
use Rattle.h264.proofs.Courses.{waits_by_course}
use Rattle.h264.proofs.Accounts.{sent_by_course, accounted}

-- ---- plain units in groups

-- a group that keeps the rules, and in which F is as its units have it
record Fair (g : Group) : Type 0 where
  regular : Regular g
  whole : nals_of g ≡ map nal (carries g)

-- a set's type is 7 or 8
set_type : (t : ℕ) → is_saved (fate_of_type t) ≡ true → UnitType t
set_type t = go (eqb t 9 || eqb t 12) (eqb t 7) (eqb t 8) refl refl
  where
    go : (a p q : Bool) → eqb t 7 ≡ p → eqb t 8 ≡ q → is_saved (cond a Dropped (cond p Sps (cond q Pps Coded))) ≡ true → UnitType t
    go true p q e d h = absurd (true≢false (sym h))
    go false true q e d h = let s : t ≡ 7 = eqb-true t 7 e in record { low = omega arith; high = omega arith }
    go false false true e d h = let s : t ≡ 8 = eqb-true t 8 d in record { low = omega arith; high = omega arith }
    go false false false e d h = absurd (true≢false (sym h))

saved_type : (u : List ℕ) → is_saved (fate_of u) ≡ true → UnitType (nal u).type
saved_type [] h = absurd (true≢false (sym h))
saved_type (b ∷ s) h = set_type (b % 32) h

-- the rules, of a unit whose fate is told
rules_of : (k : Fate) (u : List ℕ) → fate_of u ≡ k → Plainly u → PlainBy k (nal u)
rules_of k u e p = subst (λ (x : Fate). PlainBy x (nal u)) e p.rules

fair_pair : (mtu : ℕ) (v : Saved) → SavedPlainly v → Each Fair (pair_for mtu v)
unfolding pair_for
fair_pair mtu v p = go (both_saved v && leb (length (stap_a v.sps v.pps)) mtu) refl
  where
    go : (t : Bool) → (both_saved v && leb (length (stap_a v.sps v.pps)) mtu) ≡ t → Each Fair (cond t (pair v.sps v.pps ∷ []) [])
    go false e = tt
    go true e =
        let two = (and-eq-true_iff (ltb 0 (length v.sps)) (ltb 0 (length v.pps))).0 ((and-eq-true_iff (both_saved v) (leb (length (stap_a v.sps v.pps)) mtu)).0 e).0 in
        let sps = p.sps (ltb-true 0 (length v.sps) two.0) in
        let pps = p.pps (ltb-true 0 (length v.pps) two.1) in
        let a = rules_of Sps v.sps sps.0 sps.1 in
        let b = rules_of Pps v.pps pps.0 pps.1 in (
          record {
            regular = (
              a.0,
              b.0,
              omega (arith, a.1, b.1),
              saved_type v.sps (ap is_saved sps.0),
              saved_type v.pps (ap is_saved pps.0),
            );
            whole = refl;
          },
          tt,
        )

fair_unit : (mtu : ℕ) (u : List ℕ) → PlainBy Coded (nal u) → Each Fair (unit_for mtu u)
unfolding unit_for
fair_unit mtu u p = go (leb (length u) mtu) (ltb mtu 3) u p
  where
    go : (a b : Bool) (x : List ℕ) → PlainBy Coded (nal x) → Each Fair (cond a (plain u ∷ []) (cond b [] (fragments_of (mtu - 2) x)))
    go true b x q = (record { regular = p.1; whole = refl }, tt)
    go false true x q = tt
    go false false [] q = tt
    go false false (b ∷ s) q = (
      record {
        regular = q.1;
        whole = ap (λ (n : Nal). n ∷ []) (cleared_same (nal (b ∷ _)) q.0);
      },
      tt,
    )

-- what is saved stays plain
plain_kept : (v : Saved) (u : List ℕ) → SavedPlainly v → Plainly u → SavedPlainly (keep v u)
unfolding keep
plain_kept v u p q = go (fate_of u) refl
  where
    forgot : (b : Bool) → SavedPlainly (cond b nothing_saved v)
    forgot true = record { sps = λ h. absurd (omega arith); pps = λ h. absurd (omega arith) }
    forgot false = p

    go : (k : Fate) → fate_of u ≡ k → SavedPlainly (keep_by k v u)
    go Empty e = p
    go Dropped e = p
    go Sps e = record { sps = λ h. (e, q); pps = p.pps }
    go Pps e = record { sps = p.sps; pps = λ h. (e, q) }
    go Coded e = forgot (both_saved v)

fair_groups : (mtu : ℕ) (v : Saved) (us : List (List ℕ)) → SavedPlainly v → Each Plainly us → Each Fair (groups_of mtu v us)
unfolding groups_for
fair_groups mtu v [] p q = tt
fair_groups mtu v (u ∷ us) p q =
    each_append Fair (groups_by (fate_of u) mtu v u) (groups_of mtu (keep v u) us) (go (fate_of u) q.0.rules)
    (fair_groups mtu (keep v u) us (plain_kept v u p q.0) q.1)
  where
    go : (k : Fate) → PlainBy k (nal u) → Each Fair (groups_by k mtu v u)
    go Empty r = tt
    go Dropped r = tt
    go Sps r = tt
    go Pps r = tt
    go Coded r = each_append Fair (pair_for mtu v) (unit_for mtu u) (fair_pair mtu v p) (fair_unit mtu u r)

all_whole : (gs : List Group) → Each Fair gs → nals_of_all gs ≡ map nal (carried_in gs)
all_whole [] w = refl
all_whole (g ∷ gs) w =
    ap₂ (λ (a b : List Nal). a ++ b) w.0.whole (all_whole gs w.1) ∙ sym (map-append nal (carries g) (carried_in gs))

-- ---- our sender

octets_waiting : (s : List ℕ) → (0 < length s → Octets s) → Octets s
octets_waiting [] h = tt
octets_waiting (b ∷ s) h = h (omega arith)

saved_octets : (v : Saved) → SavedPlainly v → SavedOctets v
saved_octets v p =
    record {
      sps = octets_waiting v.sps (λ h. (p.sps h).1.octets);
      pps = octets_waiting v.pps (λ h. (p.pps h).1.octets);
    }

goes : (mtu : ℕ) (v : Saved) (us : List (List ℕ)) → mtu ≤ 65535 → SavedPlainly v → Each Plainly us → (r : Coursed v us) →
    Goes mtu v r.course (record { packets = packets_of (groups_of mtu v us); saved = keep_all v us })
goes mtu v us most p q r =
    let gs : List Group = groups_of mtu v us in
    let fair : Each Fair gs = fair_groups mtu v us p q in
    record {
      carried =
          subst (Packetization (packets_of gs)) (all_whole gs fair ∙ ap (map nal) (sent_by_course mtu v us r))
          (packetized mtu v us most (saved_octets v p) (each_by Octets Plainly (λ u h. h.octets) us q)
          (each_by Regular Fair (λ g h. h.regular) gs fair));
      fits = fits mtu v us;
      waits = waits_by_course v us r;
    }

pub sends_frames : SendsFrames ours
sends_frames mtu v end c cs least most apart p q r =
    subst (λ (us : List (List ℕ)). Goes mtu v r.course (record { packets = packets_of (groups_of mtu v us); saved = keep_all v us }))
    (sym (units_written_lem mtu end c cs least apart)) (goes mtu v (units_written end (c ∷ cs)) most p q r)

-- of any such sender: each unit is once among those that its packets carry, those left out and those that it saves
pub answer_accounted : (mtu : ℕ) (v : Saved) (us : List (List ℕ)) (r : Coursed v us) (a : Answered) → Goes mtu v r.course a →
    Same (sets_of v ++ us) (sent mtu v r.course ++ (left_out mtu v r.course ++ sets_of a.saved))
answer_accounted mtu v us r a g weight =
    accounted mtu v us r weight
    ∙ sym (ap (λ (w : Saved). total weight (sent mtu v r.course ++ (left_out mtu v r.course ++ sets_of w))) g.waits)
