-- A call of a choice's joiner is a plain call of the joiner for any rule, reader and codec whose runs lie in record and gather buffer: the
-- two are staged alike. Assumes nothing.
use mathlib.Core.Path.{◌≡◌, refl, sym, ap, ap₂, subst, subst₂, ◌∙◌}
use mathlib.Core.Bool.{Bool, true, false, cond}
use mathlib.Core.List.{List, [], ◌∷◌, map, append-nil}
use Prim.Native.Nat.{ℕ, ◌+◌, ◌≤◌}
use native.Mathlib.Omega.{arith}
use lib.Dec.{ltb, leb, eqb}
use lib.ListN.{length}
use borrow.Author.Tests.{ltb-false, le-ltb, ne_eqb}
use Rattle.error.specs.Refusal.{Refusal}
use Rattle.error.specs.Said.{Said, says, refused, refuse}
use Rattle.wire.specs.Part.{splice}
use Rattle.wire.specs.Packets.{joined}
use Rattle.wire.proofs.Part.{part_of_splice}
use Rattle.nal.specs.Fed.{prefixed, OutLaid, lay_bytes, Laid, too_long, gather_after, lay_both}
use Rattle.nal.proofs.Handing.{length_prefixed}
use Rattle.sequence.specs.Number.{distance_of, next_of}
use Rattle.sequence.specs.Rule.{plain}
use Rattle.sequence.specs.Joiner.{Called, refuses, too_late, takes, turned_away, numbered, not_shut, shut}
use Rattle.sequence.specs.Joiner as any
use Rattle.sequence.specs.Codec.{Fed, refusal, fed}
use Rattle.sequence.specs.Plain.{plain_stays, plain_fed, plain_check, plain_distance, plain_heard, plain_shut}
use Rattle.joiner_step.specs.Run.{Units, none, Does, fed_by, held_of, run_of}
use Rattle.joiner_step.specs.Choice.{Arrived, Choice}
use Rattle.joiner_step.specs.Step.{Kept, Answer, late, Stepped, unchanged, still_open, outside, wrong, laid_by, fed_to, run_at, by_check, by_distance, by_source, by_reading, step, close_by, closing}
use Rattle.joiner_step.specs.Step as step
use Rattle.joiner_step.specs.General.{Room, refusing, group_in, checked_as, Lying, lain, lying_codec, heard_from, parts_of, lying, handed_bytes, seen_by, as_bytes, closing_seen}
use Rattle.wire.proofs.Bools.{or_false_right}

-- ---- what is handed out

module _ (avc : Bool) (out : List ℕ) where
  -- the bytes of a group, read off the output
  bytes_handed : (us : Units) → length (prefixed avc us) ≤ length out →
      handed_bytes (length (prefixed avc us)) (splice out 0 (prefixed avc us)) ≡ map (prefixed avc) (group_in us)
  bytes_handed [] h = refl
  bytes_handed (u ∷ us) h =
      rw (ne_eqb (length (prefixed avc (u ∷ us))) 0 (λ z. omega (arith, length_prefixed avc (u ∷ us))))
      (ap (λ (l : List ℕ). l ∷ []) (part_of_splice out 0 (prefixed avc (u ∷ us)) (omega arith)))

-- what a call hands out in all
joined_group : (avc : Bool) (us : Units) → joined (map (prefixed avc) (group_in us)) ≡ prefixed avc us
joined_group avc [] = refl
joined_group avc (u ∷ us) = append-nil (prefixed avc (u ∷ us))

-- ---- the call, stage by stage

-- what a call left is what a call of the other joiner says: its state, and its answer with the bytes handed out
pub record Leaves {N : Type 0} (avc : Bool) (source : ℕ) (st : Stepped (Kept N)) (m : Called ℕ Refusal (Lying N) Units) : Type 0 where
  pub state : lying st.joiner st.gather ≡ m.state
  pub answer : seen_by st.answer st.out ≡ as_bytes avc m.answer
  pub same_source : st.joiner.source ≡ source
  pub not_closed : st.joiner.closed ≡ false

module _ {P C N : Type 0} (c : Choice P C N) (j : Kept N) (gather out : List ℕ) (not_closed : j.closed ≡ false) where
  abbrev p : any.Parts (List ℕ) Room Refusal P C (Lying N) Units
  p = parts_of c (lying_codec c) (plain P) j.source

  abbrev s : any.State ℕ (Lying N)
  s = lying j gather

  abbrev k : Room
  k = record { gather = length gather; out = length out }

  abbrev Here : Stepped (Kept N) → Called ℕ Refusal (Lying N) Units → Type 0
  Here st m = Leaves c.avc j.source st m

  -- refused, or Late
  unmoved : (a : Said Answer) (b : any.Answer Refusal Units) → seen_by a out ≡ as_bytes c.avc b → Here (unchanged j gather out a) (plain_stays p k s b)
  unmoved a b e = record { state = refl; answer = e; same_source = refl; not_closed = not_closed }

  -- room: 6, then 5
  at_room : (d number : ℕ) (x : Does N) →
      Here (fed_to c j d number gather out (says x)) (plain_fed p k s d number (lain c gather (says x)))
  unfolding lay_both lay_bytes
  at_room d number x =
      subst (Here (fed_to c j d number gather out (says x))) (sym (tested (too_long gather (fed_by x).kept)))
      (go (too_long gather (fed_by x).kept) (ltb (length out) (length bytes)) refl)
    where
      bytes : List ℕ
      bytes = prefixed c.avc (fed_by x).handed

      left : Lying N
      left = record { held = held_of c.blank (fed_by x).run; gather = splice gather 0 (fed_by x).kept }

      taken : Called ℕ Refusal (Lying N) Units
      taken =
          record {
            state = record { seq = next_of number; run = left; missed = j.missed + d };
            answer = takes d (group_in (fed_by x).handed);
          }

      stays : ℕ → Called ℕ Refusal (Lying N) Units
      stays n = plain_stays p k s (refuses (refusing n))

      tested : (long : Bool) → plain_fed p k s d number (cond long (refusal (refusing 6)) (fed left (group_in (fed_by x).handed)))
          ≡ cond long (stays 6) (cond (ltb (length out) (length bytes)) (stays 5) taken)
      tested true = refl
      tested false =
          ap (λ (l : List ℕ). cond (ltb (length out) (length l)) (stays 5) taken) (joined_group c.avc (fed_by x).handed)

      out_by : Bool → OutLaid
      out_by small = cond small (record { answer = refuse 5; out = out }) (record { answer = says (length bytes); out = splice out 0 bytes })

      -- by the two tests
      laid : Bool → Bool → Laid ℕ
      laid long small =
          cond long (record { answer = refuse 6; gather = gather; out = out })
          (record { answer = (out_by small).answer; gather = gather_after gather (fed_by x).kept (out_by small).answer; out = (out_by small).out })

      go : (long small : Bool) → ltb (length out) (length bytes) ≡ small →
          Here (laid_by c j d number (fed_by x).run (laid long small) (laid long small).answer)
          (cond long (stays 6) (cond small (stays 5) taken))
      go true small e = unmoved (refuse 6) (refuses (refusing 6)) refl
      go false true e = unmoved (refuse 5) (refuses (refusing 5)) refl
      go false false e =
          record {
            state = refl;
            answer = ap (takes d) (bytes_handed c.avc out (fed_by x).handed (ltb-false (length out) (length bytes) e));
            same_source = refl;
            not_closed = refl;
          }

  at_feed : (d number : ℕ) (x : Said (Does N)) → Here (fed_to c j d number gather out x) (plain_fed p k s d number (lain c gather x))
  at_feed d number (refused r) = unmoved (refused r) (refuses r) refl
  at_feed d number (says x) = at_room d number x

  -- "d > 0 drops the open run"
  run_there : (b : Bool) (x : C) →
      (lying_codec c).feed k (cond b s.run ((lying_codec c).drop s.run)) x ≡ lain c gather (c.feed (cond b (run_of j.run gather) none) x)
  run_there true x = refl
  run_there false x = refl

  -- the packet's own checks
  at_check : (d number : ℕ) (x : Said C) → Here (by_check c j d number gather out x) (plain_check p k s d number (checked_as x))
  at_check d number (refused r) = unmoved (refused r) (refuses r) refl
  at_check d number (says x) =
      subst (λ (f : Fed Refusal (Lying N) Units). Here (by_check c j d number gather out (says x)) (plain_fed p k s d number f))
      (sym (run_there (eqb d 0) x)) (at_feed d number (c.feed (run_at c j d gather) x))

  -- "d of 32,768 or more answers Late, unchanged; 24"
  at_distance : (d number : ℕ) (q : P) → Here (by_distance c j d number q gather out) (plain_distance p k s d number q)
  at_distance d number q = go (leb 32768 d) (ltb 4294967295 (j.missed + d))
    where
      go : (far full : Bool) →
          Here
          (cond far (unchanged j gather out (says late))
          (cond full (unchanged j gather out (refuse 24)) (by_check c j d number gather out (c.check q))))
          (cond far (plain_stays p k s too_late)
          (cond full (plain_stays p k s (refuses (refusing 24))) (plain_check p k s d number (checked_as (c.check q)))))
      go true full = unmoved (says late) too_late refl
      go false true = unmoved (refuse 24) (refuses (refusing 24)) refl
      go false false = at_check d number (c.check q)

  -- "packet reading; 20"
  at_reading : (x : Said (Arrived P)) → Here (by_reading c j gather out x) (plain_heard p k s (heard_from c j.source x))
  unfolding by_source
  at_reading (refused r) = unmoved (refused r) (refuses r) refl
  at_reading (says a) = go (eqb a.source j.source)
    where
      go : (ours : Bool) →
          Here
          (cond ours (by_distance c j (distance_of a.number j.awaited) a.number a.known gather out) (unchanged j gather out (refuse 20)))
          (plain_heard p k s (cond ours (numbered a.number a.known) (turned_away (refusing 20))))
      go true = at_distance (distance_of a.number j.awaited) a.number a.known
      go false = unmoved (refuse 20) (refuses (refusing 20)) refl

  module _ (inside : outside c j.run gather ≡ false) where
    pub step_plain : (packet : List ℕ) → Here (step c j packet gather out) (plain_heard p k s (p.reader packet))
    unfolding step
    step_plain packet =
        subst₂ (λ (shut off : Bool). Here (cond shut (unchanged j gather out (refuse 22)) (cond off (unchanged j gather out (refuse 8)) (by_reading c j gather out (c.reads packet)))) (plain_heard p k s (p.reader packet)))
        (sym not_closed) (sym inside) (at_reading (c.reads packet))

    -- closing this joiner is closing that one
    pub closing_plain : (number : ℕ) → closing_seen (closing c j number) ≡ plain_shut p k s (distance_of number j.awaited)
    unfolding closing
    closing_plain number =
        ap₂ (λ (shut off : Bool). closing_seen (cond shut (still_open j 22) (cond off (still_open j 8) (close_by c j d))))
        not_closed (or_false_right (ltb (length gather) j.run.gathered) (wrong c j.run) inside)
        ∙ go (leb 32768 d) (ltb 4294967295 (j.missed + d)) (ltb (length out) 0) (le-ltb (length out) 0 (omega arith))
      where
        d : ℕ
        d = distance_of number j.awaited

        go : (far full small : Bool) → small ≡ false →
            closing_seen (cond far (still_open j 23) (cond full (still_open j 24) (record { joiner = step.shut c j d; answer = says (record { first = j.awaited; count = d; bytes = 0 }) })))
            ≡ cond far (not_shut (refusing 23)) (cond full (not_shut (refusing 24)) (cond small (not_shut (refusing 5)) (shut d (j.missed + d) [])))
        go true full small e = refl
        go false true small e = refl
        go false false small e = rw e
