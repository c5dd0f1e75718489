-- The codec whose runs lie in record and gather buffer stands for the one whose runs are without buffers: what is gathered stands in front of the
-- gather buffer. Assumes nothing.
use mathlib.Core.Path.{◌≡◌, refl, ap, subst, ◌∙◌}
use mathlib.Core.Bool.{Bool, true, false, cond}
use mathlib.Core.List.{List, []}
use Prim.Native.Nat.{ℕ, ◌≤◌}
use native.Mathlib.Omega.{arith}
use lib.Dec.{ltb}
use lib.ListN.{length}
use borrow.Author.Tests.{ltb-false, le-ltb}
use Rattle.error.specs.Refusal.{Refusal}
use Rattle.error.specs.Said.{Said, says, refused}
use Rattle.wire.specs.Part.{splice}
use Rattle.wire.proofs.Bools.{or_false_left, or_false_right}
use Rattle.wire.proofs.Part.{part_of_splice, length_splice}
use Rattle.nal.specs.Fed.{is_over, too_long}
use Rattle.sequence.specs.Codec.{Fed, refusal, fed}
use Rattle.sequence.specs.Refines.{fed_as, Refines}
use Rattle.joiner_step.specs.Run.{Units, Run, gathering, Does, hands, gathers, ends, fed_by, nothing, held_of}
use Rattle.joiner_step.specs.Choice.{Choice}
use Rattle.joiner_step.specs.Step.{outside}
use Rattle.joiner_step.specs.General.{Room, refusing, group_in, Lying, within, codec, lain, lying_codec, run_in}

-- what is gathered has room
pub record Roomy (n most : ℕ) : Type 0 where
  pub fits : n ≤ most
  pub few : n ≤ 16777215

pub roomy : (n most : ℕ) → is_over most n ≡ false → Roomy n most
roomy n most e =
    record {
      fits = ltb-false most n (or_false_left (ltb most n) (ltb 16777215 n) e);
      few = ltb-false 16777215 n (or_false_right (ltb most n) (ltb 16777215 n) e);
    }

module _ {P C N : Type 0} (c : Choice P C N) where
  -- what must be so of a run in a call's room: the gather buffer has that length, and the record says nothing that is wrong
  pub record Fit (k : Room) (l : Lying N) : Type 0 where
    pub same_length : length l.gather ≡ k.gather
    pub inside : outside c l.held l.gather ≡ false

  -- no run is open
  nothing_inside : (gather : List ℕ) → outside c (nothing c.blank) gather ≡ false
  nothing_inside gather = rw (le-ltb (length gather) 0 (omega arith)) c.blank_says_nothing

  -- ---- what a packet leaves

  abbrev laid : List ℕ → Does N → Lying N
  laid gather x = record { held = held_of c.blank (fed_by x).run; gather = splice gather 0 (fed_by x).kept }

  -- the record's length and the gather buffer stand for the run
  run_stands : (gather : List ℕ) (x : Does N) → length (fed_by x).kept ≤ length gather → run_in (laid gather x) ≡ (fed_by x).run
  run_stands gather (hands us) h = refl
  run_stands gather (gathers note bytes) h = ap (gathering note) (part_of_splice gather 0 bytes (omega arith))
  run_stands gather (ends bytes unit) h = refl

  pub laid_fits : (k : Room) (gather : List ℕ) (x : Does N) → length gather ≡ k.gather → too_long gather (fed_by x).kept ≡ false → Fit k (laid gather x)
  laid_fits k gather x same e = record { same_length = length_splice gather 0 (fed_by x).kept (omega (arith, room.fits)) ∙ same; inside = go x refl }
    where
      room : Roomy (length (fed_by x).kept) (length gather)
      room = roomy (length (fed_by x).kept) (length gather) e

      go : (y : Does N) → x ≡ y → outside c (held_of c.blank (fed_by y).run) (splice gather 0 (fed_by y).kept) ≡ false
      go (hands us) is = nothing_inside (splice gather 0 [])
      go (gathers note bytes) is =
          let lies : length (splice gather 0 bytes) ≡ length gather = length_splice gather 0 bytes (omega (arith, room.fits, ap (λ (z : Does N). length (fed_by z).kept) is)) in
          rw (
            le-ltb (length (splice gather 0 bytes)) (length bytes) (omega (arith, room.fits, ap (λ (z : Does N). length (fed_by z).kept) is)),
            le-ltb 16777215 (length bytes) (omega (arith, room.few, ap (λ (z : Does N). length (fed_by z).kept) is)),
          )
      go (ends bytes unit) is = nothing_inside (splice gather 0 bytes)

  -- ---- the refinement

  feeds_alike : (k : Room) (gather : List ℕ) (x : Said (Does N)) → length gather ≡ k.gather → fed_as run_in (lain c gather x) ≡ within c k x
  feeds_alike k gather (refused r) same = refl
  feeds_alike k gather (says x) same =
      go (too_long gather (fed_by x).kept) refl
      ∙ ap (λ (n : ℕ). cond (is_over n (length (fed_by x).kept)) (refusal (refusing 6)) (fed (fed_by x).run (group_in (fed_by x).handed))) same
    where
      go : (long : Bool) → too_long gather (fed_by x).kept ≡ long →
          fed_as run_in (cond {A = Fed Refusal (Lying N) Units} long (refusal (refusing 6)) (fed (laid gather x) (group_in (fed_by x).handed)))
          ≡ cond long (refusal (refusing 6)) (fed (fed_by x).run (group_in (fed_by x).handed))
      go true e = refl
      go false e = ap (λ (r : Run N). fed r (group_in (fed_by x).handed)) (run_stands gather x (roomy (length (fed_by x).kept) (length gather) e).fits)

  not_fed : {r : Refusal} (next : Lying N) (out : List Units) → ◌≡◌ {A = Fed Refusal (Lying N) Units} (refusal r) (fed next out) → ⊥
  not_fed next out e = let z : ◌≡◌ {A = ℕ} 0 1 = cc in omega arith

  fits_on : (k : Room) (gather : List ℕ) (x : Said (Does N)) → length gather ≡ k.gather → (next : Lying N) (out : List Units) →
      lain c gather x ≡ fed next out → Fit k next
  fits_on k gather (refused r) same next out e = absurd (not_fed next out e)
  fits_on k gather (says x) same next out e = go (too_long gather (fed_by x).kept) refl e
    where
      go : (long : Bool) → too_long gather (fed_by x).kept ≡ long →
          cond long (refusal (refusing 6)) (fed (laid gather x) (group_in (fed_by x).handed)) ≡ fed next out → Fit k next
      go true is q = absurd (not_fed next out q)
      go false is q = let same_run : laid gather x ≡ next = cc in subst (Fit k) same_run (laid_fits k gather x same is)

  pub lies : Refines (lying_codec c) (codec c) run_in Fit
  lies =
      record {
        checks = λ p. refl;
        drops = λ l. refl;
        feeds = λ k l x f. feeds_alike k l.gather (c.feed (run_in l) x) f.same_length;
        drop_fits = λ k l f. record { same_length = f.same_length; inside = nothing_inside l.gather };
        feed_fits = λ k l x f next out e. fits_on k l.gather (c.feed (run_in l) x) f.same_length next out e;
      }
