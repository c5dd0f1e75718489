-- How a call can end: what is so of each outcome is so of it. Assumes nothing.
use mathlib.Core.Path.{◌≡◌, refl}
use mathlib.Core.Bool.{Bool, true, false, cond}
use mathlib.Core.List.{List}
use Prim.Native.Nat.{ℕ, ◌+◌}
use lib.Dec.{ltb, leb, eqb}
use Rattle.error.specs.Refusal.{Refusal}
use Rattle.error.specs.Said.{Said, says, refused, refuse}
use Rattle.nal.specs.Fed.{Laid, lay_both}
use Rattle.sequence.specs.Number.{distance_of}
use Rattle.joiner_step.specs.Run.{Run, Does, fed_by}
use Rattle.joiner_step.specs.Choice.{Arrived, Choice}
use Rattle.joiner_step.specs.Step.{Kept, late, Stepped, unchanged, outside, laid_by, fed_to, run_at, by_check, by_source, by_reading, step}

-- by a test, whichever way it goes
by_test : {A : Type 0} (Q : A → Type 0) {x y : A} (b : Bool) → Q x → Q y → Q (cond b x y)
by_test Q true p q = p
by_test Q false p q = q

module _ {P C N : Type 0} (c : Choice P C N) (Q : Stepped (Kept N) → Type 0) (j : Kept N) (packet gather out : List ℕ) where
  -- the packet's bytes and units laid into the buffers, or 6 or 5
  abbrev laid : Does N → Laid ℕ
  laid x = lay_both c.avc gather out (fed_by x).kept (fed_by x).handed

  pub record Outcomes : Type 0 where
    -- "22", 8, "20", Late, "24"
    pub closed : Q (unchanged j gather out (refuse 22))
    pub outside : Q (unchanged j gather out (refuse 8))
    pub foreign : Q (unchanged j gather out (refuse 20))
    pub behind : Q (unchanged j gather out (says late))
    pub full : Q (unchanged j gather out (refuse 24))
    -- the reader's refusal, the codec's of the packet alone, and by the run
    pub unread : (r : Refusal) → c.reads packet ≡ refused r → Q (unchanged j gather out (refused r))
    pub bad : (a : Arrived P) → c.reads packet ≡ says a → (r : Refusal) → c.check a.known ≡ refused r → Q (unchanged j gather out (refused r))
    pub unfit : (run : Run N) (x : C) (r : Refusal) → c.feed run x ≡ refused r → Q (unchanged j gather out (refused r))
    -- the packet was fed to the run
    pub fed : (a : Arrived P) → c.reads packet ≡ says a → (x : C) → c.check a.known ≡ says x → (run : Run N) (y : Does N) → c.feed run x ≡ says y →
        (d : ℕ) → Q (laid_by c j d a.number (fed_by y).run (laid y) (laid y).answer)

  module _ (o : Outcomes) where
    by_feed : (a : Arrived P) → c.reads packet ≡ says a → (x : C) → c.check a.known ≡ says x → (run : Run N) (d : ℕ) →
        (y : Said (Does N)) → c.feed run x ≡ y → Q (fed_to c j d a.number gather out y)
    by_feed a e x f run d (refused r) g = o.unfit run x r g
    by_feed a e x f run d (says y) g = o.fed a e x f run y g d

    by_check_lem : (a : Arrived P) → c.reads packet ≡ says a → (d : ℕ) → (x : Said C) → c.check a.known ≡ x →
        Q (by_check c j d a.number gather out x)
    by_check_lem a e d (refused r) f = o.bad a e r f
    by_check_lem a e d (says x) f = by_feed a e x f (run_at c j d gather) d (c.feed (run_at c j d gather) x) refl

    by_reading_lem : (x : Said (Arrived P)) → c.reads packet ≡ x → Q (by_reading c j gather out x)
    unfolding by_source
    by_reading_lem (refused r) e = o.unread r e
    by_reading_lem (says a) e =
        let d : ℕ = distance_of a.number j.awaited in
        by_test Q (eqb a.source j.source)
        (by_test Q (leb 32768 d) o.behind (by_test Q (ltb 4294967295 (j.missed + d)) o.full (by_check_lem a e d (c.check a.known) refl)))
        o.foreign

    pub step_cases : Q (step c j packet gather out)
    unfolding step
    step_cases =
        by_test Q j.closed o.closed (by_test Q (outside c j.run gather) o.outside (by_reading_lem (c.reads packet) refl))
