-- Reading goes the same way, wherever the packet's bytes begin and whatever X is: from the picture id on, the place is only counted
-- on and X is only kept. Assumes nothing.
use mathlib.Core.Path.{◌≡◌, refl, ap, ◌∙◌}
use mathlib.Core.Bool.{Bool, true, false, cond, ◌||◌}
use mathlib.Core.List.{List}
use Prim.Native.Nat.{ℕ, ◌+◌, ◌/◌, ◌%◌}
use native.Mathlib.Omega.{arith}
use lib.Dec.{ltb, eqb}
use lib.ListN.{length, drop}
use Rattle.error.specs.Said.{says, refuse}
use Rattle.wire.specs.Net.{u16_at}
use Rattle.vp8_read.specs.declared.Vp8Packet.{Vp8Packet}
use Rattle.vp8_read.specs.Read.{Stage, next, past, taken, put_required, put_picture_id, put_tl0, put_tid, put_key, set_tid, set_key, set_indices, with_picture_id, with_tl0, with_layers, Reading, or_short, third, second, read_on}
use Rattle.vp8.specs.Differences.{without_x, further}

-- ---- a change of the stage that every step of the reading goes along with

pub record Along (m : Stage → Stage) (m_r : Reading → Reading) : Type 0 where
  pub rest : (c : Stage) → (m c).rest ≡ c.rest
  pub refusing : (c : Stage) → record { packet = (m c).packet; said = refuse 4 } ≡ m_r (record { packet = c.packet; said = refuse 4 })
  pub saying : (c : Stage) → record { packet = (m c).packet; said = says (m c).at } ≡ m_r (record { packet = c.packet; said = says c.at })
  pub id : (c : Stage) → with_picture_id (m c) ≡ m (with_picture_id c)
  pub tl0 : (c : Stage) → with_tl0 (m c) ≡ m (with_tl0 c)
  pub layers : (c : Stage) → with_layers (m c) ≡ m (with_layers c)

module _ (m : Stage → Stage) (m_r : Reading → Reading) (a : Along m m_r) where
  along_test : (go go' : Stage → Reading) → ((c : Stage) → go (m c) ≡ m_r (go' c)) → (c : Stage) → or_short (m c) go ≡ m_r (or_short c go')
  unfolding or_short
  along_test go go' h c =
      ap (λ (l : List ℕ). cond (ltb 0 (length l)) (go (m c)) (record { packet = (m c).packet; said = refuse 4 })) (a.rest c)
      ∙ by_test (ltb 0 (length c.rest))
    where
      by_test : (b : Bool) →
          cond b (go (m c)) (record { packet = (m c).packet; said = refuse 4 })
          ≡ m_r (cond b (go' c) (record { packet = c.packet; said = refuse 4 }))
      by_test true = h c
      by_test false = a.refusing c

  pub along : (c : Stage) → read_on (with_picture_id (m c)) ≡ m_r (read_on (with_picture_id c))
  unfolding read_on second third
  along c =
      ap read_on (a.id c)
      ∙ along_test (λ c₁. second (with_tl0 c₁)) (λ c₁. second (with_tl0 c₁))
      (λ c₁. ap second (a.tl0 c₁)
      ∙ along_test (λ c₂. third (with_layers c₂)) (λ c₂. third (with_layers c₂))
      (λ c₂. ap third (a.layers c₂) ∙ along_test _ _ a.saying (with_layers c₂)) (with_tl0 c₁)) (with_picture_id c)

-- ---- one place further on

abbrev pub on : Stage → Stage
on c = record { packet = c.packet; at = c.at + 1; rest = c.rest }

abbrev pub on_r : Reading → Reading
on_r r = record { packet = r.packet; said = further r.said }

pub along_on : Along on on_r
unfolding with_picture_id with_tl0 with_layers
along_on =
    record {
      rest = λ c. refl;
      refusing = λ c. refl;
      saying = λ c. refl;
      id = λ c. id_cases c (eqb c.packet.i 1) (ltb (next c) 128);
      tl0 = λ c. cases (eqb c.packet.l 1) (taken put_tl0 c) c;
      layers = λ c. cases (eqb c.packet.t 1 || eqb c.packet.k 1) (taken set_indices c) c;
    }
  where
    cases : (b : Bool) (c c' : Stage) → cond b (on c) (on c') ≡ on (cond b c c')
    cases true c c' = refl
    cases false c c' = refl

    two : (p : Vp8Packet) (at : ℕ) (l : List ℕ) → ◌≡◌ {A = Stage} (record { packet = p; at = at + 1 + 2; rest = l }) (record { packet = p; at = at + 2 + 1; rest = l })
    two p at l = let e : at + 1 + 2 ≡ at + 2 + 1 = omega arith in ap (λ (n : ℕ). record { packet = p; at = n; rest = l }) e

    id_cases : (c : Stage) (b s : Bool) →
        cond b (cond s (taken put_picture_id (on c)) (past 2 (put_picture_id (u16_at c.rest 0 % 32768) c.packet) (on c))) (on c)
        ≡ on (cond b (cond s (taken put_picture_id c) (past 2 (put_picture_id (u16_at c.rest 0 % 32768) c.packet) c)) c)
    id_cases c true true = refl
    id_cases c true false = two (put_picture_id (u16_at c.rest 0 % 32768) c.packet) c.at (drop 2 c.rest)
    id_cases c false true = refl
    id_cases c false false = refl

-- ---- with X clear

abbrev pub clear : Stage → Stage
clear c = record { packet = without_x c.packet; at = c.at; rest = c.rest }

abbrev pub clear_r : Reading → Reading
clear_r r = record { packet = without_x r.packet; said = r.said }

tid_clear : (b : ℕ) (p : Vp8Packet) → set_tid b (without_x p) ≡ without_x (set_tid b p)
unfolding set_tid put_tid put_required
tid_clear b p = by_test (eqb p.t 1)
  where
    by_test : (f : Bool) → cond f (put_tid (b / 64) (b / 32 % 2) (without_x p)) (without_x p) ≡ without_x (cond f (put_tid (b / 64) (b / 32 % 2) p) p)
    by_test true = refl
    by_test false = refl

key_clear : (b : ℕ) (p : Vp8Packet) → set_key b (without_x p) ≡ without_x (set_key b p)
unfolding set_key put_key put_required
key_clear b p = by_test (eqb p.k 1)
  where
    by_test : (f : Bool) → cond f (put_key (b % 32) (without_x p)) (without_x p) ≡ without_x (cond f (put_key (b % 32) p) p)
    by_test true = refl
    by_test false = refl

pub along_clear : Along clear clear_r
unfolding with_picture_id with_tl0 with_layers put_required put_picture_id put_tl0
along_clear =
    record {
      rest = λ c. refl;
      refusing = λ c. refl;
      saying = λ c. refl;
      id = λ c. id_cases c (eqb c.packet.i 1) (ltb (next c) 128);
      tl0 = λ c. tl0_cases c (eqb c.packet.l 1);
      layers = λ c. layers_cases c (eqb c.packet.t 1 || eqb c.packet.k 1);
    }
  where
    id_cases : (c : Stage) (b s : Bool) →
        cond b (cond s (taken put_picture_id (clear c)) (past 2 (put_picture_id (u16_at c.rest 0 % 32768) (without_x c.packet)) (clear c))) (clear c)
        ≡ clear (cond b (cond s (taken put_picture_id c) (past 2 (put_picture_id (u16_at c.rest 0 % 32768) c.packet) c)) c)
    id_cases c true true = refl
    id_cases c true false = refl
    id_cases c false true = refl
    id_cases c false false = refl

    tl0_cases : (c : Stage) (b : Bool) → cond b (taken put_tl0 (clear c)) (clear c) ≡ clear (cond b (taken put_tl0 c) c)
    tl0_cases c true = refl
    tl0_cases c false = refl

    layers_cases : (c : Stage) (b : Bool) → cond b (taken set_indices (clear c)) (clear c) ≡ clear (cond b (taken set_indices c) c)
    layers_cases c true =
        ap (λ (p : Vp8Packet). past 1 p c)
        (ap (set_key (next c)) (tid_clear (next c) c.packet) ∙ key_clear (next c) (set_tid (next c) c.packet))
    layers_cases c false = refl
