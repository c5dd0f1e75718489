-- The search finds the places at which `cut` cuts: from a start code found to the piece before it and the pieces behind it.
-- Assumes nothing.
use mathlib.Core.Path.{◌≡◌, refl, sym, ap, ap₂, subst, ◌∙◌}
use mathlib.Core.List.{List, [], ◌∷◌, ◌++◌, append-nil, append_assoc}
use mathlib.Core.Bool.{Bool, true, false, cond, true≢false}
use Prim.Native.Nat.{ℕ, suc, ◌+◌, ◌-◌, ◌≤◌, ◌<◌}
use native.Mathlib.Omega.{arith}
use lib.Dec.{eqb}
use lib.ListN.{length, take, drop, replicate, length-replicate, replicate-append-replicate, length-drop}
use lib.Seq.{take-append-add, take_all, length-take-le, drop-drop}
use borrow.Author.Tests.{eqb-true}
use Rattle.annexb.specs.declared.Code.{Code}
use Rattle.std.specs.Prelude.{Option, Some, None, MatchOption}
use Rattle.annexb.specs.declared.Piece.{Piece}
use Rattle.annexb.specs.Search.{zeros_by, ends_code, scan, next_code, code_of}
use Rattle.annexb.specs.Units.{Cut, cut, cut_by, pieces, units, units_of_cut, pieces_at, Pieced}
use Rattle.annexb.proofs.Codes.{no_one}

-- no start code: one piece
pub record Whole (s : List ℕ) (z : ℕ) : Type 0 where
  pub before : (cut s z).before ≡ replicate z 0 ++ s
  pub behind : (cut s z).behind ≡ []

-- a start code of n bytes at the place p
pub record Parted (s : List ℕ) (at z p n : ℕ) : Type 0 where
  pub low : at ≤ p + z
  pub some : 0 < n
  pub past : at < p + n
  pub high : p + n ≤ at + length s
  pub before : (cut s z).before ≡ take (p + z - at) (replicate z 0 ++ s)
  pub behind : (cut s z).behind ≡ pieces (drop (p + n - at) s)

abbrev pub Told : Option Code → List ℕ → ℕ → ℕ → Type 0
Told None s at z = Whole s z
Told (Some c) s at z = Parted s at z c.at c.len

-- a zero counted is a zero at the front of what follows
pub zero_on : (z : ℕ) (s : List ℕ) → replicate (z + 1) 0 ++ s ≡ replicate z 0 ++ (0 ∷ s)
zero_on z s = ap (λ (l : List ℕ). l ++ s) (sym (replicate-append-replicate z 1 0)) ∙ append_assoc (replicate z 0) (0 ∷ []) s

module _ (b : ℕ) (s : List ℕ) (at z : ℕ) (h : z ≤ at) where
  cut_turn : (is_zero is_code : Bool) → eqb b 0 ≡ is_zero → ends_code b z ≡ is_code →
      cut (b ∷ s) z ≡ cut_by is_zero is_code b z (cut s (zeros_by is_zero z))
  cut_turn is_zero is_code e q = ap₂ (λ (x y : Bool). cut_by x y b z (cut s (zeros_by x z))) e q

  -- behind a start code that ends further on
  further : (p n : ℕ) → at + 1 < p + n → pieces (drop (p + n - (at + 1)) s) ≡ pieces (drop (p + n - at) (b ∷ s))
  further p n g =
      let k : p + n - at ≡ suc (p + n - (at + 1)) = omega arith in
      sym (ap (λ (i : ℕ). pieces (drop i (b ∷ s))) k)

  zero_turn : (f : Option Code) → eqb b 0 ≡ true → Told f s (at + 1) (z + 1) → Told f (b ∷ s) at z
  zero_turn None e w =
      let e0 : b ≡ 0 = eqb-true b 0 e in
      let same = cut_turn true false e (no_one b z (λ q. omega arith)) in
      record {
        before = ap (λ (c : Cut). c.before) same ∙ w.before ∙ zero_on z s ∙ ap (λ (x : ℕ). replicate z 0 ++ (x ∷ s)) (sym e0);
        behind = ap (λ (c : Cut). c.behind) same ∙ w.behind;
      }
  zero_turn (Some c) e w =
      let p = c.at in
      let n = c.len in
      let e0 : b ≡ 0 = eqb-true b 0 e in
      let same = cut_turn true false e (no_one b z (λ q. omega arith)) in
      let k : p + (z + 1) - (at + 1) ≡ p + z - at = omega arith in
      record {
        low = omega (arith, w.low);
        some = w.some;
        past = omega (arith, w.past);
        high = omega (arith, w.high);
        before = ap (λ (c : Cut). c.before) same ∙ w.before
            ∙ ap₂ (λ (i : ℕ) (l : List ℕ). take i l) k (zero_on z s ∙ ap (λ (x : ℕ). replicate z 0 ++ (x ∷ s)) (sym e0));
        behind = ap (λ (c : Cut). c.behind) same ∙ w.behind ∙ further p n w.past;
      }

  code_turn : eqb b 0 ≡ false → ends_code b z ≡ true → Told (Some (record { at = at - z; len = z + 1 })) (b ∷ s) at z
  unfolding pieces
  code_turn e q =
      let same = cut_turn false true e q in
      let none : at - z + z - at ≡ 0 = omega arith in
      let one : at - z + (z + 1) - at ≡ 1 = omega arith in
      record {
        low = omega arith;
        some = omega arith;
        past = omega arith;
        high = omega arith;
        before = ap (λ (c : Cut). c.before) same ∙ sym (ap (λ (i : ℕ). take i (replicate z 0 ++ (b ∷ s))) none);
        behind = ap (λ (c : Cut). c.behind) same ∙ sym (ap (λ (i : ℕ). pieces (drop i (b ∷ s))) one);
      }

  -- the piece before a start code that ends further on
  longer : (k : ℕ) → replicate z 0 ++ (b ∷ take k s) ≡ take (z + suc k) (replicate z 0 ++ (b ∷ s))
  longer k =
      sym (take-append-add (replicate z 0) (b ∷ s) (suc k))
      ∙ ap (λ (i : ℕ). take (i + suc k) (replicate z 0 ++ (b ∷ s))) (length-replicate {A = ℕ} z 0)

  other_turn : (f : Option Code) → eqb b 0 ≡ false → ends_code b z ≡ false → Told f s (at + 1) 0 → Told f (b ∷ s) at z
  other_turn None e q w =
      let same = cut_turn false false e q in
      record {
        before = ap (λ (c : Cut). c.before) same ∙ ap (λ (l : List ℕ). replicate z 0 ++ (b ∷ l)) w.before;
        behind = ap (λ (c : Cut). c.behind) same ∙ w.behind;
      }
  other_turn (Some c) e q w =
      let p = c.at in
      let n = c.len in
      let same = cut_turn false false e q in
      let size : z + suc (p + 0 - (at + 1)) ≡ p + z - at = omega (arith, w.low) in
      record {
        low = omega (arith, w.low);
        some = w.some;
        past = omega (arith, w.past);
        high = omega (arith, w.high);
        before = ap (λ (c : Cut). c.before) same ∙ ap (λ (l : List ℕ). replicate z 0 ++ (b ∷ l)) w.before
            ∙ longer (p + 0 - (at + 1)) ∙ ap (λ (i : ℕ). take i (replicate z 0 ++ (b ∷ s))) size;
        behind = ap (λ (c : Cut). c.behind) same ∙ w.behind ∙ further p n w.past;
      }

pub told : (s : List ℕ) (at z : ℕ) → z ≤ at → Told (scan s at z) s at z
told [] at z h = record { before = sym (append-nil (replicate z 0)); behind = refl }
told (b ∷ s) at z h = go (eqb b 0) (ends_code b z) refl refl (λ k g. told s (at + 1) k g)
  where
    go : (is_zero is_code : Bool) → eqb b 0 ≡ is_zero → ends_code b z ≡ is_code → ((k : ℕ) → k ≤ at + 1 → Told (scan s (at + 1) k) s (at + 1) k) →
        Told (cond is_code (Some (record { at = at - z; len = z + 1 })) (scan s (at + 1) (zeros_by is_zero z))) (b ∷ s) at z
    go true true e q again = absurd (true≢false (sym q ∙ no_one b z (λ o. let e0 : b ≡ 0 = eqb-true b 0 e in omega arith)))
    go true false e q again = zero_turn b s at z h (scan s (at + 1) (z + 1)) e (again (z + 1) (omega arith))
    go false true e q again = code_turn b s at z h e q
    go false false e q again = other_turn b s at z h (scan s (at + 1) 0) e q (again 0 (omega arith))

-- ---- the same, said of a frame

told_of : (frame : List ℕ) (start : ℕ) (f : Option Code) → next_code frame start ≡ f → Told f (drop start frame) start 0
unfolding next_code
told_of frame start f e = subst (λ (x : Option Code). Told x (drop start frame) start 0) e (told (drop start frame) start 0 (omega arith))

-- behind a start code, counted from the frame's first byte
module _ (frame : List ℕ) (start p n : ℕ) (h : start ≤ length frame) (w : Parted (drop start frame) start 0 p n) where
  next_within : p + n ≤ length frame
  next_within = let l : length (drop start frame) ≡ length frame - start = length-drop start frame in omega (arith, w.high)

  behind_it : (cut (drop start frame) 0).behind ≡ pieces (drop (p + n) frame)
  behind_it =
      let k : start + (p + n - start) ≡ p + n = omega (arith, w.past) in
      w.behind ∙ ap pieces (drop-drop (p + n - start) start frame ∙ ap (λ (i : ℕ). drop i frame) k)

  pub pieced_at : Pieced frame start (record { end = p; next = Some (p + n) })
  unfolding pieces
  pieced_at =
      let k : p + 0 - start ≡ p - start = omega arith in
      record {
        from = omega (arith, w.low);
        within = omega (arith, next_within);
        onward = (omega (arith, w.some), next_within);
        same =
            ap₂ (λ (l : List ℕ) (r : List (List ℕ)). l ∷ r)
            (w.before ∙ ap (λ (i : ℕ). take i (drop start frame)) k) behind_it;
      }

pub piece_at : (frame : List ℕ) (start p n : ℕ) → start ≤ length frame → next_code frame start ≡ Some (record { at = p; len = n }) →
    Pieced frame start (record { end = p; next = Some (p + n) })
piece_at frame start p n h e = pieced_at frame start p n h (told_of frame start (Some (record { at = p; len = n })) e)

pub piece_last : (frame : List ℕ) (start : ℕ) → start ≤ length frame → next_code frame start ≡ None →
    Pieced frame start (record { end = length frame; next = None })
unfolding pieces
piece_last frame start h e =
    let w = told_of frame start None e in
    let l : length (drop start frame) ≡ length frame - start = length-drop start frame in
    record {
      from = h;
      within = omega arith;
      onward = tt;
      same =
          ap₂ (λ (l : List ℕ) (r : List (List ℕ)). l ∷ r)
          (w.before ∙ sym (take_all (length frame - start) (drop start frame) (omega arith))) w.behind;
    }

pub first_at : (frame : List ℕ) (p n : ℕ) → next_code frame 0 ≡ Some (record { at = p; len = n }) →
    (p + n ≤ length frame) × (pieces (drop (p + n) frame) ≡ units frame)
unfolding units pieces
first_at frame p n e =
    let w = told_of frame 0 (Some (record { at = p; len = n })) e in (
      next_within frame 0 p n (omega arith) w,
      sym (ap (units_of_cut (cut frame 0).before) (behind_it frame 0 p n (omega arith) w)),
    )

pub first_none : (frame : List ℕ) → next_code frame 0 ≡ None → pieces (drop 0 frame) ≡ units frame
unfolding units pieces
first_none frame e =
    let w = told_of frame 0 None e in
    ap (λ (r : List (List ℕ)). (cut frame 0).before ∷ r) w.behind ∙ sym (ap (units_of_cut (cut frame 0).before) w.behind)

-- ---- a piece as the code lends it

pub piece_length : (frame : List ℕ) (start : ℕ) (p : Piece) → Pieced frame start p →
    length (take (p.end - start) (drop start frame)) ≡ p.end - start
piece_length frame start p w =
    length-take-le (p.end - start) (drop start frame) (rw (length-drop start frame) (omega (arith, w.within)))

module _ (frame : List ℕ) (start : ℕ) (p : Piece) (w : Pieced frame start p) where
  pub piece_onward : (next : ℕ) → p.next ≡ Some next → (p.end < next) × (next ≤ length frame)
  piece_onward next e = subst (λ (o : Option ℕ). MatchOption o (Unit {0}) (λ n. (p.end < n) × (n ≤ length frame))) e w.onward

  -- the piece, then those behind it
  pub piece_more : (next : ℕ) → p.next ≡ Some next → pieces (drop start frame) ≡ take (p.end - start) (drop start frame) ∷ pieces (drop next frame)
  piece_more next e = w.same ∙ ap (λ (o : Option ℕ). take (p.end - start) (drop start frame) ∷ pieces_at frame o) e

  pub piece_end : p.next ≡ None → pieces (drop start frame) ≡ take (p.end - start) (drop start frame) ∷ []
  piece_end e = w.same ∙ ap (λ (o : Option ℕ). take (p.end - start) (drop start frame) ∷ pieces_at frame o) e

-- ---- a start code in two numbers

-- what is so of the place and the length of a start code found, and of two zeros where none is
pub by_code : (frame : List ℕ) (start : ℕ) (c : Code) → c ≡ code_of (next_code frame start) → (T : Code → Type 0) →
    ((p n : ℕ) → next_code frame start ≡ Some (record { at = p; len = n }) → 0 < n → T (record { at = p; len = n })) →
    (next_code frame start ≡ None → T (record { at = 0; len = 0 })) → T c
by_code frame start c e T found none = subst T (sym e) (go (next_code frame start) refl)
  where
    go : (f : Option Code) → next_code frame start ≡ f → T (code_of f)
    go (Some c) q = found c.at c.len q (told_of frame start (Some c) q).some
    go None q = none q

pub code_within : (frame : List ℕ) (start : ℕ) → start ≤ length frame → (c : Code) → c ≡ code_of (next_code frame start) → c.at + c.len ≤ length frame
code_within frame start h c e =
    by_code frame start c e (λ (x : Code). x.at + x.len ≤ length frame) (λ p n q some. (piece_at frame start p n h q).onward.1) (λ q. omega arith)
