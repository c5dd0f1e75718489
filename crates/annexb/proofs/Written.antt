-- The units of a frame are those that an encoder wrote into it, each behind a start code, the zeros at the frame's end being part of
-- the last: zeros are only counted, a unit in which no start code lies is one piece, and each code ends one. Assumes nothing.
use mathlib.Core.Path.{◌≡◌, refl, sym, ap, ap₂, subst, ◌∙◌}
use mathlib.Core.List.{List, [], ◌∷◌, ◌++◌, append-nil, append_assoc}
use mathlib.Core.Bool.{Bool, true, false, and-eq-true_iff}
use Prim.Native.Nat.{ℕ, zero, suc, ◌+◌, ◌-◌, ◌≤◌}
use native.Mathlib.Nat.{zero-add, add-zero}
use native.Mathlib.Numerals.{add-one}
use native.Mathlib.Omega.{arith}
use lib.Dec.{eqb, leb}
use lib.ListN.{length, replicate, length-append, replicate-append-replicate}
use borrow.Author.Tests.{eqb-true, leb-true, le-leb}
use Rattle.wire.specs.Each.{Each}
use Rattle.annexb.specs.Search.{zeros_by, ends_code}
use Rattle.annexb.specs.Units.{Cut, cut, cut_by, units, units_of_cut}
use Rattle.annexb.specs.AnnexB.{Prefixed, written, Apart, units_written}
use Rattle.annexb.proofs.Pieces.{zero_on}

-- ---- zeros

-- zeros are counted
cut_zeros : (n z : ℕ) (s : List ℕ) → cut (replicate n 0 ++ s) z ≡ cut s (z + n)
cut_zeros zero z s = ap (cut s) (sym (add-zero z))
cut_zeros (suc n) z s = cut_zeros n (z + 1) s ∙ ap (cut s) (omega arith)

-- ---- a unit

-- a list that is apart is so without its first bytes
apart_rest : (xs u : List ℕ) → Apart (xs ++ u) → Apart u
apart_rest xs u p =
    record {
      no_code = λ a b e. p.no_code (xs ++ a) b (ap (λ (l : List ℕ). xs ++ l) e ∙ sym (append_assoc xs a (0 ∷ 0 ∷ 1 ∷ b)));
      no_zero = λ a e. p.no_zero (xs ++ a) (ap (λ (l : List ℕ). xs ++ l) e ∙ sym (append_assoc xs a (0 ∷ [])));
    }

-- a unit before which z zeros stand is one piece with what stands before the next start code
abbrev Onto : ℕ → List ℕ → List ℕ → Type 0
Onto z u rest = cut (u ++ rest) z ≡ record { before = replicate z 0 ++ (u ++ (cut rest 0).before); behind = (cut rest 0).behind }

cut_unit : (u : List ℕ) (z : ℕ) (rest : List ℕ) → Apart (replicate z 0 ++ u) → Onto z u rest
cut_unit [] zero rest p = refl
cut_unit [] (suc k) rest p = absurd (p.no_zero (replicate k 0) (sym (ap (λ (n : ℕ). replicate n 0 ++ []) (add-one k)) ∙ zero_on k []))
cut_unit (b ∷ s) z rest p = go (eqb b 0) (ends_code b z) refl refl (λ k q. cut_unit s k rest q)
  where
    turn : (is_zero is_code : Bool) → eqb b 0 ≡ is_zero → ends_code b z ≡ is_code →
        cut (b ∷ (s ++ rest)) z ≡ cut_by is_zero is_code b z (cut (s ++ rest) (zeros_by is_zero z))
    turn is_zero is_code e q = ap₂ (λ (x y : Bool). cut_by x y b z (cut (s ++ rest) (zeros_by x z))) e q

    go : (is_zero is_code : Bool) → eqb b 0 ≡ is_zero → ends_code b z ≡ is_code → ((k : ℕ) → Apart (replicate k 0 ++ s) → Onto k s rest) → Onto z (b ∷ s) rest
    go true is_code e q again =
        let e0 : b ≡ 0 = eqb-true b 0 e in
        let on : (l : List ℕ) → replicate (z + 1) 0 ++ l ≡ replicate z 0 ++ (b ∷ l) =
        λ l. zero_on z l ∙ ap (λ (x : ℕ). replicate z 0 ++ (x ∷ l)) (sym e0) in
        turn true is_code e q
        ∙ again (z + 1) (subst Apart (sym (on s)) p)
        ∙ ap (λ (l : List ℕ). record { before = l; behind = (cut rest 0).behind }) (on (s ++ (cut rest 0).before))
    go false true e q again =
        let two = (and-eq-true_iff (eqb b 1) (leb 2 z)).0 q in
        let e1 : b ≡ 1 = eqb-true b 1 two.0 in
        let long : 2 ≤ z = leb-true 2 z two.1 in
        let k : z - 2 + 2 ≡ z = omega arith in
        absurd (p.no_code (replicate (z - 2) 0) s
        (ap₂ (λ (n x : ℕ). replicate n 0 ++ (x ∷ s)) (sym k) e1
        ∙ ap (λ (l : List ℕ). l ++ (1 ∷ s)) (sym (replicate-append-replicate (z - 2) 2 0))
        ∙ append_assoc (replicate (z - 2) 0) (0 ∷ 0 ∷ []) (1 ∷ s)))
    go false false e q again =
        let alone : Apart s = apart_rest (replicate z 0 ++ (b ∷ [])) s (subst Apart (sym (append_assoc (replicate z 0) (b ∷ []) s)) p) in
        turn false false e q ∙ ap (cut_by false false b z) (again 0 alone)

-- ---- a frame

-- behind a start code
cut_code : (more : ℕ) (s : List ℕ) → cut (replicate (2 + more) 0 ++ (1 ∷ s)) 0 ≡ record { before = []; behind = (cut s 0).before ∷ (cut s 0).behind }
cut_code more s =
    let k : 2 ≤ 0 + (2 + more) = omega arith in
    cut_zeros (2 + more) 0 (1 ∷ s)
    ∙ ap (λ (b : Bool). cut_by false b 1 (0 + (2 + more)) (cut s 0)) (le-leb 2 (0 + (2 + more)) k)

abbrev Found : ℕ → List Prefixed → Type 0
Found end cs = (cut (written end cs) 0).behind ≡ units_written end cs

none_before : (end : ℕ) (c : Prefixed) (cs : List Prefixed) → (cut (written end (c ∷ cs)) 0).before ≡ []
none_before end c cs = ap (λ (x : Cut). x.before) (cut_code c.more (c.unit ++ written end cs))

-- a unit, then the others
found_cons : (end : ℕ) (c : Prefixed) (cs : List Prefixed) → Apart c.unit → Found end cs → (b : List ℕ) → (cut (written end cs) 0).before ≡ b →
    (cut (written end (c ∷ cs)) 0).behind ≡ (c.unit ++ b) ∷ units_written end cs
found_cons end c cs p f b e =
    ap (λ (x : Cut). x.behind) (cut_code c.more (c.unit ++ written end cs))
    ∙ ap (λ (x : Cut). x.before ∷ x.behind) (cut_unit c.unit 0 (written end cs) p)
    ∙ ap₂ (λ (l : List ℕ) (r : List (List ℕ)). (c.unit ++ l) ∷ r) e f

-- zeros alone hold no start code
only_zeros : (end : ℕ) → cut (replicate end 0) 0 ≡ record { before = replicate end 0; behind = [] }
only_zeros end =
    ap (λ (l : List ℕ). cut l 0) (sym (append-nil (replicate end 0)))
    ∙ cut_zeros end 0 []
    ∙ ap (λ (n : ℕ). record { before = replicate n 0; behind = [] }) (zero-add end)

found : (end : ℕ) (cs : List Prefixed) → Each (λ (c : Prefixed). Apart c.unit) cs → Found end cs
found end [] p = ap (λ (x : Cut). x.behind) (only_zeros end)
found end (c ∷ []) p = found_cons end c [] p.0 (found end [] tt) (replicate end 0) (ap (λ (x : Cut). x.before) (only_zeros end))
found end (c ∷ d ∷ cs) p =
    found_cons end c (d ∷ cs) p.0 (found end (d ∷ cs) p.1) [] (none_before end d cs)
    ∙ ap (λ (l : List ℕ). l ∷ units_written end (d ∷ cs)) (append-nil c.unit)

pub units_found : (end : ℕ) (c : Prefixed) (cs : List Prefixed) → Each (λ (x : Prefixed). Apart x.unit) (c ∷ cs) →
    units (written end (c ∷ cs)) ≡ units_written end (c ∷ cs)
unfolding units
units_found end c cs p =
    ap (units_of_cut (cut (written end (c ∷ cs)) 0).before) (found end (c ∷ cs) p) ∙ go c cs
  where
    go : (x : Prefixed) (xs : List Prefixed) → units_of_cut (cut (written end (c ∷ cs)) 0).before (units_written end (x ∷ xs)) ≡ units_written end (x ∷ xs)
    go x [] = refl
    go x (y ∷ ys) = refl

-- a frame with a start code in it is not empty
pub frame_some : (end : ℕ) (c : Prefixed) (cs : List Prefixed) → length (written end (c ∷ cs)) ≡ 0 → ⊥
frame_some end c cs e =
    let l : length (replicate (2 + c.more) 0 ++ (1 ∷ (c.unit ++ written end cs))) ≡
    length {A = ℕ} (replicate (2 + c.more) 0) + length (1 ∷ (c.unit ++ written end cs)) =
    length-append (replicate (2 + c.more) 0) (1 ∷ (c.unit ++ written end cs)) in
    omega arith
