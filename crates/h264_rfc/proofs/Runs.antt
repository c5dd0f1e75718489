-- What came since the last joined unit is the FU-As of one unit, or deviates, and never both: each rule of 5.8 on them is a test of fields that fit
-- into their bits. Assumes nothing.
use mathlib.Core.Path.{◌≡◌, refl, sym, ap, ap₂, subst, ◌∙◌}
use mathlib.Core.List.{List, [], ◌∷◌, ◌++◌, map, map-map, append_assoc}
use mathlib.Core.Logic.{◌⊎◌, inl, inr}
use Prim.Native.Nat.{ℕ, ◌/◌, ◌%◌, ◌≤◌, ◌<◌}
use native.Mathlib.Decide.{dec_le, ℕ_discrete}
use native.Mathlib.Nat.{lt_of_not-le}
use native.Mathlib.Omega.{arith}
use lib.ListN.{length, drop, get_or, length-append}
use Rattle.wire.specs.Packets.{joined}
use Rattle.rfc6184.specs.Sending.{Each, octet, octets_of, Part, Fragmented, fu_a, fragment, fu_header, payloads_of, body_of, UnitType, Formed, FormedPart, FormedSending, Lawful}
use Rattle.rfc6184.proofs.Each.{each_by, each_any, each_map}
use Rattle.rfc6184.proofs.Octets.{fields_of_octet, fields_of_header}
use Rattle.h264_rfc.specs.Loose.{Loose, loose_octets, LooseFormed, parts_of, loose_all, loose_unit, bare, unreserved}
use Rattle.h264_rfc.specs.Meaning.{Somewhere, Fragment, one_of, both_set, no_unit}
use Rattle.h264_rfc.specs.Runs.{Came, piece, passing, pieces_of, from_first, SameUnit, IsPassing, first_of, OneUnit, Deviates}
use Rattle.h264_rfc.specs.Runs as runs

-- ---- each, or somewhere

pub each_or_some : {A : Type 0} (R P Q : A → Type 0) → ((x : A) → R x → P x ⊎ Q x) → (xs : List A) → Each R xs → Each P xs ⊎ Somewhere Q xs
each_or_some R P Q f [] w = inl tt
each_or_some R P Q f (x ∷ xs) w = by (f x w.0) (each_or_some R P Q f xs w.1)
  where
    by : P x ⊎ Q x → Each P xs ⊎ Somewhere Q xs → (P x × Each P xs) ⊎ (Q x ⊎ Somewhere Q xs)
    by (inr h) rest = inr (inl h)
    by (inl h) (inl rest) = inl (h, rest)
    by (inl h) (inr rest) = inr (inr rest)

not_some : {A : Type 0} (P Q : A → Type 0) → ((x : A) → P x → Q x → ⊥) → (xs : List A) → Each P xs → Somewhere Q xs → ⊥
not_some P Q never [] w h = h
not_some P Q never (x ∷ xs) w (inl h) = never x w.0 h
not_some P Q never (x ∷ xs) w (inr h) = not_some P Q never xs w.1 h

each_split : {A : Type 0} (P : A → Type 0) (xs ys : List A) → Each P (xs ++ ys) → Each P xs × Each P ys
each_split P [] ys w = (tt, w)
each_split P (x ∷ xs) ys w = let r = each_split P xs ys w.1 in ((w.0, r.0), r.1)

-- ---- the tests

a_bit : (n : ℕ) → n < 2 → (n ≡ 0) ⊎ (n ≡ 1)
a_bit n h = by (dec_le n 0)
  where
    by : Dec (n ≤ 0) → (n ≡ 0) ⊎ (n ≡ 1)
    by (yes z) = inl (omega arith)
    by (no z) = inr (omega (arith, lt_of_not-le z))

unit_type : (t : ℕ) → UnitType t ⊎ (UnitType t → ⊥)
unit_type t = by (dec_le 1 t) (dec_le t 23)
  where
    by : Dec (1 ≤ t) → Dec (t ≤ 23) → UnitType t ⊎ (UnitType t → ⊥)
    by (yes h) (yes g) = inl (record { low = h; high = g })
    by (yes h) (no g) = inr (λ u. g u.high)
    by (no h) g = inr (λ u. h u.low)

same_unit : (x l : Loose) → SameUnit x l ⊎ (SameUnit x l → ⊥)
same_unit x l = by (ℕ_discrete x.of.f l.of.f) (ℕ_discrete x.of.nri l.of.nri) (ℕ_discrete x.of.type l.of.type)
  where
    by : Dec (x.of.f ≡ l.of.f) → Dec (x.of.nri ≡ l.of.nri) → Dec (x.of.type ≡ l.of.type) → SameUnit x l ⊎ (SameUnit x l → ⊥)
    by (yes f) (yes n) (yes t) = inl (f, n, t)
    by (yes f) (yes n) (no t) = inr (λ s. t s.2)
    by (yes f) (no n) t = inr (λ s. n s.1)
    by (no f) n t = inr (λ s. f s.0)

-- ---- Reserved bits aside

lawful_bare : (g : Fragmented) → FormedSending (fu_a g) → UnitType g.type → Lawful (fu_a (unreserved g))
lawful_bare g k t =
    record {
      formed = (k.0, omega arith, each_map FormedPart bare g.middle (each_any (λ (p : Part). FormedPart (bare p)) (λ p. omega arith) g.middle), omega arith);
      rules = (t, refl, each_map (λ (p : Part). p.reserved ≡ 0) bare g.middle (each_any (λ (p : Part). (bare p).reserved ≡ 0) (λ p. refl) g.middle), refl);
    }

-- ---- a fragment by itself

abbrev in_unit : Loose → List Part → Fragmented
in_unit x middle =
    record { f = x.of.f; nri = x.of.nri; type = x.of.type; first = x.part; middle = middle; last = x.part }

pub fragment_kind : (e : ℕ) (x : Loose) → LooseFormed x → e < 2 → Fragment e x
unfolding fragment
fragment_kind e x w he = by (unit_type x.of.type) (a_bit x.start w.start_bit) (a_bit e he)
  where
    among : (middle : List Part) → Each FormedPart middle → UnitType x.of.type →
        Somewhere (λ (q : List ℕ). loose_octets e x ≡ q) (payloads_of (fu_a (in_unit x middle))) → Fragment e x
    among middle v t h =
        let k : FormedSending (fu_a (in_unit x middle)) = (w.formed, w.part_formed, v, w.part_formed) in
        one_of (record { unit = in_unit x middle; formed = k; lawful = lawful_bare (in_unit x middle) k t; among = h })

    octets : (s d : ℕ) (middle : List Part) → x.start ≡ s → e ≡ d → loose_octets e x ≡ fragment (in_unit x middle) s d x.part
    octets s d middle p q = ap₂ (λ (s d : ℕ). fragment x.of s d x.part) p q

    by : UnitType x.of.type ⊎ (UnitType x.of.type → ⊥) → (x.start ≡ 0) ⊎ (x.start ≡ 1) → (e ≡ 0) ⊎ (e ≡ 1) → Fragment e x
    by (inr other) s d = no_unit other
    by (inl t) (inr s) (inr d) = both_set s d
    by (inl t) (inr s) (inl d) = among [] tt t (inl (octets 1 0 [] s d))
    by (inl t) (inl s) (inl d) = among (x.part ∷ []) (w.part_formed, tt) t (inr (inl (octets 0 0 (x.part ∷ []) s d)))
    by (inl t) (inl s) (inr d) = among [] tt t (inr (inl (octets 0 1 [] s d)))

-- ---- a run: the FU-As of one unit, or not

-- the first has the Start bit, and no other
abbrev StartsOnce : List Loose → Type 0
StartsOnce [] = ⊥
StartsOnce (x ∷ xs) = (x.start ≡ 1) × Each (λ (y : Loose). y.start ≡ 0) xs

-- the unit that fragments of one are of
abbrev whole_unit : Loose → List Loose → Loose → Fragmented
whole_unit x xs l =
    record {
      f = l.of.f;
      nri = l.of.nri;
      type = l.of.type;
      first = x.part;
      middle = map (λ (y : Loose). y.part) xs;
      last = l.part;
    }

module _ (l : Loose) (w : LooseFormed l) where
  starts_once : (ls : List Loose) → Each LooseFormed ls → l.start ≡ 0 →
      StartsOnce ls ⊎ (((first_of ls l).start ≡ 0) ⊎ Somewhere (λ (x : Loose). x.start ≡ 1) (drop 1 ls))
  starts_once [] v s = inr (inl s)
  starts_once (x ∷ xs) v s =
      by (a_bit x.start v.0.start_bit)
      (each_or_some LooseFormed (λ (y : Loose). y.start ≡ 0) (λ (y : Loose). y.start ≡ 1) (λ y k. a_bit y.start k.start_bit) xs v.1)
    where
      by : (x.start ≡ 0) ⊎ (x.start ≡ 1) → Each (λ (y : Loose). y.start ≡ 0) xs ⊎ Somewhere (λ (y : Loose). y.start ≡ 1) xs →
          StartsOnce (x ∷ xs) ⊎ ((x.start ≡ 0) ⊎ Somewhere (λ (y : Loose). y.start ≡ 1) xs)
      by (inl h) rest = inr (inl h)
      by (inr h) (inl rest) = inl (h, rest)
      by (inr h) (inr rest) = inr (inr rest)

  -- a fragment with l's fields is one of l's unit
  as_of : (g : Fragmented) → g.f ≡ l.of.f → g.nri ≡ l.of.nri → g.type ≡ l.of.type → (s e : ℕ) (y : Loose) → y.start ≡ s → SameUnit y l →
      loose_octets e y ≡ fragment g s e y.part
  unfolding fragment
  as_of g f n t s e y start same =
      λ i. octet ((same.0 ∙ sym f) i) ((same.1 ∙ sym n) i) 28 ∷ fu_header (start i) e y.part.reserved ((same.2 ∙ sym t) i) ∷ y.part.octets

  all_of : (g : Fragmented) → g.f ≡ l.of.f → g.nri ≡ l.of.nri → g.type ≡ l.of.type → (xs : List Loose) →
      Each (λ (y : Loose). y.start ≡ 0) xs → Each (λ (y : Loose). SameUnit y l) xs →
      map (loose_octets 0) xs ≡ map (fragment g 0 0) (map (λ (y : Loose). y.part) xs)
  all_of g f n t [] s same = refl
  all_of g f n t (y ∷ ys) s same =
      ap₂ (λ (q : List ℕ) (qs : List (List ℕ)). q ∷ qs) (as_of g f n t 0 0 y s.0 same.0) (all_of g f n t ys s.1 same.1)

  one_unit : (cs : List Came) (ls : List Loose) → pieces_of cs ≡ ls → Each LooseFormed ls → from_first cs ≡ map piece (pieces_of cs) → l.of.f ≡ 0 →
      l.start ≡ 0 → UnitType l.of.type → StartsOnce ls → Each (λ (x : Loose). SameUnit x l) ls → OneUnit cs l
  unfolding octets_of
  one_unit cs [] e v near f s t once same = absurd once
  one_unit cs (x ∷ xs) e v near f s t once same =
      record {
        unit = g;
        formed = k;
        lawful = lawful_bare g k t;
        f_clear = f;
        payloads =
            ap (λ (ls : List Loose). loose_all ls l) e
            ∙ (λ i. as_of g refl refl refl 1 0 x once.0 same.0 i
            ∷ (all_of g refl refl refl xs once.1 same.1 i ++ (as_of g refl refl refl 0 1 l s (refl, refl, refl) i ∷ [])));
        adjacent = near;
        joined = ap (λ (ls : List Loose). loose_unit ls l ∷ []) e ∙ ap₂ (λ (f : ℕ) (b : List ℕ). (octet f l.of.nri l.of.type ∷ b) ∷ []) (sym f) body;
      }
    where
      g : Fragmented
      g = whole_unit x xs l

      k : FormedSending (fu_a g)
      k = (
        w.formed,
        v.0.part_formed,
        each_map FormedPart (λ (y : Loose). y.part) xs (each_by (λ (y : Loose). FormedPart y.part) LooseFormed (λ y u. u.part_formed) xs v.1),
        w.part_formed,
      )

      body : parts_of (x ∷ xs) ++ l.part.octets ≡ body_of g
      body =
          append_assoc x.part.octets (parts_of xs) l.part.octets
          ∙ ap (λ (ps : List (List ℕ)). x.part.octets ++ (joined ps ++ l.part.octets)) (sym (map-map (λ (p : Part). p.octets) (λ (y : Loose). y.part) xs))

  -- nothing came between the fragments, or something did
  no_other : (cs : List Came) → (cs ≡ map piece (pieces_of cs)) ⊎ Somewhere IsPassing cs
  no_other [] = inl refl
  no_other (passing p ∷ cs) = inr (inl tt)
  no_other (piece x ∷ cs) = by (no_other cs)
    where
      by : (cs ≡ map piece (pieces_of cs)) ⊎ Somewhere IsPassing cs → (piece x ∷ cs ≡ piece x ∷ map piece (pieces_of cs)) ⊎ (⊥ ⊎ Somewhere IsPassing cs)
      by (inl e) = inl (ap (λ (l : List Came). piece x ∷ l) e)
      by (inr h) = inr (inr h)

  none_between : (cs : List Came) → (from_first cs ≡ map piece (pieces_of cs)) ⊎ Somewhere IsPassing (from_first cs)
  none_between [] = inl refl
  none_between (passing p ∷ cs) = none_between cs
  none_between (piece x ∷ cs) = no_other (piece x ∷ cs)

  pub one_or_deviates : (cs : List Came) → Each LooseFormed (pieces_of cs) → OneUnit cs l ⊎ Deviates cs l
  one_or_deviates cs v =
      by_fields (a_bit l.of.f w.formed.f_bit) (a_bit l.start w.start_bit) (unit_type l.of.type) (none_between cs)
      (each_or_some LooseFormed (λ (x : Loose). SameUnit x l) (λ (x : Loose). SameUnit x l → ⊥) (λ x k. same_unit x l) (pieces_of cs) v)
    where
      by_starts : l.of.f ≡ 0 → l.start ≡ 0 → UnitType l.of.type → from_first cs ≡ map piece (pieces_of cs) →
          Each (λ (x : Loose). SameUnit x l) (pieces_of cs) →
          StartsOnce (pieces_of cs) ⊎ (((first_of (pieces_of cs) l).start ≡ 0) ⊎ Somewhere (λ (x : Loose). x.start ≡ 1) (drop 1 (pieces_of cs))) →
          OneUnit cs l ⊎ Deviates cs l
      by_starts f s t near same (inl once) = inl (one_unit cs (pieces_of cs) refl v near f s t once same)
      by_starts f s t near same (inr (inl h)) = inr (runs.no_start h)
      by_starts f s t near same (inr (inr h)) = inr (runs.starts_again h)

      by_fields : (l.of.f ≡ 0) ⊎ (l.of.f ≡ 1) → (l.start ≡ 0) ⊎ (l.start ≡ 1) → UnitType l.of.type ⊎ (UnitType l.of.type → ⊥) →
          (from_first cs ≡ map piece (pieces_of cs)) ⊎ Somewhere IsPassing (from_first cs) →
          Each (λ (x : Loose). SameUnit x l) (pieces_of cs) ⊎ Somewhere (λ (x : Loose). SameUnit x l → ⊥) (pieces_of cs) → OneUnit cs l ⊎ Deviates cs l
      by_fields (inr h) s t near same = inr (runs.f_set h)
      by_fields (inl f) (inr h) t near same = inr (runs.both_set h)
      by_fields (inl f) (inl s) (inr h) near same = inr (runs.no_unit h)
      by_fields (inl f) (inl s) (inl t) (inr h) same = inr (runs.not_adjacent h)
      by_fields (inl f) (inl s) (inl t) (inl near) (inr h) = inr (runs.differs h)
      by_fields (inl f) (inl s) (inl t) (inl near) (inl same) = by_starts f s t near same (starts_once (pieces_of cs) v s)

-- ---- never both

-- the payload bears the unit's F, NRI and type
abbrev Bears : Fragmented → List ℕ → Type 0
Bears g q = (get_or q 0 0 / 128 ≡ g.f) × (get_or q 0 0 / 32 % 4 ≡ g.nri) × (get_or q 1 0 % 32 ≡ g.type)

-- its Start bit
abbrev start_of : List ℕ → ℕ
start_of q = get_or q 1 0 / 128

told : (x : Loose) (e : ℕ) → LooseFormed x → e < 2 → Bears x.of (loose_octets e x) × (start_of (loose_octets e x) ≡ x.start)
unfolding fragment
told x e w he =
    let k : Formed x.of.f x.of.nri 28 =
    record { f_bit = w.formed.f_bit; nri_bits = w.formed.nri_bits; type_bits = omega arith } in
    let o = fields_of_octet x.of.f x.of.nri 28 k in
    let h = fields_of_header x.start e x.part.reserved x.of.type w.start_bit he w.part_formed w.formed.type_bits in
    ((o.0, o.1, h.3), h.0)

module _ (g : Fragmented) (k : FormedSending (fu_a g)) where
  one_bears : (s e : ℕ) (p : Part) → s < 2 → e < 2 → FormedPart p → Bears g (fragment g s e p) × (start_of (fragment g s e p) ≡ s)
  unfolding fragment
  one_bears s e p hs he hp =
      let o = fields_of_octet g.f g.nri 28 (record { f_bit = k.0.f_bit; nri_bits = k.0.nri_bits; type_bits = omega arith }) in
      let h = fields_of_header s e p.reserved g.type hs he hp k.0.type_bits in
      ((o.0, o.1, h.3), h.0)

  later_bear : (ps : List Part) → Each FormedPart ps →
      Each (λ (q : List ℕ). Bears g q × (start_of q ≡ 0)) (map (fragment g 0 0) ps ++ (fragment g 0 1 g.last ∷ []))
  later_bear [] v = (one_bears 0 1 g.last (omega arith) (omega arith) k.3, tt)
  later_bear (p ∷ ps) v = (one_bears 0 0 p (omega arith) (omega arith) v.0, later_bear ps v.1)

-- the fragments of one unit have its fields and one Start bit
record Alike (g : Fragmented) (ls : List Loose) (l : Loose) : Type 0 where
  first : Loose
  others : List Loose
  are : ls ≡ first ∷ others
  starts : first.start ≡ 1
  no_others : Each (λ (x : Loose). x.start ≡ 0) others
  last_not : l.start ≡ 0
  last_same : (l.of.f ≡ g.f) × (l.of.nri ≡ g.nri) × (l.of.type ≡ g.type)
  same : Each (λ (x : Loose). SameUnit x l) ls

alike : (g : Fragmented) (ls : List Loose) (l : Loose) → FormedSending (fu_a g) → Each LooseFormed ls → LooseFormed l →
    loose_all ls l ≡ payloads_of (fu_a g) → Alike g ls l
alike g [] l k v w e =
    absurd (omega (arith, ap length e, length-append (map (fragment g 0 0) g.middle) (fragment g 0 1 g.last ∷ [])))
alike g (x ∷ xs) l k v w e =
    record {
      first = x;
      others = xs;
      are = refl;
      starts = start x 0 1 v.0 (omega arith) head;
      no_others = each_start xs v.1 later.0;
      last_not = start l 1 0 w (omega arith) later.1.0;
      last_same = last;
      same = (alike_to x 0 v.0 (omega arith) head, each_same xs v.1 later.0);
    }
  where
    At : ℕ → List ℕ → Type 0
    At s q = Bears g q × (start_of q ≡ s)

    head : At 1 (loose_octets 0 x)
    head =
        subst (At 1) (sym (ap (λ (ps : List (List ℕ)). get_or ps 0 []) e)) (one_bears g k 1 0 g.first (omega arith) (omega arith) k.1)

    later : Each (At 0) (map (loose_octets 0) xs) × Each (At 0) (loose_octets 1 l ∷ [])
    later =
        each_split (At 0) (map (loose_octets 0) xs) (loose_octets 1 l ∷ [])
        (subst (Each (At 0)) (sym (ap (λ (ps : List (List ℕ)). drop 1 ps) e)) (later_bear g k g.middle k.2))

    fields : (y : Loose) (d s : ℕ) → LooseFormed y → d < 2 → At s (loose_octets d y) → (y.of.f ≡ g.f) × (y.of.nri ≡ g.nri) × (y.of.type ≡ g.type)
    fields y d s u hd a = let t = (told y d u hd).0 in (sym t.0 ∙ a.0.0, sym t.1 ∙ a.0.1, sym t.2 ∙ a.0.2)

    start : (y : Loose) (d s : ℕ) → LooseFormed y → d < 2 → At s (loose_octets d y) → y.start ≡ s
    start y d s u hd a = sym (told y d u hd).1 ∙ a.1

    last : (l.of.f ≡ g.f) × (l.of.nri ≡ g.nri) × (l.of.type ≡ g.type)
    last = fields l 1 0 w (omega arith) later.1.0

    alike_to : (y : Loose) {s : ℕ} (d : ℕ) → LooseFormed y → d < 2 → At s (loose_octets d y) → SameUnit y l
    alike_to y {s} d u hd a = let t = fields y d s u hd a in (t.0 ∙ sym last.0, t.1 ∙ sym last.1, t.2 ∙ sym last.2)

    each_start : (ys : List Loose) → Each LooseFormed ys → Each (At 0) (map (loose_octets 0) ys) → Each (λ (y : Loose). y.start ≡ 0) ys
    each_start [] u a = tt
    each_start (y ∷ ys) u a = (start y 0 0 u.0 (omega arith) a.0, each_start ys u.1 a.1)

    each_same : (ys : List Loose) → Each LooseFormed ys → Each (At 0) (map (loose_octets 0) ys) → Each (λ (y : Loose). SameUnit y l) ys
    each_same [] u a = tt
    each_same (y ∷ ys) u a = (alike_to y 0 u.0 (omega arith) a.0, each_same ys u.1 a.1)

pieces_only : (ls : List Loose) → Somewhere IsPassing (map piece ls) → ⊥
pieces_only [] h = h
pieces_only (x ∷ ls) (inl h) = h
pieces_only (x ∷ ls) (inr h) = pieces_only ls h

pub never_both : (cs : List Came) (l : Loose) → Each LooseFormed (pieces_of cs) → LooseFormed l → OneUnit cs l → Deviates cs l → ⊥
never_both cs l v w o d = by (alike o.unit (pieces_of cs) l o.formed v w o.payloads) d
  where
    by : Alike o.unit (pieces_of cs) l → Deviates cs l → ⊥
    by a (runs.f_set h) = omega (arith, a.last_same.0, o.f_clear)
    by a (runs.both_set h) = omega (arith, a.last_not)
    by a (runs.no_start h) = omega (arith, a.starts, sym (ap (λ (ls : List Loose). (first_of ls l).start) a.are) ∙ h)
    by a (runs.starts_again h) =
        not_some (λ (x : Loose). x.start ≡ 0) (λ (x : Loose). x.start ≡ 1) (λ x zero one. omega arith) a.others a.no_others
        (subst (λ (ls : List Loose). Somewhere (λ (x : Loose). x.start ≡ 1) (drop 1 ls)) a.are h)
    by a (runs.not_adjacent h) = pieces_only (pieces_of cs) (subst (Somewhere IsPassing) o.adjacent h)
    by a (runs.differs h) =
        not_some (λ (x : Loose). SameUnit x l) (λ (x : Loose). SameUnit x l → ⊥) (λ x same other. other same) (pieces_of cs) a.same h
    by a (runs.no_unit h) = h (subst UnitType (sym a.last_same.2) o.lawful.rules.0)
