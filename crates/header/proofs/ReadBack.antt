-- What set_extension leaves, get_extension shows; what del_extension leaves does not show the id that stood there once; neither
-- changes what is shown of another id, and both leave a record in the domain. Assumes nothing.
use mathlib.Core.Path.{◌≡◌, refl, sym, ap, subst, ◌∙◌}
use mathlib.Core.Bool.{Bool, true, false, cond, ◌&&◌}
use mathlib.Core.List.{List, [], ◌∷◌, ◌++◌, map, append-nil}
use mathlib.Core.Logic.{⊎_elim}
use Prim.Native.Nat.{ℕ, ◌+◌, ◌-◌, ◌%◌, ◌<◌, ◌≤◌}
use native.Mathlib.Omega.{arith}
use lib.Dec.{ltb, leb, eqb}
use lib.ListN.{length, take, length-append, length-map}
use lib.Seq.{drop_at}
use borrow.Author.Tests.{leb-true, le-leb, ltb-true, eq-eqb, ne_eqb}
use Rattle.std.proofs.lemmas.Bool.{and_parts}
use Rattle.error.specs.Said.{Said, says, refuse}
use Rattle.wire.specs.Part.{part, pad_to}
use Rattle.wire.proofs.Part.{length_pad_to}
use Rattle.elements.specs.Elements.{Element, data_of, size_of, sum, elements_of, lay_elements}
use Rattle.elements.specs.Named.{Found, find, replace, remove, append, Absent, First}
use Rattle.elements.specs.Runs.{Stands, element}
use Rattle.elements.proofs.Elements.{sum_sizes, data_of_append, take_laid, elements_of_lay_elements}
use Rattle.elements.proofs.Packed.{PackedIn, length_elements_of, length_data_of}
use Rattle.elements.proofs.Runs.{run_data}
use Rattle.elements.proofs.Changes.{absent_or_first, one, stands_one, find_first, find_absent, replace_first, remove_first}
use Rattle.block.specs.declared.Form.{Form}
use Rattle.block.specs.declared.Form.TheVariants.{OneByte as one_byte, TwoByte as two_byte, Other as other}
use Rattle.block.specs.Form.{form_of, per_element}
use Rattle.block.specs.Padding.{grown, shrunk, resized}
use Rattle.header.specs.declared.Header.{Header}
use Rattle.header.specs.Fields.{fields_of, in_domain}
use Rattle.header.specs.Extension.{changed, change, id_refusal, set_found, set_later, set_first, set_extension, del_found, del_extension, get_extension, Held, nothing, holds, lookup, shows}
use Rattle.header.proofs.Sizes.{Arrays, packed, limits_of}
use Rattle.header.proofs.Changes.{get_on}

-- the elements of a record
abbrev pub listed : Header → List Element
listed h = elements_of h.extensions

-- ---- what is held in a list of elements

module _ (id : ℕ) (rest : List Element) where
  lookup_past : (front : List Element) → Absent id front → lookup id (front ++ rest) ≡ lookup id rest
  lookup_past [] n = refl
  lookup_past (e ∷ front) n = rw (ne_eqb e.id id n.0) (lookup_past front n.1)

pub lookup_first : (id : ℕ) (es : List Element) (f : First id es) → lookup id es ≡ holds f.held.bytes
lookup_first id es f =
    ap (lookup id) f.whole
    ∙ lookup_past id (f.held ∷ f.back) f.front f.others
    ∙ rw (eq-eqb f.held.id id f.named)

pub lookup_absent : (id : ℕ) (es : List Element) → Absent id es → lookup id es ≡ nothing
lookup_absent id es n = ap (lookup id) (sym (append-nil es)) ∙ lookup_past id [] es n

-- an element of another id may stand anywhere
lookup_between : (k : ℕ) (front : List Element) (e : Element) (back : List Element) → (e.id ≡ k → ⊥) →
    lookup k (front ++ (e ∷ back)) ≡ lookup k (front ++ back)
lookup_between k [] e back n = rw (ne_eqb e.id k n)
lookup_between k (d ∷ front) e back n =
    ap (λ (r : Held). cond (eqb d.id k) (holds d.bytes) r) (lookup_between k front e back n)

module _ (id k : ℕ) (not_it : id ≡ k → ⊥) (es : List Element) where
  pub lookup_appended : (bytes : List ℕ) → lookup k (append id bytes es) ≡ lookup k es
  lookup_appended bytes = lookup_between k es (element id bytes) [] not_it ∙ ap (lookup k) (append-nil es)

  pub lookup_removed : First id es → lookup k (remove id es) ≡ lookup k es
  lookup_removed f =
      ap (lookup k) (remove_first id es f)
      ∙ sym (ap (lookup k) f.whole ∙ lookup_between k f.front f.held f.back (λ q. not_it (sym f.named ∙ q)))

  pub lookup_replaced : (bytes : List ℕ) → First id es → lookup k (replace id bytes es) ≡ lookup k es
  lookup_replaced bytes f =
      ap (lookup k) (replace_first id es f bytes)
      ∙ lookup_between k f.front (element id bytes) f.back not_it
      ∙ ap (lookup k) (sym (remove_first id es f))
      ∙ lookup_removed f

-- ---- what is shown is what is held

module _ (h : Header) (p : PackedIn h.extensions) (d : in_domain h ≡ true) (on : h.extension ≡ true) (id : ℕ) where
  shown_first : (f : First id (listed h)) →
      part h.extensions.bytes (length (data_of f.front)) (size_of f.held) ≡ f.held.bytes
  shown_first f =
      let x = h.extensions in
      let r = one id f.front f.held f.back in
      run_data x p r (subst (Stands r) (sym f.whole) (stands_one id f.front f.held f.back))
      ∙ ap (λ (l : List Element). data_of (part l (length f.front) 1)) f.whole
      ∙ ap (λ (l : List Element). data_of (take 1 l)) (drop_at f.front (f.held ∷ f.back) (length f.front) refl)
      ∙ append-nil f.held.bytes

  pub shows_lookup : shows h (get_extension h id) ≡ says (lookup id (listed h))
  shows_lookup =
      let es = listed h in
      ap (shows h) (get_on h id d on)
      ∙ ⊎_elim
      (λ (n : Absent id es).
      ap (λ (g : Found). shows h (says g)) (find_absent id 0 es n) ∙ ap says (sym (lookup_absent id es n)))
      (λ (f : First id es).
      ap (λ (g : Found). shows h (says g)) (find_first id es f)
      ∙ ap (λ (b : List ℕ). says (holds b)) (shown_first f)
      ∙ ap says (sym (lookup_first id es f)))
      (absent_or_first id es)

-- ---- a record with other elements

sum_laid : (es : List Element) → sum (take (length es) (pad_to 32 (map size_of es))) ≡ length (data_of es)
sum_laid es = ap sum (take_laid 32 size_of es) ∙ sum_sizes es

module _ (h : Header) (d : in_domain h ≡ true) (profile : ℕ) (es : List Element) (pads : ℕ) (few : length es ≤ 32)
    (fits : length (data_of es) ≤ 1024) (zeros : pads ≤ 262140) where
  packed_laid : PackedIn (lay_elements es)
  unfolding lay_elements
  packed_laid =
      let wide : (f : Element → ℕ) → length (pad_to 32 (map f es)) ≡ 32 =
      λ f. length_pad_to 32 (map f es) (rw (length-map es f) few) in
      record {
        places = omega (arith, wide (λ (e : Element). e.id));
        lengths = omega (arith, wide size_of);
        packed = omega (arith, sum_laid es, length_pad_to 1024 (data_of es) fits);
      }

  pub changed_domain : in_domain (changed h profile es pads) ≡ true
  unfolding in_domain lay_elements
  changed_domain =
      let data_fits : sum (take (length es) (pad_to 32 (map size_of es))) ≤ 1024 = omega (arith, sum_laid es) in
      rw (
        le-leb h.csrc_count 15 (limits_of h d).sources,
        le-leb (length es) 32 few,
        le-leb (sum (take (length es) (pad_to 32 (map size_of es)))) 1024 data_fits,
        le-leb pads 262140 zeros,
      )

  pub changed_shows : (id : ℕ) → shows (changed h profile es pads) (get_extension (changed h profile es pads) id) ≡ says (lookup id es)
  changed_shows id =
      shows_lookup (changed h profile es pads) packed_laid changed_domain refl id
      ∙ ap (λ (l : List Element). says (lookup id l)) (elements_of_lay_elements es)

-- ---- the padding stays in the domain

pub grown_bound : (pads n : ℕ) → pads ≤ 262140 → grown pads n ≤ 262140
grown_bound pads n h = go (ltb pads (n % 4)) refl
  where
    go : (b : Bool) → ltb pads (n % 4) ≡ b → cond b (pads + 4 - n % 4) (pads - n % 4) ≤ 262140
    go true q = let l : pads < n % 4 = ltb-true pads (n % 4) q in omega arith
    go false q = omega arith

pub shrunk_bound : (pads n : ℕ) → shrunk pads n < 4
shrunk_bound pads n = omega arith

pub resized_bound : (pads old new : ℕ) → pads ≤ 262140 → resized pads old new ≤ 262140
resized_bound pads old new h = go (ltb new old)
  where
    go : (b : Bool) → cond b (shrunk pads (old - new)) (grown pads (new - old)) ≤ 262140
    go true = omega arith
    go false = grown_bound pads (new - old) h

-- ---- what an accepted change leaves

pub record Made (h h' : Header) (es : List Element) : Type 0 where
  pub domain : in_domain h ≡ true
  pub profile : ℕ
  pub pads : ℕ
  pub few : length es ≤ 32
  pub fits : length (data_of es) ≤ 1024
  pub zeros : pads ≤ 262140
  pub whole : h' ≡ changed h profile es pads

module _ (h h' : Header) (es : List Element) (m : Made h h' es) where
  pub made_domain : in_domain h' ≡ true
  made_domain = ap in_domain m.whole ∙ changed_domain h m.domain m.profile es m.pads m.few m.fits m.zeros

  pub made_shows : (id : ℕ) → shows h' (get_extension h' id) ≡ says (lookup id es)
  made_shows id =
      ap (λ (g : Header). shows g (get_extension g id)) m.whole
      ∙ changed_shows h m.domain m.profile es m.pads m.few m.fits m.zeros id

said : {A : Type 0} {a b : A} → ◌≡◌ {A = Said A} (says a) (says b) → a ≡ b
said e = cc

-- a test that a refusal hangs on has held
tested : {A : Type 0} (b : Bool) (x : Said A) (n : ℕ) (a : A) → cond b x (refuse n) ≡ says a → (b ≡ true) × (x ≡ says a)
tested true x n a e = (refl, e)
tested false x n a e = let z : ◌≡◌ {A = ℕ} 0 1 = cc in absurd (omega arith)

change_makes : (h : Header) (profile : ℕ) (es : List Element) (pads : ℕ) (h' : Header) → in_domain h ≡ true → pads ≤ 262140 →
    change h profile es pads ≡ says h' → Made h h' es
change_makes h profile es pads h' d z e =
    let t = tested (leb (length es) 32 && leb (length (data_of es)) 1024) (says (changed h profile es pads)) 7 h' e in
    let b = and_parts (leb (length es) 32) (leb (length (data_of es)) 1024) t.0 in
    record {
      domain = d;
      profile = profile;
      pads = pads;
      few = leb-true (length es) 32 b.0;
      fits = leb-true (length (data_of es)) 1024 b.1;
      zeros = z;
      whole = sym (said t.1);
    }

-- what was set had an id and a length that may be
pub id_passed : (form : Form) (id len : ℕ) (next : Said Header) (h' : Header) → id_refusal form id len next ≡ says h' → next ≡ says h'
id_passed one_byte id len next h' e =
    (tested (leb len 16) next 12 h' (tested (leb 1 id && leb id 14) (cond (leb len 16) next (refuse 12)) 11 h' e).1).1
id_passed two_byte id len next h' e =
    (tested (leb len 255) next 14 h' (tested (leb 1 id) (cond (leb len 255) next (refuse 14)) 13 h' e).1).1
id_passed other id len next h' e = (tested (eqb id 0) next 10 h' e).1

-- what an accepted set leaves: one element more, or another first element of the id
pub data SetTo (h : Header) (id : ℕ) (bytes : List ℕ) (h' : Header) : Type 0 where
  first_set : h.extension ≡ false → Made h h' (append id bytes (listed h)) → SetTo h id bytes h'
  appended : h.extension ≡ true → Absent id (listed h) →
      Made h h' (append id bytes (listed h)) → SetTo h id bytes h'
  replaced : h.extension ≡ true → First id (listed h) →
      Made h h' (replace id bytes (listed h)) → SetTo h id bytes h'

module _ (h : Header) (id : ℕ) (bytes : List ℕ) (h' : Header) where
  abbrev old : List Element
  old = listed h

  off_sets : in_domain h ≡ true → h.extension ≡ false → set_first h old id bytes ≡ says h' → SetTo h id bytes h'
  unfolding set_first
  off_sets d off e =
      first_set off
      (change_makes h _ (append id bytes old) _ h' d (grown_bound h.extensions_padding _ (limits_of h d).zeros) e)

  on_sets : in_domain h ≡ true → h.extension ≡ true → set_later h old id bytes ≡ says h' → SetTo h id bytes h'
  unfolding set_later
  on_sets d on e =
      let passed : set_found h old id bytes (find id 0 old) ≡ says h' =
      id_passed (form_of h.extension_profile) id (length bytes) (set_found h old id bytes (find id 0 old)) h' e in
      let zeros = (limits_of h d).zeros in
      ⊎_elim
      (λ (n : Absent id old).
      appended on n
      (change_makes h _ (append id bytes old) _ h' d (grown_bound h.extensions_padding _ zeros)
      (sym (ap (set_found h old id bytes) (find_absent id 0 old n)) ∙ passed)))
      (λ (f : First id old).
      replaced on f
      (change_makes h _ (replace id bytes old) _ h' d
      (resized_bound h.extensions_padding (length f.held.bytes) (length bytes) zeros)
      (sym (ap (set_found h old id bytes) (find_first id old f)) ∙ passed)))
      (absent_or_first id old)

  pub set_makes : set_extension h id bytes ≡ says h' → SetTo h id bytes h'
  unfolding set_extension fields_of
  set_makes e = go h.extension refl t.1
    where
      t : (in_domain h ≡ true) × (cond h.extension (set_later h old id bytes) (set_first h old id bytes) ≡ says h')
      t = tested (in_domain h) (cond h.extension (set_later h old id bytes) (set_first h old id bytes)) 8 h' e

      go : (b : Bool) → h.extension ≡ b → cond b (set_later h old id bytes) (set_first h old id bytes) ≡ says h' → SetTo h id bytes h'
      go true on q = on_sets t.0 on q
      go false off q = off_sets t.0 off q

-- what an accepted delete leaves: all others
pub record DeletedTo (h : Header) (id : ℕ) (h' : Header) : Type 0 where
  pub on : h.extension ≡ true
  pub first : First id (listed h)
  pub made : Made h h' (remove id (listed h))

-- a list without one of its elements is no longer
remove_few : (id : ℕ) (es : List Element) (f : First id es) →
    (length (remove id es) ≤ length es) × (length (data_of (remove id es)) ≤ length (data_of es))
remove_few id es f =
    let whole : length es ≡ length f.front + length (f.held ∷ f.back) =
    ap length f.whole ∙ length-append f.front (f.held ∷ f.back) in
    let rest : length (remove id es) ≡ length f.front + length f.back =
    ap length (remove_first id es f) ∙ length-append f.front f.back in
    let whole_data : length (data_of es) ≡ length (data_of f.front) + length (data_of (f.held ∷ f.back)) =
    ap (λ (l : List Element). length (data_of l)) f.whole
    ∙ ap length (data_of_append f.front (f.held ∷ f.back))
    ∙ length-append (data_of f.front) (data_of (f.held ∷ f.back)) in
    let rest_data : length (data_of (remove id es)) ≡ length (data_of f.front) + length (data_of f.back) =
    ap (λ (l : List Element). length (data_of l)) (remove_first id es f)
    ∙ ap length (data_of_append f.front f.back)
    ∙ length-append (data_of f.front) (data_of f.back) in
    (omega arith, omega (arith, length-append f.held.bytes (data_of f.back)))

module _ (h : Header) (a : Arrays h) (id : ℕ) (h' : Header) where
  abbrev all : List Element
  all = listed h

  found_makes : in_domain h ≡ true → h.extension ≡ true → del_found h all id (find id 0 all) ≡ says h' → DeletedTo h id h'
  found_makes d on e =
      ⊎_elim
      (λ (n : Absent id all).
      let q : refuse 15 ≡ says h' = sym (ap (del_found h all id) (find_absent id 0 all n)) ∙ e in
      let z : ◌≡◌ {A = ℕ} 0 1 = cc in
      absurd (omega arith))
      (λ (f : First id all).
      let p = packed h a (limits_of h d) in
      let less = remove_few id all f in
      record {
        on = on;
        first = f;
        made =
            record {
              domain = d;
              profile = h.extension_profile;
              pads = shrunk h.extensions_padding ((length f.held.bytes + per_element (form_of h.extension_profile)) % 4);
              few = omega (arith, less.0, length_elements_of h.extensions p, (limits_of h d).elements);
              fits = omega (arith, less.1, length_data_of h.extensions p, (limits_of h d).bytes);
              zeros = omega arith;
              whole = sym (said (sym (ap (del_found h all id) (find_first id all f)) ∙ e));
            };
      })
      (absent_or_first id all)

  pub del_makes : del_extension h id ≡ says h' → DeletedTo h id h'
  unfolding del_extension fields_of
  del_makes e =
      let t = tested (in_domain h) (cond h.extension (del_found h all id (find id 0 all)) (refuse 16)) 8 h' e in
      let u = tested h.extension (del_found h all id (find id 0 all)) 16 h' t.1 in
      found_makes t.0 u.0 u.1

-- ---- the theorems

module _ (h : Header) (id : ℕ) (bytes : List ℕ) (h' : Header) (set : set_extension h id bytes ≡ says h') where
  -- a record that was set is in the domain: the padding too, at most 262,140
  pub set_domain : in_domain h' ≡ true
  set_domain = go (set_makes h id bytes h' set)
    where
      go : SetTo h id bytes h' → in_domain h' ≡ true
      go (first_set off m) = made_domain h h' (append id bytes (listed h)) m
      go (appended on n m) = made_domain h h' (append id bytes (listed h)) m
      go (replaced on f m) = made_domain h h' (replace id bytes (listed h)) m

  -- what was set is shown. A first set appends even where elements of the id stand already, and then the older one is shown.
  pub set_then_get : (h.extension ≡ false → Absent id (listed h)) →
      shows h' (get_extension h' id) ≡ says (holds bytes)
  set_then_get none = go (set_makes h id bytes h' set)
    where
      last : Absent id (listed h) → Made h h' (append id bytes (listed h)) →
          shows h' (get_extension h' id) ≡ says (holds bytes)
      last n m =
          made_shows h h' (append id bytes (listed h)) m id
          ∙ ap says
          (lookup_first id (append id bytes (listed h))
          (record { front = listed h; held = element id bytes; back = []; whole = refl; others = n; named = refl }))

      go : SetTo h id bytes h' → shows h' (get_extension h' id) ≡ says (holds bytes)
      go (first_set off m) = last (none off) m
      go (appended on n m) = last n m
      go (replaced on f m) =
          made_shows h h' (replace id bytes (listed h)) m id
          ∙ ap says
          (lookup_first id (replace id bytes (listed h))
          (record {
            front = f.front;
            held = element id bytes;
            back = f.back;
            whole = replace_first id (listed h) f bytes;
            others = f.others;
            named = refl;
          }))

  -- a later set changes nothing that is shown of another id
  pub set_others : Arrays h → h.extension ≡ true → (k : ℕ) → (id ≡ k → ⊥) →
      shows h' (get_extension h' k) ≡ shows h (get_extension h k)
  set_others a on k not_it = go (set_makes h id bytes h' set)
    where
      same : (es : List Element) → Made h h' es → lookup k es ≡ lookup k (listed h) →
          shows h' (get_extension h' k) ≡ shows h (get_extension h k)
      same es m e =
          made_shows h h' es m k
          ∙ ap says e
          ∙ sym (shows_lookup h (packed h a (limits_of h m.domain)) m.domain on k)

      go : SetTo h id bytes h' → shows h' (get_extension h' k) ≡ shows h (get_extension h k)
      go (first_set off m) =
          same (append id bytes (listed h)) m (lookup_appended id k not_it (listed h) bytes)
      go (appended on' n m) =
          same (append id bytes (listed h)) m (lookup_appended id k not_it (listed h) bytes)
      go (replaced on' f m) =
          same (replace id bytes (listed h)) m (lookup_replaced id k not_it (listed h) bytes f)

module _ (h : Header) (a : Arrays h) (id : ℕ) (h' : Header) (del : del_extension h id ≡ says h') where
  done : DeletedTo h id h'
  done = del_makes h a id h' del

  pub del_domain : in_domain h' ≡ true
  del_domain = made_domain h h' (remove id (listed h)) done.made

  -- what stood once is no longer shown
  pub del_then_get : (f : First id (listed h)) → Absent id f.back → shows h' (get_extension h' id) ≡ says nothing
  del_then_get f once =
      made_shows h h' (remove id (listed h)) done.made id
      ∙ ap says
      (ap (lookup id) (remove_first id (listed h) f)
      ∙ lookup_past id f.back f.front f.others
      ∙ lookup_absent id f.back once)

  -- nothing changes that is shown of another id
  pub del_others : (k : ℕ) → (id ≡ k → ⊥) → shows h' (get_extension h' k) ≡ shows h (get_extension h k)
  del_others k not_it =
      let m = done.made in
      made_shows h h' (remove id (listed h)) m k
      ∙ ap says (lookup_removed id k not_it (listed h) done.first)
      ∙ sym (shows_lookup h (packed h a (limits_of h m.domain)) m.domain done.on k)
