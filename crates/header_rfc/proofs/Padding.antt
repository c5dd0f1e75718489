-- The padding that a set or a delete leaves: where the block grows or shrinks by n, the padding makes up for n up to a multiple of 4, so that elements and
-- padding together stay as far from whole words as they were. Assumes nothing.
use mathlib.Core.Path.{◌≡◌, sym, ap, ◌∙◌}
use mathlib.Core.Bool.{Bool, true, false, cond, ◌&&◌}
use mathlib.Core.List.{List, [], ◌∷◌, ◌++◌, append-nil}
use mathlib.Core.Logic.{◌⊎◌, inl, inr}
use Prim.Native.Nat.{ℕ, ◌+◌, ◌-◌, ◌*◌, ◌%◌, ◌<◌, ◌≤◌}
use native.Mathlib.Nat.{add-mul, one-mul, lt_of_not-le}
use native.Mathlib.Decide.{dec_le}
use native.Mathlib.Omega.{arith}
use lib.Dec.{leb}
use lib.ListN.{length, length-append}
use borrow.Author.Tests.{le-ltb, lt-ltb, le-leb, lt-leb}
use Rattle.error.specs.Said.{Said, says, refuse}
use Rattle.elements.specs.Elements.{Element, data_of}
use Rattle.elements.specs.Named.{find, Absent, First, replace, remove, append}
use Rattle.elements.proofs.Elements.{data_of_append, elements_of_lay_elements}
use Rattle.elements.proofs.Changes.{absent_or_first, find_first, find_absent, replace_first, remove_first}
use Rattle.block.specs.declared.Form.TheVariants.{Other as other}
use Rattle.block.specs.Form.{form_of, per_element, length_for, first_profile, first_head}
use Rattle.block.specs.Padding.{grown, shrunk, resized}
use Rattle.header.specs.declared.Header.{Header}
use Rattle.header.specs.Fields.{fields_of, in_domain}
use Rattle.header.specs.Size.{payload_length}
use Rattle.header.specs.Extension.{changed, change, set_found, set_later, set_first, set_extension, del_found, del_extension}
use Rattle.header.proofs.ReadBack.{id_passed}
use Rattle.header_rfc.specs.RoundTrip.{beyond}

-- ---- the arithmetic

grown_by : (P : ℕ → Type 0) (pads n : ℕ) → (n % 4 ≤ pads → P (pads - n % 4)) → (pads < n % 4 → P (pads + 4 - n % 4)) → P (grown pads n)
grown_by P pads n enough short =
    elim (dec_le (n % 4) pads) [
      | yes h ↦ rw (le-ltb pads (n % 4) h) (enough h)
      | no h ↦ rw (lt-ltb pads (n % 4) (lt_of_not-le h)) (short (lt_of_not-le h))
    ]

-- the block grew by n, and its padding was `pads`: p is what is left of it
pub record GrownTo (pads n p : ℕ) : Type 0 where
  -- with what the block grew it has the remainder that it had
  pub keeps : (n + p) % 4 ≡ pads % 4
  -- it is less by fewer than four bytes
  pub least : pads < p + 4
  -- and more only where it fills a word
  pub most : (p ≤ pads) ⊎ (p < 4)

pub grown_to : (pads n : ℕ) → GrownTo pads n (grown pads n)
grown_to pads n =
    grown_by (GrownTo pads n) pads n
    (λ h. record { keeps = omega arith; least = omega arith; most = inl (omega arith) })
    (λ h. record { keeps = omega arith; least = omega arith; most = inr (omega arith) })

-- and of no other number is this so
pub grown_only : (pads n p : ℕ) → GrownTo pads n p → p ≡ grown pads n
grown_only pads n p a =
    let b : GrownTo pads n (grown pads n) = grown_to pads n in
    near n p (grown pads n) (a.keeps ∙ sym b.keeps) (below pads p (grown pads n) a.most b.least) (below pads (grown pads n) p b.most a.least)
  where
    -- two numbers with one remainder that are less than 4 apart
    near : (k a b : ℕ) → (k + a) % 4 ≡ (k + b) % 4 → a < b + 4 → b < a + 4 → a ≡ b
    near k a b e g h = omega arith

    below : (m a b : ℕ) → (a ≤ m) ⊎ (a < 4) → m < b + 4 → a < b + 4
    below m a b (inl g) h = omega arith
    below m a b (inr g) h = omega arith

-- the block shrank by n: the padding takes n up, and no more than fills a word
pub shrunk_keeps : (pads n rest : ℕ) → (rest + shrunk pads n) % 4 ≡ (rest + n + pads) % 4
shrunk_keeps pads n rest = omega arith

-- `new` bytes in the place of `old`
pub resized_keeps : (pads old new : ℕ) → (new + resized pads old new) % 4 ≡ (old + pads) % 4
resized_keeps pads old new =
    elim (dec_le old new) [
      | yes h ↦ rw (le-ltb new old h) (omega (arith, (grown_to pads (new - old)).keeps))
      | no h ↦ rw (lt-ltb new old (lt_of_not-le h)) (omega arith)
    ]

-- beside anything else
beside : (rest a z b : ℕ) → (a + z) % 4 ≡ b % 4 → (rest + a + z) % 4 ≡ (rest + b) % 4
beside rest a z b e = omega arith

-- one element in the place of another
in_place : (rest new old head z pads : ℕ) → (new + z) % 4 ≡ (old + pads) % 4 → (rest + (new + head) + z) % 4 ≡ (rest + (old + head) + pads) % 4
in_place rest new old head z pads e =
    let a : rest + (new + head) + z ≡ rest + head + new + z = omega arith in
    let b : rest + head + (old + pads) ≡ rest + (old + head) + pads = omega arith in
    ap (λ (k : ℕ). k % 4) a ∙ beside (rest + head) new z (old + pads) e ∙ ap (λ (k : ℕ). k % 4) b

-- one left out
left_out_lem : (rest n pads : ℕ) → (rest + shrunk pads (n % 4)) % 4 ≡ (rest + n + pads) % 4
left_out_lem rest n pads = omega arith

-- ---- the elements with their heads, and the padding

-- an element in its place: how many there are, and how many bytes of data
module _ (front : List Element) (e : Element) (back : List Element) where
  many : length (front ++ (e ∷ back)) ≡ length (front ++ back) + 1
  many = omega (arith, length-append front (e ∷ back), length-append front back)

  much : length (data_of (front ++ (e ∷ back))) ≡ length (data_of (front ++ back)) + length e.bytes
  much =
      let more : length (data_of (front ++ (e ∷ back))) ≡ length (data_of front) + length (e.bytes ++ data_of back) =
      ap length (data_of_append front (e ∷ back)) ∙ length-append (data_of front) (e.bytes ++ data_of back) in
      let less : length (data_of (front ++ back)) ≡ length (data_of front) + length (data_of back) =
      ap length (data_of_append front back) ∙ length-append (data_of front) (data_of back) in
      omega (arith, length-append e.bytes (data_of back))

  -- with it there are its head and its bytes more
  longer : (profile : ℕ) →
      length_for profile (length (front ++ (e ∷ back))) (length (data_of (front ++ (e ∷ back))))
      ≡ length_for profile (length (front ++ back)) (length (data_of (front ++ back))) + (length e.bytes + per_element (form_of profile))
  longer profile =
      let k : ℕ = per_element (form_of profile) in
      let heads : length (front ++ (e ∷ back)) * k ≡ length (front ++ back) * k + k =
      ap (λ (c : ℕ). c * k) many ∙ add-mul (length (front ++ back)) 1 k ∙ ap (λ (m : ℕ). length (front ++ back) * k + m) (one-mul k) in
      omega (arith, much)

-- one element more, at the end
appended : (profile : ℕ) (es : List Element) (e : Element) →
    length_for profile (length (es ++ (e ∷ []))) (length (data_of (es ++ (e ∷ []))))
    ≡ length_for profile (length es) (length (data_of es)) + (length e.bytes + per_element (form_of profile))
appended profile es e =
    longer es e [] profile
    ∙ ap (λ (l : List Element). length_for profile (length l) (length (data_of l)) + (length e.bytes + per_element (form_of profile))) (append-nil es)

-- ---- what a call leaves

said : {A : Type 0} {a b : A} → says a ≡ says b → a ≡ b
said e = cc

-- a test that a refusal hangs on has held
tested : {A : Type 0} (b : Bool) (x : Said A) (n : ℕ) (a : A) → cond b x (refuse n) ≡ says a → x ≡ says a
tested true x n a e = e
tested false x n a e = absurd (let z : ◌≡◌ {A = ℕ} 0 1 = cc in omega arith)

change_leaves : (h : Header) (profile : ℕ) (es : List Element) (pads : ℕ) (h' : Header) → change h profile es pads ≡ says h' → h' ≡ changed h profile es pads
change_leaves h profile es pads h' e =
    sym (said (tested (leb (length es) 32 && leb (length (data_of es)) 1024) (says (changed h profile es pads)) 7 h' e))

beyond_changed : (h : Header) (profile : ℕ) (es : List Element) (pads : ℕ) →
    beyond (fields_of (changed h profile es pads)) ≡ (length_for profile (length es) (length (data_of es)) + pads) % 4
unfolding fields_of payload_length
beyond_changed h profile es pads =
    ap (λ (l : List Element). (length_for profile (length l) (length (data_of l)) + pads) % 4) (elements_of_lay_elements es)

-- the first set counts the head that its profile has
head_counted : (profile n : ℕ) → (n ≤ 255) ⊎ (form_of profile ≡ other) → first_head n ≡ per_element (form_of (first_profile profile n))
head_counted profile n fine =
    elim (dec_le n 16) [
      | yes h ↦ rw (le-leb n 16 h)
      | no h ↦
          elim (dec_le n 255) [
            | yes k ↦ rw (lt-leb n 16 (lt_of_not-le h), le-leb n 255 k)
            | no k ↦ rw (lt-leb n 16 (lt_of_not-le h), lt-leb n 255 (lt_of_not-le k)) (kept (lt_of_not-le k) fine)
          ]
    ]
  where
    kept : 255 < n → (n ≤ 255) ⊎ (form_of profile ≡ other) → 0 ≡ per_element (form_of profile)
    kept k (inl few) = absurd (omega arith)
    kept k (inr e) = sym (ap per_element e)

module _ (h : Header) where
  abbrev old : List Element
  old = (fields_of h).elements

  abbrev profile : ℕ
  profile = h.extension_profile

  abbrev pads : ℕ
  pads = h.extensions_padding

  abbrev len : List Element → ℕ
  len es = length_for profile (length es) (length (data_of es))

  -- from what is left to what was there
  left : (h' : Header) (es : List Element) (z : ℕ) → h' ≡ changed h profile es z → (len es + z) % 4 ≡ (len old + pads) % 4 →
      beyond (fields_of h') ≡ beyond (fields_of h)
  unfolding fields_of payload_length
  left h' es z is same = ap (λ (g : Header). beyond (fields_of g)) is ∙ beyond_changed h profile es z ∙ same

  -- "Later sets replace the first element of that id or append."
  pub set_keeps : (id : ℕ) (bytes : List ℕ) (h' : Header) → h.extension ≡ true → set_extension h id bytes ≡ says h' →
      beyond (fields_of h') ≡ beyond (fields_of h)
  unfolding set_extension set_later
  set_keeps id bytes h' on e = go (absent_or_first id old)
    where
      per : ℕ
      per = per_element (form_of profile)

      found : set_found h old id bytes (find id 0 old) ≡ says h'
      found =
          id_passed (form_of profile) id (length bytes) (set_found h old id bytes (find id 0 old)) h'
          (sym (ap (λ (b : Bool). cond b (set_later h old id bytes) (set_first h old id bytes)) on)
          ∙ tested (in_domain h) (cond h.extension (set_later h old id bytes) (set_first h old id bytes)) 8 h' e)

      go : Absent id old ⊎ First id old → beyond (fields_of h') ≡ beyond (fields_of h)
      go (inl none) =
          let z : ℕ = grown pads (length bytes + per) in
          left h' (append id bytes old) z
          (change_leaves h profile (append id bytes old) z h' (sym (ap (set_found h old id bytes) (find_absent id 0 old none)) ∙ found))
          (ap (λ (n : ℕ). (n + z) % 4) (appended profile old (record { id = id; bytes = bytes }))
          ∙ beside (len old) (length bytes + per) z pads (grown_to pads (length bytes + per)).keeps)
      go (inr f) =
          let z : ℕ = resized pads (length f.held.bytes) (length bytes) in
          left h' (replace id bytes old) z
          (change_leaves h profile (replace id bytes old) z h' (sym (ap (set_found h old id bytes) (find_first id old f)) ∙ found))
          (ap (λ (n : ℕ). (n + z) % 4) (ap len (replace_first id old f bytes) ∙ longer f.front (record { id = id; bytes = bytes }) f.back profile)
          ∙ in_place (len (f.front ++ f.back)) (length bytes) (length f.held.bytes) per z pads (resized_keeps pads (length f.held.bytes) (length bytes))
          ∙ sym (ap (λ (n : ℕ). (n + pads) % 4) (ap len f.whole ∙ longer f.front f.held f.back profile)))

  -- "Delete keeps the others' order."
  pub delete_keeps : (id : ℕ) (h' : Header) → del_extension h id ≡ says h' → beyond (fields_of h') ≡ beyond (fields_of h)
  unfolding del_extension
  delete_keeps id h' e = go (absent_or_first id old)
    where
      per : ℕ
      per = per_element (form_of profile)

      found : del_found h old id (find id 0 old) ≡ says h'
      found =
          tested h.extension (del_found h old id (find id 0 old)) 16 h'
          (tested (in_domain h) (cond h.extension (del_found h old id (find id 0 old)) (refuse 16)) 8 h' e)

      go : Absent id old ⊎ First id old → beyond (fields_of h') ≡ beyond (fields_of h)
      go (inl none) =
          let q : refuse 15 ≡ says h' = sym (ap (del_found h old id) (find_absent id 0 old none)) ∙ found in
          absurd (let z : ◌≡◌ {A = ℕ} 0 1 = cc in omega arith)
      go (inr f) =
          let n : ℕ = (length f.held.bytes + per) % 4 in
          left h' (remove id old) (shrunk pads n)
          (sym (said (sym (ap (del_found h old id) (find_first id old f)) ∙ found)))
          (ap (λ (k : ℕ). (k + shrunk pads n) % 4) (ap len (remove_first id old f))
          ∙ left_out_lem (len (f.front ++ f.back)) (length f.held.bytes + per) pads
          ∙ sym (ap (λ (k : ℕ). (k + pads) % 4) (ap len f.whole ∙ longer f.front f.held f.back profile)))

  -- "The first set picks 0xBEDE for 0 to 16 bytes, 0x1000 for 17 to 255, else keeps the profile": the elements that stood there, if any, are counted in the
  -- profile that it picks. (Over 255 bytes 000 counts no head, though the profile that is kept may have heads.)
  pub first_set_keeps : (id : ℕ) (bytes : List ℕ) (h' : Header) → h.extension ≡ false → (length bytes ≤ 255) ⊎ (form_of profile ≡ other) →
      set_extension h id bytes ≡ says h' →
      beyond (fields_of h') ≡ (length_for (first_profile profile (length bytes)) (length old) (length (data_of old)) + pads) % 4
  unfolding set_extension set_first
  first_set_keeps id bytes h' off fine e =
      let p : ℕ = first_profile profile (length bytes) in
      let n : ℕ = length bytes + first_head (length bytes) in
      let z : ℕ = grown pads n in
      let added : Element = record { id = id; bytes = bytes } in
      let l : ℕ = length_for p (length old) (length (data_of old)) in
      ap (λ (g : Header). beyond (fields_of g)) (change_leaves h p (append id bytes old) z h' set)
      ∙ beyond_changed h p (append id bytes old) z
      ∙ ap (λ (k : ℕ). (k + z) % 4) (appended p old added ∙ ap (λ (k : ℕ). l + (length bytes + k)) (sym (head_counted profile (length bytes) fine)))
      ∙ beside l n z pads (grown_to pads n).keeps
    where
      set : set_first h old id bytes ≡ says h'
      set =
          sym (ap (λ (b : Bool). cond b (set_later h old id bytes) (set_first h old id bytes)) off)
          ∙ tested (in_domain h) (cond h.extension (set_later h old id bytes) (set_first h old id bytes)) 8 h' e
