-- How the reader's definitions go on, from the facts that the code tests. Assumes nothing.
use Rattle.std.specs.Prelude.{Result, Ok, Err}
use mathlib.Core.Path.{◌≡◌, refl, sym, ap, subst, ◌∙◌}
use mathlib.Core.Bool.{Bool, true, false, cond}
use mathlib.Core.List.{List, [], ◌∷◌, ◌++◌}
use mathlib.Core.Logic.{◌⊎◌, inl, inr}
use Prim.Native.Nat.{ℕ, zero, suc, ◌+◌, ◌-◌, ◌*◌, ◌/◌, ◌%◌, ◌<◌, ◌≤◌}
use native.Mathlib.Numerals.{add-one}
use native.Mathlib.Omega.{arith}
use lib.Dec.{ltb}
use lib.ListN.{length, drop, get_or, length-drop}
use borrow.Author.Tests.{eq-eqb, ne_eqb, lt-ltb, le-ltb, ltb-false}
use Rattle.error.specs.declared.Error.{Error}
use Rattle.error.specs.Refusal.{refusal_of}
use Rattle.error.specs.Said.{Said, says, refused, refuse, said}
use Rattle.error.proofs.Refusing.{not_says}
use Rattle.wire.specs.Net.{u16_at, u32_at, bit}
use Rattle.elements.specs.Elements.{Element, lay_elements}
use Rattle.block_read.specs.declared.Seen.{Seen}
use Rattle.block_read.specs.Read.{Block, block_at}
use Rattle.block_read.specs.Said.{block_seen}
use Rattle.header.specs.declared.Header.{Header}
use Rattle.header.specs.declared.Unmarshalled.{Unmarshalled}
use Rattle.header.specs.declared.Front.{Front}
use Rattle.header.specs.Fields.{Fields, lay_out, blank}
use Rattle.header.specs.Parts.{fixed_at, front_at, front_of, FrontHeard, front_heard}
use Rattle.header.specs.Read.{csrcs_at, fields_at, reading_of, block_of, read_extension, fixed_length, count_of, read_fixed, Reading, read_header}
use Rattle.header.specs.Said.{Heard, heard, reading_heard}

-- ---- the CSRCs

pub length_csrcs_at : (s : List ℕ) (at n : ℕ) → length (csrcs_at s at n) ≡ n
length_csrcs_at s at zero = refl
length_csrcs_at s at (suc n) = ap suc (length_csrcs_at s (at + 4) n)

csrcs_suc : (s : List ℕ) (at n : ℕ) → csrcs_at s at (suc n) ≡ csrcs_at s at n ++ (u32_at s (at + 4 * n) ∷ [])
csrcs_suc s at zero =
    let e : at ≡ at + 4 * 0 = omega arith in
    ap (λ (k : ℕ). u32_at s k ∷ []) e
csrcs_suc s at (suc n) =
    let e : at + 4 + 4 * n ≡ at + 4 * suc n = omega arith in
    ap (λ (l : List ℕ). u32_at s at ∷ l) (csrcs_suc s (at + 4) n ∙ ap (λ (k : ℕ). csrcs_at s (at + 4) n ++ (u32_at s k ∷ [])) e)

-- one CSRC more
pub csrcs_at_more : (s : List ℕ) (at n : ℕ) → csrcs_at s at (n + 1) ≡ csrcs_at s at n ++ (u32_at s (at + 4 * n) ∷ [])
csrcs_at_more s at n = ap (csrcs_at s at) (add-one n) ∙ csrcs_suc s at n

-- ---- the front round a block

-- a header laid out has the front that the code puts together
pub front_fields_at : (s : List ℕ) (cc profile : ℕ) (b : Block) →
    front_of (lay_out (fields_at s cc profile b)) ≡ front_at s cc profile (length b.elements) b.pads
unfolding lay_out fields_at fixed_at lay_elements
front_fields_at s cc profile b = ap (λ (n : ℕ). front_at s n profile (length b.elements) b.pads) (length_csrcs_at s 12 cc)

-- what reading answers, without the arrays
abbrev pub said_front : Said Reading → FrontHeard
said_front x = front_heard (reading_heard x)

-- what the header's reader makes of the block's answer
abbrev pub around : List ℕ → ℕ → ℕ → Said Seen → FrontHeard
around s cc profile (says b) = record { answer = says b.place; front = front_at s cc profile b.count b.padding }
around s cc profile (refused r) = record { answer = refused r; front = front_of blank }

pub heard_around : (s : List ℕ) (cc profile : ℕ) (b : Said Block) →
    said_front (reading_of s cc profile b)
    ≡ around s cc profile (block_seen (length s) b)
heard_around s cc profile (says b) =
    ap (λ (f : Front). record { answer = says (length s - length b.rest); front = f }) (front_fields_at s cc profile b)
heard_around s cc profile (refused r) = refl

module _ (s : List ℕ) (cc at : ℕ) where
  pub extension_cut : length s < at + 4 → read_extension s cc at ≡ refuse 2
  unfolding read_extension
  extension_cut h = rw (lt-ltb (length s) (at + 4) h)

  pub block_cut : at + 4 ≤ length s → length s < at + 4 + 4 * u16_at s (at + 2) → read_extension s cc at ≡ refuse 2
  unfolding read_extension
  block_cut h g = rw (le-ltb (length s) (at + 4) h, lt-ltb (length s) (at + 4 + 4 * u16_at s (at + 2)) g)

  pub block_whole : at + 4 ≤ length s → at + 4 + 4 * u16_at s (at + 2) ≤ length s →
      read_extension s cc at
      ≡ reading_of s cc (u16_at s at) (block_of s at)
  unfolding read_extension
  block_whole h g = rw (le-ltb (length s) (at + 4) h, le-ltb (length s) (at + 4 + 4 * u16_at s (at + 2)) g)

-- the header's answer, by the block's
module _ (s : List ℕ) (cc profile : ℕ) (q : Result Seen Error) where
  pub heard_payload : (b : Seen) → q ≡ Ok b →
      record { answer = says b.place; front = front_at s cc profile b.count b.padding } ≡ around s cc profile (said q)
  heard_payload b eq = sym (ap (λ (x : Result Seen Error). around s cc profile (said x)) eq)

  pub heard_refused : (e : Error) → q ≡ Err e → said_front (refused (refusal_of e)) ≡ around s cc profile (said q)
  heard_refused e eq = sym (ap (λ (x : Result Seen Error). around s cc profile (said x)) eq)

-- ---- the whole header

module _ (s : List ℕ) where
  pub header_long : 65535 < length s → read_header s ≡ refuse 8
  unfolding read_header
  header_long h = rw (lt-ltb 65535 (length s) h)

  module _ (fits : length s ≤ 65535) where
    pub header_short : length s < 4 → read_header s ≡ refuse 1
    unfolding read_header
    header_short h = rw (le-ltb 65535 (length s) fits, lt-ltb (length s) 4 h)

    module _ (enough : 4 ≤ length s) where
      fixed : read_header s ≡ read_fixed s (count_of s)
      unfolding read_header
      fixed = rw (le-ltb 65535 (length s) fits, le-ltb (length s) 4 enough)

      pub header_cut : length s < fixed_length (count_of s) → read_header s ≡ refuse 1
      unfolding read_fixed
      header_cut h = fixed ∙ rw (lt-ltb (length s) (fixed_length (count_of s)) h)

      pub header_extended : fixed_length (count_of s) ≤ length s → get_or s 0 0 / 16 % 2 ≡ 1 →
          read_header s ≡ read_extension s (count_of s) (fixed_length (count_of s))
      unfolding read_fixed
      header_extended h x =
          fixed ∙ rw (le-ltb (length s) (fixed_length (count_of s)) h, eq-eqb (get_or s 0 0 / 16 % 2) 1 x)

      pub header_plain : fixed_length (count_of s) ≤ length s → (get_or s 0 0 / 16 % 2 ≡ 1 → ⊥) →
          read_header s ≡ reading_of s (count_of s) 0 (says (block_at s (fixed_length (count_of s)) 0))
      unfolding read_fixed
      header_plain h x =
          fixed ∙ rw (le-ltb (length s) (fixed_length (count_of s)) h, ne_eqb (get_or s 0 0 / 16 % 2) 1 x)

-- a header without extensions
pub plain_heard_lem : (s : List ℕ) (cc : ℕ) → fixed_length cc ≤ length s →
    said_front (reading_of s cc 0 (says (block_at s (fixed_length cc) 0)))
    ≡ record { answer = says (fixed_length cc); front = front_at s cc 0 0 0 }
plain_heard_lem s cc h =
    let place : length s - length (drop (fixed_length cc) s) ≡ fixed_length cc = rw (length-drop (fixed_length cc) s) (omega arith) in
    heard_around s cc 0 (says (block_at s (fixed_length cc) 0))
    ∙ ap (λ (n : ℕ). record { answer = says n; front = front_at s cc 0 0 0 }) place

-- ---- for callers

-- an answer with a place is the answer of a header that was read
pub record Says (x : Said Reading) (place : ℕ) : Type 0 where
  pub fields : Fields
  pub reads : x ≡ says (record { fields = fields; place = place })

pub says_place : (x : Said Reading) (a : Result ℕ Error) (place : ℕ) → said a ≡ (reading_heard x).answer → a ≡ Ok place → Says x place
says_place (says r) a place e p =
    let at : says place ≡ says r.place = ap said (sym p) ∙ e in
    let same : r.place ≡ place = cc in
    record { fields = r.fields; reads = ap (λ (n : ℕ). says (record { fields = r.fields; place = n })) same }
says_place (refused r) a place e p = absurd (not_says (sym (ap said (sym p) ∙ e)))

-- .. and a refusal is its refusal
pub says_refusal : (x : Said Reading) (a : Result ℕ Error) (r : Error) → said a ≡ (reading_heard x).answer → a ≡ Err r → x ≡ refused (refusal_of r)
says_refusal (says q) a r e p = absurd (not_says (ap said (sym p) ∙ e))
says_refusal (refused q) a r e p =
    let at : refused (refusal_of r) ≡ refused q = ap said (sym p) ∙ e in
    let same : q ≡ refusal_of r = cc in
    ap refused same

-- what a call answered is what the definition says: an answer with a place
pub record Answered (s : List ℕ) (h : Header) (place : ℕ) : Type 0 where
  pub fields : Fields
  pub reads : read_header s ≡ says (record { fields = fields; place = place })
  pub laid : h ≡ lay_out fields

pub answered : (u : Unmarshalled) (s : List ℕ) (place : ℕ) → heard u ≡ reading_heard (read_header s) → u.read ≡ Ok place →
    Answered s u.header place
answered u s place e p =
    let a : Says (read_header s) place = says_place (read_header s) u.read place (ap (λ (k : Heard). k.answer) e) p in
    record {
      fields = a.fields;
      reads = a.reads;
      laid = ap (λ (k : Heard). k.header) (e ∙ ap reading_heard a.reads);
    }

-- .. or a refusal
pub answered_refusal : (u : Unmarshalled) (s : List ℕ) (r : Error) → heard u ≡ reading_heard (read_header s) → u.read ≡ Err r →
    (read_header s ≡ refused (refusal_of r)) × (u.header ≡ blank)
answered_refusal u s r e p =
    let is : read_header s ≡ refused (refusal_of r) = says_refusal (read_header s) u.read r (ap (λ (k : Heard). k.answer) e) p in
    (is, ap (λ (k : Heard). k.header) (e ∙ ap reading_heard is))

-- ---- what a header that was read shows of its packet

-- the block that begins behind the extension's head, at `at`
pub record Extended (s : List ℕ) (at : ℕ) (es : List Element) : Type 0 where
  pub inside : at + 4 + 4 * u16_at s (at + 2) ≤ length s
  pub block : Block
  pub reads : block_of s at ≡ says block
  pub elements : es ≡ block.elements

pub record Shown (s : List ℕ) (r : Reading) : Type 0 where
  pub place : r.place ≤ length s
  pub fixed : fixed_length (count_of s) ≤ length s
  pub padding : r.fields.padding ≡ bit (get_or s 0 0 / 32)
  pub sources : r.fields.csrcs ≡ csrcs_at s 12 (count_of s)
  pub extended : (r.fields.elements ≡ []) ⊎ Extended s (fixed_length (count_of s)) r.fields.elements

abbrev Shows : List ℕ → Said Reading → Type 0
Shows s (says r) = Shown s r
Shows s (refused r) = Unit

by_test : (s : List ℕ) (t : Bool) (x y : Said Reading) → (t ≡ true → Shows s x) → (t ≡ false → Shows s y) → Shows s (cond t x y)
by_test s true x y a b = a refl
by_test s false x y a b = b refl

module _ (s : List ℕ) (fixed : fixed_length (count_of s) ≤ length s) where
  abbrev from : ℕ
  from = fixed_length (count_of s)

  shows_plain : Shows s (reading_of s (count_of s) 0 (says (block_at s from 0)))
  unfolding fields_at
  shows_plain = record { place = omega arith; fixed = fixed; padding = refl; sources = refl; extended = inl refl }

  shows_block : from + 4 + 4 * u16_at s (from + 2) ≤ length s → (b : Said Block) → block_of s from ≡ b →
      Shows s (reading_of s (count_of s) (u16_at s from) b)
  unfolding fields_at
  shows_block inside (says b) is =
      record {
        place = omega arith;
        fixed = fixed;
        padding = refl;
        sources = refl;
        extended = inr (record { inside = inside; block = b; reads = is; elements = refl });
      }
  shows_block inside (refused r) is = tt

  shows_extension : Shows s (read_extension s (count_of s) from)
  unfolding read_extension
  shows_extension =
      let past : ℕ = from + 4 + 4 * u16_at s (from + 2) in
      let whole : Said Reading = reading_of s (count_of s) (u16_at s from) (block_of s from) in
      by_test s (ltb (length s) (from + 4)) (refuse 2) (cond (ltb (length s) past) (refuse 2) whole) (λ _. tt)
      (λ _. by_test s (ltb (length s) past) (refuse 2) whole (λ _. tt)
      (λ e. shows_block (ltb-false (length s) past e) (block_of s from) refl))

shows_header : (s : List ℕ) → Shows s (read_header s)
unfolding read_header read_fixed
shows_header s =
    let n : ℕ = length s in
    let at : ℕ = fixed_length (count_of s) in
    let extended : Said Reading = read_extension s (count_of s) at in
    let plain : Said Reading = reading_of s (count_of s) 0 (says (block_at s at 0)) in
    let behind : Said Reading = cond (bit (get_or s 0 0 / 16)) extended plain in
    by_test s (ltb 65535 n) (refuse 8) (cond (ltb n 4) (refuse 1) (read_fixed s (count_of s))) (λ _. tt)
    (λ _. by_test s (ltb n 4) (refuse 1) (read_fixed s (count_of s)) (λ _. tt)
    (λ _. by_test s (ltb n at) (refuse 1) behind (λ _. tt)
    (λ e. by_test s (bit (get_or s 0 0 / 16)) extended plain
    (λ _. shows_extension s (ltb-false n at e))
    (λ _. shows_plain s (ltb-false n at e)))))

pub shown : (s : List ℕ) (r : Reading) → read_header s ≡ says r → Shown s r
shown s r e = subst (Shows s) e (shows_header s)

-- a payload begins within the packet
pub place_inside : (s : List ℕ) (r : Reading) → read_header s ≡ says r → r.place ≤ length s
place_inside s r e = (shown s r e).place
