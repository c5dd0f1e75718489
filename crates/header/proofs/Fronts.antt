-- A record's front and its arrays: together they are the record, and what is said of each says what reading answers. Assumes nothing.
use Rattle.std.specs.Prelude.{Ok, Err}
use mathlib.Core.Path.{◌≡◌, refl, sym, ap, subst, ◌∙◌}
use mathlib.Core.List.{List, [], ◌∷◌}
use mathlib.Core.Logic.{◌⊎◌, inl, inr}
use Prim.Native.Nat.{ℕ, ◌≤◌}
use native.Mathlib.Omega.{arith}
use lib.ListN.{length, replicate}
use Rattle.error.specs.declared.Error.{Error}
use Rattle.error.specs.Refusal.{refusal_of}
use Rattle.error.specs.Said.{Said, says, refused}
use Rattle.wire.specs.Part.{pad_to}
use Rattle.elements.specs.Elements.{Element, lay_elements}
use Rattle.block_read.specs.Said.{Answers, elements_read, Laid}
use Rattle.header.specs.declared.Header.{Header}
use Rattle.header.specs.declared.Front.{Front}
use Rattle.header.specs.declared.FrontRead.{FrontRead}
use Rattle.header.specs.Fields.{Fields, lay_out, blank}
use Rattle.header.specs.Parts.{together, front_of, FrontHeard, heard_front, front_heard, Lent, lent_of, lent_read}
use Rattle.header.specs.Read.{csrcs_at, count_of, fixed_length, block_of, Reading, read_header}
use Rattle.header.specs.Said.{Heard, heard, reading_heard}
use Rattle.header.proofs.Reading.{length_csrcs_at, Says, says_place, says_refusal, Extended, Shown, shown}

-- the record with this front and these arrays
abbrev pub with_arrays : Front → Lent → Header
with_arrays f l =
    together f.fixed f.csrc_count l.csrc f.extension_profile
    (record { count = f.count; ids = l.ids; lens = l.lens; bytes = l.bytes })
    f.extensions_padding

-- the front with the record's own arrays is the record
pub front_whole : (h : Header) → with_arrays (front_of h) (lent_of h) ≡ h
unfolding together
front_whole h = refl

-- ---- for callers: an answer with a place

pub record FrontAnswered (s : List ℕ) (f : Front) (place : ℕ) : Type 0 where
  pub fields : Fields
  pub reads : read_header s ≡ says (record { fields = fields; place = place })
  pub laid : f ≡ front_of (lay_out fields)

module _ (q : FrontRead) (s : List ℕ) (e : heard_front q ≡ front_heard (reading_heard (read_header s))) where
  pub front_answered : (place : ℕ) → q.read ≡ Ok place → FrontAnswered s q.front place
  front_answered place p =
      let a : Says (read_header s) place = says_place (read_header s) q.read place (ap (λ (k : FrontHeard). k.answer) e) p in
      record {
        fields = a.fields;
        reads = a.reads;
        laid = ap (λ (k : FrontHeard). k.front) (e ∙ ap (λ (x : Said Reading). front_heard (reading_heard x)) a.reads);
      }

  -- .. or a refusal
  pub front_refusal : (r : Error) → q.read ≡ Err r → read_header s ≡ refused (refusal_of r)
  front_refusal r p = says_refusal (read_header s) q.read r (ap (λ (k : FrontHeard). k.answer) e) p

-- ---- the arrays of a header that was read

pub laid_nothing : Laid [] (replicate 32 0) (replicate 32 0) (replicate 1024 0)
unfolding lay_elements pad_to
laid_nothing = record { names = refl; sizes = refl; packed = refl }

no_elements : (es : List Element) → length es ≡ 0 → es ≡ []
no_elements [] e = refl
no_elements (x ∷ es) e = absurd (omega arith)

module _ (s : List ℕ) (at : ℕ) (es : List Element) (x : Extended s at es) where
  pub block_answers : Answers (block_of s at)
  block_answers = subst Answers (sym x.reads) tt

  pub block_elements : elements_read (block_of s at) ≡ es
  block_elements = ap elements_read x.reads ∙ sym x.elements

module _ (s : List ℕ) (f : Front) (place : ℕ) (a : FrontAnswered s f place) where
  seen : Shown s (record { fields = a.fields; place = place })
  seen = shown s (record { fields = a.fields; place = place }) a.reads

  sources : f.csrc_count ≡ count_of s
  unfolding lay_out
  sources = ap (λ (k : Front). k.csrc_count) a.laid ∙ ap length seen.sources ∙ length_csrcs_at s 12 (count_of s)

  counted : f.count ≡ length a.fields.elements
  unfolding lay_out lay_elements
  counted = ap (λ (k : Front). k.count) a.laid

  pub sources_inside : (f.csrc_count ≤ 15) × (fixed_length f.csrc_count ≤ length s)
  sources_inside = (omega (arith, sources), omega (arith, sources, seen.fixed))

  -- without elements there is nothing to fill
  pub nothing_counted : f.count ≡ 0 → a.fields.elements ≡ []
  nothing_counted e = no_elements a.fields.elements (sym counted ∙ e)

  pub block_counted : (f.count ≡ 0 → ⊥) → Extended s (fixed_length f.csrc_count) a.fields.elements
  block_counted some = rw sources (go seen.extended)
    where
      go : (a.fields.elements ≡ []) ⊎ Extended s (fixed_length (count_of s)) a.fields.elements →
          Extended s (fixed_length (count_of s)) a.fields.elements
      go (inl none) = absurd (some (counted ∙ ap length none))
      go (inr x) = x

  -- the arrays as they are left
  pub arrays_filled : (old : Lent) (csrc ids lens bytes : List ℕ) →
      csrc ≡ pad_to 15 (csrcs_at s 12 f.csrc_count) → Laid a.fields.elements ids lens bytes →
      record { csrc = csrc; ids = ids; lens = lens; bytes = bytes } ≡ lent_read old (read_header s)
  unfolding lay_out
  arrays_filled old csrc ids lens bytes c l = held ∙ sym (ap (lent_read old) a.reads)
    where
      listed : csrc ≡ pad_to 15 a.fields.csrcs
      listed = c ∙ ap (pad_to 15) (ap (csrcs_at s 12) sources ∙ sym seen.sources)

      held : record { csrc = csrc; ids = ids; lens = lens; bytes = bytes } ≡ lent_of (lay_out a.fields)
      held i = record { csrc = listed i; ids = l.names i; lens = l.sizes i; bytes = l.packed i }

-- ---- the whole record

-- arrays of zeros
abbrev pub zeros : Lent
zeros = record { csrc = replicate 15 0; ids = replicate 32 0; lens = replicate 32 0; bytes = replicate 1024 0 }

-- .. are those of "no record"
blank_zeros : zeros ≡ lent_of blank
unfolding blank lay_out lay_elements pad_to
blank_zeros = refl

pub blank_whole : with_arrays (front_of blank) zeros ≡ blank
blank_whole = ap (with_arrays (front_of blank)) blank_zeros ∙ front_whole blank

-- the front with the arrays, which were zeros before, is the record beside the answer
pub whole_heard : (q : FrontRead) (l : Lent) (x : Said Reading) → heard_front q ≡ front_heard (reading_heard x) → l ≡ lent_read zeros x →
    heard (record { read = q.read; header = with_arrays q.front l }) ≡ reading_heard x
whole_heard q l x e a = parts ∙ go x
  where
    rejoined : FrontHeard → Lent → Heard
    rejoined h l = record { answer = h.answer; header = with_arrays h.front l }

    parts : heard (record { read = q.read; header = with_arrays q.front l }) ≡ rejoined (front_heard (reading_heard x)) (lent_read zeros x)
    parts i = rejoined (e i) (a i)

    go : (x : Said Reading) → rejoined (front_heard (reading_heard x)) (lent_read zeros x) ≡ reading_heard x
    go (says r) = ap (λ (h : Header). record { answer = says r.place; header = h }) (front_whole (lay_out r.fields))
    go (refused r) = ap (λ (h : Header). record { answer = refused r; header = h }) blank_whole
