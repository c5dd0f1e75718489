-- The call writes: a record whose extension stands in one of the three ways is in the writing domain, and neither 9 nor 10 is given; so what
-- is shown of its octets is shown of the call. Assumes nothing.
use Rattle.std.specs.Prelude.{Result, Ok, Err}
use mathlib.Core.Path.{◌≡◌, refl, sym, ap, ap₂, ◌∙◌, subst}
use mathlib.Core.Bool.{Bool, true, false, ◌&&◌}
use mathlib.Core.List.{List, [], ◌∷◌, ◌++◌, append-nil}
use mathlib.Core.Option.{Option, none, some}
use Prim.Native.Nat.{ℕ, ◌+◌, ◌*◌, ◌%◌, ◌≤◌}
use native.Mathlib.Omega.{arith}
use lib.ListN.{length, take, drop}
use lib.Seq.{take_at}
use borrow.Author.Tests.{le-leb, eq-eqb}
use Rattle.error.specs.declared.Error.{Error}
use Rattle.error.specs.Refusal.{Refusal}
use Rattle.error.specs.Said.{Said, says, refused, said}
use Rattle.wire.specs.Part.{splice}
use Rattle.wire.proofs.Part.{take_pad_to}
use Rattle.elements.specs.Elements.{Element, data_of, lay_elements}
use Rattle.elements.proofs.Elements.{elements_of_lay_elements}
use Rattle.block.specs.Form.{form_of, per_element}
use Rattle.block_write.specs.Write.{fits, all_writable}
use Rattle.block.specs.declared.Form.{Form as BlockForm}
use Rattle.block.specs.declared.Form.TheVariants as forms
use Rattle.block.proofs.Forms.{form_other}
use Rattle.header.specs.declared.Header.{Header}
use Rattle.header.specs.Fields.{Fields, fields_of, lay_out, in_domain}
use Rattle.header.specs.Read.{Reading, read_header}
use Rattle.header.specs.Size.{payload_length, header_size}
use Rattle.header.specs.Write.{octets_of, in_writing_domain, write_header}
use Rattle.header.specs.Said.{reading_heard, Written, heard_written, written}
use Rattle.header.proofs.ReadBack.{changed_domain}
use Rattle.header.proofs.Sizes.{never}
use Rattle.header.proofs.Writing.{writing_domain, block_asked, write_asked}
use Rattle.rfc3550.specs.Rfc3550.{Octets, Fixed}
use Rattle.rfc3550.specs.Rfc3550 as rtp
use Rattle.rfc3550.specs.Rfc8285.{Form, one_byte, two_byte, profile_of, Item, padding, element, AllLawful, Content, laid, other, extension_in, Plan, LawfulPart, Lawful, octets}
use Rattle.header_rfc.specs.Says.{elements_among, pads_among, whole_element, elements_said, fields_with, fields_said, Within, Plain, AppBits, Fits}
use Rattle.header_rfc.specs.Taken.{TakenElement}
use Rattle.header_rfc.specs.RoundTrip.{InRange, ReadsBack, items_for, read_back, Trailing, Writes, WrittenAs, WrittenAndRead, CodeWrittenAndRead, AsTyped}
use Rattle.header_rfc.proofs.Items.{OneTaken, one_taken, all_taken}
use Rattle.header_rfc.proofs.Written.{fixed_for, in_paper, form_again}
use Rattle.header_rfc.proofs.RoundTrip.{Ways, without, in_form, whole, ways_by, TakenElements, LawfulElements, back, ways_kept, writer}
use Rattle.header_rfc.proofs.Ranges.{only_in_range, range_with}
use Rattle.header_rfc.proofs.Yields.{YieldedAs, pads_fit, as_yielded}
use Rattle.header_rfc.proofs.Rewritten.{written_again}
use Rattle.header_rfc.proofs.Readers.{shortest, shortest_lawful}

-- ---- 8, 9 and 10 are not given

-- what is taken can be written
taken_allowed : (form : Form) (es : List Element) → TakenElements form es → all_writable (in_paper form) es ≡ true
taken_allowed form [] t = refl
taken_allowed form (e ∷ es) t = ap₂ (λ (a b : Bool). a && b) (one form e.id (length e.bytes) t.0) (taken_allowed form es t.1)
  where
    one : (g : Form) (id n : ℕ) → TakenElement g id n → fits (in_paper g) id n ≡ true
    one one_byte id n m =
        let o : OneTaken id n = one_taken id n m in
        rw (le-leb id 15 (omega (arith, o.id_fits)), le-leb 1 n o.enough, le-leb n 16 o.fits)
    one (two_byte appbits) id n m = le-leb n 255 m.data_fits

ways_allowed : (f : Fields) → Ways TakenElements f → all_writable (form_of f.profile) f.elements ≡ true
ways_allowed f (without off p e) = ap (all_writable (form_of f.profile)) e
ways_allowed f (in_form form plain on p g k) = ap (λ (h : BlockForm). all_writable h f.elements) g ∙ taken_allowed form f.elements k
ways_allowed f (whole words on g e m a b) = ap₂ all_writable g e

in_writing_domain_lem : (h : Header) → in_domain h ≡ true → h.version ≤ 3 → h.payload_type ≤ 127 → Ways TakenElements (fields_of h) → in_writing_domain h ≡ true
unfolding fields_of
in_writing_domain_lem h d v t s = writing_domain h d (le-leb h.version 3 v) (le-leb h.payload_type 127 t) (ways_allowed (fields_of h) s)

-- what 9 and 10 let pass
form_passes : (g : BlockForm) (on : Bool) (len count : ℕ) (x : List ℕ) → (g ≡ forms.Other → ⊥) → block_asked on g len count x ≡ says x
form_passes forms.OneByte true len count x h = refl
form_passes forms.TwoByte true len count x h = refl
form_passes forms.Other true len count x h = absurd (h refl)
form_passes g false len count x h = refl

words_pass : (on : Bool) (len count : ℕ) (x : List ℕ) → len % 4 ≡ 0 → count ≡ 1 → block_asked on forms.Other len count x ≡ says x
words_pass true len count x m n = rw (eq-eqb (len % 4) 0 m, eq-eqb count 1 n)
words_pass false len count x m n = refl

not_judged : (f : Fields) (x : List ℕ) → Ways TakenElements f →
    block_asked f.extension (form_of f.profile) (payload_length f) (length f.elements) x ≡ says x
unfolding payload_length
not_judged f x (without off p e) = ap (λ (on : Bool). block_asked on (form_of f.profile) (payload_length f) (length f.elements) x) off
not_judged f x (in_form form plain on p g k) =
    form_passes (form_of f.profile) f.extension (payload_length f) (length f.elements) x (λ q. in_no_other form (sym g ∙ q))
  where
    in_no_other : (h : Form) → in_paper h ≡ forms.Other → ⊥
    in_no_other one_byte q = let z : ◌≡◌ {A = ℕ} 0 1 = cc in omega arith
    in_no_other (two_byte appbits) q = let z : ◌≡◌ {A = ℕ} 0 1 = cc in omega arith
not_judged f x (whole words on g e m a b) =
    let count : length f.elements ≡ 1 = ap length e in
    let long : payload_length f ≡ length words =
    ap₂ (λ (h : BlockForm) (es : List Element). length (data_of es) + length es * per_element h) g e ∙ omega (arith, ap length (append-nil words)) in
    ap (λ (h : BlockForm). block_asked f.extension h (payload_length f) (length f.elements) x) g
    ∙ words_pass f.extension (payload_length f) (length f.elements) x (omega arith) count

-- ---- the call writes

module _ (h : Header) (room : ℕ) (fits : header_size (fields_of h) ≤ room) where
  ways_written : in_writing_domain h ≡ true → Ways TakenElements (fields_of h) → write_header h room ≡ says (octets_of (fields_of h))
  unfolding fields_of
  ways_written d s = write_asked h room d fits ∙ not_judged (fields_of h) (octets_of (fields_of h)) s

  -- in the one-byte and the two-byte profile everything in the writing domain is written, ids 0 and 15 too
  pub form_written : in_writing_domain h ≡ true → (form_of h.extension_profile ≡ forms.Other → ⊥) → write_header h room ≡ says (octets_of (fields_of h))
  form_written d g =
      write_asked h room d fits
      ∙ form_passes (form_of h.extension_profile) h.extension (payload_length (fields_of h)) (length (fields_of h).elements) (octets_of (fields_of h)) g

pub kept_taken : (f : Fields) → ReadsBack f → Ways TakenElements f
kept_taken f r = ways_by LawfulElements TakenElements (λ form es l. all_taken form (items_for es) l) f (ways_kept f r)

pub kept_in_domain : (h : Header) → in_domain h ≡ true → h.version ≤ 3 → h.payload_type ≤ 127 → ReadsBack (fields_of h) → in_writing_domain h ≡ true
kept_in_domain h d v t r = in_writing_domain_lem h d v t (kept_taken (fields_of h) r)

pub writes : Writes write_header
writes h d r room fits = ways_written h room fits d (kept_taken (fields_of h) r)

pub written_as : (h : Header) → AsTyped h → in_writing_domain h ≡ true → ReadsBack (fields_of h) → (AppBits (fields_of h).profile → ⊥) → (room : ℕ) →
    header_size (fields_of h) ≤ room → WrittenAs (fields_of h) (write_header h room)
written_as h t d r bits room fits = writer (fields_of h) (only_in_range h t d) r bits (write_header h room) (writes h d r room fits)

-- .. and what it wrote reads back
pub octets_back : (f : Fields) → InRange f → Ways TakenElements f → (payload : List ℕ) → Fits (octets_of f ++ payload) →
    read_header (octets_of f ++ payload) ≡ says (record { fields = read_back f; place = length (octets_of f) })
octets_back f w s payload fits = back f w payload fits s

read_back_lem : (f : Fields) (answer : Said (List ℕ)) → InRange f → Ways TakenElements f → answer ≡ says (octets_of f) → WrittenAndRead f answer
read_back_lem f answer w s e = record { octets = octets_of f; written = e; back = octets_back f w s }

pub round_trip : (h : Header) → AsTyped h → in_writing_domain h ≡ true → ReadsBack (fields_of h) → (room : ℕ) → header_size (fields_of h) ≤ room →
    WrittenAndRead (fields_of h) (write_header h room)
round_trip h t d r room fits =
    read_back_lem (fields_of h) (write_header h room) (only_in_range h t d) (kept_taken (fields_of h) r) (writes h d r room fits)

-- ---- the code

bytes_said : (a : Result ℕ Error) (n : ℕ) → said a ≡ says n → a ≡ Ok n
bytes_said (Ok m) n e = let same : m ≡ n = cc in ap (λ (k : ℕ). Ok k) same
bytes_said (Err k) n e = absurd (never (sym e))

-- octets that were written are counted in the answer, and stand in front of the buffer
pub left_by : (a : Result ℕ Error) (buf exit s : List ℕ) → heard_written a exit ≡ written buf (says s) → (a ≡ Ok (length s)) × (exit ≡ splice buf 0 s)
left_by a buf exit s e = (bytes_said a (length s) (ap (λ (x : Written). x.answer) e), ap (λ (x : Written). x.buffer) e)

pub front_left : (buf exit s : List ℕ) → exit ≡ splice buf 0 s → take (length s) exit ≡ s
unfolding splice
front_left buf exit s e = ap (take (length s)) e ∙ take_at s (drop (0 + length s) buf) (length s) refl

pub code_writes : (h : Header) (buf exit : List ℕ) (a : Result ℕ Error) → heard_written a exit ≡ written buf (write_header h (length buf)) →
    in_writing_domain h ≡ true → ReadsBack (fields_of h) → header_size (fields_of h) ≤ length buf →
    (a ≡ Ok (length (octets_of (fields_of h)))) × (exit ≡ splice buf 0 (octets_of (fields_of h)))
code_writes h buf exit a contract d r fits =
    left_by a buf exit (octets_of (fields_of h)) (contract ∙ ap (written buf) (writes h d r (length buf) fits))

pub code_round_trip : (h : Header) → AsTyped h → (buf exit : List ℕ) (a : Result ℕ Error) → heard_written a exit ≡ written buf (write_header h (length buf)) →
    in_writing_domain h ≡ true → ReadsBack (fields_of h) → header_size (fields_of h) ≤ length buf → CodeWrittenAndRead h exit a
code_round_trip h t buf exit a contract d r fits =
    let octets : List ℕ = octets_of (fields_of h) in
    let left : (a ≡ Ok (length octets)) × (exit ≡ splice buf 0 octets) = code_writes h buf exit a contract d r fits in
    let front : take (length octets) exit ≡ octets = front_left buf exit octets left.1 in
    record {
      count = length octets;
      answer = left.0;
      back = λ payload few u read.
          read
          ∙ ap (λ (s : List ℕ). reading_heard (read_header (s ++ payload))) front
          ∙ ap reading_heard
          (octets_back (fields_of h) (only_in_range h t d) (kept_taken (fields_of h) r) payload (subst (λ (s : List ℕ). Fits (s ++ payload)) front few));
    }

-- ---- a record that was read

pub fields_of_lay_out : (f : Fields) → fields_of (lay_out f) ≡ f
unfolding fields_of lay_out
fields_of_lay_out f i =
    record {
      version = f.version;
      padding = f.padding;
      extension = f.extension;
      marker = f.marker;
      type = f.type;
      number = f.number;
      time = f.time;
      source = f.source;
      csrcs = take_pad_to 15 f.csrcs i;
      profile = f.profile;
      elements = elements_of_lay_elements f.elements i;
      pads = f.pads;
    }

lay_out_domain : (f : Fields) → InRange f → f.pads ≤ 262140 → in_domain (lay_out f) ≡ true
unfolding in_domain lay_out lay_elements fields_with
lay_out_domain f w z =
    changed_domain (lay_out (fields_with (fixed_for f) false 0 [] 0)) (rw (le-leb (length f.csrcs) 15 w.count))
    f.profile f.elements f.pads w.within.few w.within.small z

module _ (f : Fields) (y : YieldedAs f) where
  pub lay_out_in_domain : in_writing_domain (lay_out f) ≡ true
  unfolding lay_out
  lay_out_in_domain =
      in_writing_domain_lem (lay_out f) (lay_out_domain f y.range y.pads) y.range.version y.range.type (rw fields_of_lay_out y.way)

  pub lay_out_written : (room : ℕ) → header_size f ≤ room → write_header (lay_out f) room ≡ says (octets_of f)
  lay_out_written room fits =
      ways_written (lay_out f) room (rw fields_of_lay_out fits) lay_out_in_domain (rw fields_of_lay_out y.way)
      ∙ ap (λ (g : Fields). says (octets_of g)) (fields_of_lay_out f)

pub reads_again : (s : List ℕ) → Octets s → (r : Reading) → read_header s ≡ says r → (room : ℕ) → header_size r.fields ≤ room →
    WrittenAndRead r.fields (write_header (lay_out r.fields) room)
reads_again s o r e room fits =
    let y : YieldedAs r.fields = as_yielded s o r e in
    read_back_lem r.fields (write_header (lay_out r.fields) room) y.range y.way (lay_out_written r.fields y room fits)

-- ---- a plan whose padding stands behind the elements

lawful_elements : (form : Form) (is : List Item) → AllLawful form is → LawfulElements form (elements_among is)
lawful_elements form [] l = tt
lawful_elements form (padding ∷ is) l = lawful_elements form is l.1
lawful_elements form (element id bytes ∷ is) l = (l.0, lawful_elements form is l.1)

pub plan_yielded : (p : Plan) → Lawful p → Plain p.content → Within (elements_said p.content) → YieldedAs (fields_said p)
unfolding fields_with
plan_yielded p l plain w = go p.content l.content l.header.extension plain w
  where
    f : Fixed
    f = p.fixed

    go : (c : Option Content) → LawfulPart c → rtp.LawfulPart (extension_in c) → Plain c → Within (elements_said c) →
        YieldedAs (fields_said (record { fixed = f; content = c }))
    go none m k q v =
        record {
          range = range_with f l.header.fixed false 0 [] 0 (omega arith) v;
          way = without refl refl refl;
          pads = omega arith;
        }
    go (some (laid form is)) m k q v =
        record {
          range = range_with f l.header.fixed true (profile_of form) (elements_among is) (pads_among is) k.profile v;
          way = in_form form q refl refl (form_again form q) (all_taken form (items_for (elements_among is)) (lawful_elements form is m.1));
          pads = omega (arith, k.words, k.content, pads_fit form is);
        }
    go (some (other profile words)) m k q v =
        record {
          range = range_with f l.header.fixed true profile (whole_element words ∷ []) 0 k.profile v;
          way = whole words refl (form_other m.0 (λ e. m.1 (omega arith))) refl (omega (arith, k.content)) m.0 (λ e. m.1 (omega arith));
          pads = omega arith;
        }

pub same_octets : (p : Plan) → Lawful p → Plain p.content → Trailing p.content → Within (elements_said p.content) → (room : ℕ) →
    header_size (fields_said p) ≤ room → write_header (lay_out (fields_said p)) room ≡ says (octets p)
same_octets p l plain t w room fits =
    lay_out_written (fields_said p) (plan_yielded p l plain w) room fits ∙ ap says (written_again p l plain t)

-- ---- writers that are shut out

-- a record with an extension that meets the conditions of the round trip
pub record WithExtension : Type 0 where
  pub header : Header
  pub on : header.extension ≡ true
  pub domain : in_writing_domain header ≡ true
  pub kept : ReadsBack (fields_of header)

-- the shortest: one element of id 1 with one byte
pub one_element : WithExtension
unfolding fields_with lay_out
one_element =
    record {
      header = lay_out f;
      on = refl;
      domain = in_writing_domain_lem (lay_out f) (lay_out_domain f range (omega arith)) (omega arith) (omega arith) (kept_taken (fields_of (lay_out f)) (rw fields_of_lay_out kept));
      kept = rw fields_of_lay_out kept;
    }
  where
    f : Fields
    f = fields_with (shortest false 0).fixed true 0xBEDE (record { id = 1; bytes = 0 ∷ [] } ∷ []) 0

    range : InRange f
    range =
        range_with (shortest false 0).fixed (shortest_lawful false 0 (omega arith)).header.fixed true 0xBEDE f.elements 0 (omega arith)
        (record { few = omega arith; small = omega arith })

    kept : ReadsBack f
    kept = (record { id_from = omega arith; id_to = omega arith; len_from = omega arith; len_to = omega arith }, tt)

-- a writer that refuses every record with extensions
pub no_refusing_writer : (write : Header → ℕ → Said (List ℕ)) (why : Header → ℕ → Refusal) →
    ((h : Header) (room : ℕ) → h.extension ≡ true → write h room ≡ refused (why h room)) → Writes write → ⊥
no_refusing_writer write why refuses w =
    let x : WithExtension = one_element in
    let room : ℕ = header_size (fields_of x.header) in
    never (sym (w x.header x.domain x.kept room (omega arith)) ∙ refuses x.header room x.on)
