-- `write_header` counted from the record: its tests one after the other, and its octets by its parts. Assumes nothing.
use Rattle.std.specs.Prelude.{Result, Ok, Err}
use mathlib.Core.Path.{◌≡◌, refl, sym, ap, ap₂, ◌∙◌}
use mathlib.Core.Bool.{Bool, true, false, cond, ◌&&◌}
use mathlib.Core.List.{List}
use Prim.Native.Nat.{ℕ, ◌%◌, ◌<◌, ◌≤◌}
use native.Mathlib.Omega.{arith}
use lib.Dec.{leb, eqb}
use lib.ListN.{length, take}
use borrow.Author.Tests.{lt-ltb, le-ltb, leb-true, le-leb}
use Rattle.std.proofs.lemmas.Bool.{and_parts}
use Rattle.error.specs.declared.Error.{Error}
use Rattle.error.specs.Refusal.{Refusal, refusal_of}
use Rattle.error.specs.Said.{Said, says, refused, refuse, said}
use Rattle.wire.specs.Part.{splice, Put}
use Rattle.elements.specs.Elements.{elements_of, elements_in}
use Rattle.elements.proofs.Packed.{PackedIn, length_elements_of}
use Rattle.block.specs.declared.Form.{Form}
use Rattle.block.specs.declared.Form.TheVariants.{OneByte as one_byte, TwoByte as two_byte, Other as other}
use Rattle.block.specs.Form.{form_of}
use Rattle.block_write.specs.Write.{all_fit, all_writable}
use Rattle.block_write.proofs.Octets.{all_writable_fit}
use Rattle.header.specs.declared.Header.{Header}
use Rattle.header.specs.Fields.{fields_of, in_domain}
use Rattle.header.specs.Size.{payload_length, header_size}
use Rattle.header_write.specs.Size.{size_for}
use Rattle.header_write.specs.Parts.{octets_for}
use Rattle.header_write.proofs.Domain.{Fine, in_limits_lem}
use Rattle.header_write.specs.Judge.{judged}
use Rattle.header.specs.Write.{octets_of, in_writing_domain, write_header}
use Rattle.header.specs.Said.{Written, heard_written, written}
use Rattle.header.specs.Parts.{fixed_of}
use Rattle.header.proofs.Sizes.{never, length_in, payload_length_lem, header_size_lem, length_few, size_most, Arrays, LimitsOf, limits_of, packed}
use Rattle.header.proofs.Octets.{octets_parts, octets_fit}

abbrev pub fit_in : Header → Bool
fit_in h =
    all_fit (form_of h.extension_profile) (take h.extensions.count h.extensions.ids)
    (take h.extensions.count h.extensions.lens)

-- the tests in their order, with their outcomes
pub writing_domain : (h : Header) {a b c d : Bool} → in_domain h ≡ a → leb h.version 3 ≡ b → leb h.payload_type 127 ≡ c →
    all_writable (form_of h.extension_profile) (fields_of h).elements ≡ d → in_writing_domain h ≡ (a && (b && (c && d)))
unfolding in_writing_domain
writing_domain h p q r s = rw (p, q, r, s)

pub fitting : (h : Header) → PackedIn h.extensions → all_writable (form_of h.extension_profile) (fields_of h).elements ≡ fit_in h
unfolding fields_of elements_of
fitting h p =
    all_writable_fit (form_of h.extension_profile) h.extensions.count h.extensions.ids h.extensions.lens h.extensions.bytes p

-- what the tests say of a record that can be written
pub record Writable (h : Header) : Type 0 where
  pub limits : LimitsOf h
  pub packing : PackedIn h.extensions
  pub sources : h.csrc_count ≤ length h.csrc
  pub version : h.version ≤ 3
  pub type : h.payload_type ≤ 127
  pub fit : fit_in h ≡ true

pub writable : (h : Header) → Arrays h → in_writing_domain h ≡ true → Writable h
unfolding in_writing_domain
writable h a e =
    let some = and_parts (in_domain h) _ e in
    let more = and_parts (leb h.version 3) _ some.1 in
    let last = and_parts (leb h.payload_type 127) _ more.1 in
    let l = limits_of h some.0 in
    let p = packed h a l in
    record {
      limits = l;
      packing = p;
      sources = omega (arith, l.sources, a.csrc);
      version = leb-true h.version 3 more.0;
      type = leb-true h.payload_type 127 last.0;
      fit = sym (fitting h p) ∙ last.1;
    }

-- ---- 8, 5, 9, 10

-- 9 and 10, with extensions on or off
abbrev pub block_asked : {A : Type 0} → Bool → Form → ℕ → ℕ → A → Said A
block_asked on form len count x = cond on (judged form len count (says x)) (says x)

pub write_outside : (h : Header) (room : ℕ) → in_writing_domain h ≡ false → write_header h room ≡ refuse 8
unfolding write_header
write_outside h room e = rw e

pub write_short : (h : Header) (room : ℕ) → in_writing_domain h ≡ true → room < header_size (fields_of h) → write_header h room ≡ refuse 5
unfolding write_header
write_short h room e l = rw (e, lt-ltb room (header_size (fields_of h)) l)

pub write_asked : (h : Header) (room : ℕ) → in_writing_domain h ≡ true → header_size (fields_of h) ≤ room →
    write_header h room
    ≡ block_asked h.extension (form_of h.extension_profile) (payload_length (fields_of h)) (length (fields_of h).elements)
    (octets_of (fields_of h))
unfolding write_header
write_asked h room e l = rw (e, le-ltb room (header_size (fields_of h)) l)

-- a refusal, or none, is the same whatever is asked for
module _ {A B : Type 0} (x : A) (y : B) where
  refused_too : (a b : Bool) {r : Refusal} → cond a (cond b (says x) (refuse 10)) (refuse 9) ≡ refused r →
      cond a (cond b (says y) (refuse 10)) (refuse 9) ≡ refused r
  refused_too true true e = absurd (never e)
  refused_too true false e = cc
  refused_too false b e = cc

  pub block_asked_refused : (on : Bool) (form : Form) (len count : ℕ) {r : Refusal} → block_asked on form len count x ≡ refused r →
      block_asked on form len count y ≡ refused r
  block_asked_refused true other len count e = refused_too (eqb (len % 4) 0) (eqb count 1) e
  block_asked_refused true one_byte len count e = absurd (never e)
  block_asked_refused true two_byte len count e = absurd (never e)
  block_asked_refused false form len count e = absurd (never e)

  said_too : (a b : Bool) {z : A} → cond a (cond b (says x) (refuse 10)) (refuse 9) ≡ says z →
      cond a (cond b (says y) (refuse 10)) (refuse 9) ≡ says y
  said_too true true e = refl
  said_too true false e = absurd (never (sym e))
  said_too false b e = absurd (never (sym e))

  pub block_asked_says : (on : Bool) (form : Form) (len count : ℕ) {z : A} → block_asked on form len count x ≡ says z →
      block_asked on form len count y ≡ says y
  block_asked_says true other len count e = said_too (eqb (len % 4) 0) (eqb count 1) e
  block_asked_says true one_byte len count e = refl
  block_asked_says true two_byte len count e = refl
  block_asked_says false form len count e = refl

-- ---- a record whose elements were measured

abbrev pub FineOf : Header → Type 0
FineOf h =
    Fine (fixed_of h) h.csrc_count h.extension_profile h.extensions.count h.extensions.ids h.extensions.lens
    h.extensions_padding

-- all that is written
abbrev pub octets_by : Header → ℕ → List ℕ
octets_by h n =
    octets_for (fixed_of h) (take h.csrc_count h.csrc) h.extension_profile n
    (elements_in h.extensions.count h.extensions.ids h.extensions.lens h.extensions.bytes)

-- its tests are those of the parts, and the elements take n bytes with their heads
pub record Measured (h : Header) (n : ℕ) : Type 0 where
  pub domain : in_writing_domain h ≡ true
  pub can : Writable h
  pub taken : n ≡ length_in h

module _ (h : Header) (a : Arrays h) where
  pub fine_domain : FineOf h → in_writing_domain h ≡ true
  unfolding in_domain
  fine_domain w =
      writing_domain h
      (in_limits_lem h.csrc_count h.extensions.count h.extensions.lens h.extensions_padding w.limits)
      (le-leb h.version 3 w.version) (le-leb h.payload_type 127 w.type)
      (fitting h (packed h a w.limits) ∙ w.fit)

  pub measured : (n : ℕ) → FineOf h → n ≡ length_in h → Measured h n
  measured n w e = record { domain = fine_domain w; can = writable h a (fine_domain w); taken = e }

  pub not_fine : (FineOf h → ⊥) → in_writing_domain h ≡ false
  not_fine out = go (in_writing_domain h) refl
    where
      go : (b : Bool) → in_writing_domain h ≡ b → in_writing_domain h ≡ false
      go true e =
          let w = writable h a e in
          absurd (out (record { limits = w.limits; version = w.version; type = w.type; fit = w.fit }))
      go false e = e

module _ (h : Header) (n : ℕ) (m : Measured h n) where
  pub few : n ≤ 1088
  few = omega (arith, m.taken, length_few h m.can.limits)

  pub sized : header_size (fields_of h) ≡ size_for h.csrc_count h.extension n h.extensions_padding
  sized =
      header_size_lem h m.can.packing m.can.sources
      ∙ ap (λ (k : ℕ). size_for h.csrc_count h.extension k h.extensions_padding) (sym m.taken)

  pub size_few : size_for h.csrc_count h.extension n h.extensions_padding ≤ 263308
  size_few =
      size_most h.extension h.csrc_count n h.extensions_padding m.can.limits.sources few m.can.limits.zeros

  pub octets_by_lem : octets_of (fields_of h) ≡ octets_by h n
  unfolding fields_of elements_of
  octets_by_lem = octets_parts (fields_of h) ∙ ap (octets_by h) (payload_length_lem h m.can.packing ∙ sym m.taken)

  -- a place with room for the size has room for them
  pub octets_room : (room : ℕ) → header_size (fields_of h) ≤ room → length (octets_by h n) ≤ room
  octets_room room fits = omega (arith, octets_fit (fields_of h), ap length octets_by_lem)

  pub all_writable_lem : all_writable (form_of h.extension_profile)
      (elements_in h.extensions.count h.extensions.ids h.extensions.lens h.extensions.bytes) ≡ true
  all_writable_lem =
      all_writable_fit (form_of h.extension_profile) h.extensions.count h.extensions.ids h.extensions.lens h.extensions.bytes
      m.can.packing
      ∙ m.can.fit

  -- what was judged of the elements as they were measured is judged whatever is asked for
  module _ {A : Type 0} (x : A) (r : Result ℕ Error)
      (e : said r ≡ block_asked h.extension (form_of h.extension_profile) n h.extensions.count n) where
    abbrev asked : Said A
    asked = block_asked h.extension (form_of h.extension_profile) (payload_length (fields_of h)) (length (fields_of h).elements) x

    as_measured : asked ≡ block_asked h.extension (form_of h.extension_profile) n h.extensions.count x
    unfolding fields_of
    as_measured =
        ap₂ (λ (k l : ℕ). block_asked h.extension (form_of h.extension_profile) k l x)
        (payload_length_lem h m.can.packing ∙ sym m.taken) (length_elements_of h.extensions m.can.packing)

    pub judge_refuses : (k : Error) → r ≡ Err k → asked ≡ refused (refusal_of k)
    judge_refuses k p =
        as_measured
        ∙ block_asked_refused n x h.extension (form_of h.extension_profile) n h.extensions.count (sym e ∙ ap said p)

    pub judge_says : (k : ℕ) → r ≡ Ok k → asked ≡ says x
    judge_says k p =
        as_measured
        ∙ block_asked_says n x h.extension (form_of h.extension_profile) n h.extensions.count (sym e ∙ ap said p)

  -- the answer and the buffer, where there is no room, where 9 or 10 was judged, and where the octets were put
  module _ (buf : List ℕ) where
    pub short_written : length buf < size_for h.csrc_count h.extension n h.extensions_padding →
        record { answer = refuse 5; buffer = buf } ≡ written buf (write_header h (length buf))
    short_written l = sym (ap (written buf) (write_short h (length buf) m.domain (omega (arith, sized))))

    module _ (fits : header_size (fields_of h) ≤ length buf) (r : Result ℕ Error)
        (e : said r ≡ block_asked h.extension (form_of h.extension_profile) n h.extensions.count n) where
      pub judge_written : (k : Error) → r ≡ Err k → heard_written (Err k) buf ≡ written buf (write_header h (length buf))
      judge_written k p =
          sym (ap (written buf) (write_asked h (length buf) m.domain fits ∙ judge_refuses (octets_of (fields_of h)) r e k p))

      pub put_written : (k : ℕ) → r ≡ Ok k → (exit : List ℕ) (at : ℕ) → Put buf 0 (octets_by h n) at exit →
          record { answer = says at; buffer = exit } ≡ written buf (write_header h (length buf))
      put_written k p exit at q =
          ap₂ (λ (l : ℕ) (b : List ℕ). record { answer = says l; buffer = b }) (omega (arith, q.next, ap length octets_by_lem))
          (q.buffer ∙ sym (ap (splice buf 0) octets_by_lem))
          ∙ sym (ap (written buf) (write_asked h (length buf) m.domain fits ∙ judge_says (octets_of (fields_of h)) r e k p))

-- ---- for callers

-- what a call answered is what the definition says: these octets were written
pub record WrittenOut (buf : List ℕ) (asked : Said (List ℕ)) (n : ℕ) (exit : List ℕ) : Type 0 where
  pub octets : List ℕ
  pub asks : asked ≡ says octets
  pub count : n ≡ length octets
  pub buffer : exit ≡ splice buf 0 octets

module _ (r : Result ℕ Error) (buf exit : List ℕ) where
  told : (q : Result ℕ Error) (x : Said (List ℕ)) → heard_written r exit ≡ written buf x → r ≡ q → heard_written q exit ≡ written buf x
  told q x e p = ap (λ (l : Result ℕ Error). heard_written l exit) (sym p) ∙ e

  pub written_out : (x : Said (List ℕ)) (n : ℕ) → heard_written r exit ≡ written buf x → r ≡ Ok n → WrittenOut buf x n exit
  written_out (says octets) n e p =
      let h = told (Ok n) (says octets) e p in
      let a : says n ≡ says (length octets) = ap (λ (w : Written). w.answer) h in
      record { octets = octets; asks = refl; count = cc; buffer = ap (λ (w : Written). w.buffer) h }
  written_out (refused k) n e p = absurd (never (ap (λ (w : Written). w.answer) (told (Ok n) (refused k) e p)))

  -- .. or a refusal
  pub written_refused : (x : Said (List ℕ)) (k : Error) → heard_written r exit ≡ written buf x → r ≡ Err k →
      (x ≡ refused (refusal_of k)) × (exit ≡ buf)
  written_refused (says octets) k e p =
      absurd (never (sym (ap (λ (w : Written). w.answer) (told (Err k) (says octets) e p))))
  written_refused (refused q) k e p =
      let h = told (Err k) (refused q) e p in
      let a : refused (refusal_of k) ≡ refused q = ap (λ (w : Written). w.answer) h in
      let same : q ≡ refusal_of k = cc in
      (ap refused same, ap (λ (w : Written). w.buffer) h)
