-- How `read_packet` goes on from the header's answer. Assumes nothing.
use Rattle.std.specs.Prelude.{Result, Ok, Err}
use mathlib.Core.Path.{◌≡◌, refl, sym, ap, ap₂, subst, ◌∙◌}
use mathlib.Core.Bool.{Bool, true, false, cond}
use mathlib.Core.List.{List}
use Prim.Native.Nat.{ℕ, ◌+◌, ◌-◌, ◌/◌, ◌≤◌}
use native.Mathlib.Omega.{arith}
use lib.Dec.{ltb, eqb}
use lib.ListN.{length, get_or}
use Rattle.error.specs.declared.Error.{Error}
use Rattle.error.specs.Refusal.{refusal_of}
use Rattle.error.specs.Said.{Said, says, refused, refuse, said}
use Rattle.error.proofs.Refusing.{not_says}
use Rattle.wire.specs.Net.{bit}
use Rattle.header.specs.declared.Header.{Header}
use Rattle.header.specs.declared.FrontRead as seen
use Rattle.header.specs.declared.Front.{Front}
use Rattle.header.specs.Fields.{Fields, lay_out, blank}
use Rattle.header.specs.Parts as header
use Rattle.header.specs.Parts.{front_of, Lent, lent_of}
use Rattle.header.specs.Read.{Reading, read_header}
use Rattle.header.specs.Said as head
use Rattle.header.proofs.Reading.{shown, place_inside}
use Rattle.header.proofs.Fronts.{FrontAnswered, front_answered, with_arrays, front_whole, zeros, blank_whole}
use Rattle.packet.specs.declared.Payload as code
use Rattle.packet.specs.declared.FrontRead.{FrontRead}
use Rattle.packet.specs.Fronts.{FrontHeard, heard_front, front_heard, lent_read}
use Rattle.packet.specs.Read.{Payload, stripped, payload_at, PacketReading, with_fields, behind, read_packet}
use Rattle.packet.specs.Said.{said_read, Begins, unpadded, Heard, heard, reading_heard}

-- the header was refused
pub packet_refused : (s : List ℕ) (e : Error) → read_header s ≡ refused (refusal_of e) → read_packet s ≡ refused (refusal_of e)
unfolding read_packet
packet_refused s e h = ap (behind s) h

module _ (s : List ℕ) (f : Front) (at : ℕ) (a : FrontAnswered s f at) where
  padding_is : f.fixed.padding ≡ a.fields.padding
  unfolding lay_out
  padding_is = ap (λ (x : Front). x.fixed.padding) a.laid

  pub packet_plain : f.fixed.padding ≡ false →
      read_packet s ≡ says (record { fields = a.fields; payload = record { place = at; len = length s - at } })
  unfolding read_packet
  packet_plain e = ap (behind s) a.reads ∙ rw (sym padding_is ∙ e)

  pub packet_padded : f.fixed.padding ≡ true → read_packet s ≡ with_fields a.fields (stripped s at)
  unfolding read_packet
  packet_padded e = ap (behind s) a.reads ∙ rw (sym padding_is ∙ e)

-- what reading answers, without the arrays
abbrev pub said_front : Said PacketReading → FrontHeard
said_front x = front_heard (reading_heard x)

-- the front beside the payload's answer
module _ (f : Fields) (r : Result code.Payload Error) (h : Front) where
  beside : (r' : Result code.Payload Error) (h' : Front) → r ≡ r' → h ≡ h' →
      heard_front (record { read = r'; front = h' }) ≡ said_front (with_fields f (said_read r')) →
      heard_front (record { read = r; front = h }) ≡ said_front (with_fields f (said_read r))
  beside r' h' er eh e =
      ap₂ (λ (x : Result code.Payload Error) (y : Front). heard_front (record { read = x; front = y })) er eh
      ∙ e
      ∙ sym (ap (λ (x : Result code.Payload Error). said_front (with_fields f (said_read x))) er)

  pub beside_payload : (p : code.Payload) → r ≡ Ok p → h ≡ front_of (lay_out f) →
      heard_front (record { read = r; front = h }) ≡ said_front (with_fields f (said_read r))
  beside_payload p er eh = beside (Ok p) (front_of (lay_out f)) er eh refl

  pub beside_refusal : (e : Error) → r ≡ Err e → h ≡ front_of blank →
      heard_front (record { read = r; front = h }) ≡ said_front (with_fields f (said_read r))
  beside_refusal e er eh = beside (Err e) (front_of blank) er eh refl

-- ---- the arrays

-- an answer with a payload is that of a packet that was read
module _ (q : FrontRead) (x : Said PacketReading) (e : heard_front q ≡ said_front x) where
  answers : said_read q.read ≡ (said_front x).answer
  answers = ap (λ (k : FrontHeard). k.answer) e

  pub front_says : (p : code.Payload) → q.read ≡ Ok p → (r : PacketReading) × (x ≡ says r)
  front_says p is = go x answers
    where
      go : (y : Said PacketReading) → said_read q.read ≡ (said_front y).answer → (r : PacketReading) × (y ≡ says r)
      go (says r) a = (r, refl)
      go (refused r) a = absurd (not_says (sym (ap said_read (sym is) ∙ a)))

  -- .. and a refusal leaves them
  pub front_refusal : (old : Lent) (r : Error) → q.read ≡ Err r → old ≡ lent_read old x
  front_refusal old r p = go x answers
    where
      go : (y : Said PacketReading) → said_read q.read ≡ (said_front y).answer → old ≡ lent_read old y
      go (says y) a = absurd (not_says (ap said_read (sym p) ∙ a))
      go (refused n) a = refl

-- the arrays of a packet that was read are those of its header
pub arrays_alike : (old : Lent) (s : List ℕ) (r : PacketReading) → read_packet s ≡ says r →
    header.lent_read old (read_header s) ≡ lent_read old (read_packet s)
unfolding read_packet
arrays_alike old s r e = go (read_header s) e
  where
    paid : (f : Fields) (p : Said Payload) → with_fields f p ≡ says r → lent_of (lay_out f) ≡ lent_read old (with_fields f p)
    paid f (says p) is = refl
    paid f (refused n) is = absurd (not_says is)

    go : (x : Said Reading) → behind s x ≡ says r → header.lent_read old x ≡ lent_read old (behind s x)
    go (says h) is = paid h.fields (payload_at s h) is
    go (refused n) is = refl

-- ---- without the padding bit

-- what lies behind the header is the payload
abbrev rest : ℕ → Said ℕ → Said Payload
rest n (says place) = says (record { place = place; len = n - place })
rest n (refused r) = refused r

unpadded_rest : (n : ℕ) (a : Result ℕ Error) → unpadded n a ≡ rest n (said a)
unpadded_rest n (Ok place) = refl
unpadded_rest n (Err e) = refl

-- .. and the fields are the header's
abbrev plain : List ℕ → Said Reading → Said PacketReading
plain s (says r) = says (record { fields = r.fields; payload = record { place = r.place; len = length s - r.place } })
plain s (refused r) = refused r

module _ (s : List ℕ) (clear : bit (get_or s 0 0 / 32) ≡ false) where
  packet_clear : read_packet s ≡ plain s (read_header s)
  unfolding read_packet
  packet_clear = go (read_header s) refl
    where
      go : (x : Said Reading) → read_header s ≡ x → behind s x ≡ plain s x
      go (says r) is = rw ((shown s r is).padding ∙ clear)
      go (refused r) is = refl

  pub arrays_clear : (old : Lent) → header.lent_read old (read_header s) ≡ lent_read old (read_packet s)
  arrays_clear old = go (read_header s) ∙ sym (ap (lent_read old) packet_clear)
    where
      go : (x : Said Reading) → header.lent_read old x ≡ lent_read old (plain s x)
      go (says r) = refl
      go (refused r) = refl

module _ (s : List ℕ) (q : seen.FrontRead) (e : header.heard_front q ≡ header.front_heard (head.reading_heard (read_header s))) where
  pub front_begins : Begins (length s) q.read
  front_begins = go q.read refl
    where
      go : (a : Result ℕ Error) → q.read ≡ a → Begins (length s) a
      go (Ok place) is = place_inside s _ (front_answered q s e place is).reads
      go (Err r) is = tt

  pub front_clear : bit (get_or s 0 0 / 32) ≡ false → (p : Said Payload) → p ≡ unpadded (length s) q.read →
      record { answer = p; front = q.front } ≡ said_front (read_packet s)
  front_clear clear p is =
      ap (λ (x : Said Payload). record { answer = x; front = q.front }) (is ∙ unpadded_rest (length s) q.read)
      ∙ ap onwards e
      ∙ go (read_header s)
      ∙ sym (ap said_front (packet_clear s clear))
    where
      onwards : header.FrontHeard → FrontHeard
      onwards h = record { answer = rest (length s) h.answer; front = h.front }

      go : (x : Said Reading) → onwards (header.front_heard (head.reading_heard x)) ≡ said_front (plain s x)
      go (says r) = refl
      go (refused r) = refl

-- the front with the arrays, which were zeros before, is the record beside the answer
pub whole_heard : (q : FrontRead) (l : Lent) (x : Said PacketReading) → heard_front q ≡ said_front x → l ≡ lent_read zeros x →
    heard (record { read = q.read; header = with_arrays q.front l }) ≡ reading_heard x
whole_heard q l x e a = parts ∙ go x
  where
    rejoined : FrontHeard → Lent → Heard
    rejoined h l = record { answer = h.answer; header = with_arrays h.front l }

    parts : heard (record { read = q.read; header = with_arrays q.front l }) ≡ rejoined (said_front x) (lent_read zeros x)
    parts i = rejoined (e i) (a i)

    go : (x : Said PacketReading) → rejoined (said_front x) (lent_read zeros x) ≡ reading_heard x
    go (says r) = ap (λ (h : Header). record { answer = says r.payload; header = h }) (front_whole (lay_out r.fields))
    go (refused r) = ap (λ (h : Header). record { answer = refused r; header = h }) blank_whole

-- ---- a payload lies within the packet

abbrev Inside : ℕ → Said Payload → Type 0
Inside n (says p) = p.place + p.len ≤ n
Inside n (refused r) = Unit

inside_test : (n : ℕ) (t : Bool) (x y : Said Payload) → Inside n x → Inside n y → Inside n (cond t x y)
inside_test n true x y a b = a
inside_test n false x y a b = b

inside_stripped : (s : List ℕ) (at : ℕ) → at ≤ length s → Inside (length s) (stripped s at)
unfolding stripped
inside_stripped s at h =
    let last : ℕ = get_or s (length s - 1) 0 in
    let whole : Said Payload = says (record { place = at; len = length s - at - last }) in
    inside_test (length s) (eqb (length s - at) 0) (refuse 4) (cond (ltb (length s - at) last) (refuse 4) whole) tt
    (inside_test (length s) (ltb (length s - at) last) (refuse 4) whole tt (omega arith))

inside_payload : (s : List ℕ) (r : Reading) → r.place ≤ length s → Inside (length s) (payload_at s r)
inside_payload s r h =
    inside_test (length s) r.fields.padding (stripped s r.place) (says (record { place = r.place; len = length s - r.place }))
    (inside_stripped s r.place h) (omega arith)

pub payload_inside : (s : List ℕ) (r : PacketReading) → read_packet s ≡ says r → r.payload.place + r.payload.len ≤ length s
unfolding read_packet
payload_inside s r e = go (read_header s) refl
  where
    taken : (f : Fields) (p : Said Payload) → with_fields f p ≡ says r → Inside (length s) p → r.payload.place + r.payload.len ≤ length s
    taken f (says p) q inside =
        let g : says (record { fields = f; payload = p }) ≡ says r = q in
        let same : record { fields = f; payload = p } ≡ r = cc in
        let fits : p.place + p.len ≤ length s = inside in
        subst (λ (x : PacketReading). x.payload.place + x.payload.len ≤ length s) same fits
    taken f (refused n) q inside = absurd (not_says q)

    go : (x : Said Reading) → read_header s ≡ x → r.payload.place + r.payload.len ≤ length s
    go (says h) is = taken h.fields (payload_at s h) (sym (ap (behind s) is) ∙ e) (inside_payload s h (place_inside s h is))
    go (refused n) is = absurd (not_says (sym (ap (behind s) is) ∙ e))
