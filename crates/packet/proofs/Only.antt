-- "that no second answer satisfies it is proved": each public call's contract is met by one answer, and by no other. For a call that is
-- lent a buffer or arrays an answer is the result with these as they are left. Assumes nothing.
use Rattle.std.specs.Prelude.{Result, Ok, Err}
use mathlib.Core.Path.{◌≡◌, refl, ap}
use mathlib.Core.Bool.{cond, ◌&&◌}
use mathlib.Core.List.{List}
use Prim.Native.Nat.{ℕ, ◌-◌}
use lib.Dec.{ltb, eqb}
use lib.ListN.{length, get_or}
use Rattle.error.specs.declared.Error.{Error}
use Rattle.error.specs.Refusal.{Refusal}
use Rattle.error.specs.Said.{Said, says, refused, refuse, said}
use Rattle.error.specs.Only.{Determined}
use Rattle.error.proofs.Inverse.{error_of, error_of_refusal_of}
use Rattle.error.proofs.Only.{by_value, by_view, by_both, Sayable, either_sayable, known, passed, by_said}
use Rattle.elements.specs.declared.Extensions.{Extensions}
use Rattle.block.specs.declared.Form.{Form}
use Rattle.block.specs.Form.{form_of}
use Rattle.header.specs.declared.Header.{Header}
use Rattle.header_write.specs.declared.Fixed.{Fixed}
use Rattle.header.specs.Fields.{Fields, fields_of, blank, in_domain}
use Rattle.header.specs.Parts.{together, bare, front_of, Lent}
use Rattle.header.specs.Read.{Reading, read_header}
use Rattle.header.specs.Size.{payload_length}
use Rattle.header_write.specs.Judge.{judged}
use Rattle.header.specs.Write.{in_writing_domain}
use Rattle.header.specs.Said.{written}
use Rattle.header.proofs.Only.{Left, heard_left, written_only, judged_sayable, read_sayable}
use Rattle.packet.specs.declared.Payload as code
use Rattle.packet.specs.declared.Unmarshalled.{Unmarshalled}
use Rattle.packet.specs.declared.FrontRead.{FrontRead}
use Rattle.packet.specs.Fronts.{FrontHeard, heard_front, front_heard, lent_read}
use Rattle.packet.specs.Read.{Payload, stripped, payload_at, PacketReading, with_fields, behind, read_packet}
use Rattle.packet.specs.Write.{packet_octets, packet_size, short_enough, packet_size_asked, write_packet}
use Rattle.packet.specs.Said.{said_read, Heard, heard, reading_heard}
use Rattle.packet.proofs.Reading.{said_front}

-- ---- size and writing

pub marshal_size_only : (h : Header) (payload : List ℕ) → Determined (λ (r : Result ℕ Error). said r ≡ packet_size_asked h payload)
unfolding packet_size_asked
marshal_size_only h payload =
    by_said (packet_size_asked h payload)
    (either_sayable {x = says (packet_size (fields_of h) payload)} {y = refuse 8} (in_domain h && short_enough payload) refl refl)

-- .. of the header's record put together
pub marshal_size_parts_only : (f : Fixed) (count : ℕ) (csrc : List ℕ) (profile : ℕ) (x : Extensions) (pads : ℕ) (payload : List ℕ) →
    Determined (λ (r : Result ℕ Error). said r ≡ packet_size_asked (together f count csrc profile x pads) payload)
marshal_size_parts_only f count csrc profile x pads payload = marshal_size_only (together f count csrc profile x pads) payload

write_sayable : (h : Header) (payload : List ℕ) (room : ℕ) → Sayable (write_packet h payload room)
unfolding write_packet
write_sayable h payload room =
    let form : Form = form_of h.extension_profile in
    let n : ℕ = payload_length (fields_of h) in
    let count : ℕ = length (fields_of h).elements in
    let octets : List ℕ = packet_octets (fields_of h) payload in
    let size : ℕ = packet_size (fields_of h) payload in
    let asked : Said (List ℕ) = cond h.extension (judged form n count (says octets)) (says octets) in
    either_sayable {x = cond (ltb room size) (refuse 5) asked} {y = refuse 8} (in_writing_domain h && short_enough payload)
    (either_sayable {x = refuse 5} {y = asked} (ltb room size) refl (judged_sayable h.extension form n count octets)) refl

pub marshal_to_only : (h : Header) (payload buf : List ℕ) →
    Determined (λ (a : Left). heard_left a ≡ written buf (write_packet h payload (length buf)))
marshal_to_only h payload buf =
    written_only buf (write_packet h payload (length buf)) (write_sayable h payload (length buf))

-- of the header's record put together, and of the bare one
pub marshal_parts_only : (f : Fixed) (count : ℕ) (csrc : List ℕ) (profile : ℕ) (x : Extensions) (pads : ℕ) (payload buf : List ℕ) →
    Determined (λ (a : Left). heard_left a ≡ written buf (write_packet (together f count csrc profile x pads) payload (length buf)))
marshal_parts_only f count csrc profile x pads payload buf = marshal_to_only (together f count csrc profile x pads) payload buf

pub marshal_bare_only : (f : Fixed) (profile pads : ℕ) (payload buf : List ℕ) →
    Determined (λ (a : Left). heard_left a ≡ written buf (write_packet (bare f profile pads) payload (length buf)))
marshal_bare_only f profile pads payload buf = marshal_to_only (bare f profile pads) payload buf

-- ---- reading

stripped_sayable : (s : List ℕ) (at : ℕ) → Sayable (stripped s at)
unfolding stripped
stripped_sayable s at =
    let left : ℕ = length s - at in
    let n : ℕ = get_or s (length s - 1) 0 in
    let whole : Said Payload = says (record { place = at; len = left - n }) in
    either_sayable {x = refuse 4} {y = cond (ltb left n) (refuse 4) whole} (eqb left 0) refl
    (either_sayable {x = refuse 4} {y = whole} (ltb left n) refl refl)

payload_sayable : (s : List ℕ) (r : Reading) → Sayable (payload_at s r)
payload_sayable s r =
    either_sayable {x = stripped s r.place} {y = says (record { place = r.place; len = length s - r.place })} r.fields.padding
    (stripped_sayable s r.place) refl

fields_sayable : (f : Fields) (x : Said Payload) → Sayable x → Sayable (with_fields f x)
fields_sayable f (says p) e = refl
fields_sayable f (refused r) e = passed {A = Payload} {r = r} e

behind_sayable : (s : List ℕ) (x : Said Reading) → Sayable x → Sayable (behind s x)
behind_sayable s (says r) e = fields_sayable r.fields (payload_at s r) (payload_sayable s r)
behind_sayable s (refused r) e = passed {A = Reading} {r = r} e

pub packet_sayable : (s : List ℕ) → Sayable (read_packet s)
unfolding read_packet
packet_sayable s = behind_sayable s (read_header s) (read_sayable s)

abbrev read_of : Said Payload → Result code.Payload Error
read_of (says p) = Ok (record { at = p.place; len = p.len })
read_of (refused r) = Err (error_of r)

read_of_said : (a : Result code.Payload Error) → read_of (said_read a) ≡ a
read_of_said (Ok p) = refl
read_of_said (Err e) = ap Err (error_of_refusal_of e)

abbrev unmarshalled_of : Heard → Unmarshalled
unmarshalled_of h = record { read = read_of h.answer; header = h.header }

unmarshalled_of_heard : (a : Unmarshalled) → unmarshalled_of (heard a) ≡ a
unmarshalled_of_heard a = ap (λ (r : Result code.Payload Error). record { read = r; header = a.header }) (read_of_said a.read)

heard_unmarshalled_of : (x : Said PacketReading) → Sayable x → heard (unmarshalled_of (reading_heard x)) ≡ reading_heard x
heard_unmarshalled_of (says r) s = refl
heard_unmarshalled_of (refused r) s =
    ap (λ (k : Refusal). record { answer = refused k; header = blank }) (known {A = PacketReading} {r = r} s)

pub unmarshal_only : (s : List ℕ) → Determined (λ (r : Unmarshalled). heard r ≡ reading_heard (read_packet s))
unmarshal_only s =
    by_view heard unmarshalled_of unmarshalled_of_heard (unmarshalled_of (reading_heard (read_packet s))) (reading_heard (read_packet s))
    (heard_unmarshalled_of (read_packet s) (packet_sayable s))

-- .. without the arrays
abbrev front_read_of : FrontHeard → FrontRead
front_read_of h = record { read = read_of h.answer; front = h.front }

front_read_of_heard : (a : FrontRead) → front_read_of (heard_front a) ≡ a
front_read_of_heard a = ap (λ (r : Result code.Payload Error). record { read = r; front = a.front }) (read_of_said a.read)

heard_front_read_of : (x : Said PacketReading) → Sayable x → heard_front (front_read_of (said_front x)) ≡ said_front x
heard_front_read_of (says r) s = refl
heard_front_read_of (refused r) s =
    ap (λ (k : Refusal). record { answer = refused k; front = front_of blank }) (known {A = PacketReading} {r = r} s)

pub unmarshal_front_only : (s : List ℕ) → Determined (λ (r : FrontRead). heard_front r ≡ front_heard (reading_heard (read_packet s)))
unmarshal_front_only s =
    let said : FrontHeard = said_front (read_packet s) in
    by_view heard_front front_read_of front_read_of_heard (front_read_of said) said (heard_front_read_of (read_packet s) (packet_sayable s))

pub unmarshal_parts_only : (s : List ℕ) (old : Lent) →
    Determined
    (λ (a : FrontRead × Lent).
    (heard_front a.0 ≡ front_heard (reading_heard (read_packet s))) × (a.1 ≡ lent_read old (read_packet s)))
unmarshal_parts_only s old = by_both (unmarshal_front_only s) (by_value (lent_read old (read_packet s)))
