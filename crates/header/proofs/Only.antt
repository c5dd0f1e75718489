-- "that no second answer satisfies it is proved": each public call's contract is met by one answer, and by no other. For a call that is
-- lent a buffer or arrays an answer is the result with these as they are left. Assumes nothing.
use Rattle.std.specs.Prelude.{Result, Option, Ok, Err, Some, None}
use mathlib.Core.Path.{◌≡◌, refl, sym, ap, ◌∙◌}
use mathlib.Core.Bool.{Bool, true, false, cond, ◌&&◌}
use mathlib.Core.List.{List, [], map}
use Prim.Native.Nat.{ℕ, zero, suc, ◌+◌, ◌*◌, ◌/◌, ◌%◌}
use lib.Dec.{ltb, leb, eqb}
use lib.ListN.{length, take, drop, get_or}
use Rattle.error.specs.declared.Error.{Error}
use Rattle.error.specs.Refusal.{Refusal}
use Rattle.error.specs.Said.{Said, says, refused, refuse, said}
use Rattle.error.specs.Only.{Determined}
use Rattle.error.proofs.Inverse.{error_of, error_of_refusal_of, unsaid, unsaid_said}
use Rattle.error.proofs.Only.{by_value, by_view, by_both, spoken, Sayable, either_sayable, known, passed, by_said}
use Rattle.wire.specs.Net.{u16_at, bit}
use Rattle.wire.specs.Part.{pad_to}
use Rattle.wire.specs.Turns.{Turn, more, done, after, run}
use Rattle.elements.specs.declared.Extensions.{Extensions}
use Rattle.elements.specs.Elements.{Element, data_of, room_for, lay_elements}
use Rattle.elements.specs.Named.{Found, absent, find, replace, append}
use Rattle.elements.specs.Named as named
use Rattle.block_read.specs.Read.{Item, pad, stop, past, element, Block, skip, with_element, taken, turn, items_by, whole_block, read_block, block_at}
use Rattle.block.specs.declared.Form.{Form}
use Rattle.block.specs.declared.Form.TheVariants.{OneByte as one_byte, TwoByte as two_byte, Other as other}
use Rattle.block.specs.Form.{form_of}
use Rattle.header.specs.declared.Header.{Header}
use Rattle.header.specs.declared.Unmarshalled.{Unmarshalled}
use Rattle.header.specs.declared.Front.{Front}
use Rattle.header.specs.declared.FrontRead.{FrontRead}
use Rattle.header_write.specs.declared.Fixed.{Fixed}
use Rattle.header_write.specs.declared.Parts.{Parts}
use Rattle.header.specs.declared.Changed.{Changed}
use Rattle.header.specs.declared.Data.{Data}
use Rattle.header.specs.declared.Ids.{Ids}
use Rattle.header.specs.Fields.{fields_of, blank, in_domain}
use Rattle.header.specs.Read.{Reading, count_of, fixed_length, reading_of, read_extension, read_fixed, read_header}
use Rattle.header.specs.Parts.{fixed_of, together, record_of, bare, front_of, FrontHeard, heard_front, front_heard, Lent, lent_read}
use Rattle.header.specs.Size.{payload_length, header_size, length_asked, size_asked}
use Rattle.header_write.specs.Judge.{judged}
use Rattle.header.specs.Write.{octets_of, in_writing_domain, write_header}
use Rattle.header.specs.Extension.{limited, id_refusal, set_found, set_later, set_first, set_extension, del_found, del_extension, get_extension, get_extension_ids}
use Rattle.header.specs.Said.{Heard, heard, reading_heard, Written, heard_written, written, After, heard_change, change_heard, said_got, Listed, heard_ids, ids_heard}
use Rattle.header.proofs.Fronts.{with_arrays}

-- ---- lengths

pub get_extension_payload_len_only : (h : Header) → Determined (λ (r : Result ℕ Error). said r ≡ length_asked h)
unfolding length_asked
get_extension_payload_len_only h =
    by_said (length_asked h)
    (either_sayable {x = says (payload_length (fields_of h))} {y = refuse 8} (in_domain h) refl refl)

pub marshal_size_only : (h : Header) → Determined (λ (r : Result ℕ Error). said r ≡ size_asked h)
unfolding size_asked
marshal_size_only h =
    by_said (size_asked h)
    (either_sayable {x = says (header_size (fields_of h))} {y = refuse 8} (in_domain h) refl refl)

-- .. of the record put together
pub get_extension_payload_len_parts_only : (f : Fixed) (count : ℕ) (csrc : List ℕ) (profile : ℕ) (x : Extensions) (pads : ℕ) →
    Determined (λ (r : Result ℕ Error). said r ≡ length_asked (together f count csrc profile x pads))
get_extension_payload_len_parts_only f count csrc profile x pads = get_extension_payload_len_only (together f count csrc profile x pads)

pub marshal_size_parts_only : (f : Fixed) (count : ℕ) (csrc : List ℕ) (profile : ℕ) (x : Extensions) (pads : ℕ) →
    Determined (λ (r : Result ℕ Error). said r ≡ size_asked (together f count csrc profile x pads))
marshal_size_parts_only f count csrc profile x pads = marshal_size_only (together f count csrc profile x pads)

-- ---- writing

-- the result beside the buffer as it is left
abbrev pub Left : Type 0
Left = Result ℕ Error × List ℕ

abbrev pub heard_left : Left → Written
heard_left a = heard_written a.0 a.1

abbrev pub left_of : Written → Left
left_of w = (unsaid w.answer, w.buffer)

left_of_heard : (a : Left) → left_of (heard_left a) ≡ a
left_of_heard a = ap (λ (r : Result ℕ Error). (r, a.1)) (unsaid_said a.0)

heard_left_of : (buf : List ℕ) (x : Said (List ℕ)) → Sayable x → heard_left (left_of (written buf x)) ≡ written buf x
heard_left_of buf (says octets) s = refl
heard_left_of buf (refused r) s = ap (λ (k : Refusal). record { answer = refused k; buffer = buf }) (known {A = List ℕ} {r = r} s)

pub written_only : (buf : List ℕ) (x : Said (List ℕ)) → Sayable x → Determined (λ (a : Left). heard_left a ≡ written buf x)
written_only buf x s = by_view heard_left left_of left_of_heard (left_of (written buf x)) (written buf x) (heard_left_of buf x s)

pub judged_sayable : {A : Type 0} (on : Bool) (form : Form) (len count : ℕ) (x : A) →
    Sayable (cond on (judged form len count (says x)) (says x))
judged_sayable true one_byte len count x = refl
judged_sayable true two_byte len count x = refl
judged_sayable true other len count x =
    either_sayable {x = cond (eqb count 1) (says x) (refuse 10)} {y = refuse 9} (eqb (len % 4) 0)
    (either_sayable {x = says x} {y = refuse 10} (eqb count 1) refl refl) refl
judged_sayable false form len count x = refl

write_sayable : (h : Header) (room : ℕ) → Sayable (write_header h room)
unfolding write_header
write_sayable h room =
    let form : Form = form_of h.extension_profile in
    let n : ℕ = payload_length (fields_of h) in
    let count : ℕ = length (fields_of h).elements in
    let octets : List ℕ = octets_of (fields_of h) in
    let asked : Said (List ℕ) = cond h.extension (judged form n count (says octets)) (says octets) in
    either_sayable {x = cond (ltb room (header_size (fields_of h))) (refuse 5) asked} {y = refuse 8} (in_writing_domain h)
    (either_sayable {x = refuse 5} {y = asked} (ltb room (header_size (fields_of h))) refl (judged_sayable h.extension form n count octets))
    refl

pub marshal_to_only : (h : Header) (buf : List ℕ) → Determined (λ (a : Left). heard_left a ≡ written buf (write_header h (length buf)))
marshal_to_only h buf = written_only buf (write_header h (length buf)) (write_sayable h (length buf))

-- of the record put together, and of the bare one
pub marshal_parts_only : (f : Fixed) (count : ℕ) (csrc : List ℕ) (profile : ℕ) (x : Extensions) (pads : ℕ) (buf : List ℕ) →
    Determined (λ (a : Left). heard_left a ≡ written buf (write_header (together f count csrc profile x pads) (length buf)))
marshal_parts_only f count csrc profile x pads buf = marshal_to_only (together f count csrc profile x pads) buf

pub marshal_bare_only : (f : Fixed) (profile pads : ℕ) (buf : List ℕ) →
    Determined (λ (a : Left). heard_left a ≡ written buf (write_header (bare f profile pads) (length buf)))
marshal_bare_only f profile pads buf = marshal_to_only (bare f profile pads) buf

pub fixed_only : (h : Header) → Determined (λ (r : Fixed). r ≡ fixed_of h)
fixed_only h = by_value (fixed_of h)

-- the parts of a record: these numbers, and arrays that hold this
pub record SameParts (r q : Parts) : Type 0 where
  pub fixed : r.fixed ≡ q.fixed
  pub csrc_count : r.csrc_count ≡ q.csrc_count
  pub csrc : r.csrc.now ≡ q.csrc.now
  pub profile : r.profile ≡ q.profile
  pub count : r.count ≡ q.count
  pub ids : r.ids.now ≡ q.ids.now
  pub lens : r.lens.now ≡ q.lens.now
  pub bytes : r.bytes.now ≡ q.bytes.now
  pub padding : r.padding ≡ q.padding

pub parts_only : (h : Header) (r q : Parts) → record_of r ≡ h → record_of q ≡ h → SameParts r q
unfolding together
parts_only h r q a b =
    let e : record_of r ≡ record_of q = a ∙ sym b in
    record {
      fixed = ap fixed_of e;
      csrc_count = ap (λ (x : Header). x.csrc_count) e;
      csrc = ap (λ (x : Header). x.csrc) e;
      profile = ap (λ (x : Header). x.extension_profile) e;
      count = ap (λ (x : Header). x.extensions.count) e;
      ids = ap (λ (x : Header). x.extensions.ids) e;
      lens = ap (λ (x : Header). x.extensions.lens) e;
      bytes = ap (λ (x : Header). x.extensions.bytes) e;
      padding = ap (λ (x : Header). x.extensions_padding) e;
    }

pub is_writable_only : (h : Header) → Determined (λ (r : Bool). r ≡ in_writing_domain h)
is_writable_only h = by_value (in_writing_domain h)

-- ---- reading

-- a turn goes on, or ends in what can be said
abbrev Settled : Turn Block (Said Block) → Type 0
Settled (more b) = Unit
Settled (done x) = Sayable x

settled_either : (x y : Turn Block (Said Block)) (b : Bool) → Settled x → Settled y → Settled (cond b x y)
settled_either x y true p q = p
settled_either x y false p q = q

settled_taken : (b : Block) (i : Item) → Settled (taken b i)
unfolding taken
settled_taken b pad = tt
settled_taken b stop = refl
settled_taken b past = refl
settled_taken b (element head id len) =
    settled_either (more (with_element (record { id = id; bytes = take len (drop head b.rest) }) (skip (head + len) b)))
    (done (refuse 7)) (room_for b.elements len) tt refl

settled_turn : (item : List ℕ → Item) (b : Block) → Settled (turn item b)
unfolding turn
settled_turn item b =
    settled_either (done (says b)) (taken b (item b.rest)) (eqb b.left 0) refl (settled_taken b (item b.rest))

settled_after : (t : Turn Block (Said Block)) (go : Block → Said Block) → Settled t → ((b : Block) → Sayable (go b)) → Sayable (after t go)
settled_after (more b) go s h = h b
settled_after (done x) go s h = s

run_sayable : (item : List ℕ → Item) (fuel : ℕ) (b : Block) → Sayable (run (turn item) (refuse 3) fuel b)
unfolding run
run_sayable item zero b = refl
run_sayable item (suc fuel) b =
    settled_after (turn item b) (run (turn item) (refuse 3) fuel) (settled_turn item b) (λ c. run_sayable item fuel c)

block_sayable : (form : Form) (b : Block) → Sayable (read_block form b)
unfolding whole_block
block_sayable one_byte b = run_sayable (items_by false) (b.left + 1) b
block_sayable two_byte b = run_sayable (items_by true) (b.left + 1) b
block_sayable other b =
    either_sayable {x = says (with_element (record { id = 0; bytes = take b.left b.rest }) (skip b.left b))} {y = refuse 7}
    (room_for b.elements b.left) refl refl

reading_sayable : (s : List ℕ) (cc profile : ℕ) (x : Said Block) → Sayable x → Sayable (reading_of s cc profile x)
reading_sayable s cc profile (says b) e = refl
reading_sayable s cc profile (refused r) e = passed {A = Block} {r = r} e

extension_sayable : (s : List ℕ) (cc at : ℕ) → Sayable (read_extension s cc at)
unfolding read_extension
extension_sayable s cc at =
    let block : Said Block = read_block (form_of (u16_at s at)) (block_at s (at + 4) (4 * u16_at s (at + 2))) in
    let rest : Said Reading = reading_of s cc (u16_at s at) block in
    either_sayable {x = refuse 2} {y = cond (ltb (length s) (at + 4 + 4 * u16_at s (at + 2))) (refuse 2) rest} (ltb (length s) (at + 4)) refl
    (either_sayable {x = refuse 2} {y = rest} (ltb (length s) (at + 4 + 4 * u16_at s (at + 2))) refl
    (reading_sayable s cc (u16_at s at) block (block_sayable (form_of (u16_at s at)) (block_at s (at + 4) (4 * u16_at s (at + 2))))))

fixed_sayable : (s : List ℕ) (cc : ℕ) → Sayable (read_fixed s cc)
unfolding read_fixed
fixed_sayable s cc =
    let plain : Said Reading = reading_of s cc 0 (says (block_at s (fixed_length cc) 0)) in
    let extended : Said Reading = read_extension s cc (fixed_length cc) in
    either_sayable {x = refuse 1} {y = cond (bit (get_or s 0 0 / 16)) extended plain} (ltb (length s) (fixed_length cc)) refl
    (either_sayable {x = extended} {y = plain} (bit (get_or s 0 0 / 16)) (extension_sayable s cc (fixed_length cc)) refl)

pub read_sayable : (s : List ℕ) → Sayable (read_header s)
unfolding read_header
read_sayable s =
    let fixed : Said Reading = read_fixed s (count_of s) in
    either_sayable {x = refuse 8} {y = cond (ltb (length s) 4) (refuse 1) fixed} (ltb 65535 (length s)) refl
    (either_sayable {x = refuse 1} {y = fixed} (ltb (length s) 4) refl (fixed_sayable s (count_of s)))

abbrev unmarshalled_of : Heard → Unmarshalled
unmarshalled_of h = record { read = unsaid h.answer; header = h.header }

unmarshalled_of_heard : (a : Unmarshalled) → unmarshalled_of (heard a) ≡ a
unmarshalled_of_heard a = ap (λ (r : Result ℕ Error). record { read = r; header = a.header }) (unsaid_said a.read)

heard_unmarshalled_of : (x : Said Reading) → Sayable x → heard (unmarshalled_of (reading_heard x)) ≡ reading_heard x
heard_unmarshalled_of (says r) s = refl
heard_unmarshalled_of (refused r) s = ap (λ (k : Refusal). record { answer = refused k; header = blank }) (known {A = Reading} {r = r} s)

pub unmarshal_only : (s : List ℕ) → Determined (λ (r : Unmarshalled). heard r ≡ reading_heard (read_header s))
unmarshal_only s =
    by_view heard unmarshalled_of unmarshalled_of_heard (unmarshalled_of (reading_heard (read_header s))) (reading_heard (read_header s))
    (heard_unmarshalled_of (read_header s) (read_sayable s))

-- .. without the arrays
abbrev front_read_of : FrontHeard → FrontRead
front_read_of h = record { read = unsaid h.answer; front = h.front }

front_read_of_heard : (a : FrontRead) → front_read_of (heard_front a) ≡ a
front_read_of_heard a = ap (λ (r : Result ℕ Error). record { read = r; front = a.front }) (unsaid_said a.read)

heard_front_read_of : (x : Said Reading) → Sayable x → heard_front (front_read_of (front_heard (reading_heard x))) ≡ front_heard (reading_heard x)
heard_front_read_of (says r) s = refl
heard_front_read_of (refused r) s = ap (λ (k : Refusal). record { answer = refused k; front = front_of blank }) (known {A = Reading} {r = r} s)

pub unmarshal_front_only : (s : List ℕ) → Determined (λ (r : FrontRead). heard_front r ≡ front_heard (reading_heard (read_header s)))
unmarshal_front_only s =
    let said : FrontHeard = front_heard (reading_heard (read_header s)) in
    by_view heard_front front_read_of front_read_of_heard (front_read_of said) said (heard_front_read_of (read_header s) (read_sayable s))

pub unmarshal_parts_only : (s : List ℕ) (old : Lent) →
    Determined
    (λ (a : FrontRead × Lent).
    (heard_front a.0 ≡ front_heard (reading_heard (read_header s))) × (a.1 ≡ lent_read old (read_header s)))
unmarshal_parts_only s old = by_both (unmarshal_front_only s) (by_value (lent_read old (read_header s)))

-- of `Front`
pub front_default_only : Determined (λ (r : Front). r ≡ front_of blank)
front_default_only = by_value (front_of blank)

pub front_with_only : (f : Front) (l : Lent) → Determined (λ (r : Header). r ≡ with_arrays f l)
front_with_only f l = by_value (with_arrays f l)

pub default_only : Determined (λ (r : Header). r ≡ blank)
default_only = by_value blank

-- of `Extensions`
pub new_only : Determined (λ (r : Extensions). r ≡ lay_elements [])
new_only = by_value (lay_elements [])

-- ---- setting and deleting

abbrev changed_of : After → Changed
changed_of a = record { change = unsaid a.answer; header = a.header }

changed_of_heard : (a : Changed) → changed_of (heard_change a) ≡ a
changed_of_heard a = ap (λ (c : Result Unit Error). record { change = c; header = a.header }) (unsaid_said a.change)

heard_changed_of : (h : Header) (x : Said Header) → Sayable x → heard_change (changed_of (change_heard h x)) ≡ change_heard h x
heard_changed_of h (says h') s = refl
heard_changed_of h (refused r) s = ap (λ (k : Refusal). record { answer = refused k; header = h }) (known {A = Header} {r = r} s)

change_only : (h : Header) (x : Said Header) → Sayable x → Determined (λ (r : Changed). heard_change r ≡ change_heard h x)
change_only h x s =
    by_view heard_change changed_of changed_of_heard (changed_of (change_heard h x)) (change_heard h x) (heard_changed_of h x s)

limited_sayable : (es : List Element) (h : Header) → Sayable (limited es h)
limited_sayable es h = either_sayable {x = says h} {y = refuse 7} (leb (length es) 32 && leb (length (data_of es)) 1024) refl refl

id_sayable : (form : Form) (id len : ℕ) (next : Said Header) → Sayable next → Sayable (id_refusal form id len next)
id_sayable one_byte id len next s =
    either_sayable {x = cond (leb len 16) next (refuse 12)} {y = refuse 11} (leb 1 id && leb id 14)
    (either_sayable {x = next} {y = refuse 12} (leb len 16) s refl) refl
id_sayable two_byte id len next s =
    either_sayable {x = cond (leb len 255) next (refuse 14)} {y = refuse 13} (leb 1 id)
    (either_sayable {x = next} {y = refuse 14} (leb len 255) s refl) refl
id_sayable other id len next s = either_sayable {x = next} {y = refuse 10} (eqb id 0) s refl

found_sayable : (h : Header) (es : List Element) (id : ℕ) (bytes : List ℕ) (f : Found) → Sayable (set_found h es id bytes f)
found_sayable h es id bytes absent = limited_sayable (append id bytes es) _
found_sayable h es id bytes (named.at place len) = limited_sayable (replace id bytes es) _

set_sayable : (h : Header) (id : ℕ) (bytes : List ℕ) → Sayable (set_extension h id bytes)
unfolding set_extension set_later set_first
set_sayable h id bytes =
    let es : List Element = (fields_of h).elements in
    either_sayable {x = cond h.extension (set_later h es id bytes) (set_first h es id bytes)} {y = refuse 8} (in_domain h)
    (either_sayable {x = set_later h es id bytes} {y = set_first h es id bytes} h.extension
    (id_sayable (form_of h.extension_profile) id (length bytes) (set_found h es id bytes (find id 0 es))
    (found_sayable h es id bytes (find id 0 es)))
    (limited_sayable (append id bytes es) _))
    refl

pub set_extension_only : (h : Header) (id : ℕ) (bytes : List ℕ) →
    Determined (λ (r : Changed). heard_change r ≡ change_heard h (set_extension h id bytes))
set_extension_only h id bytes = change_only h (set_extension h id bytes) (set_sayable h id bytes)

deleted_sayable : (h : Header) (es : List Element) (id : ℕ) (f : Found) → Sayable (del_found h es id f)
deleted_sayable h es id absent = refl
deleted_sayable h es id (named.at place len) = refl

del_sayable : (h : Header) (id : ℕ) → Sayable (del_extension h id)
unfolding del_extension
del_sayable h id =
    let es : List Element = (fields_of h).elements in
    either_sayable {x = cond h.extension (del_found h es id (find id 0 es)) (refuse 16)} {y = refuse 8} (in_domain h)
    (either_sayable {x = del_found h es id (find id 0 es)} {y = refuse 16} h.extension (deleted_sayable h es id (find id 0 es)) refl) refl

pub del_extension_only : (h : Header) (id : ℕ) → Determined (λ (r : Changed). heard_change r ≡ change_heard h (del_extension h id))
del_extension_only h id = change_only h (del_extension h id) (del_sayable h id)

-- ---- looking

abbrev got_of : Said Found → Result (Option Data) Error
got_of (says absent) = Ok None
got_of (says (named.at place len)) = Ok (Some (record { at = place; len = len }))
got_of (refused r) = Err (error_of r)

got_of_said : (a : Result (Option Data) Error) → got_of (said_got a) ≡ a
got_of_said (Ok (Some d)) = refl
got_of_said (Ok None) = refl
got_of_said (Err e) = ap Err (error_of_refusal_of e)

said_got_of : (x : Said Found) → said_got (got_of x) ≡ spoken x
said_got_of (says absent) = refl
said_got_of (says (named.at place len)) = refl
said_got_of (refused r) = refl

pub get_extension_only : (h : Header) (id : ℕ) → Determined (λ (r : Result (Option Data) Error). said_got r ≡ get_extension h id)
unfolding get_extension
get_extension_only h id =
    let answer : Said Found = says (cond h.extension (find id 0 (fields_of h).elements) absent) in
    by_view said_got got_of got_of_said (got_of (get_extension h id)) (get_extension h id)
    (said_got_of (get_extension h id) ∙ either_sayable {x = answer} {y = refuse 8} (in_domain h) refl refl)

pub get_extension_parts_only : (f : Fixed) (count : ℕ) (csrc : List ℕ) (profile : ℕ) (x : Extensions) (pads : ℕ) (id : ℕ) →
    Determined (λ (r : Result (Option Data) Error). said_got r ≡ get_extension (together f count csrc profile x pads) id)
get_extension_parts_only f count csrc profile x pads id = get_extension_only (together f count csrc profile x pads) id

abbrev ids_of : Listed → Ids
ids_of l = record { count = unsaid l.answer; ids = l.ids }

ids_of_heard : (a : Ids) → ids_of (heard_ids a) ≡ a
ids_of_heard a = ap (λ (c : Result ℕ Error). record { count = c; ids = a.ids }) (unsaid_said a.count)

heard_ids_of : (x : Said (List ℕ)) → Sayable x → heard_ids (ids_of (ids_heard x)) ≡ ids_heard x
heard_ids_of (says l) s = refl
heard_ids_of (refused r) s = ap (λ (k : Refusal). record { answer = refused k; ids = pad_to 32 [] }) (known {A = List ℕ} {r = r} s)

pub get_extension_ids_only : (h : Header) → Determined (λ (r : Ids). heard_ids r ≡ ids_heard (get_extension_ids h))
unfolding get_extension_ids
get_extension_ids_only h =
    let answer : Said (List ℕ) = says (cond h.extension (map (λ (e : Element). e.id) (fields_of h).elements) []) in
    by_view heard_ids ids_of ids_of_heard (ids_of (ids_heard (get_extension_ids h))) (ids_heard (get_extension_ids h))
    (heard_ids_of (get_extension_ids h) (either_sayable {x = answer} {y = refuse 8} (in_domain h) refl refl))

pub get_extension_ids_parts_only : (f : Fixed) (count : ℕ) (csrc : List ℕ) (profile : ℕ) (x : Extensions) (pads : ℕ) →
    Determined (λ (r : Ids). heard_ids r ≡ ids_heard (get_extension_ids (together f count csrc profile x pads)))
get_extension_ids_parts_only f count csrc profile x pads = get_extension_ids_only (together f count csrc profile x pads)
