-- 4 is given exactly where a header with the P bit was read, and behind it are no octets, or fewer than the last of them counts: no header is
-- refused by 4, and any other octets behind one are accepted. Every other number is the header's. Assumes nothing.
use mathlib.Core.Path.{◌≡◌, refl, sym, ap, ◌∙◌, subst}
use mathlib.Core.Bool.{Bool, true, false, cond}
use mathlib.Core.List.{List, [], ◌∷◌, ◌++◌}
use mathlib.Core.Option.{Option, none, some}
use Prim.Native.Nat.{ℕ, zero, suc, ◌+◌, ◌-◌, ◌*◌, ◌/◌}
use native.Mathlib.Nat.{lt_of_not-le}
use native.Mathlib.Decide.{dec_le, ℕ_discrete}
use native.Mathlib.Omega.{arith}
use lib.Dec.{ltb, eqb}
use lib.ListN.{length, take, drop, get_or}
use lib.Seq.{drop_at}
use Rattle.error.specs.Refusal.{Refusal}
use Rattle.error.specs.Said.{Said, says, refused, refuse}
use Rattle.wire.specs.Net.{u16_at, bit}
use Rattle.wire.specs.Turns.{Turn, more, done, after, run}
use Rattle.elements.specs.Elements.{Element, room_for}
use Rattle.block_read.specs.Read.{Block, block_at, items_by, taken, turn, read_block, whole_block}
use Rattle.block_read.specs.Read as paper
use Rattle.block.specs.Form.{form_of}
use Rattle.block.specs.declared.Form.{Form as BlockForm}
use Rattle.block.specs.declared.Form.TheVariants as forms
use Rattle.header.specs.Read.{Reading, count_of, fixed_length, reading_of, read_extension, read_fixed, read_header}
use Rattle.rfc3550.specs.Rfc3550.{Fixed, present}
use Rattle.rfc3550.specs.Rfc8285.{one_byte, two_byte, block_octets, Content, laid, other, Plan, Lawful, octets}
use Rattle.rfc3550.specs.Packet.{Padding, Packet, LawfulPacket, LawfulEnd, end_octets, packet_octets, last_octet, Short, nothing_there, over_counted}
use Rattle.rfc3550.proofs.Packets.{padded_room}
use Rattle.header_rfc.specs.Says.{fields_with, Plain}
use Rattle.header_rfc.specs.Says as header
use Rattle.header_rfc.proofs.Refusals.{number_in}
use Rattle.header_rfc.proofs.Plans.{Way, words_way, plan_way}
use Rattle.header_rfc.proofs.Sound.{not_refused, way_read}
use Rattle.packet.specs.Read.{PacketReading, behind, read_packet}
use Rattle.packet_rfc.specs.Says.{CutInPadding}
use Rattle.packet_rfc.proofs.Behind.{reading_at, read_all, read_counted, read_short}

-- ---- no header is refused by 4

abbrev NotFour : {A : Type 0} → Said A → Type 0
NotFour x = number_in x ≡ 4 → ⊥

not_four_test : {A : Type 0} (t : Bool) (x y : Said A) → NotFour x → NotFour y → NotFour (cond t x y)
not_four_test true x y a b = a
not_four_test false x y a b = b

-- a turn that ends a block does not end it so
abbrev EndsElse : Turn Block (Said Block) → Type 0
EndsElse (more b) = Unit
EndsElse (done x) = NotFour x

turn_ends : (item : List ℕ → paper.Item) (b : Block) → EndsElse (turn item b)
unfolding turn taken
turn_ends item b = test (eqb b.left 0) (item b.rest)
  where
    room : (t : Bool) (c : Block) → EndsElse (cond t (more c) (done (refuse 7)))
    room true c = tt
    room false c = λ e. omega arith

    goes : (i : paper.Item) → EndsElse (taken b i)
    goes paper.pad = tt
    goes paper.stop = λ e. omega arith
    goes paper.past = λ e. omega arith
    goes (paper.element head id n) = room (room_for b.elements n) (paper.with_element (record { id = id; bytes = take n (drop head b.rest) }) (paper.skip (head + n) b))

    test : (t : Bool) (i : paper.Item) → EndsElse (cond t (done (says b)) (taken b i))
    test true i = λ e. omega arith
    test false i = goes i

items_not_four : (item : List ℕ → paper.Item) (fuel : ℕ) (b : Block) → NotFour (run (turn item) (refuse 3) fuel b)
unfolding run
items_not_four item zero b = λ e. omega arith
items_not_four item (suc fuel) b = go (turn item b) (turn_ends item b) (λ c. items_not_four item fuel c)
  where
    go : (t : Turn Block (Said Block)) → EndsElse t → ((c : Block) → NotFour (run (turn item) (refuse 3) fuel c)) → NotFour (after t (run (turn item) (refuse 3) fuel))
    go (more c) h next = next c
    go (done x) h next = h

block_not_four : (form : BlockForm) (b : Block) → NotFour (read_block form b)
unfolding whole_block
block_not_four forms.OneByte b = items_not_four (items_by false) (b.left + 1) b
block_not_four forms.TwoByte b = items_not_four (items_by true) (b.left + 1) b
block_not_four forms.Other b =
    not_four_test (room_for b.elements b.left)
    (says (paper.with_element (record { id = 0; bytes = take b.left b.rest }) (paper.skip b.left b))) (refuse 7) (λ e. omega arith) (λ e. omega arith)

reading_not_four : (s : List ℕ) (cc profile : ℕ) (b : Said Block) → NotFour b → NotFour (reading_of s cc profile b)
reading_not_four s cc profile (says b) k e = omega arith
reading_not_four s cc profile (refused r) k e = k e

extension_not_four : (s : List ℕ) (cc at : ℕ) → NotFour (read_extension s cc at)
unfolding read_extension
extension_not_four s cc at =
    let profile : ℕ = u16_at s at in
    let end : ℕ = at + 4 + 4 * u16_at s (at + 2) in
    let block : Said Block = read_block (form_of profile) (block_at s (at + 4) (4 * u16_at s (at + 2))) in
    let inside : Said Reading = cond (ltb (length s) end) (refuse 2) (reading_of s cc profile block) in
    not_four_test (ltb (length s) (at + 4)) (refuse 2) inside (λ e. omega arith)
    (not_four_test (ltb (length s) end) (refuse 2) (reading_of s cc profile block) (λ e. omega arith)
    (reading_not_four s cc profile block (block_not_four (form_of profile) (block_at s (at + 4) (4 * u16_at s (at + 2))))))

fixed_not_four : (s : List ℕ) (cc : ℕ) → NotFour (read_fixed s cc)
unfolding read_fixed
fixed_not_four s cc =
    let at : ℕ = fixed_length cc in
    let plain : Said Reading = reading_of s cc 0 (says (block_at s at 0)) in
    not_four_test (ltb (length s) at) (refuse 1) (cond (bit (get_or s 0 0 / 16)) (read_extension s cc at) plain) (λ e. omega arith)
    (not_four_test (bit (get_or s 0 0 / 16)) (read_extension s cc at) plain (extension_not_four s cc at)
    (reading_not_four s cc 0 (says (block_at s at 0)) (λ e. omega arith)))

header_not_four : (s : List ℕ) → NotFour (read_header s)
unfolding read_header
header_not_four s =
    not_four_test (ltb 65535 (length s)) (refuse 8) (cond (ltb (length s) 4) (refuse 1) (read_fixed s (count_of s))) (λ e. omega arith)
    (not_four_test (ltb (length s) 4) (refuse 1) (read_fixed s (count_of s)) (λ e. omega arith) (fixed_not_four s (count_of s)))

-- ---- 4

pub short : (s : List ℕ) → CutInPadding s → read_packet s ≡ refuse 4
short s c =
    read_short s (drop c.reading.place s) c.reading.place refl c.reading.fields c.read c.bit c.short

-- where a header was read, the packet is read or gets 4
data Behind (s : List ℕ) : Type 0 where
  is_short : CutInPadding s → Behind s
  is_read : (r : PacketReading) → read_packet s ≡ says r → Behind s

behind_header : (s : List ℕ) (h : Reading) → read_header s ≡ says h → Behind s
behind_header s h is = by_bit h.fields.padding refl
  where
    rest : List ℕ
    rest = drop h.place s

    by_bit : (b : Bool) → h.fields.padding ≡ b → Behind s
    by_bit false off = is_read (reading_at h.fields h.place (length rest)) (read_all s rest h.place refl h.fields is off)
    by_bit true on =
        elim (ℕ_discrete (length rest) 0) [
          | yes z ↦ is_short (record { reading = h; read = is; bit = on; short = nothing_there z })
          | no z ↦
              elim (dec_le (last_octet rest) (length rest)) [
                | yes fits ↦
                    is_read (reading_at h.fields h.place (length rest - last_octet rest))
                    (read_counted s rest h.place refl h.fields is on (omega arith) fits)
                | no over ↦ is_short (record { reading = h; read = is; bit = on; short = over_counted (lt_of_not-le over) })
              ]
        ]

pub only_short : (s : List ℕ) → read_packet s ≡ refuse 4 → CutInPadding s
unfolding read_packet
only_short s e = go (read_header s) refl
  where
    told : Behind s → CutInPadding s
    told (is_short c) = c
    told (is_read r q) = absurd (not_refused (read_packet s) 4 r e q)

    go : (x : Said Reading) → read_header s ≡ x → CutInPadding s
    go (says h) is = told (behind_header s h is)
    go (refused w) is =
        let number : w.number ≡ 4 = ap number_in (sym (ap (behind s) is) ∙ e) in
        absurd (header_not_four s (ap number_in is ∙ number))

-- ---- every other number is the header's

pub header_refused : (s : List ℕ) (w : Refusal) → read_header s ≡ refused w → read_packet s ≡ refused w
unfolding read_packet
header_refused s w e = ap (behind s) e

pub only_header_refused : (s : List ℕ) (n : ℕ) → (n ≡ 4 → ⊥) → read_packet s ≡ refuse n → read_header s ≡ refuse n
only_header_refused s n h e = go (read_header s) refl
  where
    told : Behind s → ⊥
    told (is_short c) = h (ap number_in (sym e ∙ short s c))
    told (is_read r q) = not_refused (read_packet s) n r e q

    go : (x : Said Reading) → read_header s ≡ x → read_header s ≡ refuse n
    go (says r) is = absurd (told (behind_header s r is))
    go (refused w) is =
        let same : ◌≡◌ {A = Said PacketReading} (refused w) (refuse n) = sym (header_refused s w is) ∙ e in
        let why : w ≡ record { number = n; carried = [] } = cc in
        is ∙ ap refused why

-- ---- no packet of the RFC is refused by 4, whatever its version, its elements and its length

-- a lawful header that was read: the payload's place is behind it, whatever was made of its elements
module _ (f : Fixed) (body : List ℕ) (r : Reading) where
  abbrev Told : Option Content → Type 0
  Told c = (r.place ≡ length (octets (record { fixed = f; content = c }))) × (r.fields.padding ≡ f.padding)

  -- the way that its octets go tells it
  by_way : (c : Option Content) (x : Bool) (profile : ℕ) (es : List Element) (pads : ℕ) →
      Way (octets (record { fixed = f; content = c }) ++ body) (header.reading_at f x profile es pads (length (octets (record { fixed = f; content = c })))) →
      read_header (octets (record { fixed = f; content = c }) ++ body) ≡ says r → Told c
  unfolding fields_with
  by_way c x profile es pads w e =
      let p : Plan = record { fixed = f; content = c } in
      let said : r ≡ header.reading_at f x profile es pads (length (octets p)) =
      way_read (octets p ++ body) w.course (header.reading_at f x profile es pads (length (octets p))) r w.said e in
      (ap (λ (t : Reading). t.place) said, ap (λ (t : Reading). t.fields.padding) said)

  plain_told : (c : Option Content) → Lawful (record { fixed = f; content = c }) → Plain c →
      read_header (octets (record { fixed = f; content = c }) ++ body) ≡ says r → Told c
  plain_told c l plain e =
      by_way c (present c) (header.profile_said c) (header.elements_said c) (header.pads_said c)
      (plan_way (octets (record { fixed = f; content = c }) ++ body) f c body l plain refl) e

  told : (c : Option Content) → Lawful (record { fixed = f; content = c }) →
      read_header (octets (record { fixed = f; content = c }) ++ body) ≡ says r → Told c
  told none l e = plain_told none l tt e
  told (some (laid one_byte is)) l e = plain_told (some (laid one_byte is)) l tt e
  told (some (laid (two_byte appbits) is)) l e =
      elim (ℕ_discrete appbits 0) [
        | yes z ↦ plain_told (some (laid (two_byte appbits) is)) l z e
        | no z ↦
            by_way (some (laid (two_byte appbits) is)) true (0x1000 + appbits) (header.whole_element (block_octets (two_byte appbits) is) ∷ []) 0
            (words_way (octets (record { fixed = f; content = some (laid (two_byte appbits) is) }) ++ body) f (0x1000 + appbits)
            (block_octets (two_byte appbits) is) body (λ q. omega (arith, l.content.0)) (λ q. z (omega arith)) l.header refl)
            e
      ]
  told (some (other profile content)) l e = plain_told (some (other profile content)) l tt e

pub never_short : (p : Packet) → LawfulPacket p → read_packet (packet_octets p) ≡ refuse 4 → ⊥
unfolding packet_octets
never_short p l e =
    go p.padding l.padding (sym l.bit ∙ sym at.1 ∙ c.bit) refl
  where
    body : List ℕ
    body = p.payload ++ end_octets p.padding

    c : CutInPadding (octets p.header ++ body)
    c = only_short (octets p.header ++ body) e

    at : (c.reading.place ≡ length (octets p.header)) × (c.reading.fields.padding ≡ p.header.fixed.padding)
    at = told p.header.fixed body c.reading p.header.content l.header c.read

    rest : Short body
    rest = subst Short (drop_at (octets p.header) body c.reading.place (sym at.0)) c.short

    go : (end : Option Padding) → LawfulEnd end → present end ≡ true → p.padding ≡ end → ⊥
    go none k set is = let z : ◌≡◌ {A = ℕ} 0 1 = cc in omega arith
    go (some x) k set is =
        padded_room body (record { payload = p.payload; padding = x; lawful = k; same = ap (λ (q : Option Padding). p.payload ++ end_octets q) (sym is) }) rest
