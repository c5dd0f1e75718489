-- `packet_size_asked` and `write_packet` test by test, and the packet's octets behind those of its header. Assumes nothing.
use Rattle.std.specs.Prelude.{Result, Ok, Err}
use mathlib.Core.Path.{◌≡◌, refl, sym, ap, ap₂, ◌∙◌}
use mathlib.Core.Bool.{Bool, true, false, cond, ◌&&◌}
use mathlib.Core.List.{List, [], ◌∷◌, ◌++◌}
use Prim.Native.Nat.{ℕ, zero, suc, ◌+◌, ◌-◌, ◌<◌, ◌≤◌}
use native.Mathlib.Omega.{arith}
use lib.ListN.{length, take, drop, replicate, length-append, length-drop, length-replicate}
use lib.Seq.{length-take-le}
use borrow.Rule.Slice.PartMut.{put_mid}
use borrow.Author.Tests.{lt-ltb, le-ltb}
use Rattle.error.specs.declared.Error.{Error}
use Rattle.error.specs.Said.{says, refuse, said}
use Rattle.wire.specs.Part.{splice, Put}
use Rattle.wire.proofs.Part.{length_splice, splice_behind, splice_lent}
use Rattle.block.specs.Form.{form_of}
use Rattle.header.specs.declared.Header.{Header}
use Rattle.header.specs.Fields.{fields_of, in_domain}
use Rattle.header.specs.Size.{payload_length, header_size}
use Rattle.header.specs.Write.{octets_of, in_writing_domain, write_header}
use Rattle.header_write.specs.Size.{size_for}
use Rattle.header.specs.Said.{heard_written, written}
use Rattle.header.proofs.Octets.{octets_fit}
use Rattle.header.proofs.Writing.{block_asked, write_asked, block_asked_says, Measured, octets_by, sized, size_few, octets_by_lem, judge_refuses, judge_says}
use Rattle.packet.specs.Write.{padding_length, padding_octets, payload_octets, packet_octets, packet_size, short_enough, packet_size_asked, write_packet}

-- ---- the padding

pub padding_some : (n : ℕ) → 0 < n → padding_octets n ≡ replicate (n - 1) 0 ++ (n ∷ [])
padding_some zero h = absurd (omega arith)
padding_some (suc n) h =
    let e : n ≡ suc n - 1 = omega arith in
    ap (λ (k : ℕ). replicate k 0 ++ (suc n ∷ [])) e

pub length_padding : (n : ℕ) → length (padding_octets n) ≡ n
length_padding zero = refl
length_padding (suc n) =
    let l : length {A = ℕ} (replicate n 0) ≡ n = length-replicate n 0 in
    length-append (replicate n 0) (suc n ∷ []) ∙ omega arith

-- ---- the size

pub size_tests : (h : Header) (payload : List ℕ) {a b : Bool} → in_domain h ≡ a → short_enough payload ≡ b →
    packet_size_asked h payload ≡ cond (a && b) (says (packet_size (fields_of h) payload)) (refuse 8)
unfolding packet_size_asked
size_tests h payload p q = ap₂ (λ (a b : Bool). cond (a && b) (says (packet_size (fields_of h) payload)) (refuse 8)) p q

pub packet_size_lem : (h : Header) (payload : List ℕ) →
    packet_size (fields_of h) payload ≡ header_size (fields_of h) + length payload + padding_length h.padding (length payload)
unfolding packet_size fields_of
packet_size_lem h payload = refl

-- ---- 8, 5, 9, 10

pub packet_outside : (h : Header) (payload : List ℕ) (room : ℕ) → in_writing_domain h ≡ false → write_packet h payload room ≡ refuse 8
unfolding write_packet
packet_outside h payload room e = rw e

pub packet_long : (h : Header) (payload : List ℕ) (room : ℕ) → in_writing_domain h ≡ true → short_enough payload ≡ false →
    write_packet h payload room ≡ refuse 8
unfolding write_packet
packet_long h payload room e q = rw (e, q)

pub packet_short : (h : Header) (payload : List ℕ) (room : ℕ) → in_writing_domain h ≡ true → short_enough payload ≡ true →
    room < packet_size (fields_of h) payload → write_packet h payload room ≡ refuse 5
unfolding write_packet
packet_short h payload room e q l = rw (e, q, lt-ltb room (packet_size (fields_of h) payload) l)

packet_asked : (h : Header) (payload : List ℕ) (room : ℕ) → in_writing_domain h ≡ true → short_enough payload ≡ true →
    packet_size (fields_of h) payload ≤ room →
    write_packet h payload room
    ≡ block_asked h.extension (form_of h.extension_profile) (payload_length (fields_of h)) (length (fields_of h).elements)
    (packet_octets (fields_of h) payload)
unfolding write_packet
packet_asked h payload room e q l = rw (e, q, le-ltb room (packet_size (fields_of h) payload) l)

-- with room for the packet, what is written for the header is the packet's too
module _ (h : Header) (payload : List ℕ) (room : ℕ) (w : in_writing_domain h ≡ true) (q : short_enough payload ≡ true)
    (l : packet_size (fields_of h) payload ≤ room) where
  pub header_fits : header_size (fields_of h) ≤ room
  header_fits = omega (arith, packet_size_lem h payload)

  header_asked : write_header h room
      ≡ block_asked h.extension (form_of h.extension_profile) (payload_length (fields_of h)) (length (fields_of h).elements)
      (octets_of (fields_of h))
  header_asked = write_asked h room w header_fits

  pub header_says : (octets : List ℕ) → write_header h room ≡ says octets →
      (octets ≡ octets_of (fields_of h)) × (write_packet h payload room ≡ says (packet_octets (fields_of h) payload))
  header_says octets e =
      let asked = sym header_asked ∙ e in
      let own : says octets ≡ says (octets_of (fields_of h)) = sym e ∙ header_asked
      ∙ block_asked_says (octets_of (fields_of h)) (octets_of (fields_of h)) h.extension (form_of h.extension_profile)
      (payload_length (fields_of h)) (length (fields_of h).elements) asked in (
        cc,
        packet_asked h payload room w q l
            ∙ block_asked_says (octets_of (fields_of h)) (packet_octets (fields_of h) payload) h.extension (form_of h.extension_profile)
            (payload_length (fields_of h)) (length (fields_of h).elements) asked,
      )

-- ---- the octets

pub packet_octets_lem : (h : Header) (payload : List ℕ) →
    packet_octets (fields_of h) payload
    ≡ octets_of (fields_of h) ++ (payload ++ padding_octets (padding_length h.padding (length payload)))
unfolding packet_octets payload_octets fields_of
packet_octets_lem h payload = refl

pub length_payload : (payload : List ℕ) (n : ℕ) → length (payload ++ padding_octets n) ≡ length payload + n
length_payload payload n = length-append payload (padding_octets n) ∙ ap (λ (k : ℕ). length payload + k) (length_padding n)

-- ---- a header whose elements were measured

-- the header was written, and the packet's octets go on behind it
pub record Behind (h : Header) (payload buf exit : List ℕ) (at : ℕ) : Type 0 where
  pub place : at ≡ length (octets_of (fields_of h))
  pub buffer : exit ≡ splice buf 0 (octets_of (fields_of h))
  pub asks : write_packet h payload (length buf) ≡ says (packet_octets (fields_of h) payload)
  pub room : at + (length payload + padding_length h.padding (length payload)) ≤ length exit
  pub reach : at + (length payload + padding_length h.padding (length payload)) ≤ packet_size (fields_of h) payload

module _ (h : Header) (n : ℕ) (m : Measured h n) (payload buf : List ℕ) (q : short_enough payload ≡ true) where
  pub size_measured : packet_size (fields_of h) payload
      ≡ size_for h.csrc_count h.extension n h.extensions_padding + length payload
      + padding_length h.padding (length payload)
  size_measured =
      packet_size_lem h payload
      ∙ ap (λ (k : ℕ). k + length payload + padding_length h.padding (length payload)) (sized h n m)

  pub short_written : length buf < packet_size (fields_of h) payload →
      record { answer = refuse 5; buffer = buf } ≡ written buf (write_packet h payload (length buf))
  short_written l = sym (ap (written buf) (packet_short h payload (length buf) m.domain q l))

  -- 9 and 10 are judged of the elements as they were measured
  module _ (fits : packet_size (fields_of h) payload ≤ length buf) (r : Result ℕ Error)
      (e : said r ≡ block_asked h.extension (form_of h.extension_profile) n h.extensions.count n) where
    pub judge_written : (k : Error) → r ≡ Err k → heard_written (Err k) buf ≡ written buf (write_packet h payload (length buf))
    judge_written k p =
        sym
        (ap (written buf)
        (packet_asked h payload (length buf) m.domain q fits ∙ judge_refuses h n m (packet_octets (fields_of h) payload) r e k p))

    pub behind : (k : ℕ) → r ≡ Ok k → (exit : List ℕ) (at : ℕ) → Put buf 0 (octets_by h n) at exit → Behind h payload buf exit at
    behind k p exit at put =
        let same = ap length (octets_by_lem h n m) in
        let fit = octets_fit (fields_of h) in
        let size = packet_size_lem h payload in
        let kept = ap length put.buffer ∙ length_splice buf 0 (octets_by h n) (omega arith) in
        record {
          place = omega (arith, put.next);
          buffer = put.buffer ∙ sym (ap (splice buf 0) (octets_by_lem h n m));
          asks = packet_asked h payload (length buf) m.domain q fits ∙ judge_says h n m (packet_octets (fields_of h) payload) r e k p;
          room = omega (arith, put.next);
          reach = omega (arith, put.next);
        }

  -- the packet's size as it is counted, of the header's and the padding's
  module _ (size pads : ℕ) (s : size ≡ size_for h.csrc_count h.extension n h.extensions_padding)
      (p : pads ≡ padding_length h.padding (length payload)) where
    pub size_counted : packet_size (fields_of h) payload ≡ size + length payload + pads
    size_counted = omega (arith, size_measured, s, p)

    pub size_small : size ≤ 263308
    size_small = omega (arith, s, size_few h n m)

    -- the header's octets reach no further than its size
    pub reached : (exit : List ℕ) (at : ℕ) → Behind h payload buf exit at → at ≤ size
    reached exit at b = omega (arith, b.reach, size_counted, p)

-- the rest of the buffer, lent on from `at`, has room
pub rest_room : (l : List ℕ) (at n : ℕ) → at + n ≤ length l → n ≤ length (take (length l - at) (drop at l))
rest_room l at n h =
    let d : length (drop at l) ≡ length l - at = length-drop at l in
    let t : length (take (length l - at) (drop at l)) ≡ length l - at = length-take-le (length l - at) (drop at l) (omega arith) in
    omega arith

pub packet_written : (h : Header) (payload buf exit rest : List ℕ) (at k n : ℕ) → Behind h payload buf exit at →
    k ≡ padding_length h.padding (length payload) → n ≡ length payload + k →
    rest ≡ splice (take (length exit - at) (drop at exit)) 0 (payload ++ padding_octets k) →
    record { answer = says (at + n); buffer = put_mid at (length exit - at) exit rest }
    ≡ written buf (write_packet h payload (length buf))
packet_written h payload buf exit rest at k n b e m q =
    let pads : ℕ = padding_length h.padding (length payload) in
    let tail : List ℕ = payload ++ padding_octets pads in
    let octets : List ℕ = octets_of (fields_of h) in
    let size : length tail ≡ length payload + pads = length_payload payload pads in
    let room : at + (length payload + pads) ≤ length exit = b.room in
    let place : at ≡ length octets = b.place in
    let whole : length (octets ++ tail) ≡ length octets + length tail = length-append octets tail in
    let count : at + n ≡ length (octets ++ tail) = omega arith in
    let zero : at + 0 ≡ at = omega arith in
    let lent : put_mid at (length exit - at) exit rest ≡ splice exit (at + 0) tail =
    ap (put_mid at (length exit - at) exit) (q ∙ ap (λ (j : ℕ). splice (take (length exit - at) (drop at exit)) 0 (payload ++ padding_octets j)) e)
    ∙ splice_lent at (length exit - at) exit 0 tail (omega arith) (omega arith) in
    let all : splice exit (at + 0) tail ≡ splice buf 0 (octets ++ tail) =
    ap₂ (λ (l : List ℕ) (j : ℕ). splice l j tail) b.buffer zero ∙ splice_behind buf 0 octets at tail (omega arith) (omega arith) in
    ap₂ (λ (j : ℕ) (l : List ℕ). record { answer = says j; buffer = l }) count (lent ∙ all)
    ∙ sym (ap (written buf) (b.asks ∙ ap says (packet_octets_lem h payload)))
