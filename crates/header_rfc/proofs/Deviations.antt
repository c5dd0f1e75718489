-- What the reader does where a header leaves RFC 8285, one theorem for each row of docs/DIFFERENCES.md: each is one of the four ways, which the reader
-- follows. Assumes nothing.
use mathlib.Core.Path.{◌≡◌, refl, subst}
use mathlib.Core.Bool.{true}
use mathlib.Core.List.{List, [], ◌∷◌, ◌++◌, append-nil}
use mathlib.Core.Option.{some}
use Prim.Native.Nat.{ℕ}
use native.Mathlib.Omega.{arith}
use lib.ListN.{length}
use Rattle.error.specs.Said.{says, refuse}
use Rattle.elements.specs.Elements.{Element}
use Rattle.header.specs.Read.{read_header}
use Rattle.rfc3550.specs.Rfc3550.{Fixed}
use Rattle.rfc3550.specs.Rfc3550 as rtp
use Rattle.rfc3550.specs.Rfc8285.{Form, profile_of, Item, element, laid, Plan, Lawful, octets}
use Rattle.header_rfc.specs.Says.{elements_among, pads_among, elements_said, whole_element, fields_with, reading_at, reading_said, Within, Over, PlainForm, Plain, AppBits, Fits}
use Rattle.header_rfc.specs.Taken.{Ending, ends, fifteen, leaving, lone, unread, last_element, header_with, Taken, LawfulTaken, packet_taken, elements_taken, place_taken, LackingIn, WordsIn, takes, lacks, words}
use Rattle.header_rfc.specs.Accepted.{ReadAs}
use Rattle.header_rfc.proofs.Complete.{complete}
use Rattle.header_rfc.proofs.Follows.{follows, taken_payload}

-- ---- a header that is taken: its items are lawful, or ids 0 with a length

module _ (t : Taken) (l : LawfulTaken t) (after : List ℕ) (fits : Fits (packet_taken t after)) where
  -- the items before it count, and where the last element passes the block it takes its bytes from the payload
  by_ending : (e : Ending) → t.ending ≡ e → Within (elements_among t.items ++ last_element e) →
      ReadAs (packet_taken t after) t.fixed (profile_of t.form) (elements_among t.items ++ last_element e) (pads_among t.items) (unread e ++ after)
  by_ending e q =
      subst
      (λ (d : Ending). Within (elements_among t.items ++ last_element d) →
      ReadAs (packet_taken t after) t.fixed (profile_of t.form) (elements_among t.items ++ last_element d) (pads_among t.items) (unread d ++ after)) q
      (λ w.
      record {
        place = place_taken t;
        read = follows.within (packet_taken t after) (takes (record { taken = t; lawful = l; after = after; same = refl })) fits w;
        rest = taken_payload t after;
      })

  -- no element more
  no_last : (payload : List ℕ) → (Within (elements_among t.items ++ []) →
      ReadAs (packet_taken t after) t.fixed (profile_of t.form) (elements_among t.items ++ []) (pads_among t.items) payload) →
      Within (elements_among t.items) → ReadAs (packet_taken t after) t.fixed (profile_of t.form) (elements_among t.items) (pads_among t.items) payload
  no_last payload read w =
      subst (λ (es : List Element). ReadAs (packet_taken t after) t.fixed (profile_of t.form) es (pads_among t.items) payload)
      (append-nil (elements_among t.items)) (read (rw append-nil w))

  -- RFC 8285 4.1.2, id 0 with a length: it is an element of id 0, as often as it stands there, and the block goes on behind it
  pub zero_id_read : t.ending ≡ ends → Within (elements_among t.items) →
      ReadAs (packet_taken t after) t.fixed (profile_of t.form) (elements_among t.items) (pads_among t.items) after
  zero_id_read q w = no_last after (by_ending ends q) w

  -- RFC 8285 4.2, id 15: the elements before it count, and the rest of the block becomes payload
  pub reserved_read : (len : ℕ) (rest : List ℕ) → t.ending ≡ fifteen len rest → Within (elements_among t.items) →
      ReadAs (packet_taken t after) t.fixed (profile_of t.form) (elements_among t.items) (pads_among t.items) (rest ++ after)
  reserved_read len rest q w = no_last (rest ++ after) (by_ending (fifteen len rest) q) w

  -- RFC 3550 5.3.1, RFC 8285 4.1.2: an element of which the block holds only a part is read whole, into the payload
  pub leaves_read : (id : ℕ) (part more : List ℕ) → t.ending ≡ leaving id part more →
      Within (elements_among t.items ++ (record { id = id; bytes = part ++ more } ∷ [])) →
      ReadAs (packet_taken t after) t.fixed (profile_of t.form) (elements_among t.items ++ (record { id = id; bytes = part ++ more } ∷ []))
      (pads_among t.items) after
  leaves_read id part more q w = by_ending (leaving id part more) q w

  -- RFC 8285 4.3: an id that is the block's last octet takes its length and its data from the payload
  pub alone_read : (id : ℕ) (bytes : List ℕ) → t.ending ≡ lone id bytes → Within (elements_among t.items ++ (record { id = id; bytes = bytes } ∷ [])) →
      ReadAs (packet_taken t after) t.fixed (profile_of t.form) (elements_among t.items ++ (record { id = id; bytes = bytes } ∷ [])) (pads_among t.items) after
  alone_read id bytes q w = by_ending (lone id bytes) q w

  -- over the limits it is 7, in whichever of these ways
  pub taken_over : Over (elements_taken t) → read_header (packet_taken t after) ≡ refuse 7
  taken_over o = follows.over (packet_taken t after) (takes (record { taken = t; lawful = l; after = after; same = refl })) fits o

-- ---- an element that the packet does not hold

-- it is 3 ..
pub lacking_past : (s : List ℕ) (x : LackingIn s) → Fits s → Within (elements_among x.items) → read_header s ≡ refuse 3
lacking_past s x fits w = follows.within s (lacks x) fits w

-- .. or 7, where the elements before it pass the limits
pub lacking_over : (s : List ℕ) (x : LackingIn s) → Fits s → Over (elements_among x.items) → read_header s ≡ refuse 7
lacking_over s x fits o = follows.over s (lacks x) fits o

-- ---- RFC 8285 4.3, a profile of the two-byte form with application bits

module _ (f : Fixed) (profile : ℕ) (a : AppBits profile) (content payload : List ℕ) (l : rtp.Lawful (header_with f profile content))
    (fits : Fits (rtp.octets (header_with f profile content) ++ payload)) where
  as_words : WordsIn (rtp.octets (header_with f profile content) ++ payload)
  as_words =
      record {
        fixed = f;
        profile = profile;
        not_one_byte = λ e. omega (arith, a.to);
        not_two_byte = λ e. omega (arith, a.from);
        words = content;
        lawful = l;
        payload = payload;
        same = refl;
      }

  -- one element of id 0, the whole block ..
  pub appbits_read : Within (whole_element content ∷ []) →
      read_header (rtp.octets (header_with f profile content) ++ payload)
      ≡ says (reading_at f true profile (whole_element content ∷ []) 0 (length (rtp.octets (header_with f profile content))))
  unfolding as_words
  appbits_read w = follows.within (rtp.octets (header_with f profile content) ++ payload) (words as_words) fits w

  -- .. and 7 over 1,024 bytes
  pub appbits_over : Over (whole_element content ∷ []) → read_header (rtp.octets (header_with f profile content) ++ payload) ≡ refuse 7
  unfolding as_words
  appbits_over o = follows.over (rtp.octets (header_with f profile content) ++ payload) (words as_words) fits o

-- ---- what RFC 8285 leaves open, and RFC 3550's version

-- two elements of one id: both are kept, in their order
pub duplicates_kept : (f : Fixed) (form : Form) (id : ℕ) (a b : List ℕ) (is : List Item) (payload : List ℕ) → PlainForm form →
    Lawful (record { fixed = f; content = some (laid form (element id a ∷ element id b ∷ is)) }) →
    Fits (octets (record { fixed = f; content = some (laid form (element id a ∷ element id b ∷ is)) }) ++ payload) →
    Within (record { id = id; bytes = a } ∷ record { id = id; bytes = b } ∷ elements_among is) →
    read_header (octets (record { fixed = f; content = some (laid form (element id a ∷ element id b ∷ is)) }) ++ payload)
    ≡ says
    (reading_at f true (profile_of form) (record { id = id; bytes = a } ∷ record { id = id; bytes = b } ∷ elements_among is) (pads_among is)
    (length (octets (record { fixed = f; content = some (laid form (element id a ∷ element id b ∷ is)) }))))
duplicates_kept f form id a b is payload plain l fits w =
    complete.within (record { fixed = f; content = some (laid form (element id a ∷ element id b ∷ is)) }) payload l plain fits w

-- RFC 3550 5.1, a version that is not 2: the header is read like any other, and says its version
pub version_kept : (p : Plan) (payload : List ℕ) → (p.fixed.version ≡ 2 → ⊥) → Lawful p → Plain p.content → Fits (octets p ++ payload) →
    Within (elements_said p.content) →
    (read_header (octets p ++ payload) ≡ says (reading_said p)) × ((reading_said p).fields.version ≡ p.fixed.version)
unfolding fields_with
version_kept p payload v l plain fits w = (complete.within p payload l plain fits w, refl)
