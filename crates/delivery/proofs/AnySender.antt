-- Sendings of RFC 6184, as a relay passes them on, are groups that the joiner takes: their octets, field by field, are those of the joiner's own
-- groups, and a mark is an F of its own. Assumes nothing.
use mathlib.Core.Path.{◌≡◌, refl, sym, ap, ap₂, ◌∙◌}
use mathlib.Core.Bool.{Bool, false, ◌||◌}
use mathlib.Core.List.{List, [], ◌∷◌, ◌++◌, map}
use mathlib.Core.Logic.{◌⊎◌, inl, inr}
use Prim.Native.Nat.{ℕ, suc, ◌+◌, ◌*◌, ◌/◌, ◌%◌, ◌<◌}
use native.Mathlib.Omega.{arith}
use lib.ListN.{length, get_or}
use Rattle.wire.specs.Each.{Each}
use Rattle.wire.specs.Net.{bit}
use Rattle.wire.specs.Packets.{joined}
use Rattle.wire.proofs.Each.{each_by}
use Rattle.rfc6184.specs.Sending.{Nal, octet, octets_of, Part, Fragmented, single, stap_a, fu_a, aggregated, fragment, payloads_of, payloads_of_all, body_of, UnitType, Formed, FormedSending, Rules, Lawful}
use Rattle.rfc6184.specs.Sending as rfc
use Rattle.rfc6184.proofs.Octets.{fields_of_octet}
use Rattle.h264_rfc.proofs.Complete.{aggregated_sized, sized}
use Rattle.sequence.specs.Group.{Group, packets_in, packets_of}
use Rattle.joiner_step.specs.Run.{Units}
use Rattle.joiner_feed.specs.Content.{Fragment, part_in, marked_in, top_bit, topped}
use Rattle.joiner_feed.specs.H264.{forbidden, fragment_in}
use Rattle.joiner_feed.proofs.Topping.{top_low, top_type, top_octet, top_is, own_top}
use Rattle.joiner.specs.Sent.{Sent, alone, fragmented, group_of, groups_of, PlainUnit}
use Rattle.joiner.specs.Sent as sent
use Rattle.delivery.specs.AnySender.{relayed, behind, any_marked, handed_for, group_by, groups_by, Stream, stream_show, ReservedClear, Ruled, Taken, StreamPremises}
use Rattle.delivery.proofs.Owing.{Delimiter}
use Rattle.delivery.proofs.Owing as owing
use Rattle.delivery.proofs.Delivering.{Sendable}

-- ---- a fragment, as it is sent and as a relay passes it on

-- the marks from the second payload on
abbrev later : (ℕ → Bool) → ℕ → Bool
later marks i = marks (suc i)

module _ (g : Fragmented) where
  -- NRI and type
  abbrev head : ℕ
  head = octet 0 g.nri g.type

  -- the payload that arrives, with Start bit s and End bit e
  abbrev arriving : Bool → ℕ → ℕ → Part → List ℕ
  arriving m s e p = topped m (fragment g s e p)

  part_of : (m : Bool) (s e : ℕ) (p : Part) → (fragment_in (arriving m s e p)).part ≡ p.octets
  unfolding fragment
  part_of m s e p = refl

  -- ---- all of them

  -- the fragments between, and the last
  abbrev between : (ℕ → Bool) → List Part → List Fragment
  between marks [] = []
  between marks (p ∷ ps) = fragment_in (arriving (marks 0) 0 0 p) ∷ between (later marks) ps

  abbrev final : (ℕ → Bool) → List Part → List ℕ
  final marks [] = arriving (marks 0) 0 1 g.last
  final marks (p ∷ ps) = final (later marks) ps

  final_part : (marks : ℕ → Bool) (ps : List Part) → (fragment_in (final marks ps)).part ≡ g.last.octets
  final_part marks [] = part_of (marks 0) 0 1 g.last
  final_part marks (p ∷ ps) = final_part (later marks) ps

  same_parts : (marks : ℕ → Bool) (ps : List Part) →
      joined (map part_in (between marks ps)) ++ (fragment_in (final marks ps)).part ≡ joined (map (λ (p : Part). p.octets) ps) ++ g.last.octets
  same_parts marks ps = ap₂ (λ (l r : List ℕ). l ++ r) (go marks ps) (final_part marks ps)
    where
      go : (marks : ℕ → Bool) (ps : List Part) → joined (map part_in (between marks ps)) ≡ joined (map (λ (p : Part). p.octets) ps)
      go marks [] = refl
      go marks (p ∷ ps) = ap₂ (λ (l r : List ℕ). l ++ r) (part_of (marks 0) 0 0 p) (go (later marks) ps)

  same_mark : (marks : ℕ → Bool) (ps : List Part) →
      marked_in (between marks ps ++ (fragment_in (final marks ps) ∷ []))
      ≡ any_marked (relayed marks (map (fragment g 0 0) ps ++ (fragment g 0 1 g.last ∷ [])))
  same_mark marks [] = refl
  same_mark marks (p ∷ ps) = ap (λ (b : Bool). forbidden (arriving (marks 0) 0 0 p) || b) (same_mark (later marks) ps)

  -- ---- those with Reserved bit 0 are FU-As of the joiner's

  module _ (k : Formed g.f g.nri g.type) where
    same_fragment : (m : Bool) (s e : ℕ) (p : Part) → p.reserved ≡ 0 → arriving m s e p ≡ sent.fu_a head (s * 128 + e * 64) (fragment_in (arriving m s e p))
    unfolding fragment octet sent.fu_a
    same_fragment m s e p r =
        let f_bit : g.f < 2 = k.f_bit in
        let nri_bits : g.nri < 4 = k.nri_bits in
        let type_bits : g.type < 32 = k.type_bits in
        let b : ℕ = top_bit m (g.f * 128 + g.nri * 32 + 28) in
        let low : b % 128 ≡ (0 * 128 + g.nri * 32 + g.type) / 32 % 4 * 32 + 28 = top_low m (g.f * 128 + g.nri * 32 + 28) ∙ omega arith in
        let one : b ≡ top_bit (bit (b / 128)) ((0 * 128 + g.nri * 32 + g.type) / 32 % 4 * 32 + 28) =
        sym (own_top b (top_octet m (g.f * 128 + g.nri * 32 + 28) (omega arith))) ∙ ap (top_bit (bit (b / 128))) low in
        let two : s * 128 + e * 64 + p.reserved * 32 + g.type ≡ s * 128 + e * 64 + (0 * 128 + g.nri * 32 + g.type) % 32 = omega arith in
        ap₂ (λ (x y : ℕ). x ∷ y ∷ p.octets) one two

    same_others : (marks : ℕ → Bool) (ps : List Part) → Each (λ (p : Part). p.reserved ≡ 0) ps → g.last.reserved ≡ 0 →
        relayed marks (map (fragment g 0 0) ps ++ (fragment g 0 1 g.last ∷ []))
        ≡ map (sent.fu_a head 0) (between marks ps) ++ (sent.fu_a head 64 (fragment_in (final marks ps)) ∷ [])
    same_others marks [] w r = ap (λ (p : List ℕ). p ∷ []) (same_fragment (marks 0) 0 1 g.last r)
    same_others marks (p ∷ ps) w r =
        ap₂ (λ (q : List ℕ) (qs : List (List ℕ)). q ∷ qs) (same_fragment (marks 0) 0 0 p w.0) (same_others (later marks) ps w.1 r)

    top_clear : head ≡ head % 128
    unfolding octet
    top_clear =
        let nri_bits : g.nri < 4 = k.nri_bits in
        let type_bits : g.type < 32 = k.type_bits in
        omega arith

-- ---- a sending as a group of the joiner's

-- an STAP-A without units is none that is formed
abbrev aggregated_by : ℕ → List Nal → Sent
aggregated_by head [] = alone (head ∷ [])
aggregated_by head (u ∷ us) = sent.aggregated head (octets_of u) (map octets_of us)

abbrev first_by : (ℕ → Bool) → Fragmented → Fragment
first_by marks g = fragment_in (arriving g (marks 0) 1 0 g.first)

abbrev between_by : (ℕ → Bool) → Fragmented → List Fragment
between_by marks g = between g (later marks) g.middle

abbrev last_by : (ℕ → Bool) → Fragmented → Fragment
last_by marks g = fragment_in (final g (later marks) g.middle)

abbrev fragmented_by : (ℕ → Bool) → Fragmented → Sent
fragmented_by marks g = fragmented (head g) (first_by marks g) (between_by marks g) (last_by marks g)

abbrev sent_by : (ℕ → Bool) → rfc.Sending → Sent
sent_by marks (single u) = alone (topped (marks 0) (octets_of u))
sent_by marks (stap_a f nri us) = aggregated_by (top_bit (marks 0) (octet f nri 24)) us
sent_by marks (fu_a g) = fragmented_by marks g

abbrev sents_by : (ℕ → Bool) → List rfc.Sending → List Sent
sents_by marks [] = []
sents_by marks (s ∷ ss) = sent_by marks s ∷ sents_by (behind (payloads_of s) marks) ss

-- ---- it is the same group

same_fragments : (marks : ℕ → Bool) (g : Fragmented) → Formed g.f g.nri g.type → ReservedClear g →
    group_by marks (fu_a g) ≡ group_of (fragmented_by marks g)
same_fragments marks g k r i =
    record {
      first = same_fragment g k (marks 0) 1 0 g.first r.0 i;
      others = same_others g k (later marks) g.middle r.1 r.2 i;
      handed = (top_bit (mark i) (top_clear g k i) ∷ body i) ∷ [];
    }
  where
    mark : any_marked (relayed marks (payloads_of (fu_a g))) ≡ sent.any_marked (first_by marks g) (between_by marks g) (last_by marks g)
    mark = ap (λ (b : Bool). forbidden (arriving g (marks 0) 1 0 g.first) || b) (sym (same_mark g (later marks) g.middle))

    body : body_of g ≡ sent.body (first_by marks g) (between_by marks g) (last_by marks g)
    body = sym (ap₂ (λ (l r : List ℕ). l ++ r) (part_of g (marks 0) 1 0 g.first) (same_parts g (later marks) g.middle))

same_group : (marks : ℕ → Bool) (s : rfc.Sending) → FormedSending s → Ruled s → group_by marks s ≡ group_of (sent_by marks s)
unfolding sent.stap_a
same_group marks (single u) w t = refl
same_group marks (stap_a f nri []) w t = absurd (omega (arith, w.1))
same_group marks (stap_a f nri (u ∷ us)) w t =
    ap (λ (l : List ℕ). record { first = top_bit (marks 0) (octet f nri 24) ∷ l; others = []; handed = map octets_of (u ∷ us) }) (aggregated_sized (u ∷ us))
same_group marks (fu_a g) w t = same_fragments marks g w.0 t

same_groups : (marks : ℕ → Bool) (ss : List rfc.Sending) → Each FormedSending ss → Each Ruled ss → groups_by marks ss ≡ groups_of (sents_by marks ss)
same_groups marks [] w t = refl
same_groups marks (s ∷ ss) w t =
    ap₂ (λ (x : Group (List ℕ) Units) (xs : List (Group (List ℕ) Units)). x ∷ xs) (same_group marks s w.0 t.0)
    (same_groups (behind (payloads_of s) marks) ss w.1 t.1)

-- ---- its payloads are those of the RFC, with the relay's marks

in_order : (marks : ℕ → Bool) (s : rfc.Sending) → packets_in (group_by marks s) ≡ relayed marks (payloads_of s)
in_order marks (single u) = refl
in_order marks (stap_a f nri us) = refl
in_order marks (fu_a g) = refl

relayed_append : (marks : ℕ → Bool) (ps qs : List (List ℕ)) → relayed marks ps ++ relayed (behind ps marks) qs ≡ relayed marks (ps ++ qs)
relayed_append marks [] qs = refl
relayed_append marks (p ∷ ps) qs = ap (λ (l : List (List ℕ)). topped (marks 0) p ∷ l) (relayed_append (later marks) ps qs)

pub stream_payloads : (marks : ℕ → Bool) (ss : List rfc.Sending) → packets_of (groups_by marks ss) ≡ relayed marks (payloads_of_all ss)
stream_payloads marks [] = refl
stream_payloads marks (s ∷ ss) =
    ap₂ (λ (ps qs : List (List ℕ)). ps ++ qs) (in_order marks s) (stream_payloads (behind (payloads_of s) marks) ss)
    ∙ relayed_append marks (payloads_of s) (payloads_of_all ss)

-- without marks they are as they were sent
topped_not : (s : List ℕ) → topped false s ≡ s
topped_not [] = refl
topped_not (b ∷ s) = refl

pub relayed_not : (ps : List (List ℕ)) → relayed (λ i. false) ps ≡ ps
relayed_not [] = refl
relayed_not (p ∷ ps) = ap₂ (λ (q : List ℕ) (qs : List (List ℕ)). q ∷ qs) (topped_not p) (relayed_not ps)

-- ---- the top bit of a fragmented unit

pub unit_marked : (marks : ℕ → Bool) (g : Fragmented) → FormedSending (fu_a g) →
    forbidden (get_or (handed_for marks (fu_a g)) 0 []) ≡ any_marked (relayed marks (payloads_of (fu_a g)))
unfolding octet
unit_marked marks g w =
    let nri_bits : g.nri < 4 = w.0.nri_bits in
    let type_bits : g.type < 32 = w.0.type_bits in
    top_is (any_marked (relayed marks (payloads_of (fu_a g)))) (0 * 128 + g.nri * 32 + g.type) (omega arith)

-- ---- it is taken

taken_unit : (m : Bool) (u : Nal) → FormedSending (single u) → UnitType u.type → Taken (single u) →
    PlainUnit (topped m (octets_of u)) ⊎ Delimiter (topped m (octets_of u))
unfolding octets_of
taken_unit m u w t long = by (top_type m (octet u.f u.nri u.type) ∙ (fields_of_octet u.f u.nri u.type w).2) long
  where
    by : top_bit m (octet u.f u.nri u.type) % 32 ≡ u.type → Taken (single u) → PlainUnit (topped m (octets_of u)) ⊎ Delimiter (topped m (octets_of u))
    by e (inl h) = inl (record { long = h; type_low = omega (arith, t.low); type_high = omega (arith, t.high) })
    by e (inr h) = inr (record { long = h.0; type = e ∙ h.1 })

some_between : (g : Fragmented) (marks : ℕ → Bool) (ps : List Part) → Each (λ (p : Part). 0 < length p.octets) ps → sent.NoneEmpty (between g marks ps)
some_between g marks [] w = tt
some_between g marks (p ∷ ps) w = (omega (arith, w.0, ap length (part_of g (marks 0) 0 0 p)), some_between g (later marks) ps w.1)

taken_by : (marks : ℕ → Bool) (s : rfc.Sending) → FormedSending s → Ruled s → Taken s → owing.Taken (sent_by marks s)
taken_by marks (single u) w r t = taken_unit (marks 0) u w r t
taken_by marks (stap_a f nri []) w r t = absurd (omega (arith, w.1))
taken_by marks (stap_a f nri (u ∷ us)) w r t = (top_type (marks 0) (octet f nri 24) ∙ (fields_of_octet f nri 24 w.0).2, sized (u ∷ us) w.2)
taken_by marks (fu_a g) w r t = (
  (omega (arith, t.0, ap length (part_of g (marks 0) 1 0 g.first)), some_between g (later marks) g.middle t.1),
  omega (arith, t.2, ap length (final_part g (later marks) g.middle)),
)

all_taken : (marks : ℕ → Bool) (ss : List rfc.Sending) → Each FormedSending ss → Each Ruled ss → Each Taken ss → Each owing.Taken (sents_by marks ss)
all_taken marks [] w r t = tt
all_taken marks (s ∷ ss) w r t = (taken_by marks s w.0 r.0 t.0, all_taken (behind (payloads_of s) marks) ss w.1 r.1 t.1)

pub stream_show_lem : (avc : Bool) (y : Stream) → StreamPremises avc y → Sendable (stream_show y)
stream_show_lem avc y p =
    record {
      sents = sents_by y.marks y.sendings;
      are = same_groups y.marks y.sendings p.formed p.ruled;
      taken = all_taken y.marks y.sendings p.formed p.ruled p.taken;
      short = p.short;
      domain = p.domain;
    }

-- a lawful sending is formed, and keeps those rules
pub lawful_ruled : (ss : List rfc.Sending) → Each Lawful ss → Each FormedSending ss × Each Ruled ss
lawful_ruled ss w = (each_by FormedSending Lawful (λ s l. l.formed) ss w, each_by Ruled Lawful (λ s l. by s l.rules) ss w)
  where
    by : (s : rfc.Sending) → Rules s → Ruled s
    by (single u) r = r
    by (stap_a f nri us) r = tt
    by (fu_a g) r = (r.1, r.2, r.3)
