-- UNAMBIGUOUS: payloads tell the sendings that they are of. The type in the first octet says the kind, the End bit where the fragments of a unit
-- end, and every field can be read off the octets. Assumes nothing.
use mathlib.Core.Path.{◌≡◌, refl, sym, ap, ap₂, ◌∙◌}
use mathlib.Core.List.{List, [], ◌∷◌, ◌++◌, map, append_assoc}
use mathlib.Core.Bool.{Bool, true, false, cond}
use Prim.Native.Nat.{ℕ, zero, suc, ◌+◌, ◌/◌, ◌%◌, ◌<◌, ◌≤◌}
use native.Mathlib.Omega.{arith}
use lib.Dec.{eqb}
use lib.ListN.{length, take, drop, get_or, length-append}
use lib.Seq.{take_at, drop_at}
use borrow.Author.Tests.{eq-eqb, ne_eqb}
use Rattle.wire.specs.Net.{be16, u16_at}
use Rattle.wire.proofs.Net.{length_be16, u16_of_be16}
use Rattle.rfc6184.specs.Sending.{Each, Nal, octet, octets_of, nal_of, Part, Fragmented, Sending, single, stap_a, fu_a, aggregated, fragment, payloads_of, payloads_of_all, units_of_all, Formed, FormedNal, FormedPart, Sized, OwnType, Told, Rules, Lawful, Packetization}
use Rattle.rfc6184.proofs.Each.{each_by}
use Rattle.rfc6184.proofs.Octets.{fields_of_octet, nal_of_octets, fields_of_header}

-- ---- reading a unit

read_nal : List ℕ → Nal
read_nal p = nal_of (get_or p 0 0) (drop 1 p)

read_nal_lem : (u : Nal) → FormedNal u → read_nal (octets_of u) ≡ u
unfolding read_nal octets_of
read_nal_lem u w = nal_of_octets u w

-- ---- reading an aggregation

unpack : ℕ → List ℕ → List Nal
unpack zero s = []
unpack (suc k) [] = []
unpack (suc k) (b ∷ s) = read_nal (take (u16_at (b ∷ s) 0) (drop 2 (b ∷ s))) ∷ unpack k (drop (2 + u16_at (b ∷ s) 0) (b ∷ s))

unpack_aggregated : (us : List Nal) (k : ℕ) → length us ≤ k → Each Sized us → unpack k (aggregated us) ≡ us
unfolding unpack be16
unpack_aggregated [] zero h w = refl
unpack_aggregated [] (suc k) h w = refl
unpack_aggregated (u ∷ us) zero h w = absurd (omega arith)
unpack_aggregated (u ∷ us) (suc k) h w =
    let n : ℕ = length (octets_of u) in
    let rest : List ℕ = octets_of u ++ aggregated us in
    let size : u16_at (be16 n ++ rest) 0 ≡ n = u16_of_be16 n rest w.0.size in
    let two : 2 + n ≡ suc (suc n) = omega arith in
    ap₂ (λ (x : Nal) (l : List Nal). x ∷ l)
    (ap (λ (m : ℕ). read_nal (take m rest)) size ∙ ap read_nal (take_at (octets_of u) (aggregated us) n refl) ∙ read_nal_lem u w.0.formed)
    (ap (λ (m : ℕ). unpack k (drop (2 + m) (be16 n ++ rest))) size
    ∙ ap (λ (m : ℕ). unpack k (drop m (be16 n ++ rest))) two
    ∙ ap (unpack k) (drop_at (octets_of u) (aggregated us) n refl)
    ∙ unpack_aggregated us k (omega arith) w.1)

few : (us : List Nal) → length us ≤ length (aggregated us)
few [] = omega arith
few (u ∷ us) =
    let l = length-append (be16 (length (octets_of u))) (octets_of u ++ aggregated us) in
    let m = length-append (octets_of u) (aggregated us) in
    omega (arith, l, m, length_be16 (length (octets_of u)), few us)

-- ---- reading fragments

read_part : List ℕ → Part
read_part p = record { reserved = get_or p 1 0 / 32 % 2; octets = drop 2 p }

is_end : List ℕ → Bool
is_end p = eqb (get_or p 1 0 / 64 % 2) 1

-- the parts up to the End bit, and the payloads behind it
record Ending : Type 0 where
  middle : List Part
  last : Part
  behind : List (List ℕ)

longer : Part → Ending → Ending
longer p e = record { middle = p ∷ e.middle; last = e.last; behind = e.behind }

to_end : List (List ℕ) → Ending
to_end [] = record { middle = []; last = read_part []; behind = [] }
to_end (p ∷ ps) = cond (is_end p) (record { middle = []; last = read_part p; behind = ps }) (longer (read_part p) (to_end ps))

module _ (g : Fragmented) (ht : g.type < 32) where
  read_part_lem : (s e : ℕ) (p : Part) → s < 2 → e < 2 → FormedPart p → read_part (fragment g s e p) ≡ p
  unfolding read_part fragment
  read_part_lem s e p hs he hp =
      ap (λ (r : ℕ). record { reserved = r; octets = p.octets }) (fields_of_header s e p.reserved g.type hs he hp ht).2

  end_bit : (e : ℕ) (p : Part) → e < 2 → FormedPart p → is_end (fragment g 0 e p) ≡ eqb e 1
  unfolding is_end fragment
  end_bit e p he hp = ap (λ (x : ℕ). eqb x 1) (fields_of_header 0 e p.reserved g.type (omega arith) he hp ht).1

  to_end_lem : (ms : List Part) (l : Part) (ps : List (List ℕ)) → Each FormedPart ms → FormedPart l →
      to_end (map (fragment g 0 0) ms ++ (fragment g 0 1 l ∷ ps)) ≡ record { middle = ms; last = l; behind = ps }
  unfolding to_end longer
  to_end_lem [] l ps w v =
      ap (λ (b : Bool). cond b (record { middle = []; last = read_part (fragment g 0 1 l); behind = ps }) (longer (read_part (fragment g 0 1 l)) (to_end ps)))
      (end_bit 1 l (omega arith) v)
      ∙ ap (λ (p : Part). record { middle = []; last = p; behind = ps }) (read_part_lem 0 1 l (omega arith) (omega arith) v)
  to_end_lem (m ∷ ms) l ps w v =
      let rest : List (List ℕ) = map (fragment g 0 0) ms ++ (fragment g 0 1 l ∷ ps) in
      ap (λ (b : Bool). cond b (record { middle = []; last = read_part (fragment g 0 0 m); behind = rest }) (longer (read_part (fragment g 0 0 m)) (to_end rest)))
      (end_bit 0 m (omega arith) w.0)
      ∙ ap₂ longer (read_part_lem 0 0 m (omega arith) (omega arith) w.0) (to_end_lem ms l ps w.1 v)

-- ---- reading the sending in front

-- a sending, and the payloads behind it
record Front : Type 0 where
  sending : Sending
  behind : List (List ℕ)

read_by : (is_stap is_fu : Bool) → List ℕ → List (List ℕ) → Front
read_by true is_fu p ps =
    record { sending = stap_a (get_or p 0 0 / 128) (get_or p 0 0 / 32 % 4) (unpack (length p) (drop 1 p)); behind = ps }
read_by false true p ps =
    let e : Ending = to_end ps in
    record {
      sending =
          fu_a
          (record {
            f = get_or p 0 0 / 128;
            nri = get_or p 0 0 / 32 % 4;
            type = get_or p 1 0 % 32;
            first = read_part p;
            middle = e.middle;
            last = e.last;
          });
      behind = e.behind;
    }
read_by false false p ps = record { sending = single (read_nal p); behind = ps }

read : List (List ℕ) → Front
read [] = record { sending = single (read_nal []); behind = [] }
read (p ∷ ps) = read_by (eqb (get_or p 0 0 % 32) 24) (eqb (get_or p 0 0 % 32) 28) p ps

-- by the type of the first octet
read_by_lem : (p : List ℕ) (ps : List (List ℕ)) (a b : Bool) → eqb (get_or p 0 0 % 32) 24 ≡ a → eqb (get_or p 0 0 % 32) 28 ≡ b → read (p ∷ ps) ≡ read_by a b p ps
unfolding read
read_by_lem p ps a b e q = ap₂ (λ (x y : Bool). read_by x y p ps) e q

read_front : (s : Sending) (ps : List (List ℕ)) → Told s → read (payloads_of s ++ ps) ≡ record { sending = s; behind = ps }
unfolding read_by octets_of fragment
read_front (single u) ps w =
    let t = (fields_of_octet u.f u.nri u.type w.formed).2 in
    read_by_lem (octets_of u) ps false false
    (ne_eqb (octet u.f u.nri u.type % 32) 24 (λ e. w.own_type.0 (sym t ∙ e)))
    (ne_eqb (octet u.f u.nri u.type % 32) 28 (λ e. w.own_type.1 (sym t ∙ e)))
    ∙ ap (λ (v : Nal). record { sending = single v; behind = ps }) (read_nal_lem u w.formed)
read_front (stap_a f nri us) ps w =
    let o = fields_of_octet f nri 24 w.formed.0 in
    read_by_lem (octet f nri 24 ∷ aggregated us) ps true (eqb (octet f nri 24 % 32) 28) (eq-eqb (octet f nri 24 % 32) 24 o.2) refl
    ∙ (λ i. record {
      sending = stap_a (o.0 i) (o.1 i) (unpack_aggregated us (suc (length (aggregated us))) (omega (arith, few us)) w.formed.2 i);
      behind = ps;
    })
read_front (fu_a g) ps w =
    let k : Formed g.f g.nri 28 =
    record { f_bit = w.formed.0.f_bit; nri_bits = w.formed.0.nri_bits; type_bits = omega arith } in
    let o = fields_of_octet g.f g.nri 28 k in
    let ht : g.type < 32 = w.formed.0.type_bits in
    let type = (fields_of_header 1 0 g.first.reserved g.type (omega arith) (omega arith) w.formed.1 ht).3 in
    let later : List (List ℕ) = map (fragment g 0 0) g.middle in
    let end : List ℕ = fragment g 0 1 g.last in
    let e : to_end ((later ++ (end ∷ [])) ++ ps) ≡ record { middle = g.middle; last = g.last; behind = ps } =
    ap to_end (append_assoc later (end ∷ []) ps) ∙ to_end_lem g ht g.middle g.last ps w.formed.2 w.formed.3 in
    read_by_lem (fragment g 1 0 g.first) ((later ++ (end ∷ [])) ++ ps) false true
    (ne_eqb (octet g.f g.nri 28 % 32) 24 (λ q. omega (arith, o.2))) (eq-eqb (octet g.f g.nri 28 % 32) 28 o.2)
    ∙ (λ i. record {
      sending =
          fu_a
          (record {
            f = o.0 i;
            nri = o.1 i;
            type = type i;
            first = read_part_lem g ht 1 0 g.first (omega arith) (omega arith) w.formed.1 i;
            middle = (e i).middle;
            last = (e i).last;
          });
      behind = (e i).behind;
    })

-- ---- UNAMBIGUOUS

-- two sendings with payloads behind each: the same payloads are the same sending, and the same stands behind it
pub unambiguous : (s t : Sending) (ps qs : List (List ℕ)) → Told s → Told t → payloads_of s ++ ps ≡ payloads_of t ++ qs → (s ≡ t) × (ps ≡ qs)
unambiguous s t ps qs v w same =
    let one : ◌≡◌ {A = Front} (record { sending = s; behind = ps }) (record { sending = t; behind = qs }) =
    sym (read_front s ps v) ∙ ap read same ∙ read_front t qs w in
    (ap (λ (x : Front). x.sending) one, ap (λ (x : Front). x.behind) one)

-- a sending has a payload
not_none : (s : Sending) (ps : List (List ℕ)) → payloads_of s ++ ps ≡ [] → ⊥
not_none (single u) ps e = omega (arith, ap length e)
not_none (stap_a f nri us) ps e = omega (arith, ap length e)
not_none (fu_a g) ps e = omega (arith, ap length e)

-- two lists of sendings with the same payloads, in the same order, are the same list
pub unambiguous_all : (ss ts : List Sending) → Each Told ss → Each Told ts → payloads_of_all ss ≡ payloads_of_all ts → ss ≡ ts
unambiguous_all [] [] v w e = refl
unambiguous_all [] (t ∷ ts) v w e = absurd (not_none t (payloads_of_all ts) (sym e))
unambiguous_all (s ∷ ss) [] v w e = absurd (not_none s (payloads_of_all ss) e)
unambiguous_all (s ∷ ss) (t ∷ ts) v w e =
    let one = unambiguous s t (payloads_of_all ss) (payloads_of_all ts) v.0 w.0 e in
    ap₂ (λ (x : Sending) (xs : List Sending). x ∷ xs) one.0 (unambiguous_all ss ts v.1 w.1 one.1)

-- a lawful sending is told: a single unit has type 1 to 23
pub lawful_told : (s : Sending) → Lawful s → Told s
lawful_told s w = record { formed = w.formed; own_type = own s w.rules }
  where
    own : (x : Sending) → Rules x → OwnType x
    own (single u) r = (λ e. omega (arith, r.high), λ e. omega (arith, r.high))
    own (stap_a f nri us) r = tt
    own (fu_a g) r = tt

-- payloads are a packetization of one list of units alone
pub one_packetization : (ps : List (List ℕ)) (us vs : List Nal) → Packetization ps us → Packetization ps vs → us ≡ vs
one_packetization ps us vs a b =
    a.units
    ∙ ap units_of_all
    (unambiguous_all a.sendings b.sendings (each_by Told Lawful lawful_told a.sendings a.lawful)
    (each_by Told Lawful lawful_told b.sendings b.lawful) (sym a.payloads ∙ b.payloads))
    ∙ sym b.units

-- ---- without `OwnType` it does not hold: a single unit of type 24 can be an STAP-A, and two of type 28 the fragments of a unit

abbrev as_24 : Nal
as_24 = record { f = 0; nri = 0; type = 24; payload = 0 ∷ 1 ∷ 0x41 ∷ [] }

pub collides_24 : payloads_of (single as_24) ≡ payloads_of (stap_a 0 0 (record { f = 0; nri = 2; type = 1; payload = [] } ∷ []))
unfolding octets_of octet be16
collides_24 = refl

abbrev as_28 : ℕ → ℕ → Nal
as_28 header x = record { f = 0; nri = 0; type = 28; payload = header ∷ x ∷ [] }

abbrev of_two : Fragmented
of_two =
    record {
      f = 0;
      nri = 0;
      type = 5;
      first = record { reserved = 0; octets = 1 ∷ [] };
      middle = [];
      last = record { reserved = 0; octets = 2 ∷ [] };
    }

pub collides_28 : payloads_of_all (single (as_28 0x85 1) ∷ single (as_28 0x45 2) ∷ []) ≡ payloads_of_all (fu_a of_two ∷ [])
unfolding octets_of octet fragment
collides_28 = refl
