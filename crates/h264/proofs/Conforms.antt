-- What is sent is a packetization, by RFC 6184, of the units and pairs that are sent. The differences: a fragmented unit is sent with F
-- cleared (`nals_of`); an STAP-A has F 0 and NRI 3 whatever its sets have, and units of type 0 and 24 to 31 are sent as they are
-- (`Regular`, and no group else breaks a rule). Trailing zeros of a frame are part of its last unit. Assumes nothing.
use mathlib.Core.Path.{◌≡◌, refl, sym, ap, ap₂, ◌∙◌}
use mathlib.Core.List.{List, [], ◌∷◌, ◌++◌, map, append-nil}
use mathlib.Core.Bool.{Bool, true, false, cond, ◌&&◌}
use Prim.Native.Nat.{ℕ, ◌+◌, ◌-◌, ◌*◌, ◌/◌, ◌%◌, ◌≤◌, ◌<◌}
use native.Mathlib.Omega.{arith}
use lib.Dec.{leb, ltb}
use lib.ListN.{length, get_or}
use Rattle.wire.specs.Net.{be16}
use Rattle.wire.specs.Packets.{joined}
use Rattle.rfc6184.specs.Sending as rfc
use Rattle.rfc6184.specs.Sending.{Each, Nal, octet, octets_of, Part, payloads_of, units_of, payloads_of_all, units_of_all, FormedSending, Sized, Rules, Lawful, Packetization}
use Rattle.rfc6184.proofs.Each.{each_append, each_any, each_map}
use Rattle.rfc6184.proofs.Octets.{formed_fields, octets_of_nal}
use Rattle.h264_put.specs.declared.fate.Fate.{Fate}
use Rattle.h264_put.specs.declared.fate.Fate.TheVariants.{Empty, Dropped, Sps, Pps, Coded}
use Rattle.h264_put.specs.Groups.{Saved, Group, pair, plain, fragments, nothing_saved, both_saved, fate_of, keep, keep_by, stap_a, fragment, pair_for, fragments_of, unit_for, groups_by, groups_for, groups_of, packets_of_group, packets_of}
use Rattle.h264.specs.Conformance.{Octets, SavedOctets, nal, part, fragmented, sending_of, nals_of, nals_of_all, Regular, LaidOut, Sendable}
use Rattle.h264.proofs.Fits.{sendable}

-- ---- units

nal_octets : (u : List ℕ) → 0 < length u → get_or u 0 0 < 256 → octets_of (nal u) ≡ u
nal_octets [] some h = absurd (omega arith)
nal_octets (b ∷ s) some h = octets_of_nal b s h

nal_formed : (u : List ℕ) → get_or u 0 0 < 256 → rfc.FormedNal (nal u)
nal_formed [] h = formed_fields 0 (omega arith)
nal_formed (b ∷ s) h = formed_fields b h

-- ---- fragments

same_fragment : (head : ℕ) (first : List ℕ) (middle : List (List ℕ)) (last : List ℕ) (s e bits : ℕ) (p : List ℕ) → bits ≡ s * 128 + e * 64 →
    fragment head bits p ≡ rfc.fragment (fragmented head first middle last) s e (part p)
unfolding fragment rfc.fragment octet
same_fragment head first middle last s e bits p q =
    let one : head / 32 % 4 * 32 + 28 ≡ 0 * 128 + head / 32 % 4 * 32 + 28 = omega arith in
    let two : bits + head % 32 ≡ s * 128 + e * 64 + 0 * 32 + head % 32 = omega arith in
    ap₂ (λ (x y : ℕ). x ∷ y ∷ p) one two

same_middle : (head : ℕ) (first : List ℕ) (middle : List (List ℕ)) (last : List ℕ) (ps : List (List ℕ)) →
    map (fragment head 0) ps ≡ map (rfc.fragment (fragmented head first middle last) 0 0) (map part ps)
same_middle head first middle last [] = refl
same_middle head first middle last (p ∷ ps) =
    ap₂ (λ (x : List ℕ) (l : List (List ℕ)). x ∷ l) (same_fragment head first middle last 0 0 0 p (omega arith)) (same_middle head first middle last ps)

same_body : (ps : List (List ℕ)) → joined (map (λ (p : Part). p.octets) (map part ps)) ≡ joined ps
same_body [] = refl
same_body (p ∷ ps) = ap (λ (l : List ℕ). p ++ l) (same_body ps)

-- ---- a group

-- the first bytes of a group's units are octets
abbrev pub Headed : Group → Type 0
Headed (pair sps pps) = (get_or sps 0 0 < 256) × (get_or pps 0 0 < 256)
Headed (plain u) = get_or u 0 0 < 256
Headed (fragments head first middle last) = Unit

module _ (mtu : ℕ) (small : mtu ≤ 65535) where
  pub group_laid : (g : Group) → Sendable mtu g → Headed g → packets_of_group g ≡ payloads_of (sending_of g)
  unfolding stap_a octet
  group_laid (pair sps pps) w h =
      let one = nal_octets sps w.0 h.0 in
      let two = nal_octets pps w.1 h.1 in
      sym (ap₂ (λ (a b : List ℕ). (0x78 ∷ (be16 (length a) ++ (a ++ (be16 (length b) ++ (b ++ []))))) ∷ []) one two
      ∙ ap (λ (l : List ℕ). (0x78 ∷ (be16 (length sps) ++ (sps ++ (be16 (length pps) ++ l)))) ∷ []) (append-nil pps))
  group_laid (plain u) w h = ap (λ (l : List ℕ). l ∷ []) (sym (nal_octets u w.0 h))
  group_laid (fragments head first middle last) w h =
      ap₂ (λ (x : List ℕ) (l : List (List ℕ)). x ∷ l) (same_fragment head first middle last 1 0 128 first (omega arith))
      (ap₂ (λ (l : List (List ℕ)) (x : List ℕ). l ++ (x ∷ [])) (same_middle head first middle last middle)
      (same_fragment head first middle last 0 1 64 last (omega arith)))

  pub group_units : (g : Group) → units_of (sending_of g) ≡ nals_of g
  group_units (pair sps pps) = refl
  group_units (plain u) = refl
  group_units (fragments head first middle last) =
      ap (λ (l : List ℕ). record { f = 0; nri = head / 32 % 4; type = head % 32; payload = first ++ (l ++ last) } ∷ []) (same_body middle)

  set_sized : (u : List ℕ) → 0 < length u → length u ≤ 65535 → get_or u 0 0 < 256 → Sized (nal u)
  set_sized u some h g = record { formed = nal_formed u g; size = rw (nal_octets u some g) (omega arith) }

  pub group_formed : (g : Group) → Sendable mtu g → Headed g → FormedSending (sending_of g)
  group_formed (pair sps pps) w h = (
    record { f_bit = omega arith; nri_bits = omega arith; type_bits = omega arith },
    omega arith,
    (set_sized sps w.0 (omega (arith, w.2)) h.0, (set_sized pps w.1 (omega (arith, w.2)) h.1, tt)),
  )
  group_formed (plain u) w h = nal_formed u h
  group_formed (fragments head first middle last) w h = (
    record { f_bit = omega arith; nri_bits = omega arith; type_bits = omega arith },
    omega arith,
    each_map rfc.FormedPart part middle (each_any (λ (p : List ℕ). rfc.FormedPart (part p)) (λ p. omega arith) middle),
    omega arith,
  )

  -- the rules on the fields, and where they are kept
  pub rules_kept : (g : Group) → Regular g → Rules (sending_of g)
  rules_kept (pair sps pps) r = (
    omega (arith, r.0, r.1),
    omega (arith, r.2),
    (r.3, (r.4, tt)),
  )
  rules_kept (plain u) r = r
  rules_kept (fragments head first middle last) r =
      (r, refl, each_map (λ (p : Part). p.reserved ≡ 0) part middle (each_any (λ (p : List ℕ). (part p).reserved ≡ 0) (λ p. refl) middle), refl)

  pub rules_only : (g : Group) → Rules (sending_of g) → Regular g
  rules_only (pair sps pps) r = (
    omega (arith, r.0),
    omega (arith, r.0),
    omega (arith, r.1),
    r.2.0,
    r.2.1.0,
  )
  rules_only (plain u) r = r
  rules_only (fragments head first middle last) r = r.0

-- ---- all groups

headed : (u : List ℕ) → Octets u → get_or u 0 0 < 256
headed [] o = omega arith
headed (b ∷ s) o = o.0

pair_headed : (mtu : ℕ) (v : Saved) → SavedOctets v → Each Headed (pair_for mtu v)
unfolding pair_for
pair_headed mtu v o = go (both_saved v && leb (length (stap_a v.sps v.pps)) mtu)
  where
    go : (t : Bool) → Each Headed (cond t (pair v.sps v.pps ∷ []) [])
    go true = ((headed v.sps o.sps, headed v.pps o.pps), tt)
    go false = tt

pub unit_headed : (mtu : ℕ) (u : List ℕ) → Octets u → Each Headed (unit_for mtu u)
unfolding unit_for
unit_headed mtu u o = go (leb (length u) mtu) (ltb mtu 3)
  where
    divided : (s : List ℕ) → Each Headed (fragments_of (mtu - 2) s)
    divided [] = tt
    divided (b ∷ s) = (tt, tt)

    go : (a b : Bool) → Each Headed (cond a (plain u ∷ []) (cond b [] (fragments_of (mtu - 2) u)))
    go true b = (headed u o, tt)
    go false true = tt
    go false false = divided u

pub keep_octets : (v : Saved) (u : List ℕ) → SavedOctets v → Octets u → SavedOctets (keep v u)
unfolding keep
keep_octets v u o q = go (fate_of u)
  where
    forgot : (b : Bool) → SavedOctets (cond b nothing_saved v)
    forgot true = record { sps = tt; pps = tt }
    forgot false = o

    go : (k : Fate) → SavedOctets (keep_by k v u)
    go Empty = o
    go Dropped = o
    go Sps = record { sps = q; pps = o.pps }
    go Pps = record { sps = o.sps; pps = q }
    go Coded = forgot (both_saved v)

pub groups_headed : (mtu : ℕ) (v : Saved) (us : List (List ℕ)) → SavedOctets v → Each Octets us → Each Headed (groups_of mtu v us)
unfolding groups_for
groups_headed mtu v [] o q = tt
groups_headed mtu v (u ∷ us) o q =
    each_append Headed (groups_by (fate_of u) mtu v u) (groups_of mtu (keep v u) us) (go (fate_of u))
    (groups_headed mtu (keep v u) us (keep_octets v u o q.0) q.1)
  where
    go : (k : Fate) → Each Headed (groups_by k mtu v u)
    go Empty = tt
    go Dropped = tt
    go Sps = tt
    go Pps = tt
    go Coded = each_append Headed (pair_for mtu v) (unit_for mtu u) (pair_headed mtu v o) (unit_headed mtu u q.0)

module _ (mtu : ℕ) (small : mtu ≤ 65535) where
  pub all_laid : (gs : List Group) → Each (Sendable mtu) gs → Each Headed gs → packets_of gs ≡ payloads_of_all (map sending_of gs)
  all_laid [] w h = refl
  all_laid (g ∷ gs) w h =
      ap₂ (λ (a b : List (List ℕ)). a ++ b) (group_laid mtu small g w.0 h.0) (all_laid gs w.1 h.1)

  pub all_units : (gs : List Group) → nals_of_all gs ≡ units_of_all (map sending_of gs)
  all_units [] = refl
  all_units (g ∷ gs) = ap₂ (λ (a b : List Nal). a ++ b) (sym (group_units mtu small g)) (all_units gs)

  all_formed : (gs : List Group) → Each (Sendable mtu) gs → Each Headed gs → Each FormedSending (map sending_of gs)
  all_formed [] w h = tt
  all_formed (g ∷ gs) w h = (group_formed mtu small g w.0 h.0, all_formed gs w.1 h.1)

  pub all_lawful : (gs : List Group) → Each (Sendable mtu) gs → Each Headed gs → Each Regular gs → Each Lawful (map sending_of gs)
  all_lawful [] w h r = tt
  all_lawful (g ∷ gs) w h r =
      (record { formed = group_formed mtu small g w.0 h.0; rules = rules_kept mtu small g r.0 }, all_lawful gs w.1 h.1 r.1)

-- ---- the theorems

module _ (mtu : ℕ) (v : Saved) (us : List (List ℕ)) (small : mtu ≤ 65535) (o : SavedOctets v) (q : Each Octets us) where
  -- in every case
  pub laid_out : LaidOut (packets_of (groups_of mtu v us)) (nals_of_all (groups_of mtu v us))
  laid_out =
      let gs : List Group = groups_of mtu v us in
      record {
        sendings = map sending_of gs;
        formed = all_formed mtu small gs (sendable mtu v us) (groups_headed mtu v us o q);
        payloads = all_laid mtu small gs (sendable mtu v us) (groups_headed mtu v us o q);
        units = all_units mtu small gs;
      }

  -- and where no difference comes in: a packetization
  pub packetized : Each Regular (groups_of mtu v us) → Packetization (packets_of (groups_of mtu v us)) (nals_of_all (groups_of mtu v us))
  packetized r =
      let gs : List Group = groups_of mtu v us in
      record {
        sendings = map sending_of gs;
        lawful = all_lawful mtu small gs (sendable mtu v us) (groups_headed mtu v us o q) r;
        payloads = all_laid mtu small gs (sendable mtu v us) (groups_headed mtu v us o q);
        units = all_units mtu small gs;
      }
