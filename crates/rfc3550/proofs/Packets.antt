-- The last octet tells the padding: so two lawful packets with the same octets are the same packet, and the octets behind a header with the P
-- bit are padded lawfully, end in a count of 0, or are short, and no two of these. Assumes nothing.
use mathlib.Core.Path.{◌≡◌, refl, sym, ap, ◌∙◌}
use mathlib.Core.List.{List, [], ◌∷◌, ◌++◌, append_assoc, append-nil}
use mathlib.Core.Logic.{◌⊎◌, inl, inr}
use mathlib.Core.Option.{Option, none, some}
use Prim.Native.Nat.{ℕ, zero, suc, ◌+◌, ◌-◌, ◌<◌, ◌≤◌}
use native.Mathlib.Nat.{lt_of_not-le}
use native.Mathlib.Decide.{dec_le, ℕ_discrete}
use native.Mathlib.Omega.{arith}
use lib.ListN.{length, take, drop, get_or, length-append, length-drop, take-append-drop}
use lib.Seq.{length-take-le, get_or_at, split_at}
use Rattle.rfc3550.specs.Rfc3550.{Octets, present}
use Rattle.rfc3550.specs.Rfc8285.{Plan}
use Rattle.rfc3550.specs.Packet.{Padding, count_in, padding_octets, Packet, LawfulPacket, end_octets, packet_octets, Padded, Uncounted, last_octet, Short, nothing_there, over_counted}
use Rattle.rfc3550.proofs.Unambiguous.{append_inj}
use Rattle.rfc3550.proofs.Blocks.{unambiguous_elements}

-- ---- the last octet

pub last_at : (s : List ℕ) (n : ℕ) → last_octet (s ++ (n ∷ [])) ≡ n
last_at s n = get_or_at s n [] 0 (length (s ++ (n ∷ [])) - 1) (omega (arith, length-append s (n ∷ [])))

-- the octets before the last
pub front_at : (s : List ℕ) → 1 ≤ length s → take (length s - 1) s ++ (last_octet s ∷ []) ≡ s
front_at s h =
    let behind : drop (suc (length s - 1)) s ≡ [] = no_octets (drop (suc (length s - 1)) s) (omega (arith, length-drop (suc (length s - 1)) s)) in
    ap (λ (t : List ℕ). take (length s - 1) s ++ (last_octet s ∷ t)) (sym behind) ∙ sym (split_at s (length s - 1) 0 (omega arith))
  where
    no_octets : (t : List ℕ) → length t ≡ 0 → t ≡ []
    no_octets [] e = refl
    no_octets (x ∷ t) e = absurd (omega arith)

pub last_below : (s : List ℕ) → Octets s → 1 ≤ length s → last_octet s < 256
last_below s o h = below_at s (length s - 1) o (omega arith)
  where
    below_at : (t : List ℕ) (i : ℕ) → Octets t → i < length t → get_or t i 0 < 256
    below_at [] i p q = absurd (omega arith)
    below_at (x ∷ t) zero p q = p.0
    below_at (x ∷ t) (suc i) p q = below_at t i p.1 (omega arith)

-- a payload with padding behind it ends in the count, and has at least so many octets
pub count_last : (payload : List ℕ) (p : Padding) → last_octet (payload ++ padding_octets p) ≡ count_in p
count_last payload p = ap last_octet (sym (append_assoc payload p.before (count_in p ∷ []))) ∙ last_at (payload ++ p.before) (count_in p)

pub length_padding : (p : Padding) → length (padding_octets p) ≡ count_in p
length_padding p = length-append p.before (count_in p ∷ [])

pub length_padded : (payload : List ℕ) (p : Padding) → length (payload ++ padding_octets p) ≡ length payload + count_in p
length_padded payload p = length-append payload (padding_octets p) ∙ ap (λ (n : ℕ). length payload + n) (length_padding p)

-- ---- UNAMBIGUOUS

end_told : (a b : List ℕ) (p q : Option Padding) → present p ≡ present q → a ++ end_octets p ≡ b ++ end_octets q → (a ≡ b) × (p ≡ q)
end_told a b none none h e = (sym (append-nil a) ∙ e ∙ append-nil b, refl)
end_told a b none (some q) h e = absurd (let z : ◌≡◌ {A = ℕ} 0 1 = cc in omega arith)
end_told a b (some p) none h e = absurd (let z : ◌≡◌ {A = ℕ} 0 1 = cc in omega arith)
end_told a b (some p) (some q) h e =
    let count : count_in p ≡ count_in q = sym (count_last a p) ∙ ap last_octet e ∙ count_last b q in
    let long : length a ≡ length b = omega (arith, length_padded a p, length_padded b q, ap length e) in
    let parts : (a ≡ b) × (padding_octets p ≡ padding_octets q) = append_inj a (padding_octets p) b (padding_octets q) long e in
    let before : p.before ≡ q.before = (append_inj p.before (count_in p ∷ []) q.before (count_in q ∷ []) (omega arith) parts.1).0 in
    (parts.0, λ i. some (record { before = before i }))

pub unambiguous_packets : (p q : Packet) → LawfulPacket p → LawfulPacket q → packet_octets p ≡ packet_octets q → p ≡ q
unfolding packet_octets
unambiguous_packets p q l m e =
    let told : (p.header ≡ q.header) × (p.payload ++ end_octets p.padding ≡ q.payload ++ end_octets q.padding) =
    unambiguous_elements p.header q.header (p.payload ++ end_octets p.padding) (q.payload ++ end_octets q.padding) l.header m.header e in
    let bits : present p.padding ≡ present q.padding = sym l.bit ∙ ap (λ (h : Plan). h.fixed.padding) told.0 ∙ m.bit in
    let rest : (p.payload ≡ q.payload) × (p.padding ≡ q.padding) = end_told p.payload q.payload p.padding q.padding bits told.1 in
    λ i. record { header = told.0 i; payload = rest.0 i; padding = rest.1 i }

-- ---- padded, a count of 0, or short

-- a count that is not 0, of no more octets than there are
counted : (s : List ℕ) → Octets s → 1 ≤ last_octet s → last_octet s ≤ length s → Padded s
counted s o some_there fits =
    let n : ℕ = last_octet s in
    let k : ℕ = length s - n in
    let middle : List ℕ = drop k (take (length s - 1) s) in
    let long : length middle ≡ n - 1 = omega (arith, length-drop k (take (length s - 1) s), length-take-le (length s - 1) s (omega arith)) in
    let count : length middle + 1 ≡ n = omega arith in
    record {
      payload = take k (take (length s - 1) s);
      padding = record { before = middle };
      lawful = omega (arith, last_below s o (omega arith));
      same = ap (λ (c : ℕ). take k (take (length s - 1) s) ++ (middle ++ (c ∷ []))) count
          ∙ sym (append_assoc (take k (take (length s - 1) s)) middle (n ∷ []))
          ∙ ap (λ (t : List ℕ). t ++ (n ∷ [])) (take-append-drop k (take (length s - 1) s))
          ∙ front_at s (omega arith);
    }

pub padded_or_not : (s : List ℕ) → Octets s → Padded s ⊎ (Uncounted s ⊎ Short s)
padded_or_not s o =
    elim (ℕ_discrete (length s) 0) [
      | yes none-there ↦ inr (inr (nothing_there none-there))
      | no some_there ↦
          elim (ℕ_discrete (last_octet s) 0) [
            | yes zero-last ↦
                inr
                (inl
                (record {
                  before = take (length s - 1) s;
                  same = ap (λ (n : ℕ). take (length s - 1) s ++ (n ∷ [])) (sym zero-last) ∙ front_at s (omega arith);
                }))
            | no counts ↦
                elim (dec_le (last_octet s) (length s)) [
                  | yes fits ↦ inl (counted s o (omega arith) fits)
                  | no over ↦ inr (inr (over_counted (lt_of_not-le over)))
                ]
          ]
    ]

-- and never two of them

pub padded_counted : (s : List ℕ) → Padded s → Uncounted s → ⊥
padded_counted s p u =
    let last : count_in p.padding ≡ 0 =
    sym (count_last p.payload p.padding) ∙ ap last_octet p.same ∙ sym (ap last_octet u.same) ∙ last_at u.before 0 in
    omega arith

pub padded_room : (s : List ℕ) → Padded s → Short s → ⊥
padded_room s p (nothing_there e) = omega (arith, length_padded p.payload p.padding, ap length p.same)
padded_room s p (over_counted h) =
    omega (arith, length_padded p.payload p.padding, ap length p.same, sym (ap last_octet p.same) ∙ count_last p.payload p.padding)

pub uncounted_room : (s : List ℕ) → Uncounted s → Short s → ⊥
uncounted_room s u (nothing_there e) = omega (arith, length-append u.before (0 ∷ []), ap length u.same)
uncounted_room s u (over_counted h) = omega (arith, sym (ap last_octet u.same) ∙ last_at u.before 0)
