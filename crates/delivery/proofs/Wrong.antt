-- Joiners that demand 3 shuts out: of the example show three groups must be handed out, the second longer than two packets, and its
-- missed total is 2, but 0 where everything arrives; of the example stream a unit must be handed out with its top bit set. Assumes nothing.
use mathlib.Core.Path.{◌≡◌, refl, sym, ap, subst, ◌∙◌}
use mathlib.Core.Bool.{Bool, true, false, cond}
use mathlib.Core.List.{List, [], ◌∷◌, ◌++◌}
use mathlib.Core.Logic.{◌⊎◌, inl, inr}
use Prim.Native.Nat.{ℕ, suc, ◌*◌, ◌≤◌, ◌<◌}
use native.Mathlib.Omega.{arith}
use lib.Dec.{eqb}
use lib.ListN.{length, take, drop, get_or, replicate}
use Rattle.error.specs.Said.{Said, says, refused}
use Rattle.wire.specs.Each.{Each}
use Rattle.wire.specs.Net.{be16, be32}
use Rattle.wire.proofs.Each.{each_append, each_by}
use Rattle.header_write.specs.Fixed.{fixed_for}
use Rattle.header.specs.Write.{octets_of}
use Rattle.packet.specs.Write.{payload_octets, packet_octets}
use Rattle.packet.specs.Plain.{plain_packet}
use Rattle.nal.proofs.Handing.{length_one}
use Rattle.annexb.specs.Units.{units, units_at}
use Rattle.h264_put.specs.Groups.{keep, stap_a, fragment, pair_for, unit_for, groups_for}
use Rattle.rfc6184.specs.Sending as rfc
use Rattle.sequence.specs.Arrival.{Arrival}
use Rattle.sequence.proofs.InOrder.{in_order, in_order_within}
use Rattle.joiner.specs.declared.Joiner.{Joiner}
use Rattle.joiner_step.specs.Step.{Answer, accepted, late}
use Rattle.joiner_step.specs.Play.{steps, handed_in, handed_out}
use Rattle.joiner.specs.Join.{Stepped}
use Rattle.delivery.specs.Show.{packet}
use Rattle.delivery.specs.Play.{Machine, arriving, played, closing}
use Rattle.delivery.specs.Frames.{show_of, Delivers}
use Rattle.delivery.specs.AnySender.{stream_show, DeliversAny}
use Rattle.delivery.specs.Wrong.{Silent, FromItsOwn, Advancing, Inventing, Unmarking}
use Rattle.delivery.proofs.Example.{nine, show, stranger, nine_premises, premises, pair_out, joined_out, last_out}
use Rattle.delivery.proofs.ExampleStream.{stream, stream_premises}

-- ---- what must be handed out

handed : (avc : Bool) (m : Machine) → Delivers avc m → handed_out (played m (show_of show)) ≡ pair_out avc ∷ joined_out avc ∷ last_out avc ∷ []
unfolding show nine units units_at keep stap_a pair_for unit_for groups_for fragment be16
handed avc m d = (d show (premises avc)).hands_out

pub no_silent_joiner : (avc : Bool) (m : Machine) → Silent m → Delivers avc m → ⊥
no_silent_joiner avc m silent d =
    let none : [] ≡ pair_out avc ∷ joined_out avc ∷ last_out avc ∷ [] = sym (silent (show_of show)) ∙ handed avc m d in
    let z : ◌≡◌ {A = ℕ} 0 3 = ap length none in
    omega arith

-- ---- what later calls can hand out

one_at_most : (a : Said Answer) (out : List ℕ) → (handed_in a out ≡ []) ⊎ ((l : List ℕ) × (handed_in a out ≡ l ∷ []))
one_at_most (refused r) out = inl refl
one_at_most (says late) out = inl refl
one_at_most (says (accepted a)) out = go (eqb a.bytes 0)
  where
    go : (none : Bool) → (cond none [] (take a.bytes out ∷ []) ≡ []) ⊎ ((l : List ℕ) × (cond none [] (take a.bytes out ∷ []) ≡ l ∷ []))
    go true = inl refl
    go false = inr (take a.bytes out, refl)

module _ (m : Machine) (n : ℕ) where
  abbrev Short : List ℕ → Type 0
  Short l = length l ≤ n

  all_short : (bytes : List (List ℕ)) (j : Joiner) (gather : List ℕ) (outs : ℕ → List ℕ) → Each (λ (b : List ℕ). 2 * length b ≤ n) bytes →
      FromItsOwn bytes (steps m.step j gather outs bytes) → Each Short (handed_out (steps m.step j gather outs bytes))
  all_short [] j gather outs few own = tt
  all_short (b ∷ bytes) j gather outs few own =
      let st : Stepped = m.step j b gather (outs 0) in
      let now : List (List ℕ) = handed_in st.answer st.out in
      each_append Short now (handed_out (steps m.step st.joiner st.gather (λ i. outs (suc i)) bytes))
      (each_by Short (λ (l : List ℕ). length l ≤ 2 * length b) (λ l h. omega (arith, h, few.0)) now own.0)
      (all_short bytes st.joiner st.gather (λ i. outs (suc i)) few.1 own.1)

second : (Short : List ℕ → Type 0) (x y : List ℕ) (zs front back : List (List ℕ)) → front ++ back ≡ x ∷ y ∷ zs →
    (front ≡ []) ⊎ ((l : List ℕ) × (front ≡ l ∷ [])) → Each Short back → Short y
second Short x y zs front back e (inl none) w =
    let is : back ≡ x ∷ y ∷ zs = ap (λ (l : List (List ℕ)). l ++ back) (sym none) ∙ e in (subst (Each Short) is w).1.0
second Short x y zs front back e (inr one) w =
    let is : one.0 ∷ back ≡ x ∷ y ∷ zs = ap (λ (l : List (List ℕ)). l ++ back) (sym one.1) ∙ e in
    let rest : back ≡ y ∷ zs = cc in
    (subst (Each Short) rest w).0

-- no packet of the show is longer than 42 bytes
packets_few : Each (λ (b : List ℕ). 2 * length b ≤ 84) (drop 1 (arriving (show_of show)))
unfolding show nine stranger units units_at keep stap_a pair_for unit_for groups_for fragment plain_packet packet_octets payload_octets octets_of fixed_for be16 be32
packets_few = omega arith

pub no_advancer : (avc : Bool) (m : Machine) → Advancing m → Delivers avc m → ⊥
unfolding show nine
no_advancer avc m own d =
    let st : Stepped = m.step (m.opening 3 65531) (packet (show_of show) 0) (replicate 84 0) (replicate 89 0) in
    let bytes : List (List ℕ) = drop 1 (arriving (show_of show)) in
    let outs : ℕ → List ℕ = λ i. replicate 89 0 in
    let short : length (joined_out avc) ≤ 84 =
    second (λ (l : List ℕ). length l ≤ 84) (pair_out avc) (joined_out avc) (last_out avc ∷ []) (handed_in st.answer st.out)
    (handed_out (steps m.step st.joiner st.gather outs bytes)) (handed avc m d) (one_at_most st.answer st.out)
    (all_short m 84 bytes st.joiner st.gather outs packets_few (own (show_of show))) in
    omega (arith, length_one avc (0x65 ∷ replicate 84 7))

-- ---- the missed total

pub no_invented_total : (avc : Bool) (m : Machine) → Inventing m → Delivers avc m → ⊥
unfolding show nine units units_at keep stap_a pair_for unit_for groups_for fragment be16
no_invented_total avc m same d =
    let all : List (Arrival (List ℕ)) = in_order 0 9 in
    let two : (closing m (show_of show)).joiner.missed ≡ 2 = (d show (premises avc)).counts in
    let none : (closing m (show_of (nine all))).joiner.missed ≡ 0 =
    (d (nine all) (nine_premises avc all tt (in_order_within (List ℕ) 9))).counts in
    omega (arith, two, none, same (show_of show) all)

-- ---- the mark

-- the third group of the stream is the marked unit
third_marked : (avc : Bool) (m : Machine) → DeliversAny avc m → (ls : List (List ℕ)) → ls ≡ handed_out (played m (stream_show stream)) → get_or (get_or ls 2 []) 4 0 ≡ 0xE5
unfolding stream rfc.octets_of rfc.fragment rfc.octet be16 be32
third_marked false m d ls e = ap (λ (l : List (List ℕ)). get_or (get_or l 2 []) 4 0) (e ∙ (d stream (stream_premises false)).hands_out)
third_marked true m d ls e = ap (λ (l : List (List ℕ)). get_or (get_or l 2 []) 4 0) (e ∙ (d stream (stream_premises true)).hands_out)

pub no_unmarker : (avc : Bool) (m : Machine) → Unmarking m → DeliversAny avc m → ⊥
no_unmarker avc m clear d = go (handed_out (played m (stream_show stream))) refl (clear (stream_show stream))
  where
    go : (ls : List (List ℕ)) → ls ≡ handed_out (played m (stream_show stream)) → Each (λ (l : List ℕ). get_or l 4 0 < 128) ls → ⊥
    go [] e w = omega (arith, third_marked avc m d [] e)
    go (x ∷ []) e w = omega (arith, third_marked avc m d (x ∷ []) e)
    go (x ∷ y ∷ []) e w = omega (arith, third_marked avc m d (x ∷ y ∷ []) e)
    go (x ∷ y ∷ z ∷ ls) e w = omega (arith, third_marked avc m d (x ∷ y ∷ z ∷ ls) e, w.1.1.0)
