-- What H.264's checks say of the payloads of a plain unit, a STAP-A and a fragmented unit: each is a group that the codec owes.
-- Assumes nothing.
use mathlib.Core.Path.{◌≡◌, refl, sym, ap, subst, ◌∙◌}
use mathlib.Core.Bool.{Bool, true, false}
use mathlib.Core.List.{List, [], ◌∷◌, ◌++◌, map, map-map, map-append}
use Prim.Native.Nat.{ℕ, ◌+◌, ◌*◌, ◌/◌, ◌%◌, ◌≤◌}
use native.Mathlib.Omega.{arith}
use lib.ListN.{length}
use borrow.Author.Tests.{eq-eqb, ne_eqb}
use Rattle.error.specs.Said.{says}
use Rattle.wire.specs.Net.{be16, bit}
use Rattle.nal.specs.Unpack.{sized_units, Sized}
use Rattle.nal_read.specs.Kind.{Shape, aggregate, fragment, head_of, shape}
use Rattle.nal_read.proofs.Shapes.{shape_plain, shape_aggregate, shape_fragment, unpack_sized}
use Rattle.sequence.specs.Group.{Group}
use Rattle.sequence.specs.Codec.{Owes}
use Rattle.joiner_step.specs.Run.{Units}
use Rattle.joiner_step.specs.General.{Enough, codec}
use Rattle.joiner_feed.specs.Content.{Fragment, whole, start, middle, end, timed, top_bit}
use Rattle.joiner_feed.specs.H264.{whole_said, fragmented, check_by, check}
use Rattle.joiner_feed.proofs.Owing.{owes_whole, owes_cut}
use Rattle.joiner_feed.proofs.Topping.{top_low, top_type, top_is}
use Rattle.joiner.specs.Join.{Known, known, arrived_in, choice}
use Rattle.joiner.specs.Sent.{Sent, aggregated, alone, stap_a, fu_a, body, any_marked, group_of, known_group, gathered_of, PlainUnit, Lawful}
use Rattle.joiner.specs.Sent as sent
use Rattle.packet.specs.Read.{read_packet}

-- ---- the shapes of what is sent

shape_stap_a : (head : ℕ) (u : List ℕ) (us : Units) → head % 32 ≡ 24 → shape (stap_a head (u ∷ us)) ≡ aggregate
unfolding stap_a be16
shape_stap_a head u us t = shape_aggregate (head ∷ sized_units (u ∷ us)) (omega arith) t

-- the FU indicator, with F set or not
abbrev indicator : Bool → ℕ → ℕ
indicator m head = top_bit m (head / 32 % 4 * 32 + 28)

-- its type, and the first byte of the unit, "NRI and type", whatever F
type_of : (m : Bool) (head : ℕ) → indicator m head % 32 ≡ 28
type_of m head = omega (arith, top_type m (head / 32 % 4 * 32 + 28))

head_of_lem : (m : Bool) (head bits : ℕ) → bits % 32 ≡ 0 → head_of (indicator m head) (bits + head % 32) ≡ head % 128
head_of_lem m head bits e = omega (arith, top_low m (head / 32 % 4 * 32 + 28))

shape_fu_a : (head bits : ℕ) (p : Fragment) (first last : Bool) → 1 ≤ length p.part → bits % 32 ≡ 0 →
    bit ((bits + head % 32) / 128) ≡ first → bit ((bits + head % 32) / 64) ≡ last →
    shape (fu_a head bits p) ≡ fragment first last (head % 128)
unfolding fu_a
shape_fu_a head bits p first last h e f l =
    shape_fragment (indicator p.marked head ∷ (bits + head % 32) ∷ p.part) (omega arith) (type_of p.marked head)
    ∙ rw (f, l, head_of_lem p.marked head bits e)

module _ (head : ℕ) (p : Fragment) (h : 1 ≤ length p.part) where
  shape_start : shape (fu_a head 128 p) ≡ fragment true false (head % 128)
  shape_start =
      shape_fu_a head 128 p true false h refl (eq-eqb ((128 + head % 32) / 128 % 2) 1 (omega arith))
      (ne_eqb ((128 + head % 32) / 64 % 2) 1 (λ e. omega arith))

  shape_middle : shape (fu_a head 0 p) ≡ fragment false false (head % 128)
  shape_middle =
      shape_fu_a head 0 p false false h refl (ne_eqb ((0 + head % 32) / 128 % 2) 1 (λ e. omega arith))
      (ne_eqb ((0 + head % 32) / 64 % 2) 1 (λ e. omega arith))

  shape_end : shape (fu_a head 64 p) ≡ fragment false true (head % 128)
  shape_end =
      shape_fu_a head 64 p false true h refl (ne_eqb ((64 + head % 32) / 128 % 2) 1 (λ e. omega arith))
      (eq-eqb ((64 + head % 32) / 64 % 2) 1 (omega arith))

-- ---- what the checks say

pub check_shape : (payload : List ℕ) (s : Shape) → shape payload ≡ s → check payload ≡ check_by s payload
unfolding check
check_shape payload s e = ap (λ (x : Shape). check_by x payload) e

check_alone : (u : List ℕ) → PlainUnit u → check u ≡ says (whole (u ∷ []))
check_alone u p = check_shape u _ (shape_plain u p.long p.type_low p.type_high)

check_stap_a : (head : ℕ) (u : List ℕ) (us : Units) → head % 32 ≡ 24 → Sized (u ∷ us) → check (stap_a head (u ∷ us)) ≡ says (whole (u ∷ us))
unfolding stap_a
check_stap_a head u us t w = check_shape (stap_a head (u ∷ us)) aggregate (shape_stap_a head u us t) ∙ ap whole_said (unpack_sized head (u ∷ us) w)

module _ (head : ℕ) (f : Fragment) (h : 1 ≤ length f.part) where
  -- by its shape, and with its own F
  check_fu_a : (bits : ℕ) (first last : Bool) → shape (fu_a head bits f) ≡ fragment first last (head % 128) →
      check (fu_a head bits f) ≡ fragmented first last (head % 128) f
  unfolding fu_a
  check_fu_a bits first last e =
      check_shape (fu_a head bits f) _ e
      ∙ ap (λ (m : Bool). fragmented first last (head % 128) (record { marked = m; part = f.part })) (top_is f.marked (head / 32 % 4 * 32 + 28) (omega arith))

  check_start : check (fu_a head 128 f) ≡ says (start f)
  check_start = check_fu_a 128 true false (shape_start head f h)

  check_middle : check (fu_a head 0 f) ≡ says (middle f)
  check_middle = check_fu_a 0 false false (shape_middle head f h)

  check_end : check (fu_a head 64 f) ≡ says (end (head % 128 ∷ []) f)
  check_end = check_fu_a 64 false true (shape_end head f h)

-- ---- in a room that is enough

module _ (avc : Bool) (most largest : ℕ) (bounded : most ≤ 16777215) where
  -- where all its packets carry the time t
  abbrev Owed : ℕ → Group (List ℕ) Units → Type 0
  Owed t g = Owes (codec (choice avc)) (Enough most largest) (known_group t g)

  -- one payload by itself
  pub owes_one : (t : ℕ) (payload : List ℕ) (u : List ℕ) (us : Units) → check payload ≡ says (whole (u ∷ us)) →
      Owed t (record { first = payload; others = []; handed = u ∷ us })
  owes_one t payload u us e =
      owes_whole (λ packet. arrived_in packet (read_packet packet)) (λ p. p.time) (λ p. check p.payload) avc most largest bounded (known t payload) u us e

  pub owes : (t : ℕ) (s : Sent) → Lawful s → gathered_of s ≤ most → Owed t (group_of s)
  owes t (aggregated head unit others) w h = owes_one t (stap_a head (unit ∷ others)) unit others (check_stap_a head unit others w.0 w.1)
  owes t (alone unit) w h = owes_one t unit unit [] (check_alone unit w)
  owes t (sent.fragmented head first between last) w h =
      subst (λ (l : List Known). Owes (codec (choice avc)) (Enough most largest) (record { first = known t (fu_a head 128 first); others = l; handed = (top_bit (any_marked first between last) (head % 128) ∷ body first between last) ∷ [] }))
      (sym (map-append (known t) (map (fu_a head 0) between) (fu_a head 64 last ∷ []) ∙ ap (λ (l : List Known). l ++ (known t (fu_a head 64 last) ∷ [])) (map-map (known t) (fu_a head 0) between)))
      (owes_cut (λ packet. arrived_in packet (read_packet packet)) (λ p. p.time) (λ p. check p.payload) avc most largest bounded t
      (λ f. known t (fu_a head 128 f)) (λ f. known t (fu_a head 0 f)) (λ f. known t (fu_a head 64 f)) (head % 128 ∷ []) (λ f. 1 ≤ length f.part)
      (λ f p. ap (timed t) (check_start head f p)) (λ f p. ap (timed t) (check_middle head f p)) (λ f p. ap (timed t) (check_end head f p))
      first between last w.0.0 w.0.1 w.1 h)
