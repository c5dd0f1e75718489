-- What is sent for a unit is a packetization of it by RFC 6184: of a unit of type 1 to 23 with F clear that goes out, and of one with F
-- set where it fits alone. Assumes nothing.
use mathlib.Core.Path.{◌≡◌, sym, ap, ap₂, subst, ◌∙◌}
use mathlib.Core.List.{List, [], ◌∷◌, map}
use mathlib.Core.Bool.{Bool, true, ◌||◌, true≢false}
use Prim.Native.Nat.{ℕ, ◌-◌, ◌≤◌, ◌<◌}
use native.Mathlib.Decide.{dec_le}
use native.Mathlib.Omega.{arith}
use lib.Dec.{leb}
use lib.ListN.{length}
use borrow.Author.Tests.{lt-leb}
use Rattle.rfc6184.specs.Sending.{Each, Nal, UnitType, Packetization}
use Rattle.h264_put.specs.Groups.{fragments_of, unit_for, packets_of}
use Rattle.h264.specs.Conformance.{Octets, nal, sending_of, cleared, nals_of_all, Regular}
use Rattle.h264_put.proofs.Sizes.{unit_alone, unit_divided}
use Rattle.h264.proofs.Parts.{unit_rebuilt}
use Rattle.h264.proofs.Fits.{unit_sendable}
use Rattle.h264.proofs.Conforms.{unit_headed, all_laid, all_units, all_lawful}

pub cleared_same : (n : Nal) → n.f ≡ 0 → cleared n ≡ n
cleared_same n f = ap (λ (x : ℕ). record { f = x; nri = n.nri; type = n.type; payload = n.payload }) (sym f)

module _ (mtu : ℕ) (small : mtu ≤ 65535) (u : List ℕ) (some : 0 < length u) (o : Octets u) (t : UnitType (nal u).type) where
  sent_as : (n : Nal) → Each Regular (unit_for mtu u) → nals_of_all (unit_for mtu u) ≡ n ∷ [] → Packetization (packets_of (unit_for mtu u)) (n ∷ [])
  sent_as n r e =
      record {
        sendings = map sending_of (unit_for mtu u);
        lawful = all_lawful mtu small (unit_for mtu u) (unit_sendable mtu u some) (unit_headed mtu u o) r;
        payloads = all_laid mtu small (unit_for mtu u) (unit_sendable mtu u some) (unit_headed mtu u o);
        units = sym e ∙ all_units mtu small (unit_for mtu u);
      }

  -- alone, with whatever F it has
  pub alone_packetized : length u ≤ mtu → Packetization (packets_of (unit_for mtu u)) (nal u ∷ [])
  alone_packetized h =
      sent_as (nal u) (subst (Each Regular) (sym (unit_alone mtu u h)) (t, tt)) (ap nals_of_all (unit_alone mtu u h))

  -- in fragments, with F cleared
  pub divided_packetized : 3 ≤ mtu → mtu < length u → Packetization (packets_of (unit_for mtu u)) (cleared (nal u) ∷ [])
  divided_packetized g h =
      sent_as (cleared (nal u)) (subst (Each Regular) (sym (unit_divided mtu u h g)) (regular u t h))
      (ap nals_of_all (unit_divided mtu u h g) ∙ carried u h)
    where
      regular : (x : List ℕ) → UnitType (nal x).type → mtu < length x → Each Regular (fragments_of (mtu - 2) x)
      regular [] q l = tt
      regular (b ∷ s) q l = (q, tt)

      carried : (x : List ℕ) → mtu < length x → nals_of_all (fragments_of (mtu - 2) x) ≡ cleared (nal x) ∷ []
      carried [] l = absurd (omega arith)
      carried (b ∷ s) l =
          ap (λ (y : List ℕ). cleared (nal y) ∷ []) (unit_rebuilt (mtu - 2) b s (omega arith) (omega arith))

  -- a unit with F clear, either way
  pub unit_packetized : (nal u).f ≡ 0 → (leb (length u) mtu || leb 3 mtu) ≡ true → Packetization (packets_of (unit_for mtu u)) (nal u ∷ [])
  unit_packetized f e = go (dec_le (length u) mtu) (dec_le 3 mtu)
    where
      go : Dec (length u ≤ mtu) → Dec (3 ≤ mtu) → Packetization (packets_of (unit_for mtu u)) (nal u ∷ [])
      go (yes h) d = alone_packetized h
      go (no h) (yes g) =
          subst (λ (n : Nal). Packetization (packets_of (unit_for mtu u)) (n ∷ [])) (cleared_same (nal u) f) (divided_packetized g (omega arith))
      go (no h) (no g) =
          absurd (true≢false (sym e ∙ ap₂ (λ (x y : Bool). x || y) (lt-leb (length u) mtu (omega arith)) (lt-leb 3 mtu (omega arith))))
