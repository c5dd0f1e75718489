-- Each packet that is sent is the octets of a lawful descriptor, its reserved bits 0, and a part of the frame behind them.
-- Assumes nothing.
use mathlib.Core.Path.{◌≡◌, refl, sym, ap, ap₂, subst, ◌∙◌}
use mathlib.Core.Bool.{Bool, true, false, cond}
use mathlib.Core.List.{List, [], ◌∷◌, ◌++◌, map}
use mathlib.Core.Option.{none}
use Prim.Native.Nat.{ℕ, zero, suc, ◌+◌, ◌-◌, ◌/◌, ◌%◌, ◌≤◌, ◌<◌, min}
use native.Mathlib.Omega.{arith}
use lib.Dec.{ltb, lit<, lit≤}
use lib.ListN.{length, take, drop, length-append, length-take}
use borrow.Author.Tests.{ltb-true}
use Rattle.wire.specs.Net.{be16}
use Rattle.wire.specs.Packets.{joined}
use Rattle.rfc7741.specs.Descriptor.{Required, PictureId, absent, short, long, neither, Extension, Descriptor, plain, extended, octets, FormedRequired, FormedId, FormedExtension}
use Rattle.rfc7741.specs.Frame.{Piece, packet_of, Sends, AllSend, StartsOnce, parts}
use Rattle.vp8_send.specs.declared.Vp8Payloader.{Vp8Payloader}
use Rattle.vp8_send.specs.Send.{header_size, start_octet, descriptor_of, parts_by, parts_of, headed, packets_of}
use Rattle.vp8.specs.Conform.{start_flag, shown_id, AtMost, SendsFrames}
use Rattle.vp8_send.proofs.Header.{length_descriptor}
use Rattle.vp8_send.proofs.Parts.{joined_parts}
use Rattle.vp8_send.proofs.Deliver.{packets_are}

-- ---- the descriptor of a packet

abbrev pub required_by : Bool → Required
required_by start = record { r = 0; n = 0; s = start_flag start; r2 = 0; pid = 0 }

-- no optional field but the PictureID
abbrev pub id_alone : PictureId → Extension
id_alone i = record { picture_id = i; tl0picidx = none; layers = neither; rsv = 0 }

unfoldable pub plan_by : PictureId → Bool → Descriptor
plan_by absent start = plain (required_by start)
plan_by (short n) start = extended (required_by start) (id_alone (short n))
plan_by (long n) start = extended (required_by start) (id_alone (long n))

-- the three forms of the header are the octets of three plans
pub octets_of : (v : Vp8Payloader) (start : Bool) → v.picture_id ≤ 32767 → octets (plan_by (shown_id v) start) ≡ descriptor_of v start
unfolding plan_by shown_id descriptor_of be16
octets_of v start h = by_cases v.enable_picture_id (ltb v.picture_id 128) start
  where
    n : ℕ
    n = v.picture_id

    long_bytes : (start' : Bool) → (128 + start_octet start') ∷ 128 ∷ (128 + n / 256) ∷ n % 256 ∷ [] ≡ (128 + start_octet start') ∷ 128 ∷ be16 (32768 + n)
    long_bytes start' =
        let high : 128 + n / 256 ≡ (32768 + n) / 256 % 256 = omega arith in
        let low : n % 256 ≡ (32768 + n) % 256 = omega arith in
        ap₂ (λ (a b : ℕ). (128 + start_octet start') ∷ 128 ∷ a ∷ b ∷ []) high low

    by_cases : (shown seven start' : Bool) →
        octets (plan_by (cond shown (cond seven (short n) (long n)) absent) start')
        ≡ cond shown ((128 + start_octet start') ∷ 128 ∷ cond seven (n ∷ []) (be16 (32768 + n))) (start_octet start' ∷ [])
    by_cases true true true = refl
    by_cases true true false = refl
    by_cases true false true = long_bytes true
    by_cases true false false = long_bytes false
    by_cases false true true = refl
    by_cases false true false = refl
    by_cases false false true = refl
    by_cases false false false = refl

-- and the plans are formed
pub formed_id : (v : Vp8Payloader) → v.picture_id ≤ 32767 → FormedId (shown_id v)
unfolding shown_id
formed_id v h = by_cases v.enable_picture_id (ltb v.picture_id 128) refl
  where
    by_cases : (shown seven : Bool) → ltb v.picture_id 128 ≡ seven →
        FormedId (cond shown (cond seven (short v.picture_id) (long v.picture_id)) absent)
    by_cases true true e = ltb-true v.picture_id 128 e
    by_cases true false e = omega arith
    by_cases false true e = tt
    by_cases false false e = tt

pub formed_required : (start : Bool) → FormedRequired (required_by start)
formed_required true = record { r = lit< tt; n = lit< tt; s = lit< tt; r2 = lit< tt; pid = lit< tt }
formed_required false = record { r = lit< tt; n = lit< tt; s = lit< tt; r2 = lit< tt; pid = lit< tt }

pub formed_alone : (i : PictureId) → FormedId i → FormedExtension (id_alone i)
formed_alone i h = record { picture_id = h; tl0picidx = tt; layers = tt; rsv = lit< tt }

abbrev piece_of : PictureId → Bool → List ℕ → Piece
piece_of i start part = record { descriptor = plan_by i start; part = part }

sends_id : (i : PictureId) (start : Bool) (part : List ℕ) → FormedId i → 0 < length part →
    Sends i (start_flag start) (record { descriptor = extended (required_by start) (id_alone i); part = part })
sends_id i start part h g =
    record {
      lawful = record { formed = (formed_required start, formed_alone i h); rules = lit≤ tt };
      r = refl;
      n = refl;
      r2 = refl;
      pid = refl;
      layers = (refl, refl);
      rsv = refl;
      s = refl;
      picture_id = refl;
      some = g;
    }

sends : (i : PictureId) (start : Bool) (part : List ℕ) → FormedId i → 0 < length part → Sends i (start_flag start) (piece_of i start part)
unfolding plan_by
sends absent start part h g =
    record {
      lawful = record { formed = formed_required start; rules = tt };
      r = refl;
      n = refl;
      r2 = refl;
      pid = refl;
      layers = tt;
      rsv = refl;
      s = refl;
      picture_id = refl;
      some = g;
    }
sends (short m) start part h g = sends_id (short m) start part h g
sends (long m) start part h g = sends_id (long m) start part h g

-- ---- the parts

abbrev AllSized : ℕ → List (List ℕ) → Type 0
AllSized size [] = Unit
AllSized size (p ∷ ps) = ((0 < length p) × (length p ≤ size)) × AllSized size ps

sized : (fuel size : ℕ) (s : List ℕ) → 0 < size → AllSized size (parts_by fuel size s)
unfolding parts_by
sized zero size s z = tt
sized (suc fuel) size [] z = tt
sized (suc fuel) size (b ∷ s) z =
    let l : length (take size (b ∷ s)) ≡ min size (length (b ∷ s)) = length-take size (b ∷ s) in
    ((omega arith, omega arith), sized fuel size (drop size (b ∷ s)) z)

-- ---- the packets

pieces : PictureId → Bool → List (List ℕ) → List Piece
pieces i start [] = []
pieces i start (p ∷ ps) = piece_of i start p ∷ pieces i false ps

headed_are : (v : Vp8Payloader) (start : Bool) (ps : List (List ℕ)) → v.picture_id ≤ 32767 →
    headed v start ps ≡ map packet_of (pieces (shown_id v) start ps)
unfolding headed pieces
headed_are v start [] h = refl
headed_are v start (p ∷ ps) h =
    ap₂ (λ (d : List ℕ) (rest : List (List ℕ)). (d ++ p) ∷ rest) (sym (octets_of v start h)) (headed_are v false ps h)

all_send : (i : PictureId) (size : ℕ) (ps : List (List ℕ)) → FormedId i → AllSized size ps → AllSend i (pieces i false ps)
unfolding pieces
all_send i size [] h z = tt
all_send i size (p ∷ ps) h z = (sends i false p h z.0.0, all_send i size ps h z.1)

starts_once : (i : PictureId) (size : ℕ) (ps : List (List ℕ)) → FormedId i → AllSized size ps → StartsOnce i (pieces i true ps)
unfolding pieces
starts_once i size [] h z = tt
starts_once i size (p ∷ ps) h z = (sends i true p h z.0.0, all_send i size ps h z.1)

parts_joined : (i : PictureId) (start : Bool) (ps : List (List ℕ)) → parts (pieces i start ps) ≡ joined ps
unfolding pieces
parts_joined i start [] = refl
parts_joined i start (p ∷ ps) = ap (λ (r : List ℕ). p ++ r) (parts_joined i false ps)

at_most : (v : Vp8Payloader) (mtu size : ℕ) (start : Bool) (ps : List (List ℕ)) → header_size v + size ≤ mtu → AllSized size ps →
    AtMost mtu (headed v start ps)
unfolding headed
at_most v mtu size start [] h z = tt
at_most v mtu size start (p ∷ ps) h z =
    let d = length_descriptor v start in
    (rw length-append (omega (arith, z.0.1)), at_most v mtu size false ps h z.1)

pub carried : SendsFrames packets_of
carried v mtu frame sendable =
    let size : ℕ = mtu - header_size v in
    let above = sendable.above in
    let z : 0 < size = omega arith in
    let all = sized (length frame) size frame z in
    let i = formed_id v sendable.id in
    let are = packets_are v mtu frame above in (
      record {
        pieces = pieces (shown_id v) true (parts_of size frame);
        are = are ∙ headed_are v true (parts_of size frame) sendable.id;
        started = starts_once (shown_id v) size (parts_of size frame) i all;
        whole = parts_joined (shown_id v) true (parts_of size frame) ∙ joined_parts (length frame) size frame z (omega arith);
      },
      subst (AtMost mtu) (sym are) (at_most v mtu size true (parts_of size frame) (omega arith) all),
    )
