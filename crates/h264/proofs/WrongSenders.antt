-- Senders that have not what is asked of any: one that emits nothing, since every sending has a payload; one that keeps the earlier set, since it
-- is no longer the latest of its kind. Assumes nothing.
use mathlib.Core.Path.{◌≡◌, refl, sym, ap, ◌∙◌}
use mathlib.Core.List.{List, [], ◌∷◌, ◌++◌}
use Prim.Native.Nat.{ℕ, ◌<◌}
use native.Mathlib.Omega.{arith}
use lib.Dec.{lit<, lit≤}
use lib.ListN.{length, get_or, length-append}
use Rattle.rfc6184.specs.Sending.{Sending, single, stap_a, fu_a, payloads_of_all, units_of_all}
use Rattle.annexb.specs.AnnexB.{Apart}
use Rattle.h264_put.specs.Groups.{Saved, nothing_saved}
use Rattle.h264.specs.Conformance.{nal}
use Rattle.h264.specs.Course.{latest, NoPair, quiet}
use Rattle.h264.specs.AnySender.{Sender, Plainly, SavedPlainly, Goes, SendsFrames, Silent, KeepsEarlierSps, KeepsEarlierPps}

-- a unit of two bytes, the second not 0
two_apart : (x y : ℕ) → (y ≡ 0 → ⊥) → Apart (x ∷ y ∷ [])
two_apart x y n =
    record {
      no_code = λ a b e. let l = ap length e ∙ length-append a (0 ∷ 0 ∷ 1 ∷ b) in omega arith;
      no_zero = no_zero;
    }
  where
    no_zero : (a : List ℕ) → x ∷ y ∷ [] ≡ a ++ (0 ∷ []) → ⊥
    no_zero [] e = let l = ap length e in omega arith
    no_zero (p ∷ []) e = n (ap (λ (l : List ℕ). get_or l 1 0) e)
    no_zero (p ∷ q ∷ a) e = let l = ap length e ∙ length-append (p ∷ q ∷ a) (0 ∷ []) in omega arith

nothing_plainly : SavedPlainly nothing_saved
nothing_plainly = record { sps = λ h. absurd (omega arith); pps = λ h. absurd (omega arith) }

-- what is asked of a sender, of a frame of one such unit, at which no pair is due
module _ (send : Sender) (s : SendsFrames send) where
  one_goes : (v : Saved) (x y : ℕ) → (y ≡ 0 → ⊥) → NoPair v ((x ∷ y ∷ []) ∷ []) → SavedPlainly v → Plainly (x ∷ y ∷ []) →
      Goes 3 v (quiet ((x ∷ y ∷ []) ∷ [])) (send 3 v (0 ∷ 0 ∷ 1 ∷ x ∷ y ∷ []))
  one_goes v x y n none p q =
      s 3 v 0 (record { more = 0; unit = x ∷ y ∷ [] }) [] (lit< tt) (lit≤ tt) (two_apart x y n, tt) p (q, tt)
      (record { course = quiet ((x ∷ y ∷ []) ∷ []); whole = refl; right = none })

  -- where a set that ends in 2 comes, no set that ends in 1 waits then
  not_earlier : (part : Saved → List ℕ) (v : Saved) (x : ℕ) → NoPair v ((x ∷ 2 ∷ []) ∷ []) → SavedPlainly v → Plainly (x ∷ 2 ∷ []) →
      part (latest v ((x ∷ 2 ∷ []) ∷ [])) ≡ x ∷ 2 ∷ [] → part (send 3 v (0 ∷ 0 ∷ 1 ∷ x ∷ 2 ∷ [])).saved ≡ x ∷ 1 ∷ [] → ⊥
  not_earlier part v x none p q later earlier =
      let goes = one_goes v x 2 (λ e. omega arith) none p q in
      let z : ◌≡◌ {A = ℕ} 1 2 = ap (λ (l : List ℕ). get_or l 1 0) (sym earlier ∙ ap part goes.waits ∙ later) in
      omega arith

-- a slice, and nothing is sent
pub no_silent_sender : (send : Sender) → Silent send → SendsFrames send → ⊥
no_silent_sender send silent s =
    let p : Plainly (0x65 ∷ 1 ∷ []) =
    record { octets = (lit< tt, (lit< tt, tt)); rules = (refl, record { low = lit≤ tt; high = lit≤ tt }) } in
    let goes = (one_goes send s nothing_saved 0x65 1 (λ e. omega arith) ((λ e. refl), tt) nothing_plainly p).carried in
    no_sending goes.sendings (sym goes.payloads ∙ silent 3 nothing_saved _) goes.units
  where
    no_sending : (ss : List Sending) → payloads_of_all ss ≡ [] → nal (0x65 ∷ 1 ∷ []) ∷ [] ≡ units_of_all ss → ⊥
    no_sending [] e u = let z = ap length u in omega arith
    no_sending (single n ∷ ss) e u = let z = ap length e in omega arith
    no_sending (stap_a f nri us ∷ ss) e u = let z = ap length e in omega arith
    no_sending (fu_a g ∷ ss) e u = let z = ap length e in omega arith

-- 6701 waits and 6702 comes
pub no_earlier_sps : (send : Sender) → KeepsEarlierSps send → SendsFrames send → ⊥
no_earlier_sps send keeps s =
    let v : Saved = record { sps = 0x67 ∷ 1 ∷ []; pps = [] } in
    let set : (y : ℕ) → y < 256 → Plainly (0x67 ∷ y ∷ []) = λ y h. record { octets = (lit< tt, (h, tt)); rules = (refl, refl) } in
    not_earlier send s (λ (w : Saved). w.sps) v 0x67 ((λ e. refl), tt)
    (record { sps = λ h. (refl, set 1 (lit< tt)); pps = λ h. absurd (omega arith) }) (set 2 (lit< tt)) refl
    (keeps 3 v (0x67 ∷ 2 ∷ []) (lit< tt) refl)

-- 6801 waits and 6802 comes
pub no_earlier_pps : (send : Sender) → KeepsEarlierPps send → SendsFrames send → ⊥
no_earlier_pps send keeps s =
    let v : Saved = record { sps = []; pps = 0x68 ∷ 1 ∷ [] } in
    let set : (y : ℕ) → y < 256 → Plainly (0x68 ∷ y ∷ []) = λ y h. record { octets = (lit< tt, (h, tt)); rules = (refl, refl) } in
    not_earlier send s (λ (w : Saved). w.pps) v 0x68 ((λ e. refl), tt)
    (record { sps = λ h. absurd (omega arith); pps = λ h. (refl, set 1 (lit< tt)) }) (set 2 (lit< tt)) refl
    (keeps 3 v (0x68 ∷ 2 ∷ []) (lit< tt) refl)
