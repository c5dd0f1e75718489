-- The run stays over every payload that is no FU-A, and over every refusal: what comes behind goes on as if that payload had not come.
-- Assumes nothing.
use mathlib.Core.Path.{◌≡◌, refl, sym, ap, ◌∙◌}
use mathlib.Core.Bool.{Bool, true, false, cond}
use mathlib.Core.List.{List, [], ◌∷◌}
use Prim.Native.Nat.{ℕ, suc, ◌%◌, ◌≤◌}
use lib.ListN.{length, get_or}
use Rattle.error.specs.Refusal.{Refusal}
use Rattle.error.specs.Said.{Said, says, refused, refuse}
use Rattle.nal_read.specs.Kind.{Shape, short, unknown, plain, aggregate, shape}
use Rattle.nal_read.specs.Kind as kind
use Rattle.nal_read.specs.Unpack.{unpack}
use Rattle.nal.specs.Fed.{Fed, prefixed, OutLaid, lay_bytes, Laid, too_long, gather_after, lay_both}
use Rattle.nal.specs.Ran.{RanOn, with_run, lay_run}
use Rattle.error.proofs.Refusing.{not_says}
use Rattle.nal.proofs.Running.{run_beside}
use Rattle.nal_read.proofs.Shapes.{Facts, told}
use Rattle.h264_packet.specs.Run.{Run, run_of, recorded}
use Rattle.h264_packet.specs.Depacketize.{beside, read_by, read_payload, depacketized}
use Rattle.h264_packet.proofs.Depacketizing.{gathered_run, length_run, by_domain}
use Rattle.h264_rfc.specs.Reading.{State, gathered_then, next, calls}
use Rattle.h264_rfc.specs.Meaning.{RunKept}

nothing_done : (n : ℕ) (gather out : List ℕ) (r : Refusal) → RunKept n gather (record { answer = refused r; gather = gather; out = out })
nothing_done n gather out r = record { count = refl; bytes = refl }

-- ---- a payload that is no FU-A

-- whatever the output's answer is, the count stays
same_count : (n m : ℕ) (x : Said ℕ) → m ≡ n → gathered_then n (with_run m x) ≡ n
same_count n m (says bytes) e = e
same_count n m (refused r) e = refl

module _ (avc : Bool) (n : ℕ) (gather out : List ℕ) (within : n ≤ length gather) (small : n ≤ 16777215) where
  units_kept : (x : Said (List (List ℕ))) → RunKept n gather (lay_run recorded avc gather out (beside (run_of n gather) x))
  units_kept (says units) =
      let done = ap (λ (k : List ℕ). lay_run recorded avc gather out (says (record { run = run_of n gather; kept = k; handed = units }))) (gathered_run n gather)
      ∙ run_beside recorded avc gather out n (run_of n gather) units within small in
      record {
        count =
            ap (λ (l : Laid (RanOn ℕ)). gathered_then n l.answer) done
            ∙ same_count n (recorded (run_of n gather)) (lay_bytes out (prefixed avc units)).answer (length_run n gather within);
        bytes = ap (λ (l : Laid (RanOn ℕ)). l.gather) done;
      }
  units_kept (refused r) = nothing_done n gather out r

  shape_kept : (s : Shape) (p : List ℕ) → Facts p s → (get_or p 0 0 % 32 ≡ 28 → ⊥) → RunKept n gather (lay_run recorded avc gather out (read_by s (run_of n gather) p))
  shape_kept short p k other = nothing_done n gather out (record { number = 4; carried = [] })
  shape_kept (unknown t) p k other = nothing_done n gather out (record { number = 19; carried = t ∷ [] })
  shape_kept plain p k other = units_kept (says (p ∷ []))
  shape_kept aggregate p k other = units_kept (unpack p)
  shape_kept (kind.fragment first last head) p k other = absurd (other k.type_is)

pub others_keep : (avc : Bool) (n : ℕ) (p gather out : List ℕ) → (get_or p 0 0 % 32 ≡ 28 → ⊥) → RunKept n gather (depacketized avc n p gather out)
unfolding read_payload
others_keep avc n p gather out other =
    by_domain (RunKept n gather) avc n p gather out (nothing_done n gather out (record { number = 8; carried = [] }))
    (λ few within small. shape_kept avc n gather out within small (shape p) p (told p) other)

-- ---- a refusal

tested : (P : Laid ℕ → Type 0) (x y : Laid ℕ) (b : Bool) → P x → P y → P (cond b x y)
tested P x y true h g = h
tested P x y false h g = g

refused_fed : (avc : Bool) (gather out : List ℕ) (f : Fed Run) (r : Refusal) → (lay_both avc gather out f.kept f.handed).answer ≡ refused r → (lay_both avc gather out f.kept f.handed).gather ≡ gather
unfolding lay_both
refused_fed avc gather out f r =
    let l : OutLaid = lay_bytes out (prefixed avc f.handed) in
    tested (λ (x : Laid ℕ). x.answer ≡ refused r → x.gather ≡ gather) (record { answer = refuse 6; gather = gather; out = out })
    (record { answer = l.answer; gather = gather_after gather f.kept l.answer; out = l.out }) (too_long gather f.kept) (λ e. refl)
    (stays l.answer)
  where
    stays : (x : Said ℕ) → x ≡ refused r → gather_after gather f.kept x ≡ gather
    stays (says n) e = absurd (not_says (sym e))
    stays (refused q) e = refl

refused_run : (avc : Bool) (gather out : List ℕ) (x : Said (Fed Run)) (r : Refusal) → (lay_run recorded avc gather out x).answer ≡ refused r → (lay_run recorded avc gather out x).gather ≡ gather
refused_run avc gather out (refused q) r e = refl
refused_run avc gather out (says f) r e = refused_fed avc gather out f r (unrun (lay_both avc gather out f.kept f.handed).answer e)
  where
    unrun : (x : Said ℕ) → with_run (recorded f.run) x ≡ refused r → x ≡ refused r
    unrun (says n) q = absurd (not_says (sym q))
    unrun (refused w) q = let same : w ≡ r = cc in ap refused same

-- an FU-A, too, where it is refused
pub refusals_keep : (avc : Bool) (n : ℕ) (p gather out : List ℕ) (r : Refusal) → (depacketized avc n p gather out).answer ≡ refused r →
    RunKept n gather (depacketized avc n p gather out)
refusals_keep avc n p gather out r e =
    record {
      count = ap (gathered_then n) e;
      bytes =
          by_domain (λ (l : Laid (RanOn ℕ)). l.answer ≡ refused r → l.gather ≡ gather) avc n p gather out (λ q. refl)
          (λ few within small. refused_run avc gather out (read_payload (run_of n gather) p) r) e;
    }

-- ---- what comes behind

-- as if the payload had not come
pub goes_on : (avc : Bool) (s : State) (outs : ℕ → List ℕ) (p : List ℕ) (ps : List (List ℕ)) →
    RunKept s.gathered s.gather (depacketized avc s.gathered p s.gather (outs 0)) →
    calls depacketized avc s outs (p ∷ ps)
    ≡ depacketized avc s.gathered p s.gather (outs 0) ∷ calls depacketized avc s (λ i. outs (suc i)) ps
goes_on avc s outs p ps k =
    let l : Laid (RanOn ℕ) = depacketized avc s.gathered p s.gather (outs 0) in
    let same : next s l ≡ s = λ i. record { gathered = k.count i; gather = k.bytes i } in
    ap (λ (t : State). l ∷ calls depacketized avc t (λ i. outs (suc i)) ps) same
