-- One call of the reader on a payload that is taken, with room: its answer and both buffers, from what the payload does. Assumes nothing.
use mathlib.Core.Path.{◌≡◌, refl, sym, ap, ap₂, subst, ◌∙◌}
use mathlib.Core.Bool.{Bool}
use mathlib.Core.List.{List, [], ◌∷◌, map}
use mathlib.Core.Logic.{◌⊎◌, inl, inr}
use Prim.Native.Nat.{ℕ, suc, ◌≤◌, ◌<◌}
use native.Mathlib.Decide.{dec_le}
use native.Mathlib.Nat.{lt_of_not-le}
use native.Mathlib.Omega.{arith}
use lib.ListN.{length}
use Rattle.error.specs.Refusal.{Refusal}
use Rattle.error.specs.Said.{says, refused, refuse}
use Rattle.wire.specs.Part.{splice}
use Rattle.wire.proofs.Part.{length_splice, part_of_splice}
use Rattle.nal.specs.Fed.{Fed, prefixed, Laid, lay_both}
use Rattle.nal.specs.Ran.{RanOn, with_run, lay_run}
use Rattle.error.proofs.Refusing.{not_says}
use Rattle.nal.proofs.Handing.{bytes_short, bytes_fit, both_long, both_by}
use Rattle.rfc6184.specs.Sending.{Each}
use Rattle.h264_packet.specs.Run.{Run, gathered, run_of, recorded}
use Rattle.h264_packet.specs.Depacketize.{read_payload, depacketized}
use Rattle.h264_packet.proofs.Depacketizing.{read_inside}
use Rattle.h264_rfc.specs.Reading.{Reader, State, next, calls, behind, handed_by, Answered, Hears}

-- what a call leaves that does f
abbrev pub laid : Bool → List ℕ → List ℕ → Fed Run → Laid (RanOn ℕ)
laid avc gather out f =
    record {
      answer = says (record { run = recorded f.run; bytes = length (prefixed avc f.handed) });
      gather = splice gather 0 f.kept;
      out = splice out 0 (prefixed avc f.handed);
    }

-- there is room for what f keeps and hands out
pub record Fits (avc : Bool) (gather out : List ℕ) (f : Fed Run) : Type 0 where
  pub kept : length f.kept ≤ length gather
  pub run : length f.kept ≤ 16777215
  pub handed : length (prefixed avc f.handed) ≤ length out

module _ (avc : Bool) (gather out : List ℕ) (f : Fed Run) where
  pub laid_run : Fits avc gather out f → lay_run recorded avc gather out (says f) ≡ laid avc gather out f
  laid_run room =
      ap (λ (l : Laid ℕ). record { answer = with_run (recorded f.run) l.answer; gather = l.gather; out = l.out })
      (both_by avc gather out f.kept f.handed (record { answer = says (length (prefixed avc f.handed)); out = splice out 0 (prefixed avc f.handed) }) room.kept room.run (bytes_fit out (prefixed avc f.handed) room.handed))

  -- where there is no room it is refused
  pub fits_if : (r : RanOn ℕ) → (lay_run recorded avc gather out (says f)).answer ≡ says r → Fits avc gather out f
  fits_if r e = by (dec_le (length f.kept) (length gather)) (dec_le (length f.kept) 16777215) (dec_le (length (prefixed avc f.handed)) (length out))
    where
      not_said : (l : Laid ℕ) (n : ℕ) → lay_both avc gather out f.kept f.handed ≡ l → l.answer ≡ refuse n → ⊥
      not_said l n q a = not_says (sym (ap (λ (x : Laid ℕ). with_run (recorded f.run) x.answer) q ∙ ap (with_run (recorded f.run)) a) ∙ e)

      long : (length gather < length f.kept) ⊎ (16777215 < length f.kept) → ⊥
      long h = not_said (record { answer = refuse 6; gather = gather; out = out }) 6 (both_long avc gather out f.kept f.handed h) refl

      by : Dec (length f.kept ≤ length gather) → Dec (length f.kept ≤ 16777215) → Dec (length (prefixed avc f.handed) ≤ length out) →
          Fits avc gather out f
      by (no h) g k = absurd (long (inl (lt_of_not-le h)))
      by (yes h) (no g) k = absurd (long (inr (lt_of_not-le g)))
      by (yes h) (yes g) (no k) =
          absurd (not_said (record { answer = refuse 5; gather = gather; out = out }) 5
          (both_by avc gather out f.kept f.handed (record { answer = refuse 5; out = out }) h g (bytes_short out (prefixed avc f.handed) (lt_of_not-le k))) refl)
      by (yes h) (yes g) (yes k) = record { kept = h; run = g; handed = k }

module _ (avc : Bool) (n : ℕ) (payload gather out : List ℕ)
    (short : length payload ≤ 65535) (within : n ≤ length gather) (run : n ≤ 16777215) where
  pub taken : (f : Fed Run) → read_payload (run_of n gather) payload ≡ says f → Fits avc gather out f →
      depacketized avc n payload gather out ≡ laid avc gather out f
  taken f e room =
      read_inside avc n payload gather out short within run ∙ ap (lay_run recorded avc gather out) e ∙ laid_run avc gather out f room

  pub not_taken : (r : Refusal) → read_payload (run_of n gather) payload ≡ refused r →
      depacketized avc n payload gather out ≡ record { answer = refused r; gather = gather; out = out }
  not_taken r e = read_inside avc n payload gather out short within run ∙ ap (lay_run recorded avc gather out) e

-- what it hands out
pub handed_laid : (avc : Bool) (gather out : List ℕ) (f : Fed Run) → handed_by (laid avc gather out f) ≡ prefixed avc f.handed
handed_laid avc gather out f = part_of_splice out 0 (prefixed avc f.handed) (omega arith)

-- ---- calls in a row

pub hears_none : (read : Reader) (avc : Bool) (s : State) (outs : ℕ → List ℕ) → s.gathered ≡ 0 → Hears read avc s outs [] []
hears_none read avc s outs e = record { answered = tt; handed = refl; no_run = e; as_long = refl }

-- a call that does f, and then the others from the state it leaves
pub hears_more : (read : Reader) (avc : Bool) (s : State) (outs : ℕ → List ℕ) (p : List ℕ) (ps xs : List (List ℕ)) (f : Fed Run) →
    read avc s.gathered p s.gather (outs 0) ≡ laid avc s.gather (outs 0) f → length f.kept ≤ length s.gather →
    Hears read avc (next s (laid avc s.gather (outs 0) f)) (λ i. outs (suc i)) ps xs →
    Hears read avc s outs (p ∷ ps) (prefixed avc f.handed ∷ xs)
hears_more read avc s outs p ps xs f e kept rest =
    record {
      answered = (
        (record { run = recorded f.run; bytes = length (prefixed avc f.handed) }, ap (λ (l : Laid (RanOn ℕ)). l.answer) e),
        subst (λ (l : Laid (RanOn ℕ)). Each Answered (calls read avc (next s l) (λ i. outs (suc i)) ps)) (sym e) rest.answered,
      );
      handed =
          ap₂ (λ (x : List ℕ) (l : List (List ℕ)). x ∷ l) (ap handed_by e ∙ handed_laid avc s.gather (outs 0) f)
          (ap (λ (l : Laid (RanOn ℕ)). map handed_by (calls read avc (next s l) (λ i. outs (suc i)) ps)) e ∙ rest.handed);
      no_run = ap (λ (l : Laid (RanOn ℕ)). (behind read avc (next s l) (λ i. outs (suc i)) ps).gathered) e ∙ rest.no_run;
      as_long =
          ap (λ (l : Laid (RanOn ℕ)). length (behind read avc (next s l) (λ i. outs (suc i)) ps).gather) e
          ∙ rest.as_long
          ∙ length_splice s.gather 0 f.kept (omega arith);
    }

-- one call, after which no run is open
pub hears_one : (read : Reader) (avc : Bool) (s : State) (outs : ℕ → List ℕ) (p : List ℕ) (f : Fed Run) →
    read avc s.gathered p s.gather (outs 0) ≡ laid avc s.gather (outs 0) f → length f.kept ≤ length s.gather →
    gathered f.run ≡ [] → Hears read avc s outs (p ∷ []) (prefixed avc f.handed ∷ [])
hears_one read avc s outs p f e kept idle =
    hears_more read avc s outs p [] [] f e kept
    (hears_none read avc (next s (laid avc s.gather (outs 0) f)) (λ i. outs (suc i)) (ap length idle))
