-- What is proved of the definition's calls holds of the code's: by its contract each call leaves the same record, answer and buffers.
-- Assumes nothing.
use mathlib.Core.Path.{◌≡◌, refl, ap, ap₂, subst, ◌∙◌}
use mathlib.Core.Bool.{Bool}
use mathlib.Core.List.{List, [], ◌∷◌, map}
use Prim.Native.Nat.{ℕ, suc}
use Rattle.error.specs.Said.{Said, says, refused}
use Rattle.rfc6184.specs.Sending.{Each}
use Rattle.nal.specs.Fed.{Laid}
use Rattle.nal.specs.Ran.{RanOn}
use Rattle.h264_packet.specs.declared.H264Packet.{H264Packet}
use Rattle.h264_packet.specs.Depacketize.{depacketized}
use Rattle.h264_packet.specs.Said.{Heard, reading_heard}
use Rattle.h264_rfc.specs.Reading.{State, gathered_then, next, calls, behind, handed_in, handed_by, Answered, Hears}
use Rattle.h264_rfc.specs.Contract.{Result, Meets, taken_from, handed_out, AnsweredCall, record_behind, CodeHears}

-- the record that a state is
abbrev record_of : Bool → State → H264Packet
record_of avc s = record { is_avc = avc; gathered = s.gathered }

module _ (avc : Bool) (n : ℕ) (payload gather out : List ℕ) where
  packet_heard : (x : Said (RanOn ℕ)) →
      (reading_heard (record { is_avc = avc; gathered = n }) payload gather out x).packet ≡ record { is_avc = avc; gathered = gathered_then n x }
  packet_heard (says r) = refl
  packet_heard (refused r) = refl

  gather_heard : (x : Said (RanOn ℕ)) → (reading_heard (record { is_avc = avc; gathered = n }) payload gather out x).gather ≡ gather
  gather_heard (says r) = refl
  gather_heard (refused r) = refl

  handed_heard : (x : Said (RanOn ℕ)) →
      let h : Heard = reading_heard (record { is_avc = avc; gathered = n }) payload gather out x in taken_from h.answer h.out ≡ handed_in x out
  handed_heard (says r) = refl
  handed_heard (refused r) = refl

  answer_heard : (x : Said (RanOn ℕ)) (r : RanOn ℕ) → x ≡ says r →
      (reading_heard (record { is_avc = avc; gathered = n }) payload gather out x).answer ≡ says r.bytes
  answer_heard x r e = ap (λ (y : Said (RanOn ℕ)). (reading_heard (record { is_avc = avc; gathered = n }) payload gather out y).answer) e

-- the results are those of the definition's calls
pub record SameCalls (avc : Bool) (ps : List (List ℕ)) (rs : List Result) (s : State) (outs : ℕ → List ℕ) : Type 0 where
  pub handed : map handed_out rs ≡ map handed_by (calls depacketized avc s outs ps)
  pub answered : Each Answered (calls depacketized avc s outs ps) → Each AnsweredCall rs
  pub left : record_behind (record_of avc s) rs ≡ record_of avc (behind depacketized avc s outs ps)

module _ (avc : Bool) where
  pub same_calls : (ps : List (List ℕ)) (rs : List Result) (s : State) (outs : ℕ → List ℕ) → Meets (record_of avc s) s.gather outs ps rs →
      SameCalls avc ps rs s outs
  same_calls [] [] s outs m = record { handed = refl; answered = λ a. tt; left = refl }
  same_calls [] (r ∷ rs) s outs m = absurd m
  same_calls (p ∷ ps) [] s outs m = absurd m
  same_calls (p ∷ ps) (r ∷ rs) s outs m =
      let l : Laid (RanOn ℕ) = depacketized avc s.gathered p s.gather (outs 0) in
      let packet : r.answer.packet ≡ record_of avc (next s l) =
      ap (λ (h : Heard). h.packet) m.0 ∙ packet_heard avc s.gathered p l.gather l.out l.answer in
      let gather : r.gather ≡ l.gather =
      ap (λ (h : Heard). h.gather) m.0 ∙ gather_heard avc s.gathered p l.gather l.out l.answer in
      let rest : SameCalls avc ps rs (next s l) (λ i. outs (suc i)) =
      same_calls ps rs (next s l) (λ i. outs (suc i))
      (subst (λ (g : List ℕ). Meets (record_of avc (next s l)) g (λ i. outs (suc i)) ps rs) gather
      (subst (λ (q : H264Packet). Meets q r.gather (λ i. outs (suc i)) ps rs) packet m.1)) in
      record {
        handed =
            ap₂ (λ (x : List ℕ) (xs : List (List ℕ)). x ∷ xs)
            (ap (λ (h : Heard). taken_from h.answer h.out) m.0 ∙ handed_heard avc s.gathered p l.gather l.out l.answer)
            rest.handed;
        answered =
            λ a. (
              (
                a.0.0.bytes,
                ap (λ (h : Heard). h.answer) m.0
                    ∙ answer_heard avc s.gathered p l.gather l.out l.answer a.0.0 a.0.1,
              ),
              rest.answered a.1,
            );
        left = ap (λ (q : H264Packet). record_behind q rs) packet ∙ rest.left;
      }

  -- what the definition's calls do, the code's do
  pub code_hears : (ps : List (List ℕ)) (rs : List Result) (s : State) (outs : ℕ → List ℕ) (xs : List (List ℕ)) →
      Meets (record_of avc s) s.gather outs ps rs → Hears depacketized avc s outs ps xs → CodeHears (record_of avc s) rs xs
  code_hears ps rs s outs xs m h =
      let c : SameCalls avc ps rs s outs = same_calls ps rs s outs m in
      record {
        answered = c.answered h.answered;
        handed = c.handed ∙ h.handed;
        no_run = ap (λ (q : H264Packet). q.gathered) c.left ∙ h.no_run;
      }
