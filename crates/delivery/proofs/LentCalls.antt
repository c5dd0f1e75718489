-- The two forms of the sender make the same calls (`same_call`), so that what they write is the same. Assumes nothing.
use mathlib.Core.Path.{◌≡◌, refl, sym, ap₂, ◌∙◌}
use mathlib.Core.List.{List, [], ◌∷◌, ◌++◌}
use Prim.Native.Nat.{ℕ, suc}
use Rattle.h264.specs.declared.send.H264Payloader.{H264Payloader}
use Rattle.h264.specs.Payload as sets
use Rattle.h264.specs.Alike.{Alike}
use Rattle.h264.proofs.Agreeing.{same_call, fresh_alike}
use Rattle.delivery.specs.Frames.{Sending}
use Rattle.delivery.specs.Calls.{Lent, sending, sending_lent, NoneRefused, calls_for, lent_calls_for, cut_by, written}

module _ (mtu : ℕ) where
  same_written : (h : H264Payloader) (l : sets.Lent) → Alike h l → (lent : ℕ → Lent) (frames : List (List ℕ)) →
      written (sending_lent l mtu lent frames) ≡ written (sending h mtu lent frames)
  same_written h l a lent [] = refl
  same_written h l a lent (frame ∷ frames) =
      let c = same_call h l a (record { mtu = mtu; frame = frame; out = (lent 0).out; ends = (lent 0).ends }) in
      ap₂ (λ (ps qs : List (List ℕ)). ps ++ qs) (sym (λ i. cut_by (c.answer i) (c.out i) (c.ends i))) (same_written (sets.payload_of h mtu frame (lent 0).out (lent 0).ends).sender _ c.alike (λ i. lent (suc i)) frames)

  same_answers : (h : H264Payloader) (l : sets.Lent) → Alike h l → (lent : ℕ → Lent) (frames : List (List ℕ)) →
      NoneRefused (sending_lent l mtu lent frames) → NoneRefused (sending h mtu lent frames)
  same_answers h l a lent [] w = tt
  same_answers h l a lent (frame ∷ frames) w =
      let c = same_call h l a (record { mtu = mtu; frame = frame; out = (lent 0).out; ends = (lent 0).ends }) in
      ((w.0.0, c.answer ∙ w.0.1), same_answers (sets.payload_of h mtu frame (lent 0).out (lent 0).ends).sender _ c.alike (λ i. lent (suc i)) frames w.1)

pub lent_written : (x : Sending) (lent : ℕ → Lent) (sps pps : List ℕ) → written (lent_calls_for x lent sps pps) ≡ written (calls_for x lent)
lent_written x lent sps pps = same_written x.mtu _ _ (fresh_alike sps pps) lent x.frames

pub lent_answers : (x : Sending) (lent : ℕ → Lent) (sps pps : List ℕ) → NoneRefused (lent_calls_for x lent sps pps) → NoneRefused (calls_for x lent)
lent_answers x lent sps pps = same_answers x.mtu _ _ (fresh_alike sps pps) lent x.frames
