-- Both forms of the sender are one definition over what is saved, so that they say and write the same, frame after frame. Assumes nothing.
use mathlib.Core.Path.{◌≡◌, refl, sym, ap₂, subst₂, ◌∙◌}
use mathlib.Core.List.{List, [], ◌∷◌}
use mathlib.Core.Bool.{Bool, true, false}
use Prim.Native.Nat.{ℕ}
use native.Mathlib.Omega.{arith}
use Rattle.wire.proofs.Part.{part_of_splice}
use Rattle.annexb.specs.Units.{units_at}
use Rattle.h264_put.specs.declared.outcome.Drops.{Drops}
use Rattle.h264_put.specs.Groups.{Saved, nothing_saved, keep_all, groups_of, packets_of}
use Rattle.h264_put.specs.Outcomes.{outcomes_of, drops_in}
use Rattle.h264_put.specs.Step.{over_limit}
use Rattle.h264.specs.declared.send.H264Payloader.{H264Payloader}
use Rattle.h264.specs.Payload.{lay_out, saved_in, Lent, saved_lent, lend_out, outside_by, outside, too_small, refused_with, sent_as, left_by, call_of, payload_of, lent_of}
use Rattle.h264.specs.Alike.{Alike, SameCall, Asked, by_value, in_buffers, SameCalls}
use Rattle.h264.proofs.State.{saved_laid}

-- what is put in front of its buffers is what they then say
lent_laid : (l : Lent) (v : Saved) → saved_lent (lend_out l v) ≡ v
lent_laid l v =
    ap₂ (λ (a b : List ℕ). record { sps = a; pps = b }) (part_of_splice l.sps 0 v.sps (omega arith)) (part_of_splice l.pps 0 v.pps (omega arith))

laid_alike : (l : Lent) (v : Saved) → Alike (lay_out v) (lend_out l v)
laid_alike l v = record { of_sps = refl; of_pps = refl; saved = saved_laid v ∙ sym (lent_laid l v) }

by_outcome : (h : H264Payloader) (l : Lent) → Alike h l → (out ends : List ℕ) (o long small : Bool) (v : Saved) (ps : List (List ℕ)) (d : Drops) →
    SameCall
    (left_by o long small (refused_with 8 h out ends) (refused_with 7 h out ends) (refused_with 5 h out ends) (sent_as (lay_out v) ps d out ends))
    (left_by o long small (refused_with 8 l out ends) (refused_with 7 l out ends) (refused_with 5 l out ends) (sent_as (lend_out l v) ps d out ends))
by_outcome h l a out ends true long small v ps d = record { answer = refl; out = refl; ends = refl; alike = a }
by_outcome h l a out ends false true small v ps d = record { answer = refl; out = refl; ends = refl; alike = a }
by_outcome h l a out ends false false true v ps d = record { answer = refl; out = refl; ends = refl; alike = a }
by_outcome h l a out ends false false false v ps d = record { answer = refl; out = refl; ends = refl; alike = laid_alike l v }

-- senders that are alike make the same call, and are alike behind it
pub same_call : (h : H264Payloader) (l : Lent) → Alike h l → (a : Asked) → SameCall (by_value h a) (in_buffers l a)
unfolding payload_of lent_of
same_call h l a q =
    let us : List (List ℕ) = units_at q.mtu q.frame in
    let ps : List (List ℕ) = packets_of (groups_of q.mtu (saved_in h) us) in
    subst₂
    (λ (o : Bool) (v : Saved). SameCall (by_value h q) (call_of o l (lend_out l) v q.mtu q.frame q.out q.ends))
    (ap₂ (λ (n m : ℕ). outside_by n m q.mtu q.frame) a.of_sps a.of_pps) a.saved
    (by_outcome h l a q.out q.ends (outside h q.mtu q.frame) (over_limit us) (too_small ps q.out q.ends) (keep_all (saved_in h) us) ps
    (drops_in (outcomes_of q.mtu (saved_in h) us)))

pub same_calls : (h : H264Payloader) (l : Lent) → Alike h l → (asked : List Asked) → SameCalls h l asked
same_calls h l a [] = tt
same_calls h l a (q ∷ more) =
    let c = same_call h l a q in (c, same_calls (by_value h q).sender (in_buffers l q).sender c.alike more)

-- so it is from a fresh sender on, whatever its buffers hold
pub fresh_alike : (sps pps : List ℕ) → Alike (lay_out nothing_saved) (record { sender = record { sps_len = 0; pps_len = 0 }; sps = sps; pps = pps })
fresh_alike sps pps = record { of_sps = refl; of_pps = refl; saved = saved_laid nothing_saved }
