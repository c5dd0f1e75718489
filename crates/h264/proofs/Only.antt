-- No second answer: for each public call one result, one state and one content of each lent buffer meet its contract. Assumes nothing.
use mathlib.Core.Path.{◌≡◌, refl}
use mathlib.Core.List.{List}
use mathlib.Core.Bool.{Bool, true, false}
use Prim.Native.Nat.{ℕ}
use Rattle.std.specs.Prelude.{Result, Option}
use Rattle.error.specs.declared.Error.{Error}
use Rattle.error.specs.Said.{said, says, refuse}
use Rattle.error.specs.Only.{Determined}
use Rattle.error.proofs.Inverse.{unsaid, unsaid_said}
use Rattle.error.proofs.Only.{by_value, by_view, by_said, either_sayable}
use Rattle.annexb.specs.declared.Code.{Code}
use Rattle.h264.specs.declared.send.H264Payloader.{H264Payloader}
use Rattle.h264.specs.declared.send.Sent.{Sent}
use Rattle.h264.specs.declared.lent.LentPayloader.{LentPayloader}
use Rattle.annexb.specs.Search.{next_code, beyond, next_ind}
use Rattle.annexb.specs.Units.{units_at}
use Rattle.h264_put.specs.Groups.{Saved, nothing_saved, keep_all, groups_of, packets_of}
use Rattle.h264_put.specs.declared.outcome.Drops.{Drops}
use Rattle.h264_put.specs.Outcomes.{outcomes_of, drops_in}
use Rattle.h264_put.specs.Step.{over_limit}
use Rattle.h264.specs.Payload.{lay_out, saved_in, Lent, saved_lent, lend_out, outside_by, outside, too_small, LeftIn, Left, left, left_lent, refused_with, sent_as, left_by, call_of, payload_of, lent_of}

-- what a call hands back: its result, and the two buffers
abbrev pub Handed : Type 0
Handed = Sent H264Payloader × List ℕ × List ℕ

abbrev view : Handed → Left
view x = left x.0 x.1 x.2

abbrev back : Left → Handed
back l = (record { sender = l.sender; answer = unsaid l.answer }, l.out, l.ends)

back_view : (x : Handed) → back (view x) ≡ x
back_view x i = (record { sender = x.0.sender; answer = unsaid_said x.0.answer i }, x.1, x.2)

-- each of the four outcomes is one that a call can hand back
module _ {S : Type 0} (state : S) (out ends : List ℕ) where
  unsaid_again : LeftIn S → LeftIn S
  unsaid_again x = record { sender = x.sender; answer = said (unsaid x.answer); out = x.out; ends = x.ends }

  sayable : (new : S) (ps : List (List ℕ)) (d : Drops) (o l t : Bool) →
      let r : LeftIn S = left_by o l t (refused_with 8 state out ends) (refused_with 7 state out ends) (refused_with 5 state out ends) (sent_as new ps d out ends) in
      unsaid_again r ≡ r
  unfolding unsaid_again
  sayable new ps d true l t = refl
  sayable new ps d false true t = refl
  sayable new ps d false false true = refl
  sayable new ps d false false false = refl

  call_sayable : (o : Bool) (laid : Saved → S) (v : Saved) (mtu : ℕ) (frame : List ℕ) →
      unsaid_again (call_of o state laid v mtu frame out ends) ≡ call_of o state laid v mtu frame out ends
  call_sayable o laid v mtu frame =
      let us : List (List ℕ) = units_at mtu frame in
      let ps : List (List ℕ) = packets_of (groups_of mtu v us) in
      sayable (laid (keep_all v us)) ps (drops_in (outcomes_of mtu v us)) o (over_limit us) (too_small ps out ends)

pub payload_only : (h : H264Payloader) (mtu : ℕ) (frame out ends : List ℕ) →
    Determined (λ (x : Handed). left x.0 x.1 x.2 ≡ payload_of h mtu frame out ends)
unfolding payload_of unsaid_again
payload_only h mtu frame out ends =
    by_view view back back_view (back (payload_of h mtu frame out ends)) (payload_of h mtu frame out ends)
    (call_sayable h out ends (outside h mtu frame) lay_out (saved_in h) mtu frame)

-- ---- with lent buffers

-- what a call hands back: its result, the two sets' buffers, output and table
abbrev pub HandedLent : Type 0
HandedLent = Sent LentPayloader × List ℕ × List ℕ × List ℕ × List ℕ

abbrev view_lent : HandedLent → LeftIn Lent
view_lent x = left_lent x.0 x.1 x.2 x.3 x.4

abbrev back_lent : LeftIn Lent → HandedLent
back_lent l = (record { sender = l.sender.sender; answer = unsaid l.answer }, l.sender.sps, l.sender.pps, l.out, l.ends)

back_view_lent : (x : HandedLent) → back_lent (view_lent x) ≡ x
back_view_lent x i = (record { sender = x.0.sender; answer = unsaid_said x.0.answer i }, x.1, x.2, x.3, x.4)

pub lent_only : (l : Lent) (mtu : ℕ) (frame out ends : List ℕ) →
    Determined (λ (x : HandedLent). left_lent x.0 x.1 x.2 x.3 x.4 ≡ lent_of l mtu frame out ends)
unfolding lent_of unsaid_again
lent_only l mtu frame out ends =
    by_view view_lent back_lent back_view_lent (back_lent (lent_of l mtu frame out ends)) (lent_of l mtu frame out ends)
    (call_sayable l out ends (outside_by l.sender.sps_len l.sender.pps_len mtu frame) (lend_out l) (saved_lent l) mtu frame)

pub lent_new_only : Determined (λ (r : LentPayloader). r ≡ record { sps_len = 0; pps_len = 0 })
lent_new_only = by_value (record { sps_len = 0; pps_len = 0 })

pub new_only : Determined (λ (r : H264Payloader). r ≡ lay_out nothing_saved)
new_only = by_value (lay_out nothing_saved)

-- ---- the search

pub next_ind_only : (frame : List ℕ) (start : ℕ) → Determined (λ (r : Result (Option Code) Error). said r ≡ next_ind frame start)
unfolding next_ind
next_ind_only frame start =
    by_said (next_ind frame start) (either_sayable {x = refuse 8} {y = says (next_code frame start)} (beyond frame start) refl refl)
