-- What is proved of the sender, sentence by sentence; each cites one theorem. `payload`'s contract says, of both forms of the sender, that the
-- packets written are `packets_of (groups_of mtu saved units)`, so what is said here of those is said of every call. Assumes nothing.
use mathlib.Core.Path.{◌≡◌}
use mathlib.Core.List.{List, [], ◌∷◌, ◌++◌}
use mathlib.Core.Bool.{true, ◌||◌}
use Prim.Native.Nat.{ℕ, ◌+◌, ◌*◌, ◌≤◌, ◌<◌}
use lib.Dec.{leb}
use lib.ListN.{length}
use Rattle.error.specs.Only.{Determined}
use Rattle.rfc6184.specs.Sending.{Each, UnitType, Packetization}
use Rattle.annexb.specs.Units.{units_at}
use Rattle.annexb.specs.AnnexB.{Prefixed, written, Apart, units_written}
use Rattle.h264_put.specs.declared.fate.Fate.TheVariants.{Sps, Pps, Coded}
use Rattle.h264_put.specs.Groups.{Saved, nothing_saved, both_saved, pair, fragments, fate_of, keep, keep_all, unit_for, groups_for, groups_of, packets_of_group, packets_of}
use Rattle.h264_put.specs.Outcomes.{outcome_for, outcomes_of, drops_in}
use Rattle.h264.specs.declared.send.H264Payloader.{H264Payloader}
use Rattle.h264.specs.Payload.{lay_out, Lent, left, left_lent, payload_of, lent_of}
use Rattle.h264.specs.Alike.{Alike, Asked, SameCalls}
use Rattle.h264.specs.Frames.{groups_from, drops_from, units_of_frames}
use Rattle.h264.specs.Conformance.{Octets, SavedOctets, nal, nals_of_all, Regular, Sendable, units_in, carried_in, is_coded, goes_out, those_that, start_bit, end_bit}
use Rattle.h264.specs.Course.{latest, NoPair, Coursed, waiting_after, groups_in, sets_of, sent, is_dropped, cannot_go, replaced, pairs_over, left_out, Same}
use Rattle.h264.specs.AnySender.{Answered, Sender, Goes, SendsFrames, ours, Silent, KeepsEarlierSps, KeepsEarlierPps}
use Rattle.h264.specs.Telling.{said_sent, Step, TellsAlways, our_step, ForgetsUntold, DropsUntold, CountsUnasked}
use Rattle.h264.proofs.Fits as F
use Rattle.h264.proofs.Frames as A
use Rattle.h264.proofs.LeftOut as L
use Rattle.h264.proofs.Courses as K
use Rattle.h264.proofs.Accounts as B
use Rattle.h264.proofs.Order as R
use Rattle.h264.proofs.Conforms as C
use Rattle.h264.proofs.OneUnit as U
use Rattle.h264.proofs.AnySender as N
use Rattle.h264.proofs.WrongSenders as W
use Rattle.h264.proofs.StartEnd as S
use Rattle.h264.proofs.Telling as T
use Rattle.h264.proofs.Counting as D
use Rattle.h264.proofs.Only as O
use Rattle.h264.proofs.Agreeing as G

-- "Every packet fits the mtu."
pub every_packet_fits : (mtu : ℕ) (v : Saved) (us : List (List ℕ)) → Each (λ (p : List ℕ). length p ≤ mtu) (packets_of (groups_of mtu v us))
every_packet_fits = F.fits

-- What is sent is a packetization by RFC 6184 of the units and pairs sent, a fragmented unit's F cleared, wherever every group is `Regular`.
pub sent_by_rfc6184 : (mtu : ℕ) (v : Saved) (us : List (List ℕ)) → mtu ≤ 65535 → SavedOctets v → Each Octets us → Each Regular (groups_of mtu v us) →
    Packetization (packets_of (groups_of mtu v us)) (nals_of_all (groups_of mtu v us))
sent_by_rfc6184 = C.packetized

-- A unit of type 1 to 23, F clear, that fits or can be cut: what is sent for it is a packetization of that unit.
pub unit_by_rfc6184 : (mtu : ℕ) → mtu ≤ 65535 → (u : List ℕ) → 0 < length u → Octets u → UnitType (nal u).type → (nal u).f ≡ 0 →
    (leb (length u) mtu || leb 3 mtu) ≡ true → Packetization (packets_of (unit_for mtu u)) (nal u ∷ [])
unit_by_rfc6184 = U.unit_packetized

-- ---- what is asked of any sender

-- A frame of plain units, as an encoder writes it, goes out by the course of its units: as a packetization of exactly those that are to be sent, in
-- that order, and the sets that wait in the end are kept.
pub frame_by_rfc6184 : SendsFrames ours
frame_by_rfc6184 = N.sends_frames

-- Where an answer goes by the course, each unit that waited or came is once among those that the packets carry, those left out and those saved.
pub answer_accounted : (mtu : ℕ) (v : Saved) (us : List (List ℕ)) (r : Coursed v us) (a : Answered) → Goes mtu v r.course a →
    Same (sets_of v ++ us) (sent mtu v r.course ++ (left_out mtu v r.course ++ sets_of a.saved))
answer_accounted = N.answer_accounted

-- A sender that emits nothing does not send so, nor one that keeps the earlier of two sets of a kind.
pub no_silent_sender : (send : Sender) → Silent send → SendsFrames send → ⊥
no_silent_sender = W.no_silent_sender

pub no_earlier_sps : (send : Sender) → KeepsEarlierSps send → SendsFrames send → ⊥
no_earlier_sps = W.no_earlier_sps

pub no_earlier_pps : (send : Sender) → KeepsEarlierPps send → SendsFrames send → ⊥
no_earlier_pps = W.no_earlier_pps

-- ---- which units go out, whatever their bytes

-- The units of a frame as an encoder writes it are those that it wrote.
pub units_of_frame : (mtu end : ℕ) (c : Prefixed) (cs : List Prefixed) → 0 < mtu → Each (λ (x : Prefixed). Apart x.unit) (c ∷ cs) →
    units_at mtu (written end (c ∷ cs)) ≡ units_written end (c ∷ cs)
units_of_frame = A.units_written_lem

-- Every list of units has a course: it is cut behind each coded unit at which a pair is due.
pub every_list_has_a_course : (v : Saved) (us : List (List ℕ)) → Coursed v us
every_list_has_a_course = K.has_course

-- Of each kind the latest set is kept, until a coded unit has both before it; then both are forgotten, whether they fit or not.
pub latest_kept : (v : Saved) (us : List (List ℕ)) → NoPair v us → keep_all v us ≡ latest v us
latest_kept = K.latest_kept

pub waits_by_course : (v : Saved) (us : List (List ℕ)) (r : Coursed v us) → keep_all v us ≡ waiting_after v r.course
waits_by_course = K.waits_by_course

-- A pair goes out exactly there, the sequence parameter set first, if it fits the mtu; all else that goes out are the coded units, in their order.
pub groups_by_course : (v : Saved) (us : List (List ℕ)) (r : Coursed v us) (mtu : ℕ) → groups_of mtu v us ≡ groups_in mtu v r.course
groups_by_course = K.groups_by_course

pub pair_first : (mtu : ℕ) (v : Saved) (u : List ℕ) → fate_of u ≡ Coded → both_saved v ≡ true → 5 + length v.sps + length v.pps ≤ mtu →
    groups_for mtu v u ≡ pair v.sps v.pps ∷ unit_for mtu u
pair_first = L.pair_first

-- Nothing is left out of what waited and came but empty units, types 9 and 12, what cannot fit, sets that were replaced by a later one, pairs that do
-- not fit, and sets that still wait: each unit is once among these and those sent.
pub nothing_else_left_out : (mtu : ℕ) (v : Saved) (us : List (List ℕ)) (r : Coursed v us) →
    Same (sets_of v ++ us) (carried_in (groups_of mtu v us) ++ (left_out mtu v r.course ++ sets_of (keep_all v us)))
nothing_else_left_out = B.each_once

-- Of a frame as an encoder writes it the coded units go out in their order, but for those that cannot fit.
pub coded_in_order : (mtu : ℕ) (v : Saved) (end : ℕ) (c : Prefixed) (cs : List Prefixed) → 0 < mtu →
    Each (λ (x : Prefixed). Apart x.unit) (c ∷ cs) →
    units_in (groups_of mtu v (units_at mtu (written end (c ∷ cs)))) ≡ those_that (goes_out mtu) (units_written end (c ∷ cs))
coded_in_order = A.frame_sent

-- ---- where the order and the time of sets are not those in which they came

-- A set that waits alone goes out as if it had come behind a coded unit that came behind it.
pub sps_passed : (mtu : ℕ) (v : Saved) (set u : List ℕ) (us : List (List ℕ)) → fate_of set ≡ Sps → fate_of u ≡ Coded → v.pps ≡ [] →
    groups_of mtu v (set ∷ u ∷ us) ≡ groups_of mtu v (u ∷ set ∷ us)
sps_passed = R.sps_passed

pub pps_passed : (mtu : ℕ) (v : Saved) (set u : List ℕ) (us : List (List ℕ)) → fate_of set ≡ Pps → fate_of u ≡ Coded → v.sps ≡ [] →
    groups_of mtu v (set ∷ u ∷ us) ≡ groups_of mtu v (u ∷ set ∷ us)
pps_passed = R.pps_passed

-- Which of the two sets came first makes no difference.
pub either_order : (mtu : ℕ) (v : Saved) (sps pps : List ℕ) (us : List (List ℕ)) → fate_of sps ≡ Sps → fate_of pps ≡ Pps →
    groups_of mtu v (pps ∷ sps ∷ us) ≡ groups_of mtu v (sps ∷ pps ∷ us)
either_order = R.either_order

-- Nor does the frame in which a unit came.
pub borders_unseen : (mtu : ℕ) (v : Saved) (frames : List (List ℕ)) → groups_from mtu v frames ≡ groups_of mtu v (units_of_frames mtu frames)
borders_unseen = R.borders_unseen

-- ---- what was not sent

-- Each step tells what became of its unit and of the pair at it: a unit is `Sent` exactly where a group of its own is sent, a pair `Sent` exactly where
-- its STAP-A is, `Saved` is said exactly where what is saved changes to the unit, a drop exactly where nothing goes out; nothing else is sent, and nothing else changes of what is saved.
pub step_tells : TellsAlways our_step
step_tells = T.we_tell

-- So of a whole list: what goes out is what its outcomes say is sent, in that order.
pub sent_as_said : (mtu : ℕ) (v : Saved) (us : List (List ℕ)) → carried_in (groups_of mtu v us) ≡ said_sent v us (outcomes_of mtu v us)
sent_as_said = T.sent_as_said

-- A step that forgets a pair or drops a unit without a word does not tell, nor one that counts what is never sent.
pub no_forgetting_untold : (s : Step) → ForgetsUntold s → TellsAlways s → ⊥
no_forgetting_untold = T.no_forgetting_untold

pub no_dropping_untold : (s : Step) → DropsUntold s → TellsAlways s → ⊥
no_dropping_untold = T.no_dropping_untold

pub no_counting_unasked : (s : Step) → CountsUnasked s → TellsAlways s → ⊥
no_counting_unasked = T.no_counting_unasked

-- Whoever sends and keeps what our step does, and tells, says what it says.
pub one_account : (s : Step) → TellsAlways s → ((mtu : ℕ) (v : Saved) (u : List ℕ) → s.sends mtu v u ≡ groups_for mtu v u) →
    ((mtu : ℕ) (v : Saved) (u : List ℕ) → s.keeps mtu v u ≡ keep v u) → (mtu : ℕ) (v : Saved) (u : List ℕ) → s.says mtu v u ≡ outcome_for mtu v u
one_account = T.one_account

-- The count of units is that of the units that cannot go, and every unit that is to be sent goes out or is counted.
pub units_counted : (mtu : ℕ) (v : Saved) (us : List (List ℕ)) → (drops_in (outcomes_of mtu v us)).units ≡ length (those_that (cannot_go mtu) us)
units_counted = D.units_counted

pub units_add_up : (mtu : ℕ) (v : Saved) (us : List (List ℕ)) →
    length (units_in (groups_of mtu v us)) + (drops_in (outcomes_of mtu v us)).units ≡ length (those_that (λ (u : List ℕ). is_coded (fate_of u)) us)
units_add_up = D.units_add_up

-- The count of pairs is that of the pairs that are due and do not fit: two sets are left out for each.
pub pairs_counted : (mtu : ℕ) (v : Saved) (us : List (List ℕ)) (r : Coursed v us) →
    2 * (drops_in (outcomes_of mtu v us)).pairs ≡ length (pairs_over mtu v r.course)
pairs_counted = D.pairs_counted

-- Where both counts are 0, nothing is left out but empty units, types 9 and 12, sets that were replaced by a later one, and sets that still wait.
pub none_dropped : (mtu : ℕ) (v : Saved) (us : List (List ℕ)) (r : Coursed v us) → drops_in (outcomes_of mtu v us) ≡ record { units = 0; pairs = 0 } →
    Same (sets_of v ++ us)
    (carried_in (groups_of mtu v us)
    ++ ((those_that (λ (u : List ℕ). is_dropped (fate_of u)) us ++ replaced v r.course) ++ sets_of (keep_all v us)))
none_dropped = D.none_dropped

-- "at mtu 0 both are 0", and of an empty frame; from mtu 3 on no unit is dropped.
pub none_at_zero : (v : Saved) (frame : List ℕ) → drops_in (outcomes_of 0 v (units_at 0 frame)) ≡ record { units = 0; pairs = 0 }
none_at_zero = D.none_at_zero

pub none_of_empty : (mtu : ℕ) (v : Saved) → drops_in (outcomes_of mtu v (units_at mtu [])) ≡ record { units = 0; pairs = 0 }
none_of_empty = D.none_of_empty

pub no_unit_from_three : (mtu : ℕ) (v : Saved) (us : List (List ℕ)) → 3 ≤ mtu → (drops_in (outcomes_of mtu v us)).units ≡ 0
no_unit_from_three = D.no_unit_from_three

-- The counts of frames, added up, are those of all their units.
pub frames_add_up : (mtu : ℕ) (v : Saved) (frames : List (List ℕ)) → drops_from mtu v frames ≡ drops_in (outcomes_of mtu v (units_of_frames mtu frames))
frames_add_up = D.frames_add_up

-- ---- each group

-- Every group is one that can be sent: a unit's parts are full but the last, none is empty, and together they are its body.
pub every_group_sendable : (mtu : ℕ) (v : Saved) (us : List (List ℕ)) → Each (Sendable mtu) (groups_of mtu v us)
every_group_sendable = F.sendable

-- Start and end never fall on one fragment, and there are two fragments at least.
pub start_and_end_apart : (head : ℕ) (first : List ℕ) (middle : List (List ℕ)) (last : List ℕ) →
    Each (λ (p : List ℕ). start_bit p + end_bit p ≤ 1) (packets_of_group (fragments head first middle last))
start_and_end_apart = S.never_both

pub two_fragments_at_least : (head : ℕ) (first : List ℕ) (middle : List (List ℕ)) (last : List ℕ) →
    2 ≤ length (packets_of_group (fragments head first middle last))
two_fragments_at_least = S.two_at_least

-- No second answer satisfies the contract.
pub one_answer : (h : H264Payloader) (mtu : ℕ) (frame out ends : List ℕ) →
    Determined (λ (x : O.Handed). left x.0 x.1 x.2 ≡ payload_of h mtu frame out ends)
one_answer = O.payload_only

pub one_lent_answer : (l : Lent) (mtu : ℕ) (frame out ends : List ℕ) →
    Determined (λ (x : O.HandedLent). left_lent x.0 x.1 x.2 x.3 x.4 ≡ lent_of l mtu frame out ends)
one_lent_answer = O.lent_only

-- ---- the sets in the record, or in lent buffers

-- Senders that have the same saved say and write the same, frame after frame, and fresh ones have, whatever stands in the buffers.
pub both_forms_agree : (h : H264Payloader) (l : Lent) → Alike h l → (asked : List Asked) → SameCalls h l asked
both_forms_agree = G.same_calls

pub fresh_forms_agree : (sps pps : List ℕ) → Alike (lay_out nothing_saved) (record { sender = record { sps_len = 0; pps_len = 0 }; sps = sps; pps = pps })
fresh_forms_agree = G.fresh_alike
