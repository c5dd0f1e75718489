-- The H.264 reader against RFC 6184: the theorems, each cited from the file that proves it.
--
-- The words. A sending is what RFC 6184 sends at a time: a single unit (5.6), an STAP-A of units (5.7.1), or the FU-As of one unit (5.8). Its payloads
-- (`payloads_of`) and the units that it carries (`units_of`) are functions of it; they are defined in crate `rfc6184` from the RFC alone. It is formed
-- where its fields fit into their bits, and `Lawful` where it keeps the rules on them, too. `depacketized` is the paper's reading of one payload: the
-- code of crate `h264_packet` is proved equal to it. `calls read avc s outs ps` are a reader's calls on the payloads ps, one after the other: the
-- record and the gather buffer go from call to call, and each brings an output of its own. `Hears` says of them that none is refused, what each hands
-- out, and that no run is left. `handed_as avc us` are the units' octets, each behind 00 00 00 01 or its length.
--
-- The paper's limits are `Room`: payloads of 65,535 bytes, a run of 16,777,215, and room in both buffers. The crate's deviations are told in
-- `Deviations`, `Unsendable` and `Kept`, one theorem for each row of docs/DIFFERENCES.md; those that COMPLETE has to leave out are `Taken`: single
-- units of one octet, or two unless type 9; fragments with F set; empty fragments.
use mathlib.Core.Path.{◌≡◌}
use mathlib.Core.Bool.{Bool}
use mathlib.Core.List.{List, [], map}
use mathlib.Core.Logic.{◌⊎◌}
use Prim.Native.Nat.{ℕ, ◌≤◌}
use lib.ListN.{length}
use Rattle.error.specs.Refusal.{Refusal}
use Rattle.error.specs.Said.{refused}
use Rattle.wire.specs.Packets.{joined}
use Rattle.rfc6184.specs.Sending.{Each, Nal, Sending, payloads_of_all, FormedSending, Packetization}
use Rattle.h264_put.specs.Groups.{packets_of}
use Rattle.h264.specs.Conformance.{nals_of_all}
use Rattle.h264.specs.Frames.{groups_sent}
use Rattle.h264_packet.specs.Depacketize.{depacketized}
use Rattle.h264_rfc.specs.Reading.{Reader, fresh, calls, handed_by, Answered, Hears, handed_as, expected, Taken, Room, Complete}
use Rattle.h264_rfc.specs.Loose.{Loose, LooseFormed}
use Rattle.h264_rfc.specs.Meaning.{Aggregation, AsSent, Stray, Somewhere}
use Rattle.h264_rfc.specs.Runs.{Came, pieces_of, OneUnit, Deviates, Sound}
use Rattle.h264_rfc.specs.Sent.{FrameOk, GroupRoom, back_from, back, coded_nals, coded_units}
use Rattle.h264_rfc.specs.Contract.{Result, Meets, CodeHears, idle}
use Rattle.h264_rfc.proofs.Complete as complete
use Rattle.h264_rfc.proofs.Readers as readers
use Rattle.h264_rfc.proofs.Sound as sound
use Rattle.h264_rfc.proofs.Runs as runs
use Rattle.h264_rfc.proofs.SoundRuns as sound_runs
use Rattle.h264_rfc.proofs.Sent as sent
use Rattle.h264_rfc.proofs.Contract as contract

-- ---- whatever maker

-- COMPLETE. Sendings one after the other, from a record without a run and with room: no payload is refused, the units of each sending are handed out
-- in order, once, with its last payload, and no run is left. They need be formed only: an aggregation may have any F, NRI and inner types.
pub COMPLETE : Complete depacketized
COMPLETE = complete.complete

-- The same of the code: whatever `depacketize`, called for each payload, answers under its contract. No call is refused, each hands out what is
-- expected of it, and no run is left.
pub CODE_COMPLETE : (avc : Bool) (gather : List ℕ) (outs : ℕ → List ℕ) (ss : List Sending) (rs : List Result) →
    Meets (idle avc) gather outs (payloads_of_all ss) rs → Each FormedSending ss → Each Taken ss → Each (Room avc (length gather) outs) ss →
    CodeHears (idle avc) rs (expected avc ss)
CODE_COMPLETE avc gather outs ss rs m w t room =
    contract.code_hears avc (payloads_of_all ss) rs (fresh gather) outs (expected avc ss) m (COMPLETE avc gather outs ss w t room)

-- ANY MAKER. A packetization of units, as RFC 6184 has it, is answered throughout, and what is handed out, taken together, is those units in order.
pub ANY_MAKER : (avc : Bool) (gather : List ℕ) (outs : ℕ → List ℕ) (ps : List (List ℕ)) (us : List Nal) → (z : Packetization ps us) →
    Each Taken z.sendings → Each (Room avc (length gather) outs) z.sendings →
    Each Answered (calls depacketized avc (fresh gather) outs ps)
    × (joined (map handed_by (calls depacketized avc (fresh gather) outs ps)) ≡ handed_as avc us)
ANY_MAKER = complete.any_maker depacketized COMPLETE

-- COMPLETE shuts out "a reader that refuses all" ..
pub NO_REFUSER : (read : Reader) →
    ((avc : Bool) (n : ℕ) (payload gather out : List ℕ) → (why : Refusal) × ((read avc n payload gather out).answer ≡ refused why)) →
    Complete read → ⊥
NO_REFUSER = readers.no_refuser

-- .. and one that hands out nothing, or the same bytes for every payload.
pub NO_FIXED_OUTPUT : (bytes : List ℕ) (read : Reader) →
    ((avc : Bool) (n : ℕ) (payload gather out : List ℕ) →
    (handed_by (read avc n payload gather out) ≡ []) ⊎ (handed_by (read avc n payload gather out) ≡ bytes)) →
    Complete read → ⊥
NO_FIXED_OUTPUT = readers.no_fixed_output

-- ---- whatever is accepted

-- SOUND. An accepted payload of octets is a single unit packet with type 1 to 23; an STAP-A of what stands behind its sizes, each a unit of type 1
-- to 23 or `Stray`; or an FU-A by the RFC's figure, one of those of a unit of type 1 to 23 unless S and E are both set or the type is no unit's. The
-- answer is what its kind says. With an FU-A's E bit the parts of all FU-As accepted since the last E bit are handed out as one unit: they are those
-- of one unit with F clear, and this is the unit (`OneUnit`), or they deviate in one of the ways that are rows of docs/DIFFERENCES.md (`Deviates`).
pub SOUND : Sound depacketized
SOUND = sound_runs.sound

-- An STAP-A that is accepted is one of the RFC, the rules on F and NRI aside; or something in it is empty, or of no type 1 to 23.
pub AS_SENT_OR_STRAYS : (payload : List ℕ) (units : List (List ℕ)) → Aggregation payload units → AsSent payload units ⊎ Somewhere Stray units
AS_SENT_OR_STRAYS = sound.as_sent_or_strays

-- A run of fragments is the FU-As of one unit, or deviates: with no reader in sight, there is no third case ..
pub ONE_UNIT_OR_DEVIATES : (l : Loose) → LooseFormed l → (cs : List Came) → Each LooseFormed (pieces_of cs) → OneUnit cs l ⊎ Deviates cs l
ONE_UNIT_OR_DEVIATES = runs.one_or_deviates

-- .. and never both.
pub NEVER_BOTH : (cs : List Came) (l : Loose) → Each LooseFormed (pieces_of cs) → LooseFormed l → OneUnit cs l → Deviates cs l → ⊥
NEVER_BOTH = runs.never_both

-- ---- our own sender: `payload`'s contract says that the packets written for frames are `packets_of (groups_sent mtu frames)`, call by call

-- SENT AND READ. The packets that a fresh sender sends for frames, without loss: every group is handed out, in order, once, with its last packet ..
pub SENT_AND_READ : (mtu : ℕ) → mtu ≤ 65535 → (avc : Bool) (gather : List ℕ) (outs : ℕ → List ℕ) (frames : List (List ℕ)) → Each (FrameOk mtu) frames →
    Each (GroupRoom avc (length gather) outs) (groups_sent mtu frames) →
    Hears depacketized avc (fresh gather) outs (packets_of (groups_sent mtu frames)) (back_from avc (groups_sent mtu frames))
SENT_AND_READ = sent.sent_and_read

-- .. which, taken together, is the units that the groups hand over, each behind its prefix; a fragmented one's top bit is clear ..
pub BACK_IN_ORDER : (mtu : ℕ) → mtu ≤ 65535 → (avc : Bool) (frames : List (List ℕ)) → Each (FrameOk mtu) frames →
    joined (back_from avc (groups_sent mtu frames)) ≡ handed_as avc (nals_of_all (groups_sent mtu frames))
BACK_IN_ORDER = sent.back_in_order

-- .. and these are, the pairs of sets aside, the frames' own units: all but empty ones, types 9 and 12, and the sets that are saved.
pub UNITS_BACK : (mtu : ℕ) → 3 ≤ mtu → (frames : List (List ℕ)) → coded_nals (groups_sent mtu frames) ≡ map (back mtu) (coded_units mtu frames)
UNITS_BACK = sent.units_back

-- ---- where the crate leaves RFC 6184, each with the theorem that says what it does; the rows' own inputs are computed in Rows.rows
--
-- 5.8, F of a fragmented unit                     not handed out: Deviations.f-lost; another unit where it was set: .f-differs
-- 5.8, S and E both set                           a whole unit, though no lawful sending has it: Deviations.both-taken
-- 5.8, a fragment lost                            the others are joined without it: Deviations.lost-joined, .lost-missing; whatever comes, and whatever
--                                                 its S is: .start-ignored
-- 5.8, F of an incomplete unit that is handed on  not set: Deviations.lost-joined, .lost-unmarked
-- 5.8, other packets between the fragments        the run stays: Kept.others-keep, .refusals-keep; what comes behind goes on: .goes-on
-- 5.8, fragments of different NRI and type        the end fragment's count: Deviations.end-decides
-- 5.8, a fragment of type 0 or 24 to 31           handed out so, though no lawful sending has it: Deviations.type-unjudged
-- 5.7, other types in an STAP-A                   handed out so, though no lawful sending has it: Deviations.stray-taken
-- 5.7.1, a size of 0                              an empty unit, its prefix alone: Deviations.stray-taken
-- 5.6, a unit of 1 or 2 octets                    4: Deviations.short-refused; lawful: Rows.end-lawful
-- 5.8, an empty fragment                          4: Deviations.empty-refused; lawful: Rows.empty-lawful
-- 5.7, 5.8, types 25, 26, 27, 29                  19, which carries the type: Deviations.structure-refused
