-- One call of `payload`, with the sets in the record or in lent buffers: its answer, the state after it, and output and table at exit.
-- Assumes nothing.
use Rattle.std.specs.Prelude.{List, Bool, true, false, ◌||◌, ℕ, ltb, length, take, Result}
use Rattle.error.specs.declared.Error.{Error}
use Rattle.error.specs.Said.{Said, said, says, refuse}
use Rattle.wire.specs.Part.{splice, pad_to}
use Rattle.wire.specs.Packets.{Sink, whole, joined}
use Rattle.h264.specs.declared.lent.LentPayloader.{LentPayloader}
use Rattle.h264.specs.declared.send.ParameterSet.{ParameterSet}
use Rattle.h264.specs.declared.send.H264Payloader.{H264Payloader}
use Rattle.h264.specs.declared.send.Sent.{Sent}
use Rattle.h264.specs.declared.send.Written.{Written}
use Rattle.annexb.specs.Units.{units_at}
use Rattle.h264_put.specs.declared.outcome.Drops.{Drops}
use Rattle.h264_put.specs.Groups.{Saved, keep_all, groups_of, packets_of}
use Rattle.h264_put.specs.Outcomes.{outcomes_of, drops_in}
use Rattle.h264_put.specs.Step.{empty_sink, over_limit}

-- ---- the record

-- a set of at most 1,024 bytes in its array, zeros behind it
abbrev pub set_out : List ℕ → ParameterSet
set_out s = record { bytes = pad_to 1024 s; len = length s }

-- what is saved, as a record
abbrev pub lay_out : Saved → H264Payloader
lay_out v = record { sps = set_out v.sps; pps = set_out v.pps }

-- what is saved where the first n bytes of one buffer and the first m of the other are the sets
abbrev pub held_in : List ℕ → ℕ → List ℕ → ℕ → Saved
held_in sps n pps m = record { sps = take n sps; pps = take m pps }

-- what a record says is saved
abbrev pub saved_in : H264Payloader → Saved
saved_in h = held_in h.sps.bytes h.sps.len h.pps.bytes h.pps.len

-- ---- the same in lent buffers

-- two buffers, and how many bytes in front of each are a set
pub record Lent : Type 0 where
  pub sender : LentPayloader
  pub sps : List ℕ
  pub pps : List ℕ

abbrev pub saved_lent : Lent → Saved
saved_lent l = held_in l.sps l.sender.sps_len l.pps l.sender.pps_len

-- what is saved, in front of the buffers: "an answer changes only the bytes it writes"
abbrev pub lend_out : Lent → Saved → Lent
lend_out l v =
    record {
      sender = record { sps_len = length v.sps; pps_len = length v.pps };
      sps = splice l.sps 0 v.sps;
      pps = splice l.pps 0 v.pps;
    }

-- ---- the refusals, in their order

-- 8: "frames up to 16,777,216; mtu 0 to 65,535 (payload bytes only)", "counts and lengths in a record that lie within its arrays"
abbrev pub outside_by : (sps pps mtu : ℕ) → List ℕ → Bool
outside_by sps pps mtu frame = ltb 1024 sps || (ltb 1024 pps || (ltb 65535 mtu || ltb 16777216 (length frame)))

abbrev pub outside : H264Payloader → ℕ → List ℕ → Bool
outside h mtu frame = outside_by h.sps.len h.pps.len mtu frame

-- 5: "output buffer, or table of packet ends, too small"
abbrev pub too_small : List (List ℕ) → List ℕ → List ℕ → Bool
too_small packets out ends = ltb (length out) (length (joined packets)) || ltb (length ends) (length packets)

-- ---- the call

-- what a call leaves: the state, what it says, output and table
pub record LeftIn (S : Type 0) : Type 0 where
  pub sender : S
  pub answer : Said Written
  pub out : List ℕ
  pub ends : List ℕ

abbrev pub Left : Type 0
Left = LeftIn H264Payloader

-- an answer, beside the state and the buffers at exit
abbrev pub left_with : {S : Type 0} → S → Result Written Error → List ℕ → List ℕ → LeftIn S
left_with state answer out ends = record { sender = state; answer = said answer; out = out; ends = ends }

abbrev pub left : Sent H264Payloader → List ℕ → List ℕ → Left
left r out ends = left_with r.sender r.answer out ends

abbrev pub left_lent : Sent LentPayloader → (sps pps out ends : List ℕ) → LeftIn Lent
left_lent r sps pps out ends = left_with (record { sender = r.sender; sps = sps; pps = pps }) r.answer out ends

-- "A refusal returns its number, no record, length 0, and changes no buffer and no state"
abbrev pub refused_with : {S : Type 0} → ℕ → S → List ℕ → List ℕ → LeftIn S
refused_with number state out ends = record { sender = state; answer = refuse number; out = out; ends = ends }

-- the packets from the front of the output on, their ends from the front of the table on, and what was dropped for the mtu
abbrev pub sent_as : {S : Type 0} → S → List (List ℕ) → Drops → List ℕ → List ℕ → LeftIn S
sent_as state packets drops out ends =
    let sink : Sink = whole (empty_sink out ends) packets in
    record {
      sender = state;
      answer = says (record { packets = sink.n; bytes = sink.at; units_dropped = drops.units; pairs_dropped = drops.pairs });
      out = sink.out;
      ends = sink.ends;
    }

-- the tests' outcomes decide: outside the domain, over the limit, too small
abbrev pub left_by : {A : Type 0} → (outside over_limit too_small : Bool) → A → A → A → A → A
left_by true o t e8 e7 e5 answer = e8
left_by false true t e8 e7 e5 answer = e7
left_by false false true e8 e7 e5 answer = e5
left_by false false false e8 e7 e5 answer = answer

-- "8 first .. H.264 sending: 7, then 5.": where v is saved in a state, and `laid` says what state then has what is saved
abbrev pub call_of : {S : Type 0} → (outside : Bool) → S → (Saved → S) → Saved → ℕ → List ℕ → List ℕ → List ℕ → LeftIn S
call_of outside state laid v mtu frame out ends =
    let us : List (List ℕ) = units_at mtu frame in
    let packets : List (List ℕ) = packets_of (groups_of mtu v us) in
    left_by outside (over_limit us) (too_small packets out ends)
    (refused_with 8 state out ends) (refused_with 7 state out ends) (refused_with 5 state out ends)
    (sent_as (laid (keep_all v us)) packets (drops_in (outcomes_of mtu v us)) out ends)

-- with the sets in the record
unfoldable pub payload_of : H264Payloader → ℕ → List ℕ → List ℕ → List ℕ → Left
payload_of h mtu frame out ends = call_of (outside h mtu frame) h lay_out (saved_in h) mtu frame out ends

-- with the sets in lent buffers
unfoldable pub lent_of : Lent → ℕ → List ℕ → List ℕ → List ℕ → LeftIn Lent
lent_of l mtu frame out ends = call_of (outside_by l.sender.sps_len l.sender.pps_len mtu frame) l (lend_out l) (saved_lent l) mtu frame out ends

-- with nothing said of where the sets are
unfoldable pub sending_of : (outside : Bool) → Saved → ℕ → List ℕ → List ℕ → List ℕ → LeftIn Saved
sending_of outside v mtu frame out ends = call_of outside v (λ (kept : Saved). kept) v mtu frame out ends
