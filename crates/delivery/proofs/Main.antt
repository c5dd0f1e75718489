-- Demand 3. Whatever is lost, repeated, reordered or mixed with other sources on the way: what the joiner hands out is exactly the
-- groups all of whose packets it accepted, in order and once each; it knows how many packets it missed; and with none missed it
-- handed out everything that was sent. Assumes nothing.
--
-- The words. A `Show` is the groups sent, each its payloads and the units that it is handed out as; the source, the first number and the
-- stamps that its packets bear; the buffers; and what arrives, a packet of ours by its index or any other bytes. `Received` is what the paper
-- asks of numbers, times, room and channel. A `Sending` is frames for a fresh sender, `show_of` the show of them, `SendingPremises` what the paper asks
-- of it. A `Stream` is sendings of RFC 6184, of whatever sender, and which packets a relay marked (`relayed`). A `Machine` is any joiner: how it is
-- opened, its call and its closing; `our_joiner` is `opened`, `join_step` and `close_step`, which the contracts of the joiner's code cite. `Delivered`
-- is the five parts (a) to (e) over a machine's calls (`played`) and its `closing`, for units behind a start code or a 4-byte length; `annex_b` is
-- the start code, which our joiner's units follow.
use mathlib.Core.Path.{◌≡◌, refl}
use mathlib.Core.Bool.{Bool, true, false}
use mathlib.Core.List.{List, [], ◌∷◌, ◌++◌, map}
use mathlib.Core.Logic.{◌↔◌}
use Prim.Native.Nat.{ℕ, ◌<◌}
use lib.ListN.{length, get_or}
use Rattle.wire.specs.Each.{Each}
use Rattle.rfc6184.specs.Sending.{payloads_of_all}
use Rattle.rfc6184.specs.Sending as rfc
use Rattle.h264_put.specs.Groups.{nothing_saved, fragments, packets_of_group, packets_of}
use Rattle.h264.specs.Frames.{groups_sent}
use Rattle.sequence.specs.Arrival.{Arrival, ours}
use Rattle.sequence.proofs.Accepting.{Arrived}
use Rattle.joiner_step.specs.Run.{Units}
use Rattle.joiner_step.specs.Play.{is_accepted}
use Rattle.joiner_feed.specs.H264.{forbidden}
use Rattle.joiner.specs.Join.{Stepped}
use Rattle.delivery.specs.Show.{Show, payloads}
use Rattle.delivery.specs.Play.{Machine, our_joiner, annex_b, played}
use Rattle.delivery.specs.Demand.{OneTimeEach, Delivered}
use Rattle.delivery.specs.Frames.{Sending, show_of, SendingPremises, OneTimeFrames, Delivers}
use Rattle.delivery.specs.Calls.{Lent, NoneRefused, calls_for, LentEnough, FromTheCalls, lent_calls_for, written}
use Rattle.delivery.specs.AnySender.{relayed, any_marked, handed_for, Stream, stream_show, Ruled, DeliversAny}
use Rattle.delivery.specs.OneMoment.{OneMoment, OfMany, TimesApart, OneSender}
use Rattle.delivery.specs.Wrong.{Silent, Advancing, Inventing, Unmarking, Timeless}
use Rattle.delivery.proofs.Delivering.{all_delivered}
use Rattle.delivery.proofs.Accepted.{accepted_exactly}
use Rattle.delivery.proofs.Sending.{fragments_clear, sent_show, same_packets}
use Rattle.delivery.proofs.FrameTimes.{by_frames}
use Rattle.delivery.proofs.LentCalls as L
use Rattle.delivery.proofs.Calls as calls
use Rattle.delivery.proofs.AnySender.{stream_show_lem, lawful_ruled, stream_payloads, relayed_not, unit_marked}
use Rattle.delivery.proofs.Example.{show, premises, lent_to, lent_enough}
use Rattle.delivery.proofs.ExampleStream.{stream, stream_premises}
use Rattle.delivery.proofs.ExampleFailover.{encoder, encoder_premises, Failover, Recovery, AtOneTime, outcomes}
use Rattle.delivery.proofs.OneMoment.{untorn, one_sender}
use Rattle.delivery.proofs.Wrong as wrong
use Rattle.delivery.proofs.Timeless.{no_timeless}

-- frames through a fresh sender
pub demand_3 : (x : Sending) → SendingPremises annex_b x → Delivered annex_b our_joiner (show_of x)
demand_3 x p = all_delivered annex_b (show_of x) refl p.received (sent_show annex_b x p)

-- The same from the calls on, end to end. Where none of a fresh sender's calls is refused: what they wrote, cut at the ends that they wrote, is
-- the show's payloads; the packet writer makes each, with its number, stamp and source, into the show's packet; and of the packets that it
-- wrote, over the channel, the joiner hands out what demand 3 says.
pub FROM_THE_CALLS : (x : Sending) → SendingPremises annex_b x → (lent : ℕ → Lent) → NoneRefused (calls_for x lent) → FromTheCalls annex_b x lent
FROM_THE_CALLS x p lent none = calls.from_the_calls annex_b x p lent none refl

-- A sender whose parameter sets lie in lent buffers, whatever stands in them, writes the same, so that from its calls on it is as from those.
pub FROM_LENT_CALLS : (x : Sending) → SendingPremises annex_b x → (lent : ℕ → Lent) (sps pps : List ℕ) → NoneRefused (lent_calls_for x lent sps pps) →
    (written (lent_calls_for x lent sps pps) ≡ written (calls_for x lent)) × FromTheCalls annex_b x lent
FROM_LENT_CALLS x p lent sps pps none = (L.lent_written x lent sps pps, FROM_THE_CALLS x p lent (L.lent_answers x lent sps pps none))

-- None of its calls is refused where each is lent room for its frame's packets, and no parameter set is over 1,024 bytes.
pub CALLS_ANSWER : (avc : Bool) (x : Sending) → SendingPremises avc x → (lent : ℕ → Lent) → LentEnough x.mtu nothing_saved lent x.frames → NoneRefused (calls_for x lent)
CALLS_ANSWER = calls.calls_answer

-- The payloads of the show are those of the sender's definition, in order.
pub payloads_sent : (x : Sending) → payloads (show_of x) ≡ packets_of (groups_sent x.mtu x.frames)
payloads_sent x = same_packets (groups_sent x.mtu x.frames)

-- All packets of one unit carry one timestamp where all of one frame do: so a sender that stamps by frame meets that premise.
pub FRAME_TIMES : (x : Sending) → OneTimeFrames x.stamps x.mtu 0 nothing_saved x.frames → OneTimeEach x.stamps 0 (show_of x).groups
FRAME_TIMES x = by_frames x.stamps x.mtu 0 nothing_saved x.frames

-- Sendings of RFC 6184 by any sender, as crate rfc6184 has them: single units, STAP-As with any F and NRI, and units in fragments with any F; and F set
-- by a relay on any of the packets, each on its own. No single unit is shorter than 3 bytes, but for an access unit delimiter of 2; no fragment is empty.
pub any_sender : DeliversAny annex_b our_joiner
any_sender y p = all_delivered annex_b (stream_show y) refl p.received (stream_show_lem annex_b y p)

-- Whatever is lawful by RFC 6184 keeps what is asked of its fields.
pub lawful_sender : (ss : List rfc.Sending) → Each rfc.Lawful ss → Each rfc.FormedSending ss × Each Ruled ss
lawful_sender = lawful_ruled

-- The payloads of its show are those that the RFC has for the sendings, in order, as the relay passes them on: as they are where it marks none.
pub payloads_streamed : (y : Stream) → payloads (stream_show y) ≡ relayed y.marks (payloads_of_all y.sendings)
payloads_streamed y = stream_payloads y.marks y.sendings

pub payloads_unmarked : (ps : List (List ℕ)) → relayed (λ i. false) ps ≡ ps
payloads_unmarked = relayed_not

-- What a unit sent in fragments is to be handed out as, and so is by `any_sender`, has its top bit set exactly where one of them has it as it
-- arrives ..
pub MARKED_EXACTLY : (marks : ℕ → Bool) (g : rfc.Fragmented) → rfc.FormedSending (rfc.fu_a g) →
    forbidden (get_or (handed_for marks (rfc.fu_a g)) 0 []) ≡ any_marked (relayed marks (rfc.payloads_of (rfc.fu_a g)))
MARKED_EXACTLY = unit_marked

-- .. and our own sender clears it in all fragments, so that demand 3 hands its units out with it clear.
pub OUR_FRAGMENTS_CLEAR : (head : ℕ) (first : List ℕ) (middle : List (List ℕ)) (last : List ℕ) →
    Each (λ (p : List ℕ). forbidden p ≡ false) (packets_of_group (fragments head first middle last))
OUR_FRAGMENTS_CLEAR = fragments_clear

-- "A run belongs to one moment" (E4): whatever arrives, and from however many senders of the joiner's SSRC, each group that is handed out is the units of
-- one packet, or a unit in fragments, from its start to its end, that follow each other without a gap and are all of one time. Since it is so of any
-- arrivals, it is so of those up to each call ..
pub ONE_MOMENT : OneMoment annex_b our_joiner
ONE_MOMENT w came = untorn annex_b w refl came

-- .. so that none goes on with another's unit, where no two of them share a time.
pub ONE_SENDER_EACH : (came : List (List ℕ)) (source : ℕ) {A : Type 0} (sender : List ℕ → A) → TimesApart came source sender →
    (units : Units) (u : OfMany came source units) → OneSender came source sender units u
ONE_SENDER_EACH came source sender = one_sender came source sender

-- "Under these premises a packet is accepted exactly when its index is above every index that arrived before it; this, read off the
-- arrivals alone, is what demand 3 means by accepted."
pub accepted_means : (avc : Bool) (m : Machine) (w : Show) → Delivered avc m w → (before later : List (Arrival (List ℕ))) (i : ℕ) → w.arrivals ≡ before ++ (ours i ∷ later) →
    (get_or (map (λ (st : Stepped). is_accepted st.answer) (played m w)) (length before) false ≡ true) ↔ ((j : ℕ) → Arrived j before → j < i)
accepted_means = accepted_exactly

-- ---- it is about something, and it tells joiners apart

-- a show with a loss, a repeat, a reordering, a wrap of the number and a packet of another source meets the premises, its calls are not
-- refused ..
pub show_delivered : FromTheCalls annex_b show lent_to
show_delivered = FROM_THE_CALLS show (premises annex_b) lent_to (CALLS_ANSWER annex_b show (premises annex_b) lent_to lent_enough)

-- .. and so does a stream with an access unit delimiter, an STAP-A and a unit in fragments, of which a relay marked some
pub stream_delivered : Delivered annex_b our_joiner (stream_show stream)
stream_delivered = any_sender stream (stream_premises annex_b)

-- two encoders of one SSRC: where the second goes on with the first's unit, its fragment is refused by 25, and nothing torn is handed out; at one time
-- the torn unit would be
pub two_encoders : Failover × Recovery × AtOneTime
two_encoders = outcomes

-- each of them meets the premises by itself
pub encoder_delivered : (k t u : ℕ) → k < 256 → t < 4294967296 → u < 4294967296 → Delivered annex_b our_joiner (stream_show (encoder k t u))
encoder_delivered k t u byte early late = any_sender (encoder k t u) (encoder_premises annex_b k t u byte early late)

-- `Delivers avc m` is demand 3 of the joiner m, whatever it hands units out behind. It "defeats a joiner that hands out nothing" ..
pub NO_SILENT_JOINER : (avc : Bool) (m : Machine) → Silent m → Delivers avc m → ⊥
NO_SILENT_JOINER = wrong.no_silent_joiner

-- .. "one that joins in the first call and later only advances its number": whose later calls hand out nothing, or what their own packet
-- gives ..
pub NO_ADVANCER : (avc : Bool) (m : Machine) → Advancing m → Delivers avc m → ⊥
NO_ADVANCER = wrong.no_advancer

-- .. "and one with an invented missed total, since missed is counted from the arrivals": one that is the same whatever arrives
pub NO_INVENTED_TOTAL : (avc : Bool) (m : Machine) → Inventing m → Delivers avc m → ⊥
NO_INVENTED_TOTAL = wrong.no_invented_total

-- `DeliversAny avc m` is the same of any sender's packets as a relay passes them on. It shuts out a joiner that loses the relay's marks.
pub NO_UNMARKER : (avc : Bool) (m : Machine) → Unmarking m → DeliversAny avc m → ⊥
NO_UNMARKER = wrong.no_unmarker

-- `OneMoment avc m` says of it what `ONE_MOMENT` says of ours. A joiner that does not look at the time cannot meet both.
pub NO_TIMELESS_JOINER : (avc : Bool) (m : Machine) → Timeless m → DeliversAny avc m → OneMoment avc m → ⊥
NO_TIMELESS_JOINER = no_timeless
