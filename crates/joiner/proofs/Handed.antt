-- A call hands out at most 16,777,220 bytes, whatever the record, the packet and the buffers: a packet that is read has at most 65,535, and a run at most
-- 16,777,215. Assumes nothing.
use mathlib.Core.Path.{◌≡◌, refl, ap}
use mathlib.Core.Bool.{Bool}
use mathlib.Core.List.{List}
use Prim.Native.Nat.{ℕ, ◌+◌, ◌≤◌}
use native.Mathlib.Omega.{arith}
use lib.ListN.{length}
use Rattle.error.specs.Said.{Said, says, refused}
use Rattle.error.proofs.Refusing.{not_says}
use Rattle.wire.specs.Part.{part}
use Rattle.wire.proofs.Part.{length_part}
use Rattle.packet.specs.Read.{PacketReading, read_packet}
use Rattle.packet.proofs.Reading.{payload_inside}
use Rattle.joiner_read.specs.Arrive.{arrived_by, arrival_of}
use Rattle.joiner_read.proofs.Arriving.{arrived_short}
use Rattle.joiner_step.specs.Choice.{Arrived}
use Rattle.joiner_step.specs.Step.{Accepted, accepted}
use Rattle.joiner_step.proofs.Handed.{Few, step_few}
use Rattle.joiner_feed.specs.Content.{Content, Timed, timed}
use Rattle.joiner_feed.specs.H264.{check}
use Rattle.joiner_feed.proofs.Handed.{few_handed}
use Rattle.joiner.specs.declared.Joiner.{Joiner}
use Rattle.joiner.specs.Join.{Known, known, arrived_in, choice, avc_of, choice_of, kept_of, join_step}

-- a payload that was read is no longer than a packet may be
payload_short : (packet : List ℕ) (a : Arrived Known) → arrived_in packet (read_packet packet) ≡ says a → length a.known.payload ≤ 65535
payload_short packet a e = go (read_packet packet) refl e
  where
    go : (x : Said PacketReading) → read_packet packet ≡ x → arrived_in packet x ≡ says a → length a.known.payload ≤ 65535
    go (refused r) is came = absurd (not_says came)
    go (says r) is came =
        let same : record { source = r.fields.source; number = r.fields.number; known = known r.fields.time (part packet r.payload.place r.payload.len) } ≡ a = cc in
        let fits : r.payload.place + r.payload.len ≤ length packet = payload_inside packet r is in
        omega (arith, fits, length_part packet r.payload.place r.payload.len fits, ap (λ (b : Arrived Known). length b.known.payload) same, arrived_short packet (arrived_by r) (ap arrival_of is))

-- the content, without its time
untimed : (time : ℕ) (x : Said Content) (t : Timed) → timed time x ≡ says t → x ≡ says t.content
untimed time (refused r) t e = absurd (not_says e)
untimed time (says x) t e = cc

few : (avc : Bool) → Few (choice avc) 16777220
few avc packet a reads t passes run y does =
    few_handed avc a.known.payload (payload_short packet a reads) t.content (untimed a.known.time (check a.known.payload) t passes) run t.time y does

pub few_bytes : (j : Joiner) (packet gather out : List ℕ) (a : Accepted) → (join_step j packet gather out).answer ≡ says (accepted a) → a.bytes ≤ 16777220
unfolding join_step
few_bytes j packet gather out = step_few (choice_of j) 16777220 (few (avc_of j)) (kept_of j) packet gather out
