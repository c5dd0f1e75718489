-- The questions of the paper's section "Worked packets" that are marked with *, and what the definitions answer. Each answer comes from
-- the very definition that a contract cites. Assumes nothing.
use Rattle.std.specs.Prelude.{false, List, [], ◌∷◌, ℕ, ◌-◌, take, drop, replicate}
use Rattle.error.specs.Refusal.{Refusal}
use Rattle.error.specs.Said.{Said, says, refused}
use Rattle.wire.specs.Part.{part}
use Rattle.elements.specs.Elements.{Element}
use Rattle.header.specs.Fields.{lay_out}
use Rattle.header.specs.Read.{Reading, read_header}
use Rattle.packet.specs.Read.{PacketReading, read_packet}
use Rattle.packet.specs.Write.{write_packet}
use Rattle.vp8_read.specs.declared.Vp8Packet.{Vp8Packet}
use Rattle.vp8_read.specs.Read as reader
use Rattle.h264_put.specs.Groups.{nothing_saved}
use Rattle.h264.specs.declared.send.Written.{Written}
use Rattle.h264.specs.Payload.{Left, payload_of}
use Rattle.h264.specs.Payload as sender
use Rattle.nal.specs.Fed.{Laid}
use Rattle.nal.specs.Ran.{RanOn}
use Rattle.h264_packet.specs.Depacketize as h264
use Rattle.joiner_step.specs.Step.{Answer, accepted, late}
use Rattle.joiner.specs.Join.{join_step, opened}

pub data Question : Type 0 where
  -- a header, and what follows it
  header : List ℕ → Question
  -- a whole packet
  packet : List ℕ → Question
  -- a payload written behind the header that these twelve bytes are
  written : List ℕ → List ℕ → Question
  -- a frame through a fresh H.264 sender
  send : (mtu : ℕ) (frame : List ℕ) → Question
  -- an H.264 payload
  depacketize : List ℕ → Question
  -- VP8 payloads, one after the other, into one record
  vp8 : List (List ℕ) → Question
  -- a packet, where source and number are awaited
  join : (source number : ℕ) → List ℕ → Question

pub data Says : Type 0 where
  -- a refusal that carries nothing, by its number
  no : ℕ → Says
  refusal : Refusal → Says
  -- version and type, the elements, extensions_padding, and what lies behind the header
  fields : (version type : ℕ) (elements : List Element) (padding : ℕ) (payload : List ℕ) → Says
  bytes : List ℕ → Says
  packets : List (List ℕ) → Says
  -- the picture id and the payload
  picture : (id : ℕ) (payload : List ℕ) → Says
  -- accepted, so many numbers after the awaited one
  forward : ℕ → Says
  behind : Says

abbrev pub refusing : Refusal → Says
refusing r = none_carried r.carried
  where
    none_carried : List ℕ → Says
    none_carried [] = no r.number
    none_carried (n ∷ ns) = refusal r

abbrev pub header_says : List ℕ → Said Reading → Says
header_says s (says r) =
    fields r.fields.version r.fields.type r.fields.elements r.fields.pads (drop r.place s)
header_says s (refused r) = refusing r

abbrev pub packet_says : List ℕ → Said PacketReading → Says
packet_says s (says r) = bytes (part s r.payload.place r.payload.len)
packet_says s (refused r) = refusing r

-- what is written where there is room for 64 bytes
abbrev pub written_says : List ℕ → Said Reading → Says
written_says payload (refused r) = refusing r
written_says payload (says r) = octets (write_packet (lay_out r.fields) payload 64)
  where
    octets : Said (List ℕ) → Says
    octets (says s) = bytes s
    octets (refused r) = refusing r

-- the packets of an output, by the table of their ends
abbrev pub cut_at : ℕ → List ℕ → List ℕ → List (List ℕ)
cut_at from [] out = []
cut_at from (end ∷ ends) out = take (end - from) out ∷ cut_at end ends (drop (end - from) out)

abbrev pub sent_says : Left → Says
sent_says l = counted l.answer
  where
    counted : Said Written → Says
    counted (says n) = packets (cut_at 0 (take n.packets l.ends) l.out)
    counted (refused r) = refusing r

-- the bytes handed out
abbrev pub read_says : Laid (RanOn ℕ) → Says
read_says l = handed l.answer
  where
    handed : Said (RanOn ℕ) → Says
    handed (says r) = bytes (take r.bytes l.out)
    handed (refused r) = refusing r

abbrev pub picture_says : List ℕ → reader.Reading → Says
picture_says s r = shown r.said
  where
    shown : Said ℕ → Says
    shown (says at) = picture r.packet.picture_id (drop at s)
    shown (refused e) = refusing e

-- what is said of the last one
abbrev pub vp8_says : Vp8Packet → List (List ℕ) → Says
vp8_says p [] = bytes []
vp8_says p (s ∷ []) = picture_says s (reader.depacketized p s)
vp8_says p (s ∷ t ∷ more) = vp8_says (reader.depacketized p s).packet (t ∷ more)

abbrev pub join_says : Said Answer → Says
join_says (says (accepted a)) = forward a.count
join_says (says late) = behind
join_says (refused r) = refusing r

abbrev pub say : Question → Says
say (header s) = header_says s (read_header s)
say (packet s) = packet_says s (read_packet s)
say (written h payload) = written_says payload (read_header h)
say (send mtu frame) = sent_says (payload_of (sender.lay_out nothing_saved) mtu frame (replicate 64 0) (replicate 8 0))
say (depacketize s) = read_says (h264.depacketized false 0 s [] (replicate 64 0))
say (vp8 payloads) = vp8_says reader.blank payloads
say (join source number s) = join_says (join_step (opened source number) s [] (replicate 64 0)).answer
