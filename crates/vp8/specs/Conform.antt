-- What RFC 7741 asks of a reader and of a sender, as properties that any reader and any sender may have or not. Assumes nothing.
use Rattle.std.specs.Prelude.{◌≡◌, Bool, true, false, cond, List, [], ◌∷◌, ◌++◌, map, ℕ, ◌+◌, ◌≤◌, ◌<◌, ltb, length}
use Rattle.std.proofs.Math.Option.{Option, none, some}
use Rattle.error.specs.Said.{says}
use Rattle.rfc7741.specs.Descriptor.{Required, PictureId, absent, short, long, Layers, neither, only_t, only_k, both_tk, Extension, Descriptor, extended, flag_i, flag_l, flag_t, flag_k, octets, Lawful, Strays}
use Rattle.rfc7741.specs.Frame.{Carries}
use Rattle.vp8_read.specs.declared.Vp8Packet.{Vp8Packet}
use Rattle.vp8_send.specs.declared.Vp8Payloader.{Vp8Payloader}
use Rattle.vp8_read.specs.Read.{put_required, put_flags, put_picture_id, put_tl0, put_tid, put_key, Reading}
use Rattle.vp8_send.specs.Send.{header_size}

-- ---- reading

abbrev pub TellsId : PictureId → ℕ → Type 0
TellsId absent id = Unit
TellsId (short n) id = id ≡ n
TellsId (long n) id = id ≡ n

abbrev pub TellsTl0 : Option ℕ → ℕ → Type 0
TellsTl0 none index = Unit
TellsTl0 (some n) index = index ≡ n

abbrev pub TellsLayers : Layers → Vp8Packet → Type 0
TellsLayers neither p = Unit
TellsLayers (only_t o) p = (p.tid ≡ o.tid) × (p.y ≡ o.y)
TellsLayers (only_k o) p = p.key_idx ≡ o.keyidx
TellsLayers (both_tk o) p = (p.tid ≡ o.tid) × (p.y ≡ o.y) × (p.key_idx ≡ o.keyidx)

-- the record says the descriptor's fields: X, N, S, PID, the flags, and each optional field that is there
pub record Tells (d : Required) (e : Extension) (p : Vp8Packet) : Type 0 where
  pub x : p.x ≡ 1
  pub n : p.n ≡ d.n
  pub s : p.s ≡ d.s
  pub pid : p.pid ≡ d.pid
  pub i : p.i ≡ flag_i e.picture_id
  pub l : p.l ≡ flag_l e.tl0picidx
  pub t : p.t ≡ flag_t e.layers
  pub k : p.k ≡ flag_k e.layers
  pub picture_id : TellsId e.picture_id p.picture_id
  pub tl0 : TellsTl0 e.tl0picidx p.tl0_pic_idx
  pub layers : TellsLayers e.layers p

-- a packet that the paper has read: such a descriptor with X set, a payload behind it, 4 bytes or more, and within the limits
pub record Readable (Such : Descriptor → Type 0) (old : Vp8Packet) (d : Required) (e : Extension) (payload : List ℕ) : Type 0 where
  pub descriptor : Such (extended d e)
  pub some : 0 < length payload
  pub least : 4 ≤ length (octets (extended d e) ++ payload)
  pub most : length (octets (extended d e) ++ payload) ≤ 65535
  pub id : old.picture_id ≤ 32767

-- COMPLETE: each packet with such a descriptor is read as its fields and its payload, whatever the old fields were. The RFC asks it of
-- `Lawful` ones; of all `Formed` ones it is more
abbrev pub Complete : (Descriptor → Type 0) → (Vp8Packet → List ℕ → Reading) → Type 0
Complete Such read =
    (old : Vp8Packet) (d : Required) (e : Extension) (payload : List ℕ) → Readable Such old d e payload →
    Tells d e (read old (octets (extended d e) ++ payload)).packet
    × ((read old (octets (extended d e) ++ payload)).said ≡ says (length (octets (extended d e))))

-- the packet is such a descriptor with X set and a payload behind it, which begins at this place
pub record Bears (Such : Descriptor → Type 0) (s : List ℕ) (at : ℕ) : Type 0 where
  pub required : Required
  pub extension : Extension
  pub payload : List ℕ
  pub descriptor : Such (extended required extension)
  pub laid : s ≡ octets (extended required extension) ++ payload
  pub some : 0 < length payload
  pub place : at ≡ length (octets (extended required extension))

abbrev pub Conforms : List ℕ → ℕ → Type 0
Conforms = Bears Lawful

-- the one deviation that is accepted with X set: L is 1 and T is 0
abbrev pub Deviates : List ℕ → ℕ → Type 0
Deviates = Bears Strays

-- ---- the fields exactly: those of the descriptor, and the old ones where it leaves a field out

abbrev pub tell_id : PictureId → Vp8Packet → Vp8Packet
tell_id absent p = p
tell_id (short n) p = put_picture_id n p
tell_id (long n) p = put_picture_id n p

abbrev pub tell_tl0 : Option ℕ → Vp8Packet → Vp8Packet
tell_tl0 none p = p
tell_tl0 (some n) p = put_tl0 n p

abbrev pub tell_layers : Layers → Vp8Packet → Vp8Packet
tell_layers neither p = p
tell_layers (only_t o) p = put_tid o.tid o.y p
tell_layers (only_k o) p = put_key o.keyidx p
tell_layers (both_tk o) p = put_key o.keyidx (put_tid o.tid o.y p)

-- the fields when the flags have been read, when the picture id has, when TL0PICIDX has, and all of them
abbrev pub fields_flags : Required → Extension → Vp8Packet → Vp8Packet
fields_flags d e old =
    put_flags (flag_i e.picture_id) (flag_l e.tl0picidx) (flag_t e.layers) (flag_k e.layers) (put_required 1 d.n d.s d.pid old)

abbrev pub fields_id : Required → Extension → Vp8Packet → Vp8Packet
fields_id d e old = tell_id e.picture_id (fields_flags d e old)

abbrev pub fields_tl0 : Required → Extension → Vp8Packet → Vp8Packet
fields_tl0 d e old = tell_tl0 e.tl0picidx (fields_id d e old)

abbrev pub fields : Required → Extension → Vp8Packet → Vp8Packet
fields d e old = tell_layers e.layers (fields_tl0 d e old)

-- ---- sending

abbrev pub start_flag : Bool → ℕ
start_flag true = 1
start_flag false = 0

-- the PictureID of a frame's packets: 7 bits while they hold it, else 15
unfoldable pub shown_id : Vp8Payloader → PictureId
shown_id v = cond v.enable_picture_id (cond (ltb v.picture_id 128) (short v.picture_id) (long v.picture_id)) absent

abbrev pub AtMost : ℕ → List (List ℕ) → Type 0
AtMost mtu [] = Unit
AtMost mtu (p ∷ ps) = (length p ≤ mtu) × AtMost mtu ps

-- a frame that the paper has sent: not empty, and an mtu above the header
pub record Sendable (v : Vp8Payloader) (mtu : ℕ) (frame : List ℕ) : Type 0 where
  pub some : 0 < length frame
  pub above : header_size v < mtu
  pub id : v.picture_id ≤ 32767

-- each frame is carried, under one PictureID, by packets of at most mtu bytes
abbrev pub SendsFrames : (Vp8Payloader → ℕ → List ℕ → List (List ℕ)) → Type 0
SendsFrames send =
    (v : Vp8Payloader) (mtu : ℕ) (frame : List ℕ) → Sendable v mtu frame →
    Carries (shown_id v) frame (send v mtu frame) × AtMost mtu (send v mtu frame)

-- k more in a packet's first octet: PID 1 for 0 where k is 1, S for none where it is 16
abbrev pub with_more : ℕ → List ℕ → List ℕ
with_more k [] = []
with_more k (b ∷ p) = (b + k) ∷ p

-- that in each packet of a frame but the first
abbrev pub with_more_behind : ℕ → List (List ℕ) → List (List ℕ)
with_more_behind k [] = []
with_more_behind k (p ∷ ps) = p ∷ map (with_more k) ps

-- what is sent with its id is read by this crate's own reader: the payload, the id and S
abbrev pub Own : Vp8Payloader → Bool → Reading → Type 0
Own v start r = (r.said ≡ says (header_size v)) × (r.packet.picture_id ≡ v.picture_id) × (r.packet.s ≡ start_flag start)
