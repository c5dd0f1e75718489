-- RFC 7741, section 4.2: what it is for packets to carry an encoded frame of which the sender knows the octets alone: neither where its
-- partitions begin, nor its layers, nor whether other frames refer to it. Assumes nothing.
use Rattle.std.specs.Prelude.{◌≡◌, List, [], ◌∷◌, ◌++◌, map, ℕ, ◌<◌, length}
use Rattle.std.proofs.Math.Option.{none}
use Rattle.rfc7741.specs.Descriptor.{Descriptor, plain, extended, Required, PictureId, absent, neither, octets, Lawful}

-- one packet's payload: the descriptor, and the octets of the frame behind it
pub record Piece : Type 0 where
  pub descriptor : Descriptor
  pub part : List ℕ

abbrev pub packet_of : Piece → List ℕ
packet_of p = octets p.descriptor ++ p.part

abbrev pub required : Descriptor → Required
required (plain d) = d
required (extended d e) = d

abbrev pub picture_id_of : Descriptor → PictureId
picture_id_of (plain d) = absent
picture_id_of (extended d e) = e.picture_id

abbrev pub rsv_of : Descriptor → ℕ
rsv_of (plain d) = 0
rsv_of (extended d e) = e.rsv

-- neither TL0PICIDX nor the octet of T and K
abbrev pub NoLayers : Descriptor → Type 0
NoLayers (plain d) = Unit
NoLayers (extended d e) = (e.tl0picidx ≡ none) × (e.layers ≡ neither)

-- that sender's descriptor: lawful, its reserved bits 0, with the frame's PictureID; S as said; and something of the frame behind it
pub record Sends (id : PictureId) (start : ℕ) (p : Piece) : Type 0 where
  pub lawful : Lawful p.descriptor
  pub r : (required p.descriptor).r ≡ 0
  -- 0 where it is not known whether other frames refer to this one
  pub n : (required p.descriptor).n ≡ 0
  pub r2 : (required p.descriptor).r2 ≡ 0
  -- it may be kept at 0 for all packets
  pub pid : (required p.descriptor).pid ≡ 0
  pub layers : NoLayers p.descriptor
  pub rsv : rsv_of p.descriptor ≡ 0
  pub s : (required p.descriptor).s ≡ start
  pub picture_id : picture_id_of p.descriptor ≡ id
  pub some : 0 < length p.part

abbrev pub AllSend : PictureId → List Piece → Type 0
AllSend id [] = Unit
AllSend id (p ∷ ps) = Sends id 0 p × AllSend id ps

-- S is 1 on the first packet of each encoded frame, and as all have one PID, on no other. One PictureID for all of them
abbrev pub StartsOnce : PictureId → List Piece → Type 0
StartsOnce id [] = Unit
StartsOnce id (p ∷ ps) = Sends id 1 p × AllSend id ps

abbrev pub parts : List Piece → List ℕ
parts [] = []
parts (p ∷ ps) = p.part ++ parts ps

-- the packets carry the frame, under this PictureID
pub record Carries (id : PictureId) (frame : List ℕ) (packets : List (List ℕ)) : Type 0 where
  pub pieces : List Piece
  pub are : packets ≡ map packet_of pieces
  pub started : StartsOnce id pieces
  pub whole : parts pieces ≡ frame
