-- The words in which the differences from RFC 7741 are stated. Assumes nothing.
use Rattle.std.specs.Prelude.{true, ℕ, ◌+◌, ◌*◌}
use Rattle.error.specs.Said.{Said, says, refused}
use Rattle.vp8_read.specs.declared.Vp8Packet.{Vp8Packet}
use Rattle.vp8_send.specs.declared.Vp8Payloader.{Vp8Payloader}
use Rattle.vp8_read.specs.Read.{put_required}

-- the extension octet that would send a record's own flags
abbrev pub flags_octet : Vp8Packet → ℕ
flags_octet p = p.i * 128 + p.l * 64 + p.t * 32 + p.k * 16

abbrev pub without_x : Vp8Packet → Vp8Packet
without_x p = put_required 0 p.n p.s p.pid p

-- the payload one place further on
abbrev pub further : Said ℕ → Said ℕ
further (says at) = says (at + 1)
further (refused r) = refused r

-- a sender that shows its ids, this one next
abbrev pub showing : ℕ → Vp8Payloader
showing id = record { enable_picture_id = true; picture_id = id }
