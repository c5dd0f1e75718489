-- What the sender's inner functions ask. Assumes nothing.
use Rattle.std.specs.Prelude.{true, List, ℕ, ◌≤◌, ◌<◌, length}
use Rattle.wire.specs.Packets.{Room}
use Rattle.vp8_send.specs.declared.Vp8Payloader.{Vp8Payloader}
use Rattle.vp8_send.specs.Send.{headed, parts_of, from0}

-- frame, mtu and id are within their limits
pub record InDomain (v : Vp8Payloader) (mtu : ℕ) (frame : List ℕ) : Type 0 where
  pub frames : length frame ≤ 16777216
  pub mtus : mtu ≤ 65535
  pub ids : v.picture_id ≤ 32767

-- there are packets of parts of `size` bytes, and room for them
pub record ToWrite (v : Vp8Payloader) (size : ℕ) (frame out ends : List ℕ) : Type 0 where
  pub id : v.picture_id ≤ 32767
  pub positive : 0 < size
  pub some : 0 < length frame
  pub room : Room (from0 out ends) (headed v true (parts_of size frame))
