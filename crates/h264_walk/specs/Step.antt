-- What the steps between a frame's units and its packets say of one another. Assumes nothing.
use Rattle.std.specs.Prelude.{◌≡◌, List, false, ℕ, ◌-◌, ◌≤◌, length, take, drop}
use Rattle.wire.specs.Packets.{Sink, Room, put_all}
use Rattle.h264_put.specs.Groups.{Saved, Group, groups_for, packets_of}
use Rattle.h264_put.specs.Step.{too_long}
use Rattle.h264_walk.specs.declared.places.Waiting.{Waiting}
use Rattle.h264_walk.specs.Waiting.{saved_at, Waits}

-- the unit of a frame from `start` to `end`
abbrev pub unit_in : List ℕ → ℕ → ℕ → List ℕ
unit_in frame start end = take (end - start) (drop start frame)

-- a unit can be sent: it is a part of the frame and no set over the limit, and there is room for what is sent
pub record Ready (sps pps frame : List ℕ) (w : Waiting) (start end mtu : ℕ) (s : Sink) : Type 0 where
  pub waits : Waits sps pps frame w
  pub from : start ≤ end
  pub within : end ≤ length frame
  pub few : length frame ≤ 16777216
  pub short : too_long (unit_in frame start end) ≡ false
  pub room : Room s (packets_of (groups_for mtu (saved_at sps pps frame w) (unit_in frame start end)))

-- groups were sent: what waits then, and the packets put into the sink s
pub record Done (sps pps frame : List ℕ) (kept : Saved) (groups : List Group) (s : Sink) (w : Waiting) (s' : Sink) : Type 0 where
  pub waits : Waits sps pps frame w
  pub state : saved_at sps pps frame w ≡ kept
  pub put : s' ≡ put_all s (packets_of groups)
