-- What the steps of a call say of one another. Assumes nothing.
use Rattle.std.specs.Prelude.{◌≡◌, List, ℕ, Result, Ok, Err}
use Rattle.error.specs.declared.Error.{Error}
use Rattle.error.specs.Said.{Said, says, refused}
use Rattle.h264_put.specs.Groups.{Saved}
use Rattle.h264_walk.specs.Waiting.{saved_at, Waits}
use Rattle.h264.specs.declared.deliver_frame.Delivered.{Delivered}
use Rattle.h264.specs.declared.send.Written.{Written}
use Rattle.h264.specs.Payload.{LeftIn, left_with}

-- what is so after a call that said this: as it came beside a refusal
abbrev pub state_by : {S : Type 0} → Said Written → S → S → S
state_by (says c) old new = new
state_by (refused r) old new = old

-- an answer, output and table leave l: the sets that wait then lie where the answer says, and beside a refusal those that waited before do
abbrev pub Delivers : (sps pps frame : List ℕ) → Saved → LeftIn Saved → Result Delivered Error → (out ends : List ℕ) → Type 0
Delivers sps pps frame before l (Ok d) out ends = Waits sps pps frame d.waiting × (left_with (saved_at sps pps frame d.waiting) (Ok d.written) out ends ≡ l)
Delivers sps pps frame before l (Err e) out ends = left_with before (Err e) out ends ≡ l
