-- What a joiner is opened with: a reader, a codec, a prefix, and what is noted of a run. `P` is what is known of a packet, `C` what it holds, `N`
-- what is noted of a run. Assumes nothing.
use Rattle.std.specs.Prelude.{◌≡◌, Bool, false, List, ℕ}
use Rattle.error.specs.Said.{Said}
use Rattle.joiner_step.specs.Run.{Run, Does}

-- what the joiner needs of a packet
pub record Arrived (P : Type 0) : Type 0 where
  pub source : ℕ
  pub number : ℕ
  pub known : P

pub record Choice (P C N : Type 0) : Type 0 where
  -- the reader
  pub reads : List ℕ → Said (Arrived P)
  -- the codec's checks of a packet alone: no run, no room
  pub check : P → Said C
  -- what it does to the open run
  pub feed : Run N → C → Said (Does N)
  -- units are handed out behind a 4-byte length, and not behind a start code
  pub avc : Bool
  -- what is noted where no run is open, and whether something else is
  pub blank : N
  pub noted : N → Bool
  pub blank_says_nothing : noted blank ≡ false
