-- A show played through a joiner, ours or any other, call after call. Assumes nothing.
use Rattle.std.specs.Prelude.{Bool, false, List, map, ℕ}
use Rattle.sequence.specs.Number.{number_of}
use Rattle.sequence.specs.Joiner.{bytes_of}
use Rattle.joiner_step.specs.Play.{steps, joiner_after}
use Rattle.joiner.specs.declared.Joiner.{Joiner}
use Rattle.joiner.specs.Join.{Stepped, ClosingStepped, join_step, close_step, opened}
use Rattle.delivery.specs.Show.{Show, packet, count}

-- a joiner, whatever it does: how it is opened with an SSRC and a first number, its call for a packet, and its closing
pub record Machine : Type 0 where
  pub opening : ℕ → ℕ → Joiner
  -- the record, the packet, the gather buffer and the output as they come
  pub step : Joiner → List ℕ → List ℕ → List ℕ → Stepped
  pub close : Joiner → ℕ → ClosingStepped

-- ours: the definitions that the contracts of `open`, `join` and `close` cite
abbrev pub our_joiner : Machine
our_joiner = record { opening = opened; step = join_step; close = close_step }

-- the prefix that it hands units out behind, a start code: not a 4-byte length
abbrev pub annex_b : Bool
annex_b = false

module _ (m : Machine) (w : Show) where
  -- these bytes arrive: "The joiner is opened with the sender's SSRC and first"
  abbrev pub played_on : List (List ℕ) → List Stepped
  played_on bytes = steps m.step (m.opening w.source w.first) w.gather w.outs bytes

  -- "Closing takes the number after the last sent"
  abbrev pub closing_on : List (List ℕ) → ClosingStepped
  closing_on bytes =
      m.close (joiner_after m.step (m.opening w.source w.first) w.gather w.outs bytes) (number_of w.first (count w))

-- what arrives of the show's packets, and beside them
abbrev pub arriving : Show → List (List ℕ)
arriving w = map (bytes_of (packet w)) w.arrivals

abbrev pub played : Machine → Show → List Stepped
played m w = played_on m w (arriving w)

abbrev pub closing : Machine → Show → ClosingStepped
closing m w = closing_on m w (arriving w)
