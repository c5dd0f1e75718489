-- The part of a file that stands in a buffer. Assumes nothing.
use Rattle.std.specs.Prelude.{◌≡◌, ℕ, ◌-◌, ◌≤◌, List, length, take, None}
use Rattle.wire.specs.Part.{part}
use Rattle.stream.specs.declared.window.Window.{Window}

abbrev pub nothing_read : Window
nothing_read = record { at = 0; end = 0; ended = None }

abbrev pub from : ℕ → Window → Window
from at w = record { at = at; end = w.end; ended = w.ended }

-- the window lies within a buffer of `size` bytes
pub record Within (w : Window) (size : ℕ) : Type 0 where
  pub ordered : w.at ≤ w.end
  pub inside : w.end ≤ size

-- what was not taken yet stands in front, and whatever was read behind it
pub record Refilled (w : Window) (before : List ℕ) (r : Window) (after : List ℕ) : Type 0 where
  pub start : r.at ≡ 0
  pub kept : take (w.end - w.at) after ≡ part before w.at (w.end - w.at)
  pub more : w.end - w.at ≤ r.end
  pub inside : r.end ≤ length after
