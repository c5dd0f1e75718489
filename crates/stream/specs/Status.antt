-- How a program ends. Assumes nothing.
use Rattle.std.specs.Prelude.{ℕ, Result, Ok, Err}
use Rattle.stream.specs.declared.status.Status.{Status}
use Rattle.stream.specs.declared.status.Status.TheVariants.{Failed, Usage, Nothing, Cut, NoCode, Long, LongSet, WrongEnd, NoSets, Dropped}

-- the number of what is told
abbrev pub number_of : Status → ℕ
number_of Failed = 1
number_of Usage = 2
number_of Nothing = 3
number_of Cut = 4
number_of NoCode = 5
number_of Long = 6
number_of LongSet = 7
number_of WrongEnd = 8
number_of NoSets = 9
number_of Dropped = 10

-- the exit status: 0 where there is nothing to tell
abbrev pub exit_number : Result Unit Status → ℕ
exit_number (Ok _) = 0
exit_number (Err status) = number_of status
