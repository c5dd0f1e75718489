-- What each packet adds to the account. Assumes nothing.
use Rattle.std.specs.Prelude.{ℕ, ◌+◌, ◌%◌, ◌^◌, cond, replicate, ◌==◌, slice_index, slice_set}
use Rattle.error.specs.declared.Error.{Error}
use Rattle.error.specs.Refusal.{number_of}
use Rattle.join.specs.declared.account.Account.{Account}
use Rattle.join.specs.declared.units.Units.{Units}

-- a count and k more
abbrev pub counted : ℕ → ℕ → ℕ
counted n k = (n + k) % 2 ^ 64

abbrev pub nothing_yet : Account
nothing_yet =
    record {
      packets = 0;
      accepted = 0;
      late = 0;
      others = 0;
      refused = replicate 256 0;
      units = 0;
      marked = 0;
      bytes = 0;
    }

-- an accepted packet, with what it handed out
unfoldable pub accepted_by : Units → ℕ → Account → Account
accepted_by units bytes a =
    record {
      packets = counted a.packets 1;
      accepted = counted a.accepted 1;
      late = a.late;
      others = a.others;
      refused = a.refused;
      units = counted a.units units.count;
      marked = counted a.marked units.marked;
      bytes = counted a.bytes bytes;
    }

-- a late packet adds to nothing else
unfoldable pub came_late : Account → Account
came_late a =
    record {
      packets = counted a.packets 1;
      accepted = a.accepted;
      late = counted a.late 1;
      others = a.others;
      refused = a.refused;
      units = a.units;
      marked = a.marked;
      bytes = a.bytes;
    }

abbrev pub of_another : Account → Account
of_another a =
    record {
      packets = counted a.packets 1;
      accepted = a.accepted;
      late = a.late;
      others = counted a.others 1;
      refused = a.refused;
      units = a.units;
      marked = a.marked;
      bytes = a.bytes;
    }

abbrev pub by_number : ℕ → Account → Account
by_number n a =
    record {
      packets = counted a.packets 1;
      accepted = a.accepted;
      late = a.late;
      others = a.others;
      refused = slice_set a.refused n (counted (slice_index a.refused n) 1);
      units = a.units;
      marked = a.marked;
      bytes = a.bytes;
    }

-- a refused packet: of another source where the number is 20, else by its number
unfoldable pub refused_by : Error → Account → Account
refused_by e a = cond (number_of e == 20) (of_another a) (by_number (number_of e) a)
