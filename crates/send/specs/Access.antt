-- Where the access units of an Annex B stream begin, by H.264, section 7.4.1.2.3; a picture's first slice is told by its first
-- macroblock. Assumes nothing.
use Rattle.std.specs.Prelude.{ℕ, ◌+◌, ◌%◌, Bool, false, cond, ◌&&◌, ◌||◌, List, length, Option, None, Some, ◌==◌, nat_le, nat_lt, slice_index}
use Rattle.wire.specs.Turns.{Turn, more, done, run}
use Rattle.annexb.specs.declared.Code.{Code}
use Rattle.annexb.specs.Search.{next_code}

-- types 1 to 5: a coded slice, or a partition of one
abbrev pub is_slice : ℕ → Bool
is_slice head = nat_le 1 (head % 32) && nat_le (head % 32) 5

-- types 6 to 9 and 14 to 18 stand before a picture's slices
abbrev pub is_before : ℕ → Bool
is_before t = (nat_le 6 t && nat_le t 9) || (nat_le 14 t && nat_le t 18)

-- a slice, or the first partition of one, that has a header
abbrev pub has_header : ℕ → Bool
has_header t = t == 1 || (t == 2 || t == 5)

-- a unit begins an access unit behind a slice: it stands before slices, or is one whose first_mb_in_slice is 0, which is coded
-- as a single bit 1
abbrev pub begins : ℕ → ℕ → Bool
begins head next = is_before (head % 32) || (has_header (head % 32) && nat_le 128 next)

-- how far the units are looked at, and whether a slice is among them
pub record Looked : Type 0 where
  pub start : ℕ
  pub coded : Bool

-- a unit at the place `unit`, behind the start code at `at`
abbrev pub judged : List ℕ → Bool → ℕ → ℕ → Turn Looked (Option ℕ)
judged s coded at unit =
    cond (nat_lt (length s) (unit + 2)) (done None)
    (cond (coded && begins (slice_index s unit) (slice_index s (unit + 1))) (done (Some at))
    (more (record { start = unit; coded = coded || is_slice (slice_index s unit) })))

abbrev pub by_code : List ℕ → Bool → Option Code → Turn Looked (Option ℕ)
by_code s coded (Some code) = judged s coded code.at (code.at + code.len)
by_code s coded None = done None

-- the next unit
unfoldable pub look : List ℕ → Looked → Turn Looked (Option ℕ)
look s l = by_code s l.coded (next_code s l.start)

-- the start code before the second access unit; none where the bytes end before it is certain
unfoldable pub edge_of : List ℕ → Option ℕ
edge_of s = run (look s) None (length s + 1) (record { start = 0; coded = false })

-- all of the bytes, where a start code is there
abbrev pub all_by : List ℕ → Option Code → Option ℕ
all_by s (Some code) = Some (length s)
all_by s None = None

abbrev pub len_by : List ℕ → Bool → Option ℕ → Option ℕ
len_by s ended (Some n) = Some n
len_by s ended None = cond ended (all_by s (next_code s 0)) None

-- how long the first access unit is, where the file may end with these bytes: none where that is not certain, or no start code is there
unfoldable pub first_len : List ℕ → Bool → Option ℕ
first_len s ended = len_by s ended (edge_of s)
