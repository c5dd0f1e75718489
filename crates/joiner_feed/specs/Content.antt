-- What a packet holds that passed its checks, whatever the codec, and what that does to the open run: the paper's "Plain units and STAP-A drop
-- the run and are handed out as Annex B. A start fragment replaces the run; a continuation without a run yields nothing; the end bit
-- hands the unit out"; E3's "the rebuilt top bit is set if any fragment of the unit had it set"; and E4's "A continuation that follows without a
-- gap but carries another timestamp is refused". Assumes nothing.
use Rattle.std.specs.Prelude.{refl, Bool, false, cond, ◌||◌, not, List, [], ◌∷◌, ◌++◌, ℕ, ◌+◌, ◌%◌, eqb}
use Rattle.error.specs.Said.{Said, says, refused, refuse}
use Rattle.joiner_step.specs.Run.{Units, Run, none, gathering, Does, hands, gathers, ends}
use Rattle.joiner_step.specs.Choice.{Arrived, Choice}

-- ---- what a packet holds

-- a part of what follows a unit's header
pub record Fragment : Type 0 where
  -- the fragment that bears it has its top bit set
  pub marked : Bool
  pub part : List ℕ

abbrev pub part_in : Fragment → List ℕ
part_in f = f.part

-- one behind the other
abbrev pub together : Fragment → Fragment → Fragment
together a b = record { marked = a.marked || b.marked; part = a.part ++ b.part }

-- one of them has its top bit set
abbrev pub marked_in : List Fragment → Bool
marked_in [] = false
marked_in (f ∷ fs) = f.marked || marked_in fs

pub data Content : Type 0 where
  -- units by themselves
  whole : Units → Content
  -- a unit's first fragment, and one between
  start : Fragment → Content
  middle : Fragment → Content
  -- its last fragment, and the unit's header as that has it
  end : (head : List ℕ) → Fragment → Content

-- and the packet's timestamp
pub record Timed : Type 0 where
  pub time : ℕ
  pub content : Content

abbrev pub timed : ℕ → Said Content → Said Timed
timed time (says x) = says (record { time = time; content = x })
timed time (refused r) = refused r

-- ---- what is noted of a run

pub record Note : Type 0 where
  -- a fragment of it had its top bit set
  pub marked : Bool
  -- "All fragments of a unit carry one RTP timestamp" (E4)
  pub time : ℕ

-- where no run is open
abbrev pub blank : Note
blank = record { marked = false; time = 0 }

abbrev pub is_noted : Note → Bool
is_noted note = note.marked || not (eqb note.time 0)

-- with a further fragment
abbrev pub onward : Note → Fragment → Note
onward note f = record { marked = note.marked || f.marked; time = note.time }

-- ---- what a packet does to the open run

-- a byte with its top bit set, or as it is
abbrev pub top_bit : Bool → ℕ → ℕ
top_bit set b = cond set (128 + b % 128) b

-- bytes with the top bit of the first set, or as they are
abbrev pub topped : Bool → List ℕ → List ℕ
topped set [] = []
topped set (b ∷ bytes) = top_bit set b ∷ bytes

-- "25: fragment of another time"
abbrev pub in_time : Note → ℕ → Does Note → Said (Does Note)
in_time note time x = cond (eqb time note.time) (says x) (refuse 25)

abbrev pub fed : Run Note → ℕ → Content → Said (Does Note)
fed run time (whole units) = says (hands units)
fed run time (start f) = says (gathers (record { marked = f.marked; time = time }) f.part)
fed none time (middle f) = says (hands [])
fed (gathering note bytes) time (middle f) = in_time note time (gathers (onward note f) (bytes ++ f.part))
fed none time (end head f) = says (hands [])
fed (gathering note bytes) time (end head f) =
    in_time note time (ends (bytes ++ f.part) (topped (onward note f).marked head ++ (bytes ++ f.part)))

-- a joiner of this reader, these checks and this prefix; `time` is a packet's timestamp
abbrev pub choosing : {P : Type 0} → (List ℕ → Said (Arrived P)) → (time : P → ℕ) → (P → Said Content) → Bool → Choice P Timed Note
choosing reads time check avc =
    record {
      reads = reads;
      check = λ p. timed (time p) (check p);
      feed = λ run x. fed run x.time x.content;
      avc = avc;
      blank = blank;
      noted = is_noted;
      blank_says_nothing = refl;
    }

-- after the checks
abbrev pub fed_after : Run Note → ℕ → Said Content → Said (Does Note)
fed_after run time (says x) = fed run time x
fed_after run time (refused r) = refused r
