-- The three joiners that demand 3 "defeats", one that loses marks, and one that does not look at the time, each said of any machine. Assumes nothing.
use Rattle.std.specs.Prelude.{◌≡◌, List, [], ◌∷◌, ℕ, ◌*◌, ◌≤◌, ◌<◌, length, drop, get_or}
use Rattle.wire.specs.Each.{Each}
use Rattle.packet.specs.Plain.{Stamp}
use Rattle.sequence.specs.Arrival.{Arrival}
use Rattle.joiner_step.specs.Play.{handed_in, handed_out}
use Rattle.joiner.specs.Join.{Stepped}
use Rattle.delivery.specs.Show.{Show}
use Rattle.delivery.specs.Play.{Machine, arriving, played, closing}

-- "a joiner that hands out nothing"
abbrev pub Silent : Machine → Type 0
Silent m = (w : Show) → handed_out (played m w) ≡ []

-- a call hands out no more than its own packet can give: the units of a STAP-A, each behind four bytes where its size took two, have
-- less than twice the packet's bytes, and a plain unit has less still
abbrev pub FromItsOwn : List (List ℕ) → List Stepped → Type 0
FromItsOwn [] sts = Unit {0}
FromItsOwn (b ∷ bytes) [] = Unit {0}
FromItsOwn (b ∷ bytes) (st ∷ sts) =
    Each (λ (l : List ℕ). length l ≤ 2 * length b) (handed_in st.answer st.out) × FromItsOwn bytes sts

-- "one that joins in the first call and later only advances its number": no later call joins anything to what came before it
abbrev pub Advancing : Machine → Type 0
Advancing m = (w : Show) → FromItsOwn (drop 1 (arriving w)) (drop 1 (played m w))

-- the same show, of which something else arrives
abbrev pub arriving_as : Show → List (Arrival (List ℕ)) → Show
arriving_as w arrivals =
    record {
      groups = w.groups;
      source = w.source;
      first = w.first;
      stamps = w.stamps;
      gather = w.gather;
      outs = w.outs;
      arrivals = arrivals;
    }

-- "one with an invented missed total": the total is the same whatever arrives
abbrev pub Inventing : Machine → Type 0
Inventing m =
    (w : Show) (arrivals : List (Arrival (List ℕ))) → (closing m (arriving_as w arrivals)).joiner.missed ≡ (closing m w).joiner.missed

-- "the mark is lost" (E3): the unit that stands first in what is handed out, behind a prefix of four bytes, has its top bit clear whatever arrives
abbrev pub Unmarking : Machine → Type 0
Unmarking m = (w : Show) → Each (λ (l : List ℕ). get_or l 4 0 < 128) (handed_out (played m w))

-- the same show, whose packets bear other stamps
abbrev pub stamped_as : Show → (ℕ → Stamp) → Show
stamped_as w stamps =
    record {
      groups = w.groups;
      source = w.source;
      first = w.first;
      stamps = stamps;
      gather = w.gather;
      outs = w.outs;
      arrivals = w.arrivals;
    }

-- a joiner as it was before E4, which does not look at the time: it hands out the same whatever stamps the packets bear
abbrev pub Timeless : Machine → Type 0
Timeless m = (w : Show) (stamps : ℕ → Stamp) → handed_out (played m (stamped_as w stamps)) ≡ handed_out (played m w)
