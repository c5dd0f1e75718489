-- A list of packets in one output, with a table of their ends. Assumes nothing.
use Rattle.std.specs.Prelude.{List, [], ◌∷◌, ◌++◌, ℕ, ◌+◌, ◌-◌, ◌≤◌, length, set}
use Rattle.wire.specs.Part.{splice, part}

-- the packets' bytes, one packet behind the other
abbrev pub joined : List (List ℕ) → List ℕ
joined [] = []
joined (p ∷ ps) = p ++ joined ps

-- where each packet ends, the first of them starting at `at`
abbrev pub ends_from : ℕ → List (List ℕ) → List ℕ
ends_from at [] = []
ends_from at (p ∷ ps) = (at + length p) ∷ ends_from (at + length p) ps

-- an output cut at these ends, the first part starting at `at`
abbrev pub cut : List ℕ → ℕ → List ℕ → List (List ℕ)
cut out at [] = []
cut out at (end ∷ ends) = part out at (end - at) ∷ cut out end ends

-- an output and a table of ends while packets are written into them
pub record Sink : Type 0 where
  -- the output's bytes, of which the first `at` are written
  pub out : List ℕ
  pub at : ℕ
  -- the table, of which the first `n` places are written
  pub ends : List ℕ
  pub n : ℕ

-- one packet more
unfoldable pub put : Sink → List ℕ → Sink
put s p =
    record {
      out = splice s.out s.at p;
      at = s.at + length p;
      ends = set s.ends s.n (s.at + length p);
      n = s.n + 1;
    }

abbrev pub put_all : Sink → List (List ℕ) → Sink
put_all s [] = s
put_all s (p ∷ ps) = put_all (put s p) ps

-- the sink when all the packets have been put: one part replaced in the output, one in the table
unfoldable pub whole : Sink → List (List ℕ) → Sink
whole s ps =
    record {
      out = splice s.out s.at (joined ps);
      at = s.at + length (joined ps);
      ends = splice s.ends s.n (ends_from s.at ps);
      n = s.n + length ps;
    }

-- output and table have room for the packets
pub record Room (s : Sink) (ps : List (List ℕ)) : Type 0 where
  pub bytes : s.at + length (joined ps) ≤ length s.out
  pub places : s.n + length ps ≤ length s.ends
