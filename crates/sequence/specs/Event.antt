-- What a sequence rule makes of the arrivals: the packets in order, with holes. Assumes nothing.
use Rattle.std.specs.Prelude.{ℕ, zero, suc, ◌+◌, Bool, cond, List, [], ◌∷◌}

pub data Event (P : Type 0) : Type 0 where
  -- the next number was passed over
  lost : Event P
  -- the packet of the next number, which is that of this call
  got : P → Event P
  -- the packet of the next number, out of a hold
  held : P → Event P

module _ {P : Type 0} where
  -- d holes in front
  abbrev pub holes : ℕ → List (Event P) → List (Event P)
  holes zero es = es
  holes (suc d) es = lost ∷ holes d es

  abbrev pub lost_in : List (Event P) → ℕ
  lost_in [] = 0
  lost_in (lost ∷ es) = 1 + lost_in es
  lost_in (got p ∷ es) = lost_in es
  lost_in (held p ∷ es) = lost_in es

  -- how many packets are joined
  abbrev pub got_in : List (Event P) → ℕ
  got_in [] = 0
  got_in (lost ∷ es) = got_in es
  got_in (got p ∷ es) = 1 + got_in es
  got_in (held p ∷ es) = 1 + got_in es

  -- the same events, wherever a packet came from
  abbrev pub as_got : Event P → Event P
  as_got lost = lost
  as_got (got p) = got p
  as_got (held p) = got p

  abbrev pub event_of : Bool → P → Event P
  event_of came p = cond came (got p) lost

  -- packets from index i on, with a hole for each that did not come
  abbrev pub seen : (ℕ → Bool) → ℕ → List P → List (Event P)
  seen came i [] = []
  seen came i (p ∷ ps) = event_of (came i) p ∷ seen came (suc i) ps
