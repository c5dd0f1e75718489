-- The units of an aggregation packet behind its header: a 16-bit size in network order before each unit. How a size that is wrong is refused
-- is the codec's own. Assumes nothing.
use Rattle.std.specs.Prelude.{cond, List, [], ◌∷◌, ◌++◌, ℕ, ◌+◌, ◌*◌, ◌<◌, ltb, length, take, drop}
use Rattle.error.specs.Refusal.{Refusal}
use Rattle.error.specs.Said.{Said, says, refused}
use Rattle.wire.specs.Each.{Each}
use Rattle.wire.specs.Net.{be16}
use Rattle.wire.specs.Turns.{Turn, more, done, run}

-- what the sizes give, or what is wrong at the first place
pub data Unpacked (A : Type 0) : Type 0 where
  right : A → Unpacked A
  -- a size past the packet, and the bytes left
  past : (size left : ℕ) → Unpacked A
  -- one byte left where a two-byte size is needed
  lone : Unpacked A

pub record Unpacking : Type 0 where
  -- the bytes not yet read
  pub rest : List ℕ
  pub units : List (List ℕ)

abbrev pub sized : ℕ → List ℕ → List (List ℕ) → Turn Unpacking (Unpacked (List (List ℕ)))
sized size rest units =
    cond (ltb (length rest) size) (done (past size (length rest)))
    (more (record { rest = drop size rest; units = units ++ (take size rest ∷ []) }))

abbrev pub unpack_by : List ℕ → List (List ℕ) → Turn Unpacking (Unpacked (List (List ℕ)))
unpack_by [] units = done (right units)
unpack_by (a ∷ []) units = done lone
unpack_by (a ∷ b ∷ rest) units = sized (a * 256 + b) rest units

unfoldable pub unpack_turn : Unpacking → Turn Unpacking (Unpacked (List (List ℕ)))
unpack_turn u = unpack_by u.rest u.units

-- each turn reads two bytes at least, so that one more than the length is enough
unfoldable pub unpack : List ℕ → Unpacked (List (List ℕ))
unpack s = run unpack_turn lone (length s + 1) (record { rest = s; units = [] })

-- a codec's refusals of the two
abbrev pub said_by : {A : Type 0} → (ℕ → ℕ → Refusal) → Refusal → Unpacked A → Said A
said_by at_past at_lone (right a) = says a
said_by at_past at_lone (past size left) = refused (at_past size left)
said_by at_past at_lone lone = refused at_lone

-- the units, where the sizes are right
abbrev pub units_in : Unpacked (List (List ℕ)) → List (List ℕ)
units_in (right units) = units
units_in (past size left) = []
units_in lone = []

-- the other way round: units, each behind its size
abbrev pub sized_units : List (List ℕ) → List ℕ
sized_units [] = []
sized_units (u ∷ us) = be16 (length u) ++ (u ++ sized_units us)

-- each unit's length can be said in two bytes
abbrev pub Sized : List (List ℕ) → Type 0
Sized = Each (λ (u : List ℕ). length u < 65536)
