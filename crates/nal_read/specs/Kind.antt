-- What an H.264 payload is, by its first bytes: the paper's "The reader refuses 0 or 1 byte, and 2 bytes unless type 9", and its
-- refusal 19. Assumes nothing.
use Rattle.std.specs.Prelude.{Bool, cond, List, ℕ, ◌+◌, ◌*◌, ◌/◌, ◌%◌, leb, eqb, length, get_or}
use Rattle.wire.specs.Net.{bit}

pub data Shape : Type 0 where
  -- too short
  short : Shape
  -- a type that is not handled
  unknown : (type : ℕ) → Shape
  -- a unit by itself
  plain : Shape
  -- a STAP-A
  aggregate : Shape
  -- an FU-A: its start and end bits, and the first byte of the unit it belongs to: NRI and type
  fragment : (first last : Bool) (head : ℕ) → Shape

-- RFC 6184, section 5.8: NRI of the FU indicator, type of the FU header
abbrev pub head_of : ℕ → ℕ → ℕ
head_of a b = a / 32 % 4 * 32 + b % 32

-- "NAL type 0, 25..27, 29..31": `t` is the type, `a` and `b` the first two bytes
abbrev pub shape_by : ℕ → ℕ → ℕ → Shape
shape_by t a b =
    cond (eqb t 24) aggregate
    (cond (eqb t 28) (fragment (bit (b / 128)) (bit (b / 64)) (head_of a b))
    (cond (eqb t 0) (unknown t) (cond (leb t 23) plain (unknown t))))

-- "refuses 0 or 1 byte, and 2 bytes unless type 9"
abbrev pub shape_of : ℕ → List ℕ → Shape
shape_of t s =
    cond (leb (length s) 1) short
    (cond (leb (length s) 2) (cond (eqb t 9) plain short) (shape_by t (get_or s 0 0) (get_or s 1 0)))

-- the type is the low five bits of the first byte
unfoldable pub shape : List ℕ → Shape
shape s = shape_of (get_or s 0 0 % 32) s
