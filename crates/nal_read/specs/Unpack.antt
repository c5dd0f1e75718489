-- The units of a STAP-A. RFC 6184, section 5.7.1: behind the first byte a 16-bit size in network order before each unit. Assumes nothing.
use Rattle.std.specs.Prelude.{List, [], ◌∷◌, ℕ, drop}
use Rattle.error.specs.Said.{Said}
use Rattle.nal.specs.Unpack.{Unpacked, said_by}
use Rattle.nal.specs.Unpack as any

-- "17: STAP-A size past the packet (carries size and bytes left)"
-- "18: one byte left where STAP-A needs a two-byte size"
abbrev pub stap_said : {A : Type 0} → Unpacked A → Said A
stap_said =
    said_by (λ (size left : ℕ). record { number = 17; carried = size ∷ left ∷ [] }) (record { number = 18; carried = [] })

unfoldable pub unpack : List ℕ → Said (List (List ℕ))
unpack s = stap_said (any.unpack (drop 1 s))
