-- The account of a sending, as text. Assumes nothing.
use Rattle.std.specs.Prelude.{ℕ, List, ◌++◌, codes, decimal}
use Rattle.send.specs.declared.packets.Sending.{Sending}

-- a line: what is counted, and how many
abbrev pub line : List ℕ → ℕ → List ℕ → List ℕ
line name n rest = name ++ (decimal n ++ rest)

-- what was sent, what was dropped, and the number after the last, each in a line
unfoldable pub account_text : Sending → List ℕ
account_text s =
    line (codes "access units ") s.frames (line (codes "\npackets ") s.packets (line (codes "\nunits dropped for the mtu ") s.units_dropped (line (codes "\npairs dropped for the mtu ") s.pairs_dropped (line (codes "\nend ") s.number (codes "\n")))))
