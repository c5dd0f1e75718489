-- The limits of a record. Assumes nothing.
use Rattle.std.specs.Prelude.{Bool, ◌&&◌, List, ℕ, leb, take}
use Rattle.elements.specs.Elements.{sum}

-- "counts and lengths in a record that lie within its arrays", "15 CSRCs; 32 extension elements holding 1,024 data bytes in
-- all", "extensions_padding in any record up to 262,140"
abbrev pub in_limits : ℕ → ℕ → List ℕ → ℕ → Bool
in_limits csrcs count lens pads =
    leb csrcs 15 && (leb count 32 && (leb (sum (take count lens)) 1024 && leb pads 262140))
