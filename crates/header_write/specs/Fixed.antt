-- The octets of RFC 3550's figure. Assumes nothing.
use Rattle.std.specs.Prelude.{Bool, true, false, List, [], ◌∷◌, ◌++◌, ℕ, ◌+◌, ◌*◌}
use Rattle.wire.specs.Net.{be16, be32}

abbrev pub flag : Bool → ℕ → ℕ
flag true n = n
flag false n = 0

-- the first two bytes of RFC 3550's figure
abbrev pub first_for : ℕ → Bool → Bool → ℕ → ℕ
first_for version padding extension csrcs = version * 64 + flag padding 32 + flag extension 16 + csrcs

abbrev pub second_for : Bool → ℕ → ℕ
second_for marker type = flag marker 128 + type

abbrev pub csrc_octets : List ℕ → List ℕ
csrc_octets [] = []
csrc_octets (c ∷ cs) = be32 c ++ csrc_octets cs

-- RFC 3550's figure from its first two bytes on: sequence number, timestamp, SSRC, CSRCs
unfoldable pub fixed_for : ℕ → ℕ → ℕ → ℕ → ℕ → List ℕ → List ℕ
fixed_for first second number time source csrcs =
    (first ∷ second ∷ []) ++ (be16 number ++ (be32 time ++ (be32 source ++ csrc_octets csrcs)))
