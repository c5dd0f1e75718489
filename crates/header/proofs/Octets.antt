-- The octets that are written: that they are those of the parts, how many there are, and that the size has room for them.
-- Assumes nothing.
use mathlib.Core.Path.{◌≡◌, refl, ap, ◌∙◌}
use mathlib.Core.Bool.{Bool, true, false, cond}
use Prim.Native.Nat.{◌+◌, ◌*◌, ◌≤◌}
use native.Mathlib.Omega.{arith}
use lib.ListN.{length}
use Rattle.block.specs.Form.{form_of, words_for}
use Rattle.block_write.specs.Write.{block_octets}
use Rattle.block_write.proofs.Octets.{length_block_octets}
use Rattle.header_write.specs.declared.Fixed.{Fixed}
use Rattle.header_write.specs.Parts.{octets_for}
use Rattle.header_write.specs.Size.{size_for}
use Rattle.header_write.proofs.Octets.{length_octets_for}
use Rattle.header.specs.Fields.{Fields}
use Rattle.header.specs.Size.{payload_length, header_size}
use Rattle.header.specs.Write.{octets_of}

-- the fields that stand first
abbrev pub front_in : Fields → Fixed
front_in f =
    record {
      version = f.version;
      padding = f.padding;
      extension = f.extension;
      marker = f.marker;
      payload_type = f.type;
      sequence_number = f.number;
      timestamp = f.time;
      ssrc = f.source;
    }

pub octets_parts : (f : Fields) → octets_of f ≡ octets_for (front_in f) f.csrcs f.profile (payload_length f) f.elements
unfolding octets_of octets_for
octets_parts f = refl

pub length_block : (f : Fields) → length (block_octets (form_of f.profile) f.elements) ≡ payload_length f
unfolding payload_length
length_block f = length_block_octets (form_of f.profile) f.elements

-- as the size, without extensions_padding
pub length_octets_of : (f : Fields) →
    length (octets_of f) ≡ 12 + 4 * length f.csrcs + cond f.extension (4 + 4 * words_for (payload_length f)) 0
length_octets_of f =
    ap length (octets_parts f)
    ∙ length_octets_for (front_in f) f.csrcs f.profile (payload_length f) f.elements (length_block f)

-- "fewer bytes than the size may be written", never more
pub octets_fit : (f : Fields) → length (octets_of f) ≤ header_size f
unfolding header_size
octets_fit f = rw (length_octets_of f) (fit f.extension)
  where
    fit : (on : Bool) → 12 + 4 * length f.csrcs + cond on (4 + 4 * words_for (payload_length f)) 0
        ≤ size_for (length f.csrcs) on (payload_length f) f.pads
    fit true = omega arith
    fit false = omega arith
