-- Ranges: those of the paper and of the RFCs are told by the writing domain together with the record's types, and are had by the fields of a lawful header.
-- Assumes nothing.
use mathlib.Core.Path.{◌≡◌}
use mathlib.Core.Bool.{Bool, true}
use mathlib.Core.List.{List}
use Prim.Native.Nat.{ℕ, ◌<◌}
use native.Mathlib.Omega.{arith}
use lib.ListN.{length, take, drop, take-append-drop}
use lib.Seq.{length-take-le}
use Rattle.elements.specs.Elements.{Element}
use Rattle.elements.proofs.Packed.{length_elements_of, length_data_of}
use Rattle.header.specs.declared.Header.{Header}
use Rattle.header.specs.Fields.{fields_of}
use Rattle.header.specs.Write.{in_writing_domain}
use Rattle.header.proofs.Writing.{writable}
use Rattle.rfc3550.specs.Rfc3550.{Fixed, LawfulFixed}
use Rattle.rfc3550.proofs.Octets.{below_left}
use Rattle.header_rfc.specs.Says.{fields_with, Within}
use Rattle.header_rfc.specs.RoundTrip.{InRange, AsTyped}

pub only_in_range : (h : Header) → AsTyped h → in_writing_domain h ≡ true → InRange (fields_of h)
unfolding fields_of
only_in_range h t e =
    let w = writable h (record { csrc = t.sources; ids = t.ids; lens = t.lens; bytes = t.bytes }) e in
    let n : length (take h.csrc_count h.csrc) ≡ h.csrc_count = length-take-le h.csrc_count h.csrc w.sources in
    record {
      version = w.version;
      type = w.type;
      number = t.number;
      time = t.time;
      source = t.source;
      count = omega (arith, w.limits.sources);
      csrcs = below_left 4294967296 (take h.csrc_count h.csrc) (drop h.csrc_count h.csrc) (rw take-append-drop t.csrcs);
      profile = t.profile;
      within = record {
        few = omega (arith, length_elements_of h.extensions w.packing, w.limits.elements);
        small = omega (arith, length_data_of h.extensions w.packing, w.limits.bytes);
      };
    }

-- fields of a lawful header are in their ranges
pub range_with : (f : Fixed) → LawfulFixed f → (x : Bool) (profile : ℕ) (es : List Element) (pads : ℕ) → profile < 65536 → Within es →
    InRange (fields_with f x profile es pads)
unfolding fields_with
range_with f l x profile es pads p w =
    record {
      version = omega (arith, l.version);
      type = omega (arith, l.payload_type);
      number = l.sequence_number;
      time = l.timestamp;
      source = l.ssrc;
      count = omega (arith, l.count);
      csrcs = l.csrcs;
      profile = p;
      within = w;
    }
