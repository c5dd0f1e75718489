-- What a header says, as the paper speaks of it: elements are a list, sources are a list. The record with its arrays is laid out
-- from this, and read back to it, in one place. Assumes nothing.
use Rattle.std.specs.Prelude.{◌≡◌, Bool, false, List, [], ℕ, length, take}
use Rattle.wire.specs.Part.{pad_to}
use Rattle.elements.specs.Elements.{Element, elements_of, lay_elements}
use Rattle.header_write.specs.Limits.{in_limits}
use Rattle.header.specs.declared.Header.{Header}

pub record Fields : Type 0 where
  pub version : ℕ
  pub padding : Bool
  pub extension : Bool
  pub marker : Bool
  pub type : ℕ
  pub number : ℕ
  pub time : ℕ
  pub source : ℕ
  pub csrcs : List ℕ
  pub profile : ℕ
  pub elements : List Element
  -- extensions_padding
  pub pads : ℕ

unfoldable pub fields_of : Header → Fields
fields_of h =
    record {
      version = h.version;
      padding = h.padding;
      extension = h.extension;
      marker = h.marker;
      type = h.payload_type;
      number = h.sequence_number;
      time = h.timestamp;
      source = h.ssrc;
      csrcs = take h.csrc_count h.csrc;
      profile = h.extension_profile;
      elements = elements_of h.extensions;
      pads = h.extensions_padding;
    }

unfoldable pub lay_out : Fields → Header
lay_out f =
    record {
      version = f.version;
      padding = f.padding;
      extension = f.extension;
      marker = f.marker;
      payload_type = f.type;
      sequence_number = f.number;
      timestamp = f.time;
      ssrc = f.source;
      csrc_count = length f.csrcs;
      csrc = pad_to 15 f.csrcs;
      extension_profile = f.profile;
      extensions = lay_elements f.elements;
      extensions_padding = f.pads;
    }

-- "no record": all zeros
unfoldable pub blank : Header
blank =
    lay_out
    (record {
      version = 0;
      padding = false;
      extension = false;
      marker = false;
      type = 0;
      number = 0;
      time = 0;
      source = 0;
      csrcs = [];
      profile = 0;
      elements = [];
      pads = 0;
    })

-- the limits of the domain, of a whole record
unfoldable pub in_domain : Header → Bool
in_domain h =
    in_limits h.csrc_count h.extensions.count h.extensions.lens h.extensions_padding

-- arrays of a record have as many places as its type says
pub record Arrays (h : Header) : Type 0 where
  pub csrc : length h.csrc ≡ 15
  pub ids : length h.extensions.ids ≡ 32
  pub lens : length h.extensions.lens ≡ 32
  pub bytes : length h.extensions.bytes ≡ 1024

-- what a test of a record says: whether it is in the domain, and that its arrays are whole
pub record Tested (h : Header) (r : Bool) : Type 0 where
  pub answer : r ≡ in_domain h
  pub arrays : Arrays h
