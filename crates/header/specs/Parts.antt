-- A header in its parts: the fixed fields, the numbers, the arrays. Assumes nothing.
use Rattle.std.specs.Prelude.{List, [], ℕ, ◌/◌, ◌%◌, get_or}
use Rattle.error.specs.Said.{Said, says, refused, said}
use Rattle.wire.specs.Net.{u16_at, u32_at, bit}
use Rattle.wire.specs.Part.{pad_to}
use Rattle.elements.specs.declared.Extensions.{Extensions}
use Rattle.elements.specs.Elements.{lay_elements}
use Rattle.header_write.specs.declared.Fixed.{Fixed}
use Rattle.header_write.specs.declared.Parts.{Parts}
use Rattle.header.specs.declared.Header.{Header}
use Rattle.header.specs.declared.Front.{Front}
use Rattle.header.specs.declared.FrontRead.{FrontRead}
use Rattle.header.specs.Fields.{lay_out}
use Rattle.header.specs.Read.{Reading}
use Rattle.header.specs.Said.{Heard}

abbrev pub fixed_of : Header → Fixed
fixed_of h =
    record {
      version = h.version;
      padding = h.padding;
      extension = h.extension;
      marker = h.marker;
      payload_type = h.payload_type;
      sequence_number = h.sequence_number;
      timestamp = h.timestamp;
      ssrc = h.ssrc;
    }

-- the record of which these are the parts
unfoldable pub together : Fixed → ℕ → List ℕ → ℕ → Extensions → ℕ → Header
together f count csrc profile x pads =
    record {
      version = f.version;
      padding = f.padding;
      extension = f.extension;
      marker = f.marker;
      payload_type = f.payload_type;
      sequence_number = f.sequence_number;
      timestamp = f.timestamp;
      ssrc = f.ssrc;
      csrc_count = count;
      csrc = csrc;
      extension_profile = profile;
      extensions = x;
      extensions_padding = pads;
    }

-- the record whose parts these are
abbrev pub record_of : Parts → Header
record_of p =
    together p.fixed p.csrc_count p.csrc.now p.profile
    (record { count = p.count; ids = p.ids.now; lens = p.lens.now; bytes = p.bytes.now })
    p.padding

-- the record without CSRCs and elements
unfoldable pub bare : Fixed → ℕ → ℕ → Header
bare f profile pads = together f 0 (pad_to 15 []) profile (lay_elements []) pads

-- ---- reading

-- a record without its arrays
abbrev pub front_of : Header → Front
front_of h =
    record {
      fixed = fixed_of h;
      csrc_count = h.csrc_count;
      count = h.extensions.count;
      extensions_padding = h.extensions_padding;
      extension_profile = h.extension_profile;
    }

-- the fixed fields in front of a packet's bytes
unfoldable pub fixed_at : List ℕ → Fixed
fixed_at s =
    record {
      version = get_or s 0 0 / 64;
      padding = bit (get_or s 0 0 / 32);
      extension = bit (get_or s 0 0 / 16);
      marker = bit (get_or s 1 0 / 128);
      payload_type = get_or s 1 0 % 128;
      sequence_number = u16_at s 2;
      timestamp = u32_at s 4;
      ssrc = u32_at s 8;
    }

-- the front of a record in front of a packet's bytes, with the numbers of a block
abbrev pub front_at : List ℕ → ℕ → ℕ → ℕ → ℕ → Front
front_at s cc profile count pads =
    record {
      fixed = fixed_at s;
      csrc_count = cc;
      count = count;
      extensions_padding = pads;
      extension_profile = profile;
    }

-- the answer, and the front of the record beside it
pub record FrontHeard : Type 0 where
  pub answer : Said ℕ
  pub front : Front

abbrev pub heard_front : FrontRead → FrontHeard
heard_front r = record { answer = said r.read; front = r.front }

-- what reading answers, without the arrays
abbrev pub front_heard : Heard → FrontHeard
front_heard h = record { answer = h.answer; front = front_of h.header }

-- the arrays of a record, as they are lent for reading
pub record Lent : Type 0 where
  pub csrc : List ℕ
  pub ids : List ℕ
  pub lens : List ℕ
  pub bytes : List ℕ

abbrev pub lent_of : Header → Lent
lent_of h =
    record { csrc = h.csrc; ids = h.extensions.ids; lens = h.extensions.lens; bytes = h.extensions.bytes }

-- "A refusal .. changes no buffer"; else they become those of the record
abbrev pub lent_read : Lent → Said Reading → Lent
lent_read old (says r) = lent_of (lay_out r.fields)
lent_read old (refused r) = old
