-- A packet with the plainest header. Assumes nothing.
use Rattle.std.specs.Prelude.{Bool, false, List, [], ℕ, ◌<◌}
use Rattle.header.specs.Fields.{Fields}
use Rattle.packet.specs.Write.{packet_octets}

-- what a sender may choose for each packet
pub record Stamp : Type 0 where
  pub marker : Bool
  pub type : ℕ
  pub time : ℕ

-- a payload type of seven bits, a timestamp of 32
pub record Stampable (x : Stamp) : Type 0 where
  pub type : x.type < 128
  pub time : x.time < 4294967296

-- "version 2, no padding, extensions or CSRCs"
abbrev pub plain_fields : Stamp → ℕ → ℕ → Fields
plain_fields x number source =
    record {
      version = 2;
      padding = false;
      extension = false;
      marker = x.marker;
      type = x.type;
      number = number;
      time = x.time;
      source = source;
      csrcs = [];
      profile = 0;
      elements = [];
      pads = 0;
    }

-- the octets that the packet writer writes
unfoldable pub plain_packet : Stamp → ℕ → ℕ → List ℕ → List ℕ
plain_packet x number source payload = packet_octets (plain_fields x number source) payload
