-- The sizes of the records by C's rule, from their fields as include/rtp_rattle.h declares them. Assumes nothing.
use Rattle.std.specs.Prelude.{List, [], ◌∷◌, ℕ, ◌+◌, ◌-◌, ◌*◌, ◌/◌, max}
use Rattle.gateway.specs.declared.rtp_sizes.RtpSizes.{RtpSizes}

pub record Laid : Type 0 where
  -- how many bytes
  pub size : ℕ
  -- it begins at a multiple of this
  pub align : ℕ

abbrev pub scalar : ℕ → Laid
scalar n = record { size = n; align = n }

abbrev pub array : ℕ → Laid → Laid
array n t = record { size = n * t.size; align = t.align }

-- the next multiple of `by`
abbrev pub up_to : ℕ → ℕ → ℕ
up_to by n = (n + by - 1) / by * by

-- a field behind those before it
abbrev pub and_then : Laid → Laid → Laid
and_then so t = record { size = up_to t.align so.size + t.size; align = max so.align t.align }

abbrev pub behind : Laid → List Laid → Laid
behind so [] = record { size = up_to so.align so.size; align = so.align }
behind so (t ∷ ts) = behind (and_then so t) ts

-- a record of these fields, which ends at a multiple of its alignment, the largest of theirs
abbrev pub struct : List Laid → Laid
struct = behind (record { size = 0; align = 1 })

abbrev pub u8 : Laid
u8 = scalar 1

abbrev pub flag : Laid
flag = scalar 1

abbrev pub u16 : Laid
u16 = scalar 2

abbrev pub u32 : Laid
u32 = scalar 4

-- size_t, on the 64-bit machines that the calls are for
abbrev pub word : Laid
word = scalar 8

abbrev pub refused : Laid
refused = struct (u8 ∷ array 2 word ∷ [])

abbrev pub extensions : Laid
extensions = struct (word ∷ array 32 u8 ∷ array 32 u16 ∷ array 1024 u8 ∷ [])

abbrev pub header : Laid
header =
    struct (
    u8 ∷ flag ∷ flag ∷ flag ∷ u8 ∷ u16 ∷ u32 ∷ u32 ∷ word ∷ array 15 u32 ∷ u16 ∷ extensions ∷ word ∷ []
    )

abbrev pub fixed : Laid
fixed = struct (u8 ∷ flag ∷ flag ∷ flag ∷ u8 ∷ u16 ∷ u32 ∷ u32 ∷ [])

abbrev pub front : Laid
front = struct (fixed ∷ word ∷ word ∷ word ∷ u16 ∷ [])

abbrev pub parameter_set : Laid
parameter_set = struct (array 1024 u8 ∷ word ∷ [])

abbrev pub h264_payloader : Laid
h264_payloader = struct (parameter_set ∷ parameter_set ∷ [])

abbrev pub lent_payloader : Laid
lent_payloader = struct (word ∷ word ∷ [])

-- the counts, beside the sender
abbrev pub h264_sent : Laid → Laid
h264_sent sender = struct (refused ∷ word ∷ word ∷ word ∷ word ∷ sender ∷ [])

abbrev pub h264_packet : Laid
h264_packet = struct (flag ∷ word ∷ [])

abbrev pub body : Laid
body = struct (u8 ∷ word ∷ word ∷ [])

abbrev pub vp8_payloader : Laid
vp8_payloader = struct (flag ∷ u16 ∷ [])

abbrev pub vp8_packet : Laid
vp8_packet = struct (u8 ∷ u8 ∷ u8 ∷ u8 ∷ u8 ∷ u8 ∷ u8 ∷ u8 ∷ u16 ∷ u8 ∷ u8 ∷ u8 ∷ u8 ∷ [])

abbrev pub joiner : Laid
joiner = struct (u32 ∷ u16 ∷ u32 ∷ flag ∷ word ∷ u32 ∷ flag ∷ flag ∷ [])

abbrev pub sizes : RtpSizes
sizes =
    record {
      refused = refused.size;
      test = (struct (refused ∷ flag ∷ [])).size;
      extensions = extensions.size;
      header = header.size;
      fixed = fixed.size;
      front = front.size;
      bytes = (struct (word ∷ word ∷ [])).size;
      header_front = (struct (word ∷ word ∷ front ∷ [])).size;
      header_read = (struct (refused ∷ word ∷ header ∷ [])).size;
      length = (struct (refused ∷ word ∷ [])).size;
      header_changed = (struct (refused ∷ header ∷ [])).size;
      element = (struct (refused ∷ flag ∷ word ∷ word ∷ [])).size;
      ids = (struct (refused ∷ word ∷ array 32 u8 ∷ [])).size;
      packet_front = (struct (word ∷ word ∷ word ∷ front ∷ [])).size;
      packet_read = (struct (refused ∷ word ∷ word ∷ header ∷ [])).size;
      parameter_set = parameter_set.size;
      h264_payloader = h264_payloader.size;
      h264_sent = (h264_sent h264_payloader).size;
      h264_lent_payloader = lent_payloader.size;
      h264_lent_sent = (h264_sent lent_payloader).size;
      h264_packet = h264_packet.size;
      body = body.size;
      h264_read = (struct (refused ∷ word ∷ body ∷ h264_packet ∷ [])).size;
      vp8_payloader = vp8_payloader.size;
      vp8_sent = (struct (refused ∷ word ∷ word ∷ vp8_payloader ∷ [])).size;
      vp8_packet = vp8_packet.size;
      vp8_read = (struct (refused ∷ word ∷ vp8_packet ∷ [])).size;
      joiner = joiner.size;
      joined = (struct (refused ∷ flag ∷ u16 ∷ u16 ∷ word ∷ [])).size;
      closed = (struct (refused ∷ u16 ∷ u16 ∷ joiner ∷ [])).size;
    }
