-- Every worked packet of the paper's table is answered as the paper has it: the definitions compute each. Assumes nothing.
use mathlib.Core.Path.{◌≡◌, refl}
use mathlib.Core.List.{map}
use Rattle.wire.specs.Net.{u16_at, u32_at, be16, be32}
use Rattle.wire.specs.Packets.{whole}
use Rattle.wire.specs.Part.{splice, pad_to}
use Rattle.wire.specs.Turns.{run}
use Rattle.elements.specs.Elements.{elements_of, lay_elements}
use Rattle.block_read.specs.Read.{one_byte_item, taken, turn}
use Rattle.header.specs.Fields.{fields_of, lay_out, in_domain}
use Rattle.header.specs.Read.{fields_at, read_extension, read_fixed, read_header}
use Rattle.header.specs.Size.{header_size}
use Rattle.header_write.specs.Fixed.{fixed_for}
use Rattle.header.specs.Write.{octets_of, in_writing_domain}
use Rattle.packet.specs.Read.{stripped, read_packet}
use Rattle.packet.specs.Write.{payload_octets, packet_octets, packet_size, write_packet}
use Rattle.vp8_read.specs.Read as reader
use Rattle.annexb.specs.Units.{units, units_at}
use Rattle.h264_put.specs.Groups.{keep, stap_a, pair_for, unit_for, groups_for, fragment}
use Rattle.h264.specs.Payload.{payload_of}
use Rattle.nal_read.specs.Kind.{shape}
use Rattle.nal_read.specs.Unpack.{unpack}
use Rattle.nal.specs.Unpack as unpacking
use Rattle.nal.specs.Fed.{lay_bytes, lay_both}
use Rattle.h264_packet.specs.Depacketize as h264
use Rattle.joiner_step.specs.Step.{by_source, step, opening}
use Rattle.joiner_feed.specs.H264.{check}
use Rattle.joiner.specs.Join.{join_step, opened}
use Rattle.worked.specs.Asked.{say}
use Rattle.worked.specs.Table.{Row, table}

pub worked : map (λ (r : Row). say r.asked) table ≡ map (λ (r : Row). r.answer) table
unfolding table u16_at u32_at be16 be32 whole splice pad_to run elements_of lay_elements fields_of lay_out in_domain one_byte_item taken turn fields_at read_extension read_fixed read_header header_size fixed_for octets_of in_writing_domain stripped read_packet payload_octets packet_octets packet_size write_packet units units_at keep stap_a pair_for unit_for groups_for fragment payload_of shape unpacking.unpack_turn unpacking.unpack unpack lay_bytes lay_both h264.read_payload h264.depacketized reader.put_required reader.put_flags reader.put_picture_id reader.with_flags reader.with_picture_id reader.with_tl0 reader.with_layers reader.or_short reader.third reader.second reader.read_on reader.depacketized check by_source step opening join_step opened
worked = refl
