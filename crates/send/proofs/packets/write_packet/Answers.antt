-- A packet is written into what the record has behind its first two bytes, so it is no longer than that: 65,535 bytes.
use Rattle.std.proofs.Common.{◌≡◌, ℕ, ◌+◌, ◌-◌, ◌≤◌, List, length, drop, ap, arith, length-append, rules}
use Rattle.wire.specs.Part.{splice, part}
use Rattle.wire.proofs.Part.{length_part}
use Rattle.header.proofs.Writing.{written_out}
use Rattle.packet.specs.Write.{write_packet}
use Rattle.send.proofs.packets.write_packet.Goals as goal

-- what is put into a list that keeps its length is no longer than it
within : (xs ys after : List ℕ) → after ≡ splice xs 0 ys → length after ≡ length xs → length ys ≤ length xs
unfolding splice
within xs ys after e l = omega (arith, ap length e, length-append ys (drop (0 + length ys) xs))

pub frame-size-requires : goal.frame-size-requires
frame-size-requires c =
    let a = c.args in
    let m = c.marshal_to-length in
    let size = length a.«record».now - 2 in
    let place = part a.«record».now 2 size in
    let w = written_out m.result place m.new.buf (write_packet a.h a.payload.now (length place)) _ m.ensures c.in-Ok.is in
    let room : length place ≡ size = length_part a.«record».now 2 size (omega arith) in
    let fits : c.in-Ok.n ≤ size =
    omega (arith, w.count, within place w.octets m.new.buf w.buffer m.auto.buf) in
    (omega arith, search rules)
