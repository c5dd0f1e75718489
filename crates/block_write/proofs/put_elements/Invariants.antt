-- What is left to write leads to the whole: before each turn the rest of the elements, put at the place reached, gives the same buffer.
use Rattle.std.proofs.Common.{◌≡◌, true, ◌+◌, ◌≤◌, length, take, drop}
use Rattle.wire.specs.Part.{splice}
use Rattle.elements.specs.Elements.{sum, unpack, elements_in}
use Rattle.block_write.specs.Write.{all_writable, block_octets}
use Rattle.block_write.proofs.put_elements.Given as goal

abbrev pub invariant-loop-i : goal.invariant-loop-i
invariant-loop-i l = let lens = drop l.i (take l.count l.lens) in let rest = unpack (drop l.i l.id-items) lens (drop l.used l.bytes) in record {
  within : l.used + sum lens ≤ length l.bytes;
  writable : all_writable l.form rest ≡ true;
  place : l.at + length (block_octets l.form rest) ≡ l.start + length (block_octets l.form (elements_in l.count l.ids l.lens l.bytes));
  buffer : splice l.buf l.at (block_octets l.form rest)
      ≡ splice l.initial.buf l.start (block_octets l.form (elements_in l.count l.ids l.lens l.bytes));
  long : length l.buf ≡ length l.initial.buf;
}
