-- What is left to write leads to the whole: before each turn the rest of the sources, put at the place reached, gives the same buffer.
use Rattle.std.proofs.Common.{◌≡◌, ◌+◌, length, drop}
use Rattle.wire.specs.Part.{splice}
use Rattle.header_write.specs.Fixed.{csrc_octets}
use Rattle.header_write.proofs.figure.put_csrcs.Given as goal

abbrev pub invariant-loop-source : goal.invariant-loop-source
invariant-loop-source l = record {
  place : l.at + length (csrc_octets (drop l.source-index l.csrc)) ≡ l.start + length (csrc_octets l.csrc);
  buffer : splice l.buf l.at (csrc_octets (drop l.source-index l.csrc)) ≡ splice l.initial.buf l.start (csrc_octets l.csrc);
  long : length l.buf ≡ length l.initial.buf;
}
