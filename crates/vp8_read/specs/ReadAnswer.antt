-- What the reader's answers say, in the paper's numbers. Assumes nothing.
use Rattle.std.specs.Prelude.{drop}
use Rattle.error.specs.declared.Error.{Error}
use Rattle.error.specs.Refusal.{refusal_of}
use Rattle.error.specs.Said.{refused, said}
use Rattle.vp8_read.specs.declared.Vp8Packet.{Vp8Packet}
use Rattle.vp8_read.specs.declared.Vp8Depacketized.{Vp8Depacketized}
use Rattle.vp8_read.specs.declared.Reader.{Reader}
use Rattle.vp8_read.specs.Read.{Stage, Reading}

abbrev pub reading : Vp8Depacketized → Reading
reading r = record { packet = r.packet; said = said r.read }

-- a refusal that leaves these fields
abbrev pub keeping : Vp8Packet → Error → Reading
keeping p e = record { packet = p; said = refused (refusal_of e) }

-- a reader over a packet
abbrev pub stage_of : Reader → Stage
stage_of r = record { packet = r.packet; at = r.at; rest = drop r.at r.bytes.now }
