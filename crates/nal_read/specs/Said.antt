-- What the answers inside say. Assumes nothing.
use Rattle.std.specs.Prelude.{List, ℕ, length}
use Rattle.error.specs.Said.{Said, says, refused}
use Rattle.wire.specs.Packets.{joined}
use Rattle.nal.specs.declared.Measured.{Measured}
use Rattle.nal_read.specs.declared.Kind.{Kind}
use Rattle.nal_read.specs.declared.Kind.TheVariants as kind
use Rattle.nal_read.specs.Kind.{Shape, short, unknown, plain, aggregate, fragment}

abbrev pub shape_said : Kind → Shape
shape_said kind.Short = short
shape_said (kind.Unknown t) = unknown t
shape_said kind.Plain = plain
shape_said kind.Aggregate = aggregate
shape_said (kind.Fragment first last head) = fragment first last head

-- ---- a STAP-A

abbrev pub measure_of : Said (List (List ℕ)) → Said Measured
measure_of (says units) = says (record { count = length units; bytes = length (joined units) })
measure_of (refused r) = refused r
