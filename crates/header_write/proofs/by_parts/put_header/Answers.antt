-- The fixed part, the sources and the block of elements, each put behind the other, are all the octets.
use mathlib.Core.Path.{◌≡◌, sym}
use mathlib.Core.List.{List, []}
use Prim.Native.Nat.{ℕ, ◌≤◌}
use native.Mathlib.Omega.{arith}
use lib.ListN.{length, take}
use lib.Seq.{length-take-le}
use Rattle.wire.specs.Part.{splice, Put}
use Rattle.elements.specs.Elements.{elements_in}
use Rattle.header_write.specs.declared.Fixed.{Fixed}
use Rattle.header_write.specs.Fixed.{csrc_octets, first_for, second_for, fixed_for}
use Rattle.header_write.proofs.Octets.{figure, figure_put, figure_fits, extension_fits, put_on, put_off}
use Rattle.header_write.proofs.by_parts.put_header.Goals as goal

-- the figure stands in the buffer: the sources were put behind the fixed part
put : (f : Fixed) (buf mid exit : List ℕ) (n : ℕ) (csrc : List ℕ) (at : ℕ) → n ≤ length csrc →
    mid ≡ splice buf 0 (fixed_for (first_for f.version f.padding f.extension n) (second_for f.marker f.payload_type) f.sequence_number f.timestamp f.ssrc []) →
    Put mid 12 (csrc_octets (take n csrc)) at exit → Put buf 0 (figure f (take n csrc)) at exit
put f buf mid exit n csrc at h m p = figure_put f buf mid exit n (take n csrc) at (sym (length-take-le n csrc h)) m p

pub put-requires-clause-room : goal.put-requires-clause-room
put-requires-clause-room c =
    let a = c.args in
    omega (
      arith,
      figure_fits a.parts.fixed (take a.parts.csrc_count a.parts.csrc.now) a.parts.profile a.len (elements_in a.parts.count a.parts.ids.now a.parts.lens.now a.parts.bytes.now),
      c.requires.bytes_in_bounds,
    )

pub put_csrcs-at-requires : goal.put_csrcs-at-requires
put_csrcs-at-requires c =
    let a = c.args in
    omega (
      arith,
      figure_fits a.parts.fixed (take a.parts.csrc_count a.parts.csrc.now) a.parts.profile a.len (elements_in a.parts.count a.parts.ids.now a.parts.lens.now a.parts.bytes.now),
      c.requires.bytes_in_bounds,
      c.put.auto.buf,
    )

pub put_extension-requires-clause-bytes_in_bounds : goal.put_extension-requires-clause-bytes_in_bounds
put_extension-requires-clause-bytes_in_bounds c =
    let a = c.args in
    let here = put a.parts.fixed a.buf.now c.put.new.buf c.put_csrcs-at.new.buf a.parts.csrc_count a.parts.csrc.now c.put_csrcs-at.result
    c.requires.csrc_count_bound.1 c.put.ensures c.put_csrcs-at.ensures in
    let fits = extension_fits a.parts.fixed (take a.parts.csrc_count a.parts.csrc.now) a.parts.profile a.len (elements_in a.parts.count a.parts.ids.now a.parts.lens.now a.parts.bytes.now)
    c.if-parts.true c.put_csrcs-at.result (omega (arith, here.next)) in
    omega (arith, fits, c.requires.bytes_in_bounds, c.put_csrcs-at.auto.buf, c.put.auto.buf)

pub returns-then-parts : goal.returns-then-parts
returns-then-parts c =
    let a = c.args in
    put_on a.parts.fixed (take a.parts.csrc_count a.parts.csrc.now) a.parts.profile a.len (elements_in a.parts.count a.parts.ids.now a.parts.lens.now a.parts.bytes.now)
    c.if-parts.true a.buf.now c.put_csrcs-at.new.buf _ c.put_csrcs-at.result _
    (put a.parts.fixed a.buf.now c.put.new.buf c.put_csrcs-at.new.buf a.parts.csrc_count a.parts.csrc.now c.put_csrcs-at.result
    c.requires.csrc_count_bound.1 c.put.ensures c.put_csrcs-at.ensures)
    c.put_extension.ensures

pub returns : goal.returns
returns c =
    let a = c.args in
    put_off a.parts.fixed (take a.parts.csrc_count a.parts.csrc.now) a.parts.profile a.len (elements_in a.parts.count a.parts.ids.now a.parts.lens.now a.parts.bytes.now)
    c.if-parts.false a.buf.now c.put_csrcs-at.new.buf c.put_csrcs-at.result
    (put a.parts.fixed a.buf.now c.put.new.buf c.put_csrcs-at.new.buf a.parts.csrc_count a.parts.csrc.now c.put_csrcs-at.result
    c.requires.csrc_count_bound.1 c.put.ensures c.put_csrcs-at.ensures)
