use Rattle.std.proofs.Common.{rules, arith, ◌≡◌, List, ◌++◌, ℕ, ◌+◌, ◌<◌, length, drop, get_or, sym, ap, ◌∙◌}
use lib.ListN.{length-append, drop_of_length-le}
use Rattle.wire.specs.Net.{be32}
use Rattle.wire.specs.Part.{splice}
use Rattle.wire.proofs.Net.{length_be32}
use Rattle.wire.proofs.Part.{splice_nothing, splice_behind, drop_front}
use Rattle.header_write.specs.Fixed.{csrc_octets}
use Rattle.header_write.proofs.figure.put_csrcs.Goals as goal

-- a turn writes the source i, and those behind it come next
here : (csrc : List ℕ) (i : ℕ) → i < length csrc → csrc_octets (drop i csrc) ≡ be32 (get_or csrc i 0) ++ csrc_octets (drop (i + 1) csrc)
here csrc i h = ap csrc_octets (drop_front csrc i h)

place : (csrc : List ℕ) (i : ℕ) → i < length csrc → length (csrc_octets (drop i csrc)) ≡ 4 + length (csrc_octets (drop (i + 1) csrc))
place csrc i h =
    omega (
      arith,
      ap length (here csrc i h),
      length-append (be32 (get_or csrc i 0)) (csrc_octets (drop (i + 1) csrc)),
      length_be32 (get_or csrc i 0),
    )

pub put_u32-requires : goal.put_u32-requires
put_u32-requires c =
    let h = c.loop-source in
    let p = place c.args.csrc.now h.source-index c.loop-source-test.true in
    omega (arith, h.invariant.place, h.invariant.long, c.requires)

pub loop-source-preserved : goal.loop-source-preserved
loop-source-preserved c =
    let csrc = c.args.csrc.now in
    let h = c.loop-source in
    let one = get_or csrc h.source-index 0 in
    let rest = csrc_octets (drop (h.source-index + 1) csrc) in
    let p = place csrc h.source-index c.loop-source-test.true in
    let four : length (be32 one) ≡ 4 = length_be32 one in
    record {
      place = omega (arith, h.invariant.place);
      buffer =
          ap (λ (l : List ℕ). splice l (h.at + 4) rest) c.put_u32.ensures
          ∙ splice_behind h.buf h.at (be32 one) (h.at + 4) rest (omega (arith, h.invariant.place, h.invariant.long, c.requires)) (omega arith)
          ∙ sym (ap (splice h.buf h.at) (here csrc h.source-index c.loop-source-test.true))
          ∙ h.invariant.buffer;
      long = search rules;
    }

pub returns : goal.returns
returns c =
    let csrc = c.args.csrc.now in
    let h = c.loop-source in
    let nothing = ap csrc_octets (drop_of_length-le csrc {i = h.source-index} c.loop-source-test.false) in
    record {
      next = omega (arith, h.invariant.place, ap length nothing);
      buffer = sym (splice_nothing h.buf h.at) ∙ sym (ap (splice h.buf h.at) nothing) ∙ h.invariant.buffer;
    }
