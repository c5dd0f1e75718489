-- What is left decides: before each turn `all_fit` of the rest is `all_fit` of all, and the bytes counted with those of the rest are all bytes.
use Rattle.std.proofs.Common.{◌≡◌, ◌+◌, ◌*◌, ◌≤◌, take, drop}
use Rattle.elements.specs.Elements.{sum}
use Rattle.block_write.specs.Write.{all_fit}
use Rattle.block_write.proofs.weigh.Given as goal

abbrev pub invariant-loop-i : goal.invariant-loop-i
invariant-loop-i l = let lens = take l.count l.lens in record {
  fits : all_fit l.form l.id-items lens ≡ all_fit l.form (drop l.i l.id-items) (drop l.i lens);
  left : l.bytes + sum (drop l.i lens) ≡ sum lens;
  small : l.bytes ≤ 65536 * l.i;
}
