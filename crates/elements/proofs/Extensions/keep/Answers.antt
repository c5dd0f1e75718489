-- Each array is copied as one part of the old one in its place.
use Rattle.std.proofs.Common.{rules, arith, List, ℕ, ◌≡◌, ◌+◌, ◌-◌, ◌≤◌, length, take, drop, ap, ◌∙◌}
use borrow.Rule.Slice.PartMut.{put_mid}
use Rattle.wire.specs.Part.{splice, part}
use Rattle.wire.proofs.Part.{length_part, put_whole}
use Rattle.elements.specs.Runs.{kept}
use Rattle.elements.proofs.Extensions.keep.Goals as goal

copied : (xs old now : List ℕ) (at from n : ℕ) → now ≡ take (from + n - from) (drop from old) → from + n ≤ length old →
    put_mid at (at + n - at) xs now ≡ splice xs at (part old from n)
copied xs old now at from n e h =
    let same : from + n - from ≡ n = omega arith in
    put_whole at (at + n) xs now (part old from n) (e ∙ ap (λ (k : ℕ). take k (drop from old)) same) (omega (arith, length_part old from n h))

pub returns : goal.returns
unfolding kept
returns c =
    let a = c.args in
    let within : (xs : List ℕ) → length xs ≡ 32 → a.run.first + a.run.count ≤ length xs = λ xs e. omega (arith, c.requires) in
    let inside : a.run.at + a.run.len ≤ length a.old.now.bytes = search rules in
    λ i.
    record {
      count = a.self.count + a.run.count;
      ids = copied a.self.ids a.old.now.ids _ a.self.count a.run.first a.run.count c.copy_from_slice.ensures.after (within a.old.now.ids (search rules)) i;
      lens = copied a.self.lens a.old.now.lens _ a.self.count a.run.first a.run.count c.copy_from_slice-2.ensures.after (within a.old.now.lens (search rules)) i;
      bytes = copied a.self.bytes a.old.now.bytes _ a.used a.run.at a.run.len c.copy_from_slice-3.ensures.after inside i;
    }
