use mathlib.Core.Path.{◌≡◌, sym, ap, ◌∙◌}
use mathlib.Core.List.{List}
use Prim.Native.Nat.{ℕ, ◌+◌, ◌*◌}
use native.Mathlib.Omega.{arith}
use lib.ListN.{length, set}
use borrow.Author.Rules.{rules}
use Rattle.wire.specs.Net.{u32_at}
use Rattle.wire.specs.Part.{pad_to}
use Rattle.wire.proofs.Part.{pad_to_nothing, pad_to_push}
use Rattle.header.specs.Read.{csrcs_at}
use Rattle.header.proofs.Reading.{length_csrcs_at, csrcs_at_more}
use Rattle.header.proofs.read.fill_csrcs.Goals as goal

pub loop-i-init : goal.loop-i-init
loop-i-init c = (search rules, sym (pad_to_nothing 15))

pub loop-i-preserved : goal.loop-i-preserved
loop-i-preserved c =
    let s = c.args.packet.now in
    let h = c.loop-i in
    let i = h.i in
    let n : length (csrcs_at s 12 i) ≡ i = length_csrcs_at s 12 i in (
      search rules,
      ap (λ (v : ℕ). set h.csrc i v) c.get_u32.ensures
          ∙ ap (λ (l : List ℕ). set l i (u32_at s (12 + 4 * i))) h.invariant.1
          ∙ ap (λ (k : ℕ). set (pad_to 15 (csrcs_at s 12 i)) k (u32_at s (12 + 4 * i))) (sym n)
          ∙ pad_to_push 15 (csrcs_at s 12 i) (u32_at s (12 + 4 * i)) (omega arith)
          ∙ ap (pad_to 15) (sym (csrcs_at_more s 12 i)),
    )
