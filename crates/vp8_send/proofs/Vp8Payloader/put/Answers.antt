-- The descriptor and the part behind it, two parts in a row, are one.
use mathlib.Core.Path.{ap₂, ◌∙◌}
use mathlib.Core.List.{List}
use Prim.Native.Nat.{ℕ}
use native.Mathlib.Omega.{arith}
use lib.ListN.{length-append}
use Rattle.wire.specs.Part.{splice}
use Rattle.wire.proofs.Part.{splice_on}
use Rattle.vp8_send.specs.Send.{descriptor_of}
use Rattle.vp8_send.proofs.Vp8Payloader.put.Goals as goal

pub returns : goal.returns
returns c =
    let at = c.args.at in
    let out = c.args.out.now in
    let part = c.args.part.now in
    let d = descriptor_of c.args.self c.args.start in
    let put = c.put_descriptor-behind in
    let l = length-append d part in (
      omega (arith, put.ensures.0),
      c.copy_at.ensures
          ∙ ap₂ (λ (o : List ℕ) (k : ℕ). splice o k part) put.ensures.1 put.ensures.0
          ∙ splice_on out at d part (omega (arith, c.requires.1)),
    )
