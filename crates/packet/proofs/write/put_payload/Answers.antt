-- Two parts in a row are one.
use mathlib.Core.Path.{refl, ap, ◌∙◌}
use mathlib.Core.List.{List}
use Prim.Native.Nat.{ℕ}
use native.Mathlib.Omega.{arith}
use lib.ListN.{length}
use Rattle.wire.specs.Part.{splice}
use Rattle.wire.proofs.Part.{splice_behind}
use Rattle.packet.specs.Write.{padding_octets}
use Rattle.packet.proofs.write.put_payload.Goals as goal

pub returns : goal.returns
returns c =
    let a = c.args in
    let n = length a.payload.now in (
      refl,
      c.put_padding.ensures
          ∙ ap (λ (l : List ℕ). splice l n (padding_octets a.padding)) c.copy_at.ensures
          ∙ splice_behind a.rest.now 0 a.payload.now n (padding_octets a.padding) (omega arith) (omega arith),
    )
