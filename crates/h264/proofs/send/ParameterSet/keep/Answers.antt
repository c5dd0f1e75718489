-- The set is copied to the front or stands there already, and zeros go behind it.
use mathlib.Core.Path.{◌≡◌, ap, ◌∙◌}
use mathlib.Core.List.{List}
use Prim.Native.Nat.{ℕ, ◌-◌}
use lib.ListN.{length, replicate}
use Rattle.wire.specs.Part.{splice}
use Rattle.h264.proofs.State.{kept_set}
use borrow.Author.Rules.{rules}
use Rattle.h264.proofs.send.ParameterSet.keep.Goals as goal

pub returns : goal.returns
returns c =
    let l = c.args.set in
    let held = c.args.self.now.bytes in
    let full : length held ≡ 1024 = search rules in
    ap (λ (b : List ℕ). record { bytes = b; len = l.len })
    (c.fill_at.ensures ∙ ap (λ (b : List ℕ). splice b l.len (replicate (1024 - l.len) 0)) c.store.ensures)
    ∙ kept_set held c.args.frame.now l c.requires full
