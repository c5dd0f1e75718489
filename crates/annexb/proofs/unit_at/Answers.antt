-- The pieces that a start code parts, by its place and length.
use mathlib.Core.Path.{◌≡◌, refl}
use Prim.Native.Nat.{◌+◌}
use native.Mathlib.Omega.{arith}
use lib.ListN.{length}
use Rattle.std.specs.Prelude.{Some, None}
use Rattle.annexb.specs.declared.Code.{Code}
use Rattle.annexb.specs.Units.{Pieced}
use Rattle.annexb.proofs.Pieces.{by_code, code_within, piece_at, piece_last}
use Rattle.annexb.proofs.unit_at.Goals as goal

pub returns-then-code-eq0 : goal.returns-then-code-eq0
returns-then-code-eq0 c =
    let frame = c.args.frame.now in
    let found = c.find_code-code in
    by_code frame c.args.start found.result found.ensures
    (λ (x : Code). x.len ≡ 0 → Pieced frame c.args.start (record { end = length frame; next = None }))
    (λ p n e h z. absurd (omega arith)) (λ e z. piece_last frame c.args.start c.requires e) c.if-code-eq0.true

pub overflow_add-result : goal.overflow_add-result
overflow_add-result c =
    let found = c.find_code-code in
    omega (arith, code_within c.args.frame.now c.args.start c.requires found.result found.ensures)

pub returns : goal.returns
returns c =
    let frame = c.args.frame.now in
    let found = c.find_code-code in
    by_code frame c.args.start found.result found.ensures
    (λ (x : Code). (x.len ≡ 0 → ⊥) → Pieced frame c.args.start (record { end = x.at; next = Some (x.at + x.len) }))
    (λ p n e h z. piece_at frame c.args.start p n c.requires e) (λ e z. absurd (z refl)) c.if-code-eq0.false
