-- A length of 0 says that there is none.
use mathlib.Core.Path.{◌≡◌, refl, sym}
use native.Mathlib.Omega.{arith}
use Rattle.annexb.specs.declared.Code.{Code}
use Rattle.std.specs.Prelude.{Some, None}
use Rattle.annexb.specs.Search.{next_code}
use Rattle.annexb.proofs.Pieces.{by_code}
use Rattle.annexb.proofs.next_code.Goals as goal

pub returns-then-code-eq0 : goal.returns-then-code-eq0
returns-then-code-eq0 c =
    let args = c.args in
    let code = c.find_code-code in
    by_code args.frame.now args.start code.result code.ensures
    (λ (x : Code). x.len ≡ 0 → None ≡ next_code args.frame.now args.start)
    (λ p n e h z. absurd (omega arith)) (λ e z. sym e) c.if-code-eq0.true
