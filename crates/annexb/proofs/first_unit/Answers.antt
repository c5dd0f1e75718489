-- The first unit starts behind the first start code, or with the frame: where there is none, place and length are 0.
use mathlib.Core.Path.{◌≡◌}
use Prim.Native.Nat.{◌+◌, ◌≤◌}
use native.Mathlib.Omega.{arith}
use lib.ListN.{length, drop}
use Rattle.annexb.specs.declared.Code.{Code}
use Rattle.annexb.specs.Units.{pieces, units}
use Rattle.annexb.proofs.Pieces.{by_code, code_within, first_at, first_none}
use Rattle.annexb.proofs.first_unit.Goals as goal

pub overflow_add-result : goal.overflow_add-result
overflow_add-result c =
    let frame = c.args.frame.now in
    let code = c.find_code-code in
    omega (arith, code_within frame 0 (omega arith) code.result code.ensures)

pub returns : goal.returns
returns c =
    let frame = c.args.frame.now in
    let code = c.find_code-code in
    by_code frame 0 code.result code.ensures
    (λ (x : Code). (x.at + x.len ≤ length frame) × (pieces (drop (x.at + x.len) frame) ≡ units frame))
    (λ p n e h. first_at frame p n e) (λ e. (omega arith, first_none frame e))
