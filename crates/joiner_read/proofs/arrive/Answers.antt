-- Without padding and extensions the fields stand where `arrival_plain` says.
use mathlib.Core.Path.{sym, ◌∙◌}
use mathlib.Core.List.{List}
use Prim.Native.Nat.{ℕ, ◌-◌}
use native.Mathlib.Omega.{arith}
use lib.ListN.{length}
use borrow.Author.Rules.{rules}
use Rattle.error.specs.Said.{Said, says}
use Rattle.header.specs.Read.{fixed_length}
use Rattle.joiner_read.specs.Arrive.{Arrived}
use Rattle.joiner_read.proofs.Arriving.{arrival_plain}
use Rattle.joiner_read.proofs.arrive.Goals as goal
use Rattle.joiner_read.proofs.arrive.Goals.{Start}

-- by the numbers read, and how many sources were
abbrev read : Start → (source number time count : ℕ) → Said Arrived
read s source number time count =
    says
    (record {
      source = source;
      number = number;
      time = time;
      place = fixed_length count;
      len = length s.args.packet.now - fixed_length count;
    })

pub returns : goal.returns
returns c =
    let count = c.from in
    let p : List ℕ = c.args.packet.now in
    (λ i. read (goal.at.returns c).Start (c.get_u32.ensures i) (c.get_u16.ensures i) (c.get_u32-2.ensures i) (count.ensures i))
    ∙ sym (arrival_plain p (search rules) (search rules) (omega (arith, count.ensures)) (search rules))
