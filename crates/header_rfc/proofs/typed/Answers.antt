-- What `AsTyped` says is what the types of a record make sure of: the prover knows it of any record that a function is handed.
use mathlib.Core.Path.{refl}
use mathlib.Core.List.{List, [], ◌∷◌}
use Prim.Native.Nat.{ℕ, suc, ◌<◌}
use borrow.Author.Rules.{rules}
use native.Mathlib.Omega.{arith}
use lib.ListN.{get_or}
use mir.Val.{Fits}
use mir.Syntax.{w32}
use Rattle.rfc3550.specs.Rfc3550.{AllBelow}
use Rattle.header_rfc.proofs.typed.Goals as goal

each_below : (n : ℕ) (xs : List ℕ) → ((i : ℕ) → get_or xs i 0 < n) → AllBelow n xs
each_below n [] h = tt
each_below n (x ∷ xs) h = (h 0, each_below n xs (λ i. h (suc i)))

pub returns : goal.returns
returns c =
    let word : (i : ℕ) → Fits w32 (get_or c.args.h.csrc i 0) = λ i. search rules in (
      refl,
      record {
        number = search rules;
        time = search rules;
        source = search rules;
        csrcs = each_below 4294967296 c.args.h.csrc (λ i. omega (arith, word i));
        profile = search rules;
        sources = search rules;
        ids = search rules;
        lens = search rules;
        bytes = search rules;
      },
    )
