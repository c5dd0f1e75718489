-- Each way is one case of `len_by`.
use Rattle.std.proofs.Common.{◌≡◌, ℕ, Bool, true, false, List, Option, None, Some, is_some, sym, refl, ap, ◌∙◌, arith}
use Rattle.annexb.specs.declared.Code.{Code}
use Rattle.annexb.specs.Search.{next_code}
use Rattle.send.specs.Access.{edge_of, all_by, len_by, first_len}
use Rattle.send.proofs.access.first_len.Goals as goal
use Rattle.send.proofs.access.first_len.Goals.{After-next_code, then-is_some-via-then-is_some, then-is_some-via-else-is_some+then-not-ended}

len_so : (s : List ℕ) (ended : Bool) (e : Option ℕ) → e ≡ edge_of s → len_by s ended e ≡ first_len s ended
unfolding first_len
len_so s ended e is = ap (len_by s ended) is

-- an edge that was found is the answer
some_so : (s : List ℕ) (ended : Bool) (e : Option ℕ) → is_some e ≡ true → e ≡ len_by s ended e
some_so s ended (Some n) is = refl
some_so s ended None is = absurd (cc)

-- so is none where the file goes on
open_so : (s : List ℕ) (ended : Bool) (e : Option ℕ) → ended ≡ false → e ≡ len_by s ended e
open_so s ended (Some n) is = refl
open_so s ended None is = rw is refl

-- behind the search for a start code
code_so : (s : List ℕ) (ended : Bool) (e : Option ℕ) (f : Option Code) → is_some e ≡ false → ended ≡ true → next_code s 0 ≡ f →
    all_by s f ≡ len_by s ended e
code_so s ended (Some n) f none all is = absurd (cc)
code_so s ended None f none all is = rw (all, is) refl

pub returns-then-is_some : goal.returns-then-is_some
returns-then-is_some c =
    let a = c.args in
    let e = c.find_edge-edge in (
      elim c.then-is_some.branch [
        | then-is_some-via-then-is_some w ↦ some_so a.s.now a.ended e.result (sym c.is_some.ensures ∙ w.if-is_some.true)
        | then-is_some-via-else-is_some+then-not-ended w ↦ open_so a.s.now a.ended e.result w.if-not-ended.true
      ] ∙ len_so a.s.now a.ended e.result e.ensures.0,
      e.ensures.1,
    )

by_code : (c : After-next_code) (f : Option Code) → c.next_code.result ≡ f → all_by c.args.s.now f ≡ first_len c.args.s.now c.args.ended
by_code c f is =
    let a = c.args in
    let e = c.find_edge-edge in
    code_so a.s.now a.ended e.result f (sym c.is_some.ensures ∙ c.if-is_some.false) c.if-not-ended.false (sym c.next_code.ensures ∙ is)
    ∙ len_so a.s.now a.ended e.result e.ensures.0

pub returns-in-Some : goal.returns-in-Some
returns-in-Some c = (by_code (goal.at.returns-in-Some c).After-next_code _ c.in-Some.is, omega arith)

pub returns : goal.returns
returns c = (by_code (goal.at.returns c).After-next_code _ c.in_default.is, tt)
