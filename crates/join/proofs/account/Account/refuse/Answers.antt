-- The test is that of `refused_by`.
use Rattle.std.proofs.Common.{◌≡◌, ℕ, Bool, true, false, cond, eqb, sym, ap, ◌∙◌, eq-eqb, ne_eqb}
use Rattle.error.specs.declared.Error.{Error}
use Rattle.error.specs.Refusal.{number_of}
use Rattle.join.specs.declared.account.Account.{Account}
use Rattle.join.specs.Account.{of_another, by_number, refused_by}
use Rattle.join.proofs.account.Account.refuse.Goals as goal

module _ (e : Error) (a : Account) where
  -- the definition, by its test
  refused_so : (b : Bool) → eqb (number_of e) 20 ≡ b → cond b (of_another a) (by_number (number_of e) a) ≡ refused_by e a
  unfolding refused_by
  refused_so b is = sym (ap (λ (t : Bool). cond t (of_another a) (by_number (number_of e) a)) is)

pub returns-then-n-eq20 : goal.returns-then-n-eq20
returns-then-n-eq20 c =
    let other : number_of c.args.e ≡ 20 = sym (c.from-n.ensures ∙ c.number.ensures) ∙ c.if-n-eq20.true in
    refused_so c.args.e c.args.self true (eq-eqb _ 20 other)

pub returns : goal.returns
returns c =
    let n : c.from-n.result ≡ number_of c.args.e = c.from-n.ensures ∙ c.number.ensures in
    ap (λ (k : ℕ). by_number k c.args.self) n
    ∙ refused_so c.args.e c.args.self false (ne_eqb _ 20 (λ q. c.if-n-eq20.false (n ∙ q)))
