-- `form::step::follows` meets its contract: each `return` is one of the definition's cases.
use borrow.Author.Tests.{ne_eqb, lt-ltb, le-ltb}
use Rattle.form.specs.step.Reader.{follows}
use borrow.Author.Rules.{rules}
use Rattle.form.proofs.step.follows.Statement.{statement}
use Rattle.form.proofs.step.follows.Tie as tie

returns : tie.Need-returns-then-r-eq0
unfolding follows
returns c = rw c.if-r-eq0.true c.opens.ensures

returns-2 : tie.Need-returns-then-kind-r
unfolding follows
returns-2 c = rw (ne_eqb _ _ c.if-r-eq0.false, lt-ltb _ _ c.if-kind-r.true)

returns-3 : tie.Need-returns
unfolding follows
returns-3 c = rw (ne_eqb _ _ c.if-r-eq0.false, le-ltb _ _ c.if-kind-r.false) c.room_for.ensures

pub follows_spec : {M : Type 1} → statement M
follows_spec = tie.close (tie.spec (λ c κs. search rules) returns returns-2 (λ c κs. search rules) returns-3)
