-- The two answers are the two cases of `gain_of`.
use borrow.Author.Tests.{eq-eqb, ne_eqb}
use borrow.Author.Rules.{rules}
use Rattle.flipping.specs.Entries.{gain_of}
use Rattle.flipping.proofs.stores.after_gain.Statement.{statement}
use Rattle.flipping.proofs.stores.after_gain.Tie as tie

returns : tie.Need-returns-then-halfedges-wide
unfolding gain_of
returns c = simp (← c.wide.ensures, eq-eqb _ _ c.if-halfedges-wide.true)

returns-2 : tie.Need-returns
unfolding gain_of
returns-2 c = simp (← c.wide.ensures, ne_eqb _ _ c.if-halfedges-wide.false, c.less.ensures)

pub after_gain_spec : {M : Type 1} → statement M
after_gain_spec =
    tie.close
    (tie.spec (λ c κs. search rules) (λ c. search rules) (λ c. search rules) returns (λ c κs. search rules) returns-2)
