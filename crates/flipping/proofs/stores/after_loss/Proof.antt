-- The three answers are the three cases of `loss_of`.
use borrow.Author.Tests.{eq-eqb, ne_eqb}
use borrow.Author.Rules.{rules}
use Rattle.flipping.specs.Entries.{loss_of}
use Rattle.flipping.proofs.stores.after_loss.Statement.{statement}
use Rattle.flipping.proofs.stores.after_loss.Tie as tie

returns : tie.Need-returns-then-t-lost
unfolding loss_of
returns c = simp (ne_eqb _ _ c.if-t-lost.true)

returns-2 : tie.Need-returns-then-halfedges-wide
unfolding loss_of
returns-2 c = simp (eq-eqb _ _ c.if-t-lost.false, ← c.wide.ensures, eq-eqb _ _ c.if-halfedges-wide.true)

returns-3 : tie.Need-returns
unfolding loss_of
returns-3 c =
    simp (eq-eqb _ _ c.if-t-lost.false, ← c.wide.ensures, ne_eqb _ _ c.if-halfedges-wide.false, c.round.ensures)

pub after_loss_spec : {M : Type 1} → statement M
after_loss_spec =
    tie.close
    (tie.spec returns (λ c κs. search rules) (λ c. search rules) (λ c. search rules) returns-2 (λ c κs. search rules) returns-3)
