-- `form::step::outside` meets its contract: what `follows` answers chooses.
use mathlib.Core.Path.{sym, ap, ◌∙◌}
use Prim.Native.Nat.{ℕ}
use Rattle.form.specs.step.Reader.{refused, outside}
use borrow.Author.Rules.{rules}
use Rattle.form.proofs.step.outside.Statement.{statement}
use Rattle.form.proofs.step.outside.Tie as tie

returns : tie.Need-returns-then-follows
unfolding outside
returns c = rw (sym c.follows.ensures ∙ c.if-follows.true) c.begun.ensures

returns-2 : tie.Need-returns
unfolding outside
returns-2 c = rw (sym c.follows.ensures ∙ c.if-follows.false)
    (c.refused.ensures ∙ ap (λ (n : ℕ). refused c.args.r n) c.number_for.ensures)

pub outside_spec : {M : Type 1} → statement M
outside_spec =
    tie.close (tie.spec (λ c κs. search rules) (λ c κs. search rules) returns (λ c κs. search rules) (λ c κs. search rules) returns-2)
