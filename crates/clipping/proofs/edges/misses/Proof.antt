-- `clipping::edges::misses` meets its contract, case by case.
use mathlib.Core.Path.{sym, ◌∙◌}
use Rattle.clipping.specs.edges.laws.EdgeClip.{not_one, not_two}
use borrow.Author.Rules.{rules}
use Rattle.clipping.proofs.edges.misses.Statement.{statement}
use Rattle.clipping.proofs.edges.misses.Tie as tie

returns : tie.Need-returns-in-None
returns c = sym c.ray_between-c.ensures ∙ c.in-None.is

returns-2 : tie.Need-returns-in-One
returns-2 c = λ n. not_one (sym c.in-One.is ∙ c.ray_between-c.ensures ∙ n)

returns-3 : tie.Need-returns-in-Two
returns-3 c = λ n. not_two (sym c.in-Two.is ∙ c.ray_between-c.ensures ∙ n)

pub misses_spec : {M : Type 1} → statement M
misses_spec =
    tie.close (tie.spec (λ c κs. search rules) (λ c. search rules) (λ c. search rules) (λ c. search rules) returns returns-2 returns-3)
