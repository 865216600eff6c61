-- `root::even_scale` meets its contract: `m` is doubled where p is odd (`odd_evens`), and stays where it is even (`even_evens`).
use borrow.Author.Rules.{rules}
use Rattle.root.specs.laws.Patterns.{odd_evens, even_evens}
use Rattle.root.proofs.even_scale.Statement.{statement}
use Rattle.root.proofs.even_scale.Tie as tie

returns : tie.Need-returns-then-p-eq1
returns c = let s = c.before.scale_of-s.ensures in record { m = _; scales = s; evens = odd_evens s c.if-p-eq1.true }

returns-2 : tie.Need-returns-else-p-eq1
returns-2 c = let s = c.before.scale_of-s.ensures in record { m = _; scales = s; evens = even_evens s c.if-p-eq1.false }

pub even_scale_spec : {M : Type 1} → statement M
even_scale_spec = tie.close (tie.spec (λ c κs. search rules) (λ c. search rules) returns returns-2)
