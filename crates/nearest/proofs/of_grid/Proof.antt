-- The numbers are those of the call's promise, with a work slice of 96 entries.
use Rattle.std.proofs.Common.{refl, arith, rules}
use Rattle.nearest.proofs.of_grid.Statement.{statement}
use Rattle.nearest.proofs.of_grid.Tie as tie

abbrev Begin : tie.After-first_beyond-beyond → tie.Start
Begin c = c.before.before.before.before.before.before.before.before.before.before

line_of-requires : tie.Need-line_of-requires
line_of-requires c κs = let beyond = c in omega (arith, beyond.first_beyond-beyond.ensures.within, (Begin beyond.before.before.before).requires)

returns : tie.Need-returns
returns c = record {
  old = _;
  new = _;
  long = refl;
  number = _;
  kind = _;
  place = _;
  unused = _;
  checks = c.check_nearest_lent-number.ensures;
  beyond = _;
  first = c.first_beyond-beyond.ensures;
  line = rw (← c.with_box-boxed.ensures, ← c.off_corner-corner.ensures) c.line_of.ensures;
}

pub of_grid_spec : {M : Type 1} → statement M
of_grid_spec = tie.close (tie.spec (λ c. search rules) (λ c κs. search rules) (λ c κs. search rules) (λ c κs. search rules) (λ c κs. search rules) line_of-requires returns)
