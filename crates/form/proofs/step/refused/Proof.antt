-- `form::step::refused` meets its contract, field by field.
use Rattle.form.specs.step.Reader.{refused}
use mathlib.Core.Path.{refl}
use Rattle.form.proofs.step.refused.Statement.{statement}
use Rattle.form.proofs.step.refused.Tie as tie

returns : tie.Need-returns
unfolding refused
returns c = refl

pub refused_spec : {M : Type 1} → statement M
refused_spec = tie.close (tie.spec returns)
