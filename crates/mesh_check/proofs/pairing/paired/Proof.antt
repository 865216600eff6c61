-- An unpaired half-edge is right; of another the answer is that of `mates`.
use mathlib.Core.Logic.{inl}
use borrow.Author.Rules.{rules}
use Rattle.base.specs.common.laws.Decide.{says_or}
use Rattle.mesh_check.proofs.pairing.paired.Statement.{statement}
use Rattle.mesh_check.proofs.pairing.paired.Tie as tie

returns : tie.Need-returns-then-p
returns c = inl c.if-p.true

returns-2 : tie.Need-returns
returns-2 c = says_or _ c.mates.result c.if-p.false c.mates.ensures

pub paired_spec : {M : Type 1} → statement M
paired_spec = tie.close (tie.spec (λ c. search rules) (λ c. search rules) returns (λ c κs. search rules) returns-2)
