-- `audit::turns::one_if_turned` meets its contract.
use Rattle.std.proofs.Common.{rules}
use Rattle.audit.specs.turns.laws.Turns.{one_if_lem, none_if}
use Rattle.audit.proofs.turns.one_if_turned.Statement.{statement}
use Rattle.audit.proofs.turns.one_if_turned.Tie as tie

returns : tie.Need-returns-then-is_turned
returns c = one_if_lem _ _ _ c.is_turned.ensures c.if-is_turned.true

returns-2 : tie.Need-returns
returns-2 c = none_if _ _ _ c.is_turned.ensures c.if-is_turned.false

pub one_if_turned_spec : {M : Type 1} → statement M
one_if_turned_spec = tie.close (tie.spec (λ c κs. search rules) returns returns-2)
