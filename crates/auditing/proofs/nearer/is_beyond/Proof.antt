-- `auditing::nearer::is_beyond` meets its contract: the operations in their order.
use Rattle.auditing.specs.nearer.laws.Pieces.{past_is}
use borrow.Author.Rules.{rules}
use Rattle.auditing.proofs.nearer.is_beyond.Statement.{statement}
use Rattle.auditing.proofs.nearer.is_beyond.Tie as tie

returns : tie.Need-returns
returns c =
    let at-struct-known7 = c in
    let s = at-struct-known7 in
    past_is s.args.far s.args.v s.args.s s.args.o c.magnitude.ensures c.magnitude-2.ensures

pub is_beyond_spec : {M : Type 1} → statement M
is_beyond_spec = tie.close (tie.spec (λ c κs. search rules) (λ c κs. search rules) returns)
