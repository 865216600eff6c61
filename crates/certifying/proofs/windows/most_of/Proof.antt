-- `certifying::windows::most_of` meets its contract.
use Rattle.certifying.specs.windows.laws.LeftOut.{most_is}
use borrow.Author.Rules.{rules}
use Rattle.certifying.proofs.windows.most_of.Statement.{statement}
use Rattle.certifying.proofs.windows.most_of.Tie as tie

returns : tie.Need-returns
returns c =
    let s = c in most_is s.args.s s.args.l s.args.r c.greater-u.ensures

pub most_of_spec : {M : Type 1} → statement M
most_of_spec =
    tie.close (tie.spec (λ c κs. search rules) returns)
