-- `auditing::limit::box_sums` meets its contract: the ring of the four corners.
use Prim.{tt}
use lib.Dec.{lit<}
use borrow.Author.Rules.{rules}
use Rattle.auditing.specs.limit.laws.Boxes.{box_corners, box_in}
use Rattle.auditing.proofs.limit.box_sums.Statement.{statement}
use Rattle.auditing.proofs.limit.box_sums.Tie as tie

sides-requires : tie.Need-sides-requires
sides-requires c κs =
    let s = c in
    (box_corners s.args.bounds s.requires.0, lit< tt, s.requires.1, s.requires.2)

returns : tie.Need-returns
returns c =
    let at-sides = c in
    box_in at-sides.args.bounds at-sides.sides.ensures

pub box_sums_spec : {M : Type 1} → statement M
box_sums_spec = tie.close (tie.spec (λ c. search rules) (λ c. search rules) sides-requires (λ c. search rules) (λ c. search rules) returns)
