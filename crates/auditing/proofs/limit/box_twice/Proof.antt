-- `auditing::limit::box_twice` meets its contract: the box's sides from nothing, and what is added over what is taken off.
use Prim.{tt}
use lib.Dec.{lit≤}
use borrow.Author.Rules.{rules}
use Rattle.ring_area.specs.laws.Settles.{open_zeros}
use Rattle.auditing.specs.limit.laws.Boxes.{box_fits, box_over}
use Rattle.auditing.proofs.limit.box_twice.Statement.{statement}
use Rattle.auditing.proofs.limit.box_twice.Tie as tie

box_sums-requires : tie.Need-box_sums-requires
box_sums-requires c κs = let z = open_zeros 4 (lit≤ tt) in (c.requires, z, z)

settled_over-requires : tie.Need-settled_over-requires
settled_over-requires c κs =
    let at-sums = c in
    box_fits _ at-sums.requires at-sums.box_sums.ensures

returns : tie.Need-returns
returns c =
    let at-sums = c in
    box_over _ at-sums.requires at-sums.box_sums.ensures c.settled_over.ensures

pub box_twice_spec : {M : Type 1} → statement M
box_twice_spec =
    tie.close
    (tie.spec (λ c. search rules) (λ c. search rules) box_sums-requires (λ c. search rules) (λ c. search rules) settled_over-requires
    returns)
