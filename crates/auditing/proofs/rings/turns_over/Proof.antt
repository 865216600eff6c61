-- `auditing::rings::turns_over` meets its contract: the sums of three sides from nothing, and what is taken off over what is added.
use Prim.{tt}
use lib.Dec.{lit<, lit≤}
use Rattle.ring_area.specs.laws.Settles.{open_zeros}
use Rattle.auditing.specs.rings.laws.Fans.{ring_fits, turned}
use borrow.Author.Rules.{rules}
use Rattle.auditing.proofs.rings.turns_over.Statement.{statement}
use Rattle.auditing.proofs.rings.turns_over.Tie as tie

sides-requires : tie.Need-sides-requires
sides-requires c κs =
    let s = c in
    let z = open_zeros 3 (lit≤ tt) in
    (s.requires.1, lit< tt, z, z)

settled_over-requires : tie.Need-settled_over-off-requires
settled_over-requires c κs =
    let at-sides = c in
    let s = at-sides in
    ring_fits s.requires.1 at-sides.sides.ensures

returns : tie.Need-returns
returns c =
    let at-over = c in
    let at-sides = at-over in
    let s = at-sides in
    turned s.requires.1 at-sides.sides.ensures s.args.limit.now at-over.settled_over-off.ensures c.less.ensures

pub turns_over_spec : {M : Type 1} → statement M
turns_over_spec =
    tie.close
    (tie.spec (λ c. search rules) (λ c. search rules) (λ c. search rules) sides-requires (λ c. search rules)
    (λ c. search rules) settled_over-requires (λ c. search rules) (λ c κs. search rules) returns)
