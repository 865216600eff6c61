-- `auditing::total::sums` meets its contract: the box, then the rings.
use Rattle.auditing.specs.total.laws.Sums.{open_box, open_rings, total_in}
use borrow.Author.Rules.{rules}
use Rattle.auditing.proofs.total.sums.Statement.{statement}
use Rattle.auditing.proofs.total.sums.Tie as tie

abbrev Start : tie.After-box_sums-arg-2-1 → tie.Start
Start c = c.before.before.before.before.before.before.before

box_sums-requires : tie.Need-box_sums-requires
box_sums-requires c κs =
    let p = (Start c).requires in
    (p.0, open_box p.2, open_box p.3)

rings-requires : tie.Need-rings-requires
rings-requires c κs =
    let first = c in
    let p = (Start first.before.before.before.before.before.before.before).requires in
    (p.1, open_rings p.1.few p.2 first.box_sums.ensures.added, open_rings p.1.few p.3 first.box_sums.ensures.taken)

returns : tie.Need-returns
returns c =
    let second = c in
    total_in second.box_sums.ensures second.rings.ensures

pub sums_spec : {M : Type 1} → statement M
sums_spec = tie.close (tie.spec box_sums-requires rings-requires (λ c. search rules) (λ c. search rules) returns)
