-- The mesh is admitted, and the neighbours from the table's half-edge on are handed out; or the number is the refusal's.
use Rattle.std.proofs.Common.{refl, rules}
use Rattle.base.specs.refusal.laws.Number.{some_number, handed_on}
use Rattle.queries.specs.laws.Lists.{served, refuses, gives, neighbours_fill, neighbours_few}
use Rattle.queries.proofs.neighbours.Goals as goal

pub returns-in_err-admit_list : goal.returns-in_err-admit_list
returns-in_err-admit_list c =
    rw (handed_on c.from_residual.result _ c.from_residual.ensures.1)
    (refuses c.in_err-admit_list.ensures c.ask_site-asked.ensures (search rules) _ _ (some_number _) refl)

pub given-requires : goal.given-requires
given-requires c =
    neighbours_few (served c.in_ok-admit_list.ensures refl c.ask_site-asked.ensures tt) _ (rw c.wide.ensures) c.neighbours.ensures

pub returns : goal.returns
returns c =
    let q = c.ask_site-asked.ensures in
    let u = served c.in_ok-admit_list.ensures refl q tt in
    rw (c.given.ensures.0, c.given.ensures.1)
    (gives c.in_ok-admit_list.ensures q (search rules) _ refl _ _ _ _ (neighbours_fill u _ (rw c.wide.ensures) c.neighbours.ensures) refl)
