-- The mesh is admitted, and the path over the table is handed out; or the number is the refusal's.
use Rattle.std.proofs.Common.{refl, rules}
use Rattle.base.specs.refusal.laws.Number.{some_number, handed_on}
use Rattle.queries.specs.laws.Lists.{list_fit, served, refuses, gives, destination_kept, path_ready, path_towards, path_fills, path_few}
use Rattle.queries.proofs.path.Goals as goal

pub returns-in_err-admit_list : goal.returns-in_err-admit_list
returns-in_err-admit_list c =
    rw (handed_on c.from_residual.result _ c.from_residual.ensures.1)
    (refuses c.in_err-admit_list.ensures c.ask_path-asked.ensures (search rules) _ _ (some_number _) refl)

pub path-requires : goal.path-requires
path-requires c =
    let q = c.ask_path-asked.ensures in
    let u = served c.in_ok-admit_list.ensures refl q (search rules) in
    let to = destination_kept _ _ _ (list_fit c.in_ok-admit_list.ensures refl) q in
    (path_ready u _ to, path_towards u _ to, u.below)

pub given-requires : goal.given-requires
given-requires c = path_few (served c.in_ok-admit_list.ensures refl c.ask_path-asked.ensures (search rules)) _ c.path.ensures

pub returns : goal.returns
returns c =
    let q = c.ask_path-asked.ensures in
    rw (c.given.ensures.0, c.given.ensures.1)
    (gives c.in_ok-admit_list.ensures q (search rules) _ refl _ _ _ _ (path_fills (served c.in_ok-admit_list.ensures refl q (search rules)) _ c.path.ensures) refl)
