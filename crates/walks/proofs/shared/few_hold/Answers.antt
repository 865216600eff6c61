-- There is a first entry that is x, or none.
use Rattle.std.specs.Prelude.{is_some}
use Rattle.std.proofs.Common.{◌∙◌, ◌==◌, ap, rules, tests}
use Rattle.std.proofs.lemmas.Iterator.{YieldsList-from_slice}
use Rattle.std.proofs.lemmas.Iterator.Search.{position_from_yields_List}
use Rattle.walks.specs.shared.laws.Entries.{first_holds}
use Rattle.walks.proofs.shared.few_hold.Goals as goal

pub returns : goal.returns
returns c =
    let first = position_from_yields_List (λ y. y == c.args.x) _ _ _ c.position.ensures.ran (YieldsList-from_slice c.args.b.now cc) (λ y q r k. search (rules, tests)) in
    c.is_some.ensures ∙ ap is_some first ∙ first_holds c.args.b.now c.args.x
