-- The answer's numbers are those of its one definition; the table that the check left tells which sites are in use.
use Rattle.std.proofs.Common.{sym, ap, ◌∙◌}
use Rattle.grid.specs.check.Promise.{grid_work}
use Rattle.grid.specs.nearest.laws.Outcome.{unused_is}
use Rattle.grid.proofs.nearest.check_nearest_lent.Goals as goal

pub returns : goal.returns
returns c =
    let settled = c.check_nearest-answer.ensures in
    let number = c.number_of-number.ensures in
    record {
      answer = c.check_nearest-answer.result;
      found = settled.found;
      number = number;
      kind_is = c.kind_of.ensures;
      at_place = c.place_of.ensures;
      lowest_unused = λ z. unused_is _ _ _ _ settled (sym number ∙ z) _ (c.unused_after.ensures.told z);
      none_told = c.unused_after.ensures.silent;
      work = settled.work ∙ ap (grid_work _ _) (sym number);
    }
