-- `certifying::call::judge_sides` meets its contract: the sides are laid and inserted.
use Rattle.certifying.specs.call.laws.Stages.{insert_safe, chained_safe}
use Rattle.certifying.proofs.call.judge_sides.Goals as goal

pub insert_all-requires : goal.insert_all-requires
insert_all-requires c = insert_safe c.requires c.side_count-count.ensures

pub judge_chained-requires : goal.judge_chained-requires
judge_chained-requires c = chained_safe c.requires c.side_count-count.ensures c.insert_all.ensures
