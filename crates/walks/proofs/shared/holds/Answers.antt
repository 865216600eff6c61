-- The library's search tells what it found.
use Rattle.std.proofs.Common.{◌∙◌}
use Rattle.walks.specs.shared.laws.Entries.{any_holds}
use Rattle.walks.proofs.shared.holds.Goals as goal

pub returns : goal.returns
returns c = c.contains.ensures.value ∙ any_holds _ _
