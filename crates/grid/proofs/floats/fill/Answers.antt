-- The list that is made has these entries and no more.
use Rattle.std.specs.Prelude.{length}
use Rattle.std.proofs.Common.{sym, ◌∙◌, arith}
use Rattle.base.specs.common.Binary64.{zero}
use Rattle.grid.specs.floats.laws.Filled.{made_length}
use Rattle.grid.proofs.floats.fill.Goals as goal
use lib.Seq.{ext_get_or}

pub returns : goal.returns
returns c =
    ext_get_or zero _ _ (c.loop-i.auto.sites ∙ sym (made_length c.args.grid.now (length c.args.sites.now) c.requires)) (λ k l. c.loop-i.invariant k (omega arith))
