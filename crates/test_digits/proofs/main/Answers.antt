-- `test_digits::main` is safe and ends: the schoolbook's identity holds on each page, so that a turn can be taken on it.
use Rattle.std.proofs.Common.{suc, add-one, ◌^◌, sym, subst}
use Rattle.root.specs.whole_root.Turn.{Schoolbook}
use Rattle.root.specs.whole_root.laws.Turns.{turns, narrow}
use Rattle.test_digits.proofs.main.Goals as goal

pub row-page-requires : goal.row-page-requires
row-page-requires c = narrow c.loop-i.invariant c.loop-i-test.true

pub loop-i-preserved : goal.loop-i-preserved
loop-i-preserved c =
    let i = c.loop-i.i in
    rw (add-one i) (subst (Schoolbook (2 ^ 53) (suc i)) (sym c.row-page.ensures) (turns c.loop-i.invariant))
