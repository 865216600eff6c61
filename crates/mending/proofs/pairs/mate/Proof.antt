-- What is marked where d starts, if it starts where d ends, runs the other way; if not, none does.
use mathlib.Core.Path.{ap}
use native.Mathlib.Omega.{arith}
use lib.ListN.{get_or}
use Rattle.mending.specs.pairs.laws.Marking.{said, denied}
use Rattle.mending.specs.pairs.laws.Pairing.{mate_marked, mate_unmarked}
use borrow.Author.Rules.{rules}
use Rattle.mending.proofs.pairs.mate.Statement.{statement}
use Rattle.mending.proofs.pairs.mate.Tie as tie

abbrev Start : tie.After-wide → tie.Start
Start c = c.before.before.before.before

mul-m : tie.Need-offset_bounds-marks-wide
mul-m c = record {
  fits =
      let at_start = c in
      omega (arith, at_start.requires.0.named _ at_start.requires.2, c.wide.ensures);
}

shared_slice_read-m : tie.Need-bounds-marks-wide
shared_slice_read-m c = omega (arith, (Start c.before).requires.0.named _ (Start c.before).requires.2, c.wide.ensures)

returns : tie.Need-returns-then-from_site
returns c =
    let at_start = Start c.before.before.before in
    mate_marked _ _ _ at_start.requires.0 at_start.requires.1 _ at_start.requires.2 at_start.requires.3 _ (ap (λ b. get_or at_start.args.marks.now b
    0) c.wide.ensures) (said c.from_site.result c.if-from_site.true c.from_site.ensures)

returns-2 : tie.Need-returns
returns-2 c =
    let at_start = Start c.before.before.before in
    mate_unmarked _ _ _ at_start.requires.0 at_start.requires.1 _ at_start.requires.2 at_start.requires.3 _ (ap (λ b. get_or at_start.args.marks.now b
    0) c.wide.ensures) (denied c.from_site.result c.if-from_site.false c.from_site.ensures)

pub mate_spec : {M : Type 1} → statement M
mate_spec =
    tie.close
    (tie.spec (λ c. search rules) (λ c. search rules) (λ c κs. search rules) mul-m shared_slice_read-m
    (λ c κs. search rules) returns returns-2)
