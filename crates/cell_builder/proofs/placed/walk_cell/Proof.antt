-- `cell_builder::placed::walk_cell` meets its contract: what either walk tells is what is promised.
use native.Mathlib.Omega.{arith}
use borrow.Author.Rules.{rules}
use Rattle.cell_builder.specs.placed.laws.Placing.{crowd_walked, round_walked, broken_walked}
use Rattle.cell_builder.proofs.placed.walk_cell.Statement.{statement}
use Rattle.cell_builder.proofs.placed.walk_cell.Tie as tie

abbrev Back : tie.After-slice_known-then-crowded-1 → tie.After-walk_back-last
Back c = c.before.before

abbrev BackEntry : tie.After-walk_back-last → tie.Start
BackEntry k = k.before.before.before.before.before

abbrev Round : tie.After-slice_known-2-1 → tie.After-walk_round
Round c = c.before.before

abbrev Other : tie.After-walk_round → tie.Else-crowded
Other k = k.before.before

abbrev RoundEntry : tie.After-walk_round → tie.Start
RoundEntry k = k.before.before.before.before.before

sub-t11 : tie.Need-overflow_sub-result
sub-t11 c = let k = Back c in let b = (BackEntry k).requires.4 in omega (arith, (k.walk_back-last.ensures b.0 b.1).ended)

returns : tie.Need-returns-then-crowded
returns c = let k = Back c in λ cell b. rw k.if-crowded.true (crowd_walked (BackEntry k).requires.1 b _ (k.walk_back-last.ensures cell b))

returns-2 : tie.Need-returns-then-walk_round
returns-2 c =
    let k = Round c.before in
    λ cell b. rw (Other k).if-crowded.false (round_walked (RoundEntry k).requires.1 b _ c.if-walk_round.true (k.walk_round.ensures cell b))

returns-3 : tie.Need-returns
returns-3 c =
    let k = Round c.before in
    λ cell b. rw (Other k).if-crowded.false (broken_walked (RoundEntry k).requires.1 b _ (k.walk_round.ensures cell b))

pub walk_cell_spec : {M : Type 1} → statement M
walk_cell_spec =
    tie.close
    (tie.spec (λ c κs. search rules) sub-t11 (λ c. search rules) returns (λ c κs. search rules) (λ c. search rules) (λ c. search rules) returns-2
    (λ c. search rules) returns-3)
