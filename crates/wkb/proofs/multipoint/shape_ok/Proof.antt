-- `wkb::multipoint::shape_ok` meets its contract: the length, the head, the count, the points.
use mathlib.Core.Bool.{not}
use mathlib.Core.Path.{ap}
use Rattle.base.specs.common.laws.Decide as decide
use Rattle.wkb.specs.multipoint.laws.Answers.{short_file, other_length, points_say}
use borrow.Author.Rules.{rules}
use Rattle.wkb.proofs.multipoint.shape_ok.Statement.{statement}
use Rattle.wkb.proofs.multipoint.shape_ok.Tie as tie

returns : tie.Need-returns-then-file-lt9
returns c = short_file _ c.if-file-lt9.true

returns-2 : tie.Need-returns-then-not-starts
returns-2 c =
    λ p. decide.refused c.starts.result (ap not c.if-not-starts.true) c.starts.ensures p.starts

returns-3 : tie.Need-returns-then-file-count
returns-3 c =
    let at-count-of = c in
    let at-starts = c in
    other_length _ at-starts.if-file-lt9.false (decide.granted at-starts.starts.result (ap not c.if-not-starts.false) at-starts.starts.ensures)
    at-count-of.count_of-count.result at-count-of.count_of-count.ensures.0 c.if-file-count.true

returns-4 : tie.Need-returns
returns-4 c =
    let at-count-of = c in
    let at-starts = at-count-of in
    points_say _ at-starts.if-file-lt9.false (decide.granted at-starts.starts.result (ap not at-count-of.if-not-starts.false) at-starts.starts.ensures)
    at-count-of.count_of-count.result at-count-of.count_of-count.ensures.0 c.points_start.result c.if-file-count.false c.points_start.ensures

pub shape_ok_spec : {M : Type 1} → statement M
shape_ok_spec =
    tie.close
    (tie.spec returns (λ c κs. search rules) returns-2 (λ c κs. search rules) (λ c. search rules) (λ c. search rules) returns-3
    (λ c κs. search rules) returns-4)
