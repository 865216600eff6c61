-- `clipping::edges::crossing_of` meets its contract: of an edge that stays inside nothing is asked, else it starts from q where that is inside.
use Rattle.plane.specs.points.Flat.{points}
use Rattle.clipping.specs.edges.laws.EdgeClip.{asked_inside, asked_found, either_below}
use borrow.Author.Rules.{rules}
use Rattle.clipping.proofs.edges.crossing_of.Statement.{statement}
use Rattle.clipping.proofs.edges.crossing_of.Tie as tie

returns : tie.Need-returns-then-q_in-p_in
returns c =
    let a = c.args in
    asked_inside a.bounds (points a.count a.vertices.now) a.p a.p_in a.q a.q_in _ c.if-q_in-p_in.true

crossing_between-requires : tie.Need-crossing_between-requires
crossing_between-requires c κs =
    let s = c in
    let a = s.args in (
      s.requires.0,
      either_below a.q_in a.q a.p a.count _ c.either-from.ensures s.requires.2 s.requires.1,
      either_below a.q_in a.p a.q a.count _ c.either-to.ensures s.requires.1 s.requires.2,
    )

returns-2 : tie.Need-returns
returns-2 c =
    let at-either2 = c in
    let a = at-either2.args in
    asked_found a.bounds (points a.count a.vertices.now) a.p a.p_in a.q a.q_in _ _ _ at-either2.either-from.ensures at-either2.either-to.ensures
    c.crossing_between.ensures

pub crossing_of_spec : {M : Type 1} → statement M
crossing_of_spec =
    tie.close
    (tie.spec returns (λ c κs. search rules) (λ c κs. search rules) crossing_between-requires returns-2)
