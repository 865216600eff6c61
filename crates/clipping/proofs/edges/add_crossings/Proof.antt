-- `clipping::edges::add_crossings` meets its contract: it adds the crossings, case by case.
use mathlib.Core.Path.{refl}
use Rattle.plane.specs.points.Flat.{points}
use Rattle.clipping.specs.edges.laws.EdgeClip.{with_none}
use borrow.Author.Rules.{rules}
use Rattle.clipping.proofs.edges.add_crossings.Statement.{statement}
use Rattle.clipping.proofs.edges.add_crossings.Tie as tie

returns : tie.Need-returns-in-None
returns c =
    let a = c.args in
    rw (c.in-None.is, with_none a.env.centers (points a.count a.vertices.now)) (refl, refl)

returns-2 : tie.Need-returns-in-One
returns-2 c =
    let at-clip-once = c in
    rw at-clip-once.in-One.is at-clip-once.clip_once.ensures

returns-3 : tie.Need-returns-in-Two
returns-3 c =
    let at-clip-twice = c in
    rw at-clip-twice.in-Two.is at-clip-twice.clip_twice.ensures

pub add_crossings_spec : {M : Type 1} → statement M
add_crossings_spec =
    tie.close
    (tie.spec (λ c. search rules) (λ c. search rules) (λ c κs. search rules) (λ c. search rules) (λ c κs. search rules)
    returns (λ c. search rules) (λ c. search rules) returns-2 (λ c. search rules) (λ c. search rules) returns-3)
