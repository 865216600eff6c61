-- `cell_builder::build_cells` meets its contract: the circumcenters decide, then extensions and cells; refused, all is cleared, else the cells are moved together.
use mathlib.Core.Path.{refl}
use native.Mathlib.Omega.{arith}
use borrow.Author.Rules.{rules}
use Rattle.cell_builder.specs.laws.FirstCells.{named}
use Rattle.cell_builder.specs.laws.BuildOutcome.{owned, owners_are, makeable, refused_first, built_by}
use Rattle.cell_builder.proofs.build_cells.Statement.{statement}
use Rattle.cell_builder.proofs.build_cells.Tie as tie

abbrev Entry : tie.After-calculate_circumcenters-arg-1 → tie.Start
Entry a = a.before.before.before.before.before.before.before.before.before

-- the test after the circumcenters, and what stands before it
abbrev Circumcenters : tie.Else-t-triangles → tie.After-calculate_circumcenters-t
Circumcenters c = c.before.before.before

abbrev Tested : tie.After-calculate_corner_ownership-owners → tie.Else-t-triangles
Tested c = c.before.before

calculate_circumcenters-requires : tie.Need-calculate_circumcenters-t-requires
calculate_circumcenters-requires c κs = let e = Entry c in (named e.requires, omega (arith, e.requires.rooms.vertices))

returns : tie.Need-returns-then-t-triangles
returns c =
    let k = c in
    let i = k in
    let w = i in
    let t = w in
    let e = Entry t.before.before.before.before.before.before.before.before.before.before.before.before.before.before in
    refused_first e.requires _ _ _ _ _ _ _ _ _ t.calculate_circumcenters-t.ensures i.if-t-triangles.true w.vertices-1.given k.refuse.ensures refl

calculate_corner_ownership-requires : tie.Need-calculate_corner_ownership-owners-requires
calculate_corner_ownership-requires c κs = let e = Entry (Circumcenters c.before).before in owned e.requires

clip_build-requires : tie.Need-clip_build-requires
clip_build-requires c κs =
    let o = c in
    let t = Circumcenters (Tested o.before.before.before) in
    let e = Entry t.before in
    makeable e.requires _ _ (owners_are e.requires o.calculate_corner_ownership-owners.ensures) (Tested o.before.before.before).vertices-1.given

returns-2 : tie.Need-returns
returns-2 c =
    let k = c in
    let o = k in
    let w = Tested o.before.before.before.before.before.before.before.before.before.before in
    let t = Circumcenters w in
    let e = Entry t.before in
    built_by e.requires _ _ _ _ _ _ _ _ _ t.calculate_circumcenters-t.ensures w.if-t-triangles.false w.vertices-1.given _
    (owners_are e.requires o.calculate_corner_ownership-owners.ensures) k.clip_build.ensures

pub build_cells_spec : {M : Type 1} → statement M
build_cells_spec =
    tie.close
    (tie.spec calculate_circumcenters-requires (λ c. search rules) (λ c κs. search rules) (λ c. search rules)
    (λ c. search rules) (λ c. search rules) returns (λ c. search rules) calculate_corner_ownership-requires
    clip_build-requires (λ c. search rules) (λ c. search rules) (λ c. search rules) returns-2)
