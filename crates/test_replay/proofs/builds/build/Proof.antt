-- `test_replay::builds::build` meets its contract: the box is that of the four floats.
use borrow.Author.Rules.{rules}
use Rattle.mesh.specs.Accepted.{Mesh, mesh}
use Rattle.admission.specs.Slices.{Slices, slices}
use Rattle.test_replay.specs.laws.Replayed.{box_read}
use Rattle.test_replay.proofs.builds.build.Statement.{statement}
use Rattle.test_replay.proofs.builds.build.Tie as tie

abbrev Read : tie.After-voronoi_build → tie.After-float-4
Read c = c.before.before.before.before.before.before

abbrev Begin : tie.After-voronoi_build → tie.Start
Begin c = c.before.before.before.before.before.before.before.before.before.before.before.before.before.before.before.before.before.before.before.before

abbrev Lent : tie.After-voronoi_build → Mesh
Lent c = let a = (Begin c).args in mesh a.sites.now a.triangles.now a.halfedges.now a.hull.now

abbrev Old : tie.After-voronoi_build → Slices
Old c = let a = (Begin c).args in slices a.work.now a.vertices.now a.indexes.now a.offsets.now a.counts.now

abbrev New : tie.After-voronoi_build → Slices
New c = let l = c.voronoi_build.new in slices l.work l.vertices l.indexes l.offsets l.counts

returns : tie.Need-returns
returns c =
    let v = c in
    let f = Read v.before.before.before.before.before.before.before.before.before.before in
    box_read (Lent v.before.before.before.before.before.before.before.before.before.before) (Begin v.before.before.before.before.before.before.before.before.before.before).args.b.now (Old v.before.before.before.before.before.before.before.before.before.before) (New v.before.before.before.before.before.before.before.before.before.before) v.voronoi_build.result f.float.result
    f.float-2.result f.float-3.result f.float-4.result f.float.ensures
    f.float-2.ensures f.float-3.ensures f.float-4.ensures v.voronoi_build.ensures

pub build_spec : {M : Type 1} → statement M
build_spec =
    tie.close
    (tie.spec (λ c κs. search rules) (λ c κs. search rules) (λ c κs. search rules) (λ c κs. search rules)
    (λ c κs. search rules) (λ c. search rules) (λ c. search rules) (λ c. search rules) (λ c. search rules)
    (λ c. search rules) returns)
