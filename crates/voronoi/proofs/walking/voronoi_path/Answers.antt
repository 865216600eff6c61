-- The query's answer, its count and its end in the lent numbers.
use Rattle.voronoi.specs.laws.Walks.{handed}
use Rattle.voronoi.proofs.walking.voronoi_path.Goals as goal

pub returns : goal.returns
returns c = let p = c.put_listed.ensures in rw (p.0, p.1) (handed c.path-answer.ensures _ p.2)
