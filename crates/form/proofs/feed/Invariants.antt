-- The invariant is `Feeding`, and what is left of the bytes is the measure.
use Rattle.form.specs.step.Reader.{reading}
use Rattle.form.specs.laws.Feed.{Feeding}
use Rattle.form.proofs.feed.Given as goal

abbrev pub invariant-loop-b : goal.invariant-loop-b
invariant-loop-b l = Feeding l.bytes (reading l.initial.n l.fn.bounds l.fn.sites l.fn.triangles l.fn.halfedges l.fn.hull) (reading l.n l.bounds l.sites l.triangles l.halfedges l.hull) l.b-index
