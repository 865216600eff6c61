-- The invariant is that every site passed keeps rule 6.
use Rattle.std.proofs.Common.{ℕ, ◌<◌}
use Rattle.plane.specs.points.Sites.{KeptAt}
use Rattle.plane.proofs.points.first_bad_site.Given as goal

abbrev pub invariant-loop-i : goal.invariant-loop-i
invariant-loop-i l = (k : ℕ) → k < l.i → KeptAt l.sites k
