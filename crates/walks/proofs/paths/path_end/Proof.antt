-- The loop follows the path, whose last entry stays the same, and stops where the hop does. It ends because what is left gets shorter.
use lib.ListN.{length}
use Rattle.walks.specs.paths.Path.{whole_path}
use Rattle.walks.specs.paths.laws.PathLoops.{Following, following_start, following_stop, following_less, following_go}
use Rattle.walks.proofs.paths.path_end.Statement.{statement}
use Rattle.walks.proofs.paths.path_end.Tie as tie

abbrev invariant-loop : tie.invariant-loop-at
invariant-loop sites triangles halfedges table s p at₀ at = Following sites triangles halfedges table p s at

abbrev decreases-loop : tie.decreases-loop-at
decreases-loop sites triangles halfedges table s p at₀ at = length (whole_path sites triangles halfedges table p at)

loop-holds : tie.Need-loop-at-init invariant-loop decreases-loop
loop-holds c = following_start _ _ _ _ _ c.requires.0 c.requires.1 _ c.requires.2

abbrev Begin : tie.At-loop-at invariant-loop decreases-loop → tie.Start invariant-loop decreases-loop
Begin c = c.before.before.before.before.before

hop-requires : tie.Need-hop-next-requires invariant-loop decreases-loop
hop-requires c κs = ((Begin c).requires.0, c.loop-at.invariant.below)

returns : tie.Need-returns-then-next-at invariant-loop decreases-loop
returns c =
    let l = c in
    following_stop _ _ _ _ _ (Begin l.before.before).requires.0 (Begin l.before.before).requires.1 l.loop-at.invariant _ c.hop-next.ensures.0 (Begin l.before.before).requires.2 c.if-next-at.true

loop-less : tie.Need-loop-at-smaller invariant-loop decreases-loop
loop-less c =
    let l = c in
    following_less _ _ _ _ _ (Begin l.before.before).requires.0 (Begin l.before.before).requires.1 l.loop-at.invariant _ c.hop-next.ensures.0 c.if-next-at.false

loop-again : tie.Need-loop-at-preserved invariant-loop decreases-loop
loop-again c =
    let l = c in
    following_go _ _ _ _ _ (Begin l.before.before).requires.0 (Begin l.before.before).requires.1 l.loop-at.invariant _ c.hop-next.ensures.0 c.if-next-at.false c.hop-next.ensures.1

pub path_end_spec : {M : Type 1} → statement M
path_end_spec =
    tie.close (tie.spec invariant-loop decreases-loop loop-holds hop-requires returns loop-less loop-again)
