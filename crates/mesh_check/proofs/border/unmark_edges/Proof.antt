-- The three half-edges, from below.
use borrow.Author.Rules.{rules}
use mathlib.Core.Path.{◌≡◌, ◌∙◌}
use Prim.Native.Nat.{◌+◌, ◌*◌}
use native.Mathlib.Omega.{arith}
use Rattle.mesh_check.proofs.border.unmark_edges.Statement.{statement}
use Rattle.mesh_check.proofs.border.unmark_edges.Tie as tie

abbrev Start : tie.After-unmark_edge-arg-2-1 → tie.Start
Start c = c.before.before.before.before.before.before.before.before.before

unmark_edge-requires : tie.Need-unmark_edge-first-requires
unmark_edge-requires c κs = let s = c in (s.requires.0, s.requires.1, omega arith, s.requires.3 _ (omega arith))

unmark_edge-requires-2 : tie.Need-unmark_edge-second-requires
unmark_edge-requires-2 c κs =
    let u = c.unmark_edge-first in
    ((Start c).requires.0, (Start c).requires.1, omega arith, rw u.auto.work ((Start c).requires.3 _ (omega arith)))

unmark_edge-requires-3 : tie.Need-unmark_edge-requires
unmark_edge-requires-3 c κs =
    let at-unmark-edge2 = c in
    let u = at-unmark-edge2.unmark_edge-second in
    let s = Start at-unmark-edge2.before.before.before.before in
    (s.requires.0, s.requires.1, omega arith, rw (u.auto.work ∙ at-unmark-edge2.unmark_edge-first.auto.work) (s.requires.3 _ (omega arith)))

returns : tie.Need-returns
returns c =
    let at-unmark-edge2 = c in
    let u = c.unmark_edge in
    let u1 = at-unmark-edge2.unmark_edge-first in
    let t = (Start at-unmark-edge2.before.before.before.before.before.before.before).args.t in
    let q : 3 * t + 2 + 1 ≡ 3 * t + 3 = omega arith in
    let r : 3 * t + 1 + 1 ≡ 3 * t + 2 = omega arith in
    λ m g. rw q at (u.ensures m (rw r at (at-unmark-edge2.unmark_edge-second.ensures m (u1.ensures m g))))

pub unmark_edges_spec : {M : Type 1} → statement M
unmark_edges_spec =
    tie.close
    (tie.spec (λ c. search rules) unmark_edge-requires (λ c. search rules) (λ c. search rules) unmark_edge-requires-2 (λ c. search rules) (λ c. search rules)
    unmark_edge-requires-3 (λ c. search rules) returns)
