-- Half-edge 3 t ends at the triangle's second site, 3 t + 1 at its third, 3 t + 2 at its first.
use mathlib.Core.Path.{ap}
use mathlib.Core.Bool.{not, false≢true}
use native.Mathlib.Omega.{arith}
use lib.ListN.{get_or}
use borrow.Author.Rules.{rules}
use borrow.Author.Tests.{not-false}
use Rattle.mesh_check.specs.pairing.laws.Threes.{first_next, second_next, third_next}
use Rattle.mesh_check.proofs.pairing.three_half_paired.Statement.{statement}
use Rattle.mesh_check.proofs.pairing.three_half_paired.Tie as tie

abbrev Start : tie.After-shared_slice_known-5-1 → tie.Start
Start c = c.before.before.before.before.before

half_paired-requires : tie.Need-half_paired-requires
half_paired-requires c κs = ((Start c).requires.0, omega arith, ap (λ k. get_or (Start c).args.triangles.now k 0) (first_next (Start c).args.t))

half_paired-requires-2 : tie.Need-half_paired-requires-2
half_paired-requires-2 c κs =
    ((Start c.before.before).requires.0, omega arith, ap (λ k. get_or (Start c.before.before).args.triangles.now k 0) (second_next (Start c.before.before).args.t))

half_paired-requires-3 : tie.Need-half_paired-requires-3
half_paired-requires-3 c κs =
    let s = Start c.before.before.before.before in
    (s.requires.0, omega arith, ap (λ k. get_or s.args.triangles.now k 0) (third_next s.args.t))

returns-3 : tie.Need-returns
returns-3 c =
    let i = c in
    λ h. (i.half_paired.ensures (not-false _ (ap not i.if-not-half_paired.false)), c.half_paired-2.ensures (not-false _ (ap not c.if-not-half_paired-2.false)), c.half_paired-3.ensures h)

pub three_half_paired_spec : {M : Type 1} → statement M
three_half_paired_spec =
    tie.close
    (tie.spec (λ c. search rules) (λ c. search rules) (λ c. search rules) (λ c. search rules) (λ c. search rules) (λ c. search rules) (λ c. search rules)
    (λ c. search rules) (λ c. search rules) (λ c. search rules) (λ c. search rules) (λ c. search rules) half_paired-requires (λ c h. absurd (false≢true h))
    (λ c. search rules) (λ c. search rules) half_paired-requires-2 (λ c h. absurd (false≢true h)) (λ c. search rules) (λ c. search rules) half_paired-requires-3 returns-3)
