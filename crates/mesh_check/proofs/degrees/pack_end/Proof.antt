-- A turn of `Lowests`, by `lowest_turn`.
use borrow.Author.Rules.{rules}
use mathlib.Core.Path.{refl, ap, ◌∙◌}
use mathlib.Core.Bool.{false≢true}
use native.Mathlib.Omega.{arith}
use lib.ListN.{get_or}
use Rattle.mesh_check.specs.degrees.laws.Packing.{lowest_turn}
use Rattle.mesh_check.proofs.degrees.pack_end.Statement.{statement}
use Rattle.mesh_check.proofs.degrees.pack_end.Tie as tie

mul-work : tie.Need-overflow_mul-work
mul-work c = omega (arith, c.slice_known-2-1.given c.wide-s.result)

add-work : tie.Need-overflow_add-work
add-work c = omega (arith, c.slice_known-2-1.given c.wide-s.result)

returns-2 : tie.Need-returns
returns-2 c =
    let w = c.wide-s in
    let s = c in
    let tri = s.args.triangles.now in
    λ _. lowest_turn tri s.args.work.now s.args.e w.result _ s.requires.0 s.requires.1 s.requires.5 (w.ensures ∙ ap (λ k. get_or tri k 0) s.requires.3) refl (omega arith) (omega arith)

pub pack_end_spec : {M : Type 1} → statement M
pack_end_spec =
    tie.close
    (tie.spec (λ c. search rules) (λ c. search rules) (λ c κs. search rules) (λ c. search rules) (λ c. search rules) (λ c h. absurd (false≢true h)) (λ c. search rules) mul-work
    (λ c. search rules) add-work (λ c. search rules) (λ c. search rules) (λ c. search rules) returns-2)
