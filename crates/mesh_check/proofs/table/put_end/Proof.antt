-- A turn of `LowestsFrom`, by `lowest_turn`.
use borrow.Author.Rules.{rules}
use mathlib.Core.Path.{ap, ◌∙◌}
use native.Mathlib.Omega.{arith}
use lib.ListN.{get_or}
use Rattle.mesh_check.specs.table.laws.Filling.{lowest_turn}
use Rattle.mesh_check.proofs.table.put_end.Statement.{statement}
use Rattle.mesh_check.proofs.table.put_end.Tie as tie

returns : tie.Need-returns
returns c =
    let s = c in
    let tri = s.args.triangles.now in
    lowest_turn tri s.args.work.now s.args.e c.wide-s.result s.requires.0 s.requires.1 s.requires.5 (c.wide-s.ensures ∙ ap (λ k. get_or tri k 0) s.requires.3) (omega arith)

pub put_end_spec : {M : Type 1} → statement M
put_end_spec =
    tie.close
    (tie.spec (λ c. search rules) (λ c. search rules) (λ c κs. search rules) (λ c. search rules) (λ c. search rules) (λ c. search rules) (λ c. search rules) returns)
