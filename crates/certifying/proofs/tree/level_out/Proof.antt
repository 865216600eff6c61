-- `certifying::tree::level_out` meets its contract.
use mathlib.Core.Path.{sym, ◌∙◌}
use Rattle.ring_area.specs.lowest.laws.Loops.{no_both}
use Rattle.certifying.specs.tree.laws.Search.{block_fits, block_named, block_out}
use borrow.Author.Rules.{rules}
use native.Mathlib.Omega.{arith}
use Rattle.certifying.proofs.tree.level_out.Statement.{statement}
use Rattle.certifying.proofs.tree.level_out.Tie as tie

returns : tie.Need-returns-then-j-w-ne0
returns c =
    λ e. absurd (no_both (sym e))

mul-node_out : tie.Need-overflow_mul-j
mul-node_out c =
    let s = c in omega (arith, block_fits s.requires.0 s.args.j s.requires.1)

add-node_out : tie.Need-overflow_add-base
add-node_out c =
    let s = c in omega (arith, block_fits s.requires.0 s.args.j s.requires.1)

node_out-requires : tie.Need-node_out-requires
node_out-requires c κs =
    let s = c in
    (block_fits s.requires.0 s.args.j s.requires.1, block_named s.requires.0 s.args.j s.requires.1 c.if-j-w-ne0.false)

returns-2 : tie.Need-returns
returns-2 c =
    let at-if1 = c in let s = at-if1 in
    λ e. block_out s.requires.0 s.args.j s.requires.1 at-if1.if-j-w-ne0.false (sym c.node_out.ensures ∙ e)

pub level_out_spec : {M : Type 1} → statement M
level_out_spec =
    tie.close (tie.spec (λ c. search rules) returns (λ c. search rules) mul-node_out add-node_out
    node_out-requires returns-2)
