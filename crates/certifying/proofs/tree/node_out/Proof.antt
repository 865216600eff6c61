-- `certifying::tree::node_out` meets its contract.
use mathlib.Core.Path.{◌∙◌}
use Rattle.ring_area.specs.lowest.laws.Loops.{named_twice}
use Rattle.certifying.specs.tree.laws.Search.{node_parts}
use borrow.Author.Rules.{rules}
use Rattle.certifying.proofs.tree.node_out.Statement.{statement}
use Rattle.certifying.proofs.tree.node_out.Tie as tie

abbrev Start : tie.After-wide-2 → tie.Start
Start c = c.before.before.before.before.before.before.before

point_at-requires : tie.Need-point_at-left-requires
point_at-requires c κs = rw c.wide.ensures (named_twice _ _ c.requires.1.left)

point_at-requires-2 : tie.Need-point_at-top-requires
point_at-requires-2 c κs = rw c.wide-2.ensures (named_twice _ _ (Start c).requires.1.top)

point_at-requires-3 : tie.Need-point_at-right-requires
point_at-requires-3 c κs = rw c.wide-3.ensures (named_twice _ _ (Start c.before.before.before).requires.1.right)

point_at-requires-4 : tie.Need-point_at-bottom-requires
point_at-requires-4 c κs = rw c.wide-4.ensures (named_twice _ _ (Start c.before.before.before.before.before.before).requires.1.bottom)

returns : tie.Need-returns
returns c =
    let at-point-at3 = c in
    let at-wide2 = at-point-at3 in
    c.is_off.ensures
    ∙ node_parts (Start at-wide2.before.before.before.before.before.before.before.before).args.sites.now (Start at-wide2.before.before.before.before.before.before.before.before).args.room.now (Start at-wide2.before.before.before.before.before.before.before.before).args.w (Start at-wide2.before.before.before.before.before.before.before.before).args.at
    at-wide2.wide.ensures at-wide2.point_at-left.ensures
    at-wide2.wide-2.ensures at-point-at3.point_at-top.ensures at-point-at3.wide-3.ensures at-point-at3.point_at-right.ensures
    c.wide-4.ensures c.point_at-bottom.ensures

pub node_out_spec : {M : Type 1} → statement M
node_out_spec =
    tie.close (tie.spec (λ c. search rules) (λ c. search rules) (λ c κs. search rules) point_at-requires (λ c. search rules)
    (λ c. search rules) (λ c. search rules) (λ c κs. search rules) point_at-requires-2 (λ c. search rules) (λ c. search rules)
    (λ c. search rules) (λ c κs. search rules) point_at-requires-3 (λ c. search rules) (λ c. search rules) (λ c. search rules)
    (λ c κs. search rules) point_at-requires-4 (λ c κs. search rules) returns)
