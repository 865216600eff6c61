-- `certifying::tree::first_site_nearer_by_tree` meets its contract.
use Rattle.certifying.specs.tree.laws.Search.{sites_held, pieces_held}
use Rattle.certifying.proofs.tree.first_site_nearer_by_tree.Statement.{statement}
use Rattle.certifying.proofs.tree.first_site_nearer_by_tree.Tie as tie

plant-requires : tie.Need-plant-requires
plant-requires c κs =
    let at-shared-slice-known = c in (
      sites_held at-shared-slice-known.requires.0 (λ k. at-shared-slice-known.shared_slice_known-1.given k),
      at-shared-slice-known.requires.0.few,
      at-shared-slice-known.requires.1,
    )

none_nearer-requires : tie.Need-none_nearer-requires
none_nearer-requires c κs =
    let s = c in (
      s.requires.0,
      c.plant.ensures.0,
      sites_held s.requires.0 (λ k. c.shared_slice_known-1.given k),
      pieces_held s.requires.0 (λ k. c.shared_slice_known-2-1.given k),
    )

same_length : tie.Need-shape_of-room-then-none_nearer
same_length c = c.plant.ensures.1

returns : tie.Need-returns-then-none_nearer
returns c = (c.none_nearer.ensures c.if-none_nearer.true, c.plant.ensures.1)

first_in_order-requires : tie.Need-first_in_order-requires
first_in_order-requires c κs =
    let s = c in (
      s.requires.0,
      c.plant.ensures.0,
      sites_held s.requires.0 (λ k. c.shared_slice_known-1.given k),
      pieces_held s.requires.0 (λ k. c.shared_slice_known-2-1.given k),
    )

same_length-2 : tie.Need-shape_of-room
same_length-2 c = c.plant.ensures.1

returns-2 : tie.Need-returns
returns-2 c = (c.first_in_order.ensures, c.plant.ensures.1)

pub first_site_nearer_by_tree_spec : {M : Type 1} → statement M
first_site_nearer_by_tree_spec =
    tie.close (tie.spec plant-requires none_nearer-requires same_length returns first_in_order-requires same_length-2 returns-2)
