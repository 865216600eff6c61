-- The number by the rules is a part of each promise.
use Rattle.base.specs.common.laws.Refusals.{finds_reads}
use Rattle.grid.specs.scan.Judged.{grid_number}
use Rattle.grid.specs.nearest.Judged.{nearest_number}
use Rattle.reasons.specs.declared.Reason.{Reason}
use Rattle.reasons.specs.Reason.{told_by}
use Rattle.mesh.specs.Accepted.{Mesh}
use Rattle.voronoi.specs.FirstBroken.{FirstBroken}

pub first_broken : (m : Mesh) → FirstBroken m
first_broken m = record {
  dist2 = λ a b x. x.number;
  circumcenter = λ a b c x. x.number;
  centroid = λ l x. x.number;
  box = λ g x. x.number;
  box_center = λ g x. x.number;
  corners = λ g x. x.number;
  is_inside = λ g p x. x.number;
  is_exclusively_inside = λ g p x. x.number;
  which_edge = λ g p x. x.number;
  intersect_line = λ g p q x. x.0.number;
  project_ray = λ g p d x. x.0.number;
  check = λ x. x.number;
  walk = λ s x. x.number;
  neighbours = λ s x. x.number;
  clipped_neighbours = λ off ix s x. x.number;
  path = λ s p x. x.number;
  shared_edge = λ a b x. x.number;
  all_neighbours_lem = λ off ix x. x.number;
  ends = λ s points x. x.number;
  why = λ g asked first second x. rw x.told (finds_reads (λ (r : Reason). (told_by r).number) x.why.reason);
  build = λ g x. x.number.found;
  cut = λ g x. x.number;
  cells_share_edge = λ off ix a b x. x.number;
  cell = λ off ix s x. x.number.found;
  cell_part = λ off ix s x. x.number.found;
  cell_wkb_bits = λ v off ix s x. x.number;
  cell_wkb = λ v off ix s x. x.number;
  areas = λ v off ix x. x.number.found;
  audit = λ g sites v off ix starts others bits x. x.number.found;
  certify = λ g sites v off ix bits x. x.number.found;
  mend = λ x. x.number;
  flip = λ sites hull a x. x.number;
  read_multipoint = λ s x. x.number;
  write_multipoint = λ sites x. x.number;
  grid_check = λ g x. rw x.number (finds_reads grid_number x.found);
  grid_nearest = λ g x. rw x.number (finds_reads nearest_number x.found);
  grid_sites_lem = λ grid x. x.number;
}
