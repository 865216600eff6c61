-- Theorem: what each number says where the builder met a fault: 11 the lowest triangle whose circumcenter breaks the rule, 12 the lowest hull place whose extension does,
-- 13 an edge with one end inside and no crossing, 14 one with both ends outside and one crossing.
use Rattle.std.specs.Prelude.{◌≡◌, true, false, List, ◌⊎◌, ℕ, ◌/◌, ◌≤◌, Float, length}
use Rattle.std.proofs.Common.{ap, inl, inr, arith}
use Rattle.base.specs.common.Refusals.{Keeps, Breaks}
use Rattle.base.specs.numbers.Numbers.{refused_circumcenter, refused_extension, refused_no_crossing, refused_one_crossing}
use Rattle.plane.specs.declared.points.Point.{Point}
use Rattle.plane.specs.declared.boxes.BoundingBox.{BoundingBox}
use Rattle.plane.specs.declared.lines.Crossing.TheVariants.{None, One}
use Rattle.mesh.specs.Accepted.{Mesh}
use Rattle.definition.specs.declared.Fault.{Fault}
use Rattle.definition.specs.Cell.{vertex_at, edge_crossing, in_box}
use Rattle.definition.specs.Build.{CellState}
use Rattle.build_laws.specs.Tries.{center_rule, extension_rule, TryOf}
use Rattle.build_laws.specs.Met.{EdgeBreaks, leaves_unmet, enters_unmet, crosses_once, EdgeMet, FaultMet, at_triangle, at_hull_place, at_ring_edge}

number_of : {f g : Fault} → f ≡ g → f.number ≡ g.number
number_of e = ap (λ (h : Fault). h.number) e

-- ---- an edge

module _ {b : BoundingBox} {nc : ℕ} {vs : List Point} {p q n : ℕ} where
  pub edge_number : EdgeBreaks b nc vs p q n → (refused_no_crossing ≤ n) × (n ≤ refused_one_crossing)
  edge_number (leaves_unmet is p_in qOut x) = omega arith
  edge_number (enters_unmet is pOut qIn x) = omega arith
  edge_number (crosses_once is pOut qOut x y c) = omega arith

  pub no_crossing : EdgeBreaks b nc vs p q n → n ≡ refused_no_crossing
      → ((in_box b nc vs p ≡ true) × (in_box b nc vs q ≡ false) × (edge_crossing b (vertex_at vs p) (vertex_at vs q) ≡ None))
      ⊎ ((in_box b nc vs p ≡ false) × (in_box b nc vs q ≡ true) × (edge_crossing b (vertex_at vs q) (vertex_at vs p) ≡ None))
  no_crossing (leaves_unmet is p_in qOut x) z = inl (p_in, qOut, x)
  no_crossing (enters_unmet is pOut qIn x) z = inr (pOut, qIn, x)
  no_crossing (crosses_once is pOut qOut x y c) z = absurd (omega arith)

  pub one_crossing : EdgeBreaks b nc vs p q n → n ≡ refused_one_crossing
      → (in_box b nc vs p ≡ false) × (in_box b nc vs q ≡ false) × ((x : Float) × (y : Float) × (edge_crossing b (vertex_at vs p) (vertex_at vs q) ≡ One x y))
  one_crossing (leaves_unmet is p_in qOut x) z = absurd (omega arith)
  one_crossing (enters_unmet is pOut qIn x) z = absurd (omega arith)
  one_crossing (crosses_once is pOut qOut x y c) z = (pOut, qOut, (x, y, c))

-- ---- a fault

module _ {m : Mesh} {b : BoundingBox} {f : Fault} where
  pub at_center : FaultMet m b f → f.number ≡ refused_circumcenter → Breaks (center_rule m.sites m.triangles) f
  at_center (at_triangle br) z = br
  at_center (at_hull_place c br) z = absurd (omega (arith, number_of br.3))
  at_center (at_ring_edge c x ring s t m) z = absurd (omega (arith, edge_number m.breaks))

  pub at_extension : FaultMet m b f → f.number ≡ refused_extension → Keeps (center_rule m.sites m.triangles) × Breaks (extension_rule m) f
  at_extension (at_triangle br) z = absurd (omega (arith, number_of br.3))
  at_extension (at_hull_place c br) z = (c, br)
  at_extension (at_ring_edge c x ring s t m) z = absurd (omega (arith, edge_number m.breaks))

  -- the cell and the edge
  pub at_edge : FaultMet m b f → refused_no_crossing ≤ f.number
      → Keeps (center_rule m.sites m.triangles) × Keeps (extension_rule m) × ((ring : List ℕ) × (s : CellState) × TryOf m b f.place ring s
      × EdgeMet b (length m.triangles / 3) f.place ring s.verts s.owners f.from f.to f.number)
  at_edge (at_triangle br) z = absurd (omega (arith, number_of br.3))
  at_edge (at_hull_place c br) z = absurd (omega (arith, number_of br.3))
  at_edge (at_ring_edge c x ring s t m) z = (c, x, (ring, s, t, m))

  pub met_number : FaultMet m b f → (refused_circumcenter ≤ f.number) × (f.number ≤ refused_one_crossing)
  met_number (at_triangle br) = omega (arith, number_of br.3)
  met_number (at_hull_place c br) = omega (arith, number_of br.3)
  met_number (at_ring_edge c x ring s t m) = omega (arith, edge_number m.breaks)
