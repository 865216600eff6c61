-- What the builder met where it refused: rule 11 at a triangle, rule 12 at a hull place, or 13 or 14 at an edge of the ring of a try. Whatever comes before that went through.
use Rattle.std.specs.Prelude.{◌≡◌, Bool, true, false, List, ◌∷◌, ℕ, ◌/◌, ◌<◌, ltb, length, get_or, take, Float}
use Rattle.base.specs.common.Pick.{pick}
use Rattle.base.specs.common.Refusals.{Keeps, Breaks}
use Rattle.base.specs.numbers.Numbers.{EMPTY, refused_no_crossing, refused_one_crossing}
use Rattle.plane.specs.declared.points.Point.{Point}
use Rattle.plane.specs.declared.boxes.BoundingBox.{BoundingBox}
use Rattle.plane.specs.declared.lines.Crossing.TheVariants.{None, One}
use Rattle.mesh.specs.Accepted.{Mesh}
use Rattle.definition.specs.declared.Fault.{Fault}
use Rattle.definition.specs.Fault.{ok, refused}
use Rattle.definition.specs.Cell.{vertex_at, edge_crossing, clip_step, in_box, Tip, RingPart, steps_to, first_inside, turned}
use Rattle.definition.specs.Build.{CellState}
use Rattle.definition.specs.Short.{tip}
use Rattle.build_laws.specs.Tries.{center_rule, extension_rule, TryOf}

-- ---- what is wrong with an edge

-- the edge from vertex p to vertex q breaks rule n; vs are the vertices before it. The crossings are sought from the end that is inside, else from the first
pub data EdgeBreaks (b : BoundingBox) (nc : ℕ) (vs : List Point) (p q n : ℕ) : Type 0 where
  -- 13: one end is inside, and from there no crossing is found
  leaves_unmet : n ≡ refused_no_crossing → in_box b nc vs p ≡ true → in_box b nc vs q ≡ false
      → edge_crossing b (vertex_at vs p) (vertex_at vs q) ≡ None → EdgeBreaks b nc vs p q n
  enters_unmet : n ≡ refused_no_crossing → in_box b nc vs p ≡ false → in_box b nc vs q ≡ true
      → edge_crossing b (vertex_at vs q) (vertex_at vs p) ≡ None → EdgeBreaks b nc vs p q n
  -- 14: both ends are outside, and one crossing is found
  crosses_once : n ≡ refused_one_crossing → in_box b nc vs p ≡ false → in_box b nc vs q ≡ false
      → (x y : Float) → edge_crossing b (vertex_at vs p) (vertex_at vs q) ≡ One x y → EdgeBreaks b nc vs p q n

-- ---- the edge at which a ring stops

module _ (b : BoundingBox) (nc : ℕ) (ring : List ℕ) (vs : List Point) where
  -- clipping begins at the first vertex inside, else at the first of the ring
  abbrev pub begins_inside : Bool
  begins_inside = ltb (first_inside b nc vs ring) (length ring)

  abbrev pub begins_at : ℕ
  begins_at = pick begins_inside (λ _. first_inside b nc vs ring) (λ _. 0)

  -- the ring's vertices in the order walked, after the one where it begins
  abbrev pub walked : List ℕ
  walked = turned begins_at ring

  abbrev pub first_tip : List ℕ → Tip
  first_tip os = tip vs os EMPTY (get_or ring begins_at 0) begins_inside false

-- the first k edges of the ring of a site went through and lead to part c; the next, from p to q, breaks rule n, and the step is refused by it
pub record EdgeMet (b : BoundingBox) (nc site : ℕ) (ring : List ℕ) (vs : List Point) (os : List ℕ) (p q n : ℕ) : Type 0 where
  pub k : ℕ
  pub there : k < length ring
  pub c : RingPart
  pub before : steps_to b nc site (take k (walked b nc ring vs)) (first_tip b nc ring vs os) ≡ ok c
  pub from : get_or (get_or ring (begins_at b nc ring vs) 0 ∷ walked b nc ring vs) k 0 ≡ p
  pub to : get_or (walked b nc ring vs) k 0 ≡ q
  pub breaks : EdgeBreaks b nc c.tip.verts p q n
  pub stops : clip_step b nc site p (in_box b nc c.tip.verts p) q (in_box b nc c.tip.verts q) c.tip.verts c.tip.owners c.tip.opened c.tip.last ≡ refused n

-- ---- the fault

pub data FaultMet (m : Mesh) (b : BoundingBox) (f : Fault) : Type 0 where
  -- 11: the lowest triangle whose circumcenter breaks the rule
  at_triangle : Breaks (center_rule m.sites m.triangles) f → FaultMet m b f
  -- 12: the lowest hull place whose extension does
  at_hull_place : Keeps (center_rule m.sites m.triangles) → Breaks (extension_rule m) f → FaultMet m b f
  -- 13 and 14: the cell that is tried, and the edge
  at_ring_edge : Keeps (center_rule m.sites m.triangles) → Keeps (extension_rule m) → (ring : List ℕ) (s : CellState)
      → TryOf m b f.place ring s → EdgeMet b (length m.triangles / 3) f.place ring s.verts s.owners f.from f.to f.number → FaultMet m b f
