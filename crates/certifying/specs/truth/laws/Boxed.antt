-- The tests of sides in floats are the same tests on whole numbers.
use Rattle.std.proofs.Math.Path.{◌≡◌, refl}
use Rattle.std.specs.Prelude.{Bool, ◌&&◌, ℕ, ◌*◌, ◌<◌, eqb, Float}
use Rattle.std.proofs.Math.Bool.{true, false}
use Prim.{tt}
use Rattle.std.proofs.Common.{lit≤}
use Rattle.base.specs.common.Pick.{pick}
use Rattle.root.specs.laws.Bounds.{weaken}
use Rattle.plane.specs.declared.points.Point.{Point}
use Rattle.plane.specs.declared.boxes.BoundingBox.{BoundingBox}
use Rattle.certifying.specs.cover.Cover.{leaves}
use Rattle.certifying.specs.cover.Kinds.{along_edge}
use Rattle.auditing.specs.places.Places.{same_of}
use Rattle.audit_truth.specs.Held.{HeldWithin, HeldPoint, HeldBox}
use Rattle.certifying.specs.sides.Sides.{one_for, along_of, leaves_of}
use Rattle.certifying.specs.truth.Places.{raised_units, lifted_place}
use Rattle.certifying.specs.truth.laws.Equal.{eq_raised}

-- an edge is a coordinate too
pub edge_held : {x : Float} → HeldWithin 101 x → HeldWithin 400 x
edge_held {x} h = record { held = h.held; bounded = weaken x 101 400 (lit≤ tt) h.bounded }

module _ (c : ℕ) (pos : 0 < c) where
  pub same_is : (p q : Point) → HeldPoint p → HeldPoint q → same_of p q ≡ (eqb (lifted_place c p).x (lifted_place c q).x && eqb (lifted_place c p).y (lifted_place c q).y)
  unfolding same_of
  same_is p q h g = rw (eq_raised c pos p.x q.x h.x g.x, eq_raised c pos p.y q.y h.y g.y) refl

  module _ (b : BoundingBox) (box : HeldBox b) (p q : Point) (h : HeldPoint p) (g : HeldPoint q) where
    pub along_is : along_of b p q ≡ along_edge (c * raised_units b.left) (c * raised_units b.top) (c * raised_units b.right) (c * raised_units b.bottom) (lifted_place c p) (lifted_place c q)
    unfolding along_of along_edge
    along_is =
        rw (
          eq_raised c pos p.x b.left h.x (edge_held box.left),
          eq_raised c pos q.x b.left g.x (edge_held box.left),
          eq_raised c pos p.x b.right h.x (edge_held box.right),
          eq_raised c pos q.x b.right g.x (edge_held box.right),
          eq_raised c pos p.y b.top h.y (edge_held box.top),
          eq_raised c pos q.y b.top g.y (edge_held box.top),
          eq_raised c pos p.y b.bottom h.y (edge_held box.bottom),
          eq_raised c pos q.y b.bottom g.y (edge_held box.bottom),
        ) refl

    pub leaves_is : one_for (leaves_of b p q)
        ≡ leaves (c * raised_units b.left) (c * raised_units b.top) (c * raised_units b.right) (c * raised_units b.bottom) (lifted_place c p) (lifted_place c q)
    unfolding leaves_of leaves one_for
    leaves_is =
        rw (
          eq_raised c pos p.x b.right h.x (edge_held box.right),
          eq_raised c pos p.y b.top h.y (edge_held box.top),
          eq_raised c pos q.y b.top g.y (edge_held box.top),
        )
        (nested (eqb (c * raised_units p.x) (c * raised_units b.right)) (eqb (c * raised_units p.y) (c * raised_units b.top)) (eqb (c * raised_units q.y) (c * raised_units b.top)))
      where
        nested : (u v w : Bool) → ◌≡◌ {A = ℕ} (pick (u && v && w) (λ _. 1) (λ _. 0)) (pick u (λ _. pick v (λ _. pick w (λ _. 1) (λ _. 0)) (λ _. 0)) (λ _. 0))
        nested true true true = refl
        nested true true false = refl
        nested true false w = refl
        nested false v w = refl
