-- The promises of the calls on points and the box, those of crate plane_calls: the number by rules in their order, and each lent number at exit.
pub use Rattle.plane_calls.specs.Plane.{Dist2, Circumcenter, Centroid, Edges, Centered, Corners, Inside, ExclusivelyInside, WhichEdge, Meets}
