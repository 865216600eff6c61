-- How many bytes points have.
use Rattle.std.specs.Prelude.{◌≡◌, refl, List, [], ◌∷◌, ◌++◌, ◌*◌, length}
use Rattle.std.proofs.Common.{arith, length-append}
use Rattle.octets.specs.Bytes.{each}
use Rattle.octets.specs.Orders.{spelt}
use Rattle.octets.specs.laws.Orders.{length_spelt}
use Rattle.wkb.specs.multipoint.MultiPoint.{FilePoint, start_bytes, file_point_bytes}

pub point_length : (p : FilePoint) → length (file_point_bytes p) ≡ 21
unfolding file_point_bytes
point_length p =
    let x = spelt p.little 8 p.x in
    let y = spelt p.little 8 p.y in
    omega (
      arith,
      length-append (start_bytes p.little 1) (x ++ y),
      length-append x y,
      length_spelt p.little 4 1,
      length_spelt p.little 8 p.x,
      length_spelt p.little 8 p.y,
    )

pub points_length : (ps : List FilePoint) → length (each file_point_bytes ps) ≡ 21 * length ps
points_length [] = refl
points_length (p ∷ ps) = omega (arith, length-append (file_point_bytes p) (each file_point_bytes ps), point_length p, points_length ps)
